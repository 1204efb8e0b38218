-- Datatypes with their constructors.
use Rattle.std.specs.Prelude.{◌≡◌, ℕ, Bool, true, false, if◌then◌else◌, List, [], ◌∷◌, ◌++◌, drop, Some, None, refl}
use Rattle.std.proofs.Common.{arith, append_assoc}
use Rattle.std.proofs.lemmas.List.{append-nil}
use Rattle.ur_base.specs.declared.refusal.Refusal.{Refusal}
use Rattle.ur_base.specs.Stopping.{Says}
use Rattle.ur_lex.specs.declared.token.Keyword.TheVariants as keyword
use Rattle.ur_lex.specs.declared.token.Symbol.TheVariants as symbol
use Rattle.ur_lex.specs.declared.token.TokenKind.TheVariants as token
use Rattle.ur_lex.specs.declared.token.Lexeme.{Lexeme}
use Rattle.ur_lex.specs.Spelling.{Text}
use Rattle.ur_syntax.specs.declared.con.Con.{Con}
use Rattle.ur_syntax.specs.declared.decl.Variant.{Variant}
use Rattle.ur_syntax.specs.declared.decl.Decl.{Decl}
use Rattle.ur_syntax.specs.declared.decl.DeclForm.TheVariants as form
use Rattle.ur_parse_rules.specs.Rules.{Read, Refused, Stops, no_span}
use Rattle.ur_parse_rules.specs.Places.{Moves, IsAt, IsName, Other, OfKind, Passing, Unexpected, any, span_of, starts}
use Rattle.ur_parse_rules.proofs.Tokens.{covers}
use Rattle.ur_parse_rules.proofs.Steps.{nothing, a_mark, a_name, an_one, mark_read, name_read, one_read, one_refused, no_mark, no_name, reads_by, refused_by}
use Rattle.ur_parse_rules.proofs.Choices.{chosen_mark_at, if_false, first_stops}
use Rattle.ur_parse_rules.specs.Classes.{member, keyword_class, symbol_class}
use Rattle.ur_parse_rules.specs.ConParts.{con}
use Rattle.ur_parse_rules.specs.DeclParts.{decl, variant, variant_con, more_variants}
use Rattle.ur_parse_rules.specs.declared.parse_rules_place.ConPlace.TheVariants as places
use Rattle.ur_parse_rules.specs.Ends.{decl_ends}
use Rattle.ur_parse_rules.specs.Parts.{of_con, of_decl}
use Rattle.ur_parse_rules.specs.Language.{language}
use Rattle.ur_parse_rules.proofs.Choice.{choice}
use Rattle.ur_parse_rules.proofs.AllDecided.{decided}
use Rattle.ur_parse_rules.proofs.Places.{missing, stops_cons}
use Rattle.ur_parse.specs.Declares.{Declares}
use Rattle.ur_parse.specs.Variants.{VariantRead, variant_more}
use Rattle.ur_parse_con.proofs.Binders.{cannot_end}
use Rattle.ur_parse.proofs.Ending.{stops_within, stops_at}

-- ---- one constructor

only_one : (b : Bool) → let z : ℕ = if b then 0 else 0 in z ≡ 0
only_one true = refl
only_one false = refl

single_variant : (ts : List Lexeme) → choice (of_decl variant) ts ≡ 0
single_variant [] = refl
single_variant (t ∷ ts) = only_one _

no_of : (ts : List Lexeme) → Stops (member (keyword_class keyword.Of ∷ [])) ts → choice (of_decl variant_con) ts ≡ 0
no_of [] s = refl
no_of (t ∷ ts) s = if_false 1 s

module _ {n : ℕ} {tokens : List Lexeme} {at : ℕ} where
  pub variant_nameless : {r : Refusal} → Unexpected tokens at (Passing token.Upper any) r → Refused language n (of_decl variant) (drop at tokens) r
  variant_nameless u = refused_by decided 0 n (omega arith) (single_variant (drop at tokens)) (no_name u)

  module _ {mid : ℕ} {x : Text} (a : IsName tokens at mid token.Upper any x) where
    pub variant_plain : Moves tokens at mid → Other tokens mid (OfKind (token.Keyword keyword.Of)) → let v : Variant = record { span = span_of tokens at mid; name = x; con = None } in VariantRead n tokens at mid v
    variant_plain m o = record {
      ends = λ s. let none : Read language n (of_decl variant_con) (drop mid tokens) (drop mid tokens) None = reads_by 0 n (omega arith) (record { v = tt; span = no_span; is_span = refl; allowed = refl; builds = refl; fills = nothing }) s in
          let fl = a_name {n = n} a (an_one none nothing) in
          reads_by 0 n (omega arith) (record { v = (x, (None, tt)); span = span_of tokens at mid; fills = fl; is_span = covers tokens at mid m fl.taken fl.split; allowed = refl; builds = refl }) s;
      goes_on = λ r says e. refused_by decided 0 n (omega arith) (single_variant (drop at tokens)) (name_read a (one_refused
          (refused_by decided 0 n (omega arith) (no_of (drop mid tokens) (missing refl o)) (cannot_end variant_more says e (λ p. p.stops)))));
    }

    module _ {begin : ℕ} (d : IsAt tokens mid begin (OfKind (token.Keyword keyword.Of))) where
      pub variant_refused : {r : Refusal} → Refused language n (of_con (con places.Plain)) (drop begin tokens) r → Refused language n (of_decl variant) (drop at tokens) r
      variant_refused h = refused_by decided 0 n (omega arith) (single_variant (drop at tokens)) (name_read a (one_refused (refused_by decided 1 n (omega arith) (chosen_mark_at (choice (of_decl variant_con)) d (λ w s us. refl)) (mark_read d (one_refused h)))))

      pub variant_of_read : {end : ℕ} {c : Con} → Moves tokens at end → Read language n (of_con (con places.Plain)) (drop begin tokens) (drop end tokens) c → let v : Variant = record { span = span_of tokens at end; name = x; con = Some c } in VariantRead n tokens at end v
      variant_of_read {end = end} {c = c} m h = record {
        ends = λ s. let given : Read language n (of_decl variant_con) (drop mid tokens) (drop end tokens) (Some c) =
            reads_by 1 n (omega arith) (record { v = (c, tt); span = no_span; is_span = refl; allowed = refl; builds = refl; fills = a_mark d (an_one h nothing) }) s in
            let fl = a_name {n = n} a (an_one given nothing) in
            reads_by 0 n (omega arith) (record { v = (x, (Some c, tt)); span = span_of tokens at end; fills = fl; is_span = covers tokens at end m fl.taken fl.split; allowed = refl; builds = refl }) s;
        goes_on = λ r says e. refused_by decided 0 n (omega arith) (single_variant (drop at tokens)) (name_read a (one_refused (refused_by decided 1 n (omega arith) (chosen_mark_at (choice (of_decl variant_con)) d (λ w s us. refl))
            (mark_read d (one_read decided h (cannot_end variant_more says e (λ p. p.stops)))))));
      }

-- ---- a datatype

abbrev datatype : List Lexeme → ℕ → ℕ → Text → List Variant → Decl
datatype tokens at end x vs = record { span = span_of tokens at end; form = form.Datatype x vs }

-- The constructors so far: if the last of them ends here, what stands behind goes on with them, else no declaration is read.
pub record DatatypeRead (n : ℕ) (tokens : List Lexeme) (at end : ℕ) (x : Text) (vs : List Variant) : Type 0 where
  pub found : (j : ℕ) (ws : List Variant) → Stops (member variant_more) (drop end tokens) → Read language n (of_decl more_variants) (drop end tokens) (drop j tokens) ws → Moves tokens at j → Stops (member decl_ends) (drop j tokens) →
      Read language n (of_decl decl) (drop at tokens) (drop j tokens) (datatype tokens at j x (vs ++ ws))
  pub refused : (r : Refusal) → Stops (member variant_more) (drop end tokens) → Refused language n (of_decl more_variants) (drop end tokens) r → Refused language n (of_decl decl) (drop at tokens) r
  pub unended : (j : ℕ) (ws : List Variant) (r : Refusal) → Stops (member variant_more) (drop end tokens) → Read language n (of_decl more_variants) (drop end tokens) (drop j tokens) ws → Says r 5 [] [] →
      starts (member decl_ends) (drop j tokens) ≡ true → Refused language n (of_decl decl) (drop at tokens) r
  pub goes_on : (r : Refusal) → Says r 5 [] [] → starts (member variant_more) (drop end tokens) ≡ true → Refused language n (of_decl decl) (drop at tokens) r

module _ {n : ℕ} {tokens : List Lexeme} {at next : ℕ} (a : IsAt tokens at next (OfKind (token.Keyword keyword.Datatype))) where
  pub datatype_name : {r : Refusal} → Unexpected tokens next (Passing token.Lower any) r → Refused language n (of_decl decl) (drop at tokens) r
  datatype_name u = refused_by decided 2 n (omega arith) (chosen_mark_at (choice (of_decl decl)) a (λ w s us. refl)) (mark_read a (no_name u))

  module _ {mid : ℕ} {x : Text} (b : IsName tokens next mid token.Lower any x) where
    pub datatype_mark : {r : Refusal} → Unexpected tokens mid (OfKind (token.Symbol symbol.Eq)) r → Refused language n (of_decl decl) (drop at tokens) r
    datatype_mark u = refused_by decided 2 n (omega arith) (chosen_mark_at (choice (of_decl decl)) a (λ w s us. refl)) (mark_read a (name_read b (no_mark u)))

    module _ {begin : ℕ} (d : IsAt tokens mid begin (OfKind (token.Symbol symbol.Eq))) where
      pub datatype_variant : {r : Refusal} → Refused language n (of_decl variant) (drop begin tokens) r → Refused language n (of_decl decl) (drop at tokens) r
      datatype_variant h = refused_by decided 2 n (omega arith) (chosen_mark_at (choice (of_decl decl)) a (λ w s us. refl)) (mark_read a (name_read b (mark_read d (one_refused h))))

      pub datatype_first : (end : ℕ) {v : Variant} → VariantRead n tokens begin end v → DatatypeRead n tokens at end x (v ∷ [])
      datatype_first end {v = v} f = record {
        found = λ j ws s h m t. let fl = a_mark {n = n} a (a_name b (a_mark d (an_one (f.ends s) (an_one h nothing)))) in
            reads_by 2 n (omega arith) (record { v = (x, (v, (ws, tt))); span = span_of tokens at j; fills = fl; is_span = covers tokens at j m fl.taken fl.split; allowed = refl; builds = refl }) t;
        refused = λ r s h. refused_by decided 2 n (omega arith) (chosen_mark_at (choice (of_decl decl)) a (λ w s us. refl)) (mark_read a (name_read b (mark_read d (one_read decided (f.ends s) (one_refused h)))));
        unended = λ j ws r s h says e. refused_by decided 2 n (omega arith) (chosen_mark_at (choice (of_decl decl)) a (λ w s us. refl))
            (mark_read a (name_read b (mark_read d (one_read decided (f.ends s) (one_read decided h (cannot_end decl_ends says e (λ p. p.stops)))))));
        goes_on = λ r says e. datatype_variant (f.goes_on r says e);
      }

module _ {n : ℕ} {tokens : List Lexeme} {at end : ℕ} {x : Text} {vs : List Variant} (st : DatatypeRead n tokens at end x vs) where
  module _ {next : ℕ} (c : IsAt tokens end next (OfKind (token.Symbol symbol.Bar))) where
    pub datatype_refused : {r : Refusal} → Refused language n (of_decl variant) (drop next tokens) r → Refused language n (of_decl decl) (drop at tokens) r
    datatype_refused {r = r} h = st.refused r (stops_at (member variant_more) c (λ w. refl)) (refused_by decided 1 n (omega arith) (chosen_mark_at (choice (of_decl more_variants)) c (λ w s us. refl)) (mark_read c (one_refused h)))

    pub datatype_more : (stop : ℕ) {v : Variant} → VariantRead n tokens next stop v → DatatypeRead n tokens at stop x (vs ++ v ∷ [])
    datatype_more stop {v = v} f = let bar : Stops (member variant_more) (drop end tokens) = stops_at (member variant_more) c (λ w. refl) in
        let rest : (j : ℕ) (ws : List Variant) → Stops (member variant_more) (drop stop tokens) → Read language n (of_decl more_variants) (drop stop tokens) (drop j tokens) ws → Read language n (of_decl more_variants) (drop end tokens) (drop j tokens) (v ∷ ws) =
        (λ j ws s h. reads_by 1 n (omega arith) (record { v = (v, (ws, tt)); span = no_span; is_span = refl; allowed = refl; builds = refl; fills = a_mark c (an_one (f.ends s) (an_one h nothing)) }) h.stops) in record {
          found = λ j ws s h m t. rw (append_assoc vs (v ∷ []) ws) (st.found j (v ∷ ws) bar (rest j ws s h) m t);
          refused = λ r s h. st.refused r bar (refused_by decided 1 n (omega arith) (chosen_mark_at (choice (of_decl more_variants)) c (λ w s us. refl)) (mark_read c (one_read decided (f.ends s) (one_refused h))));
          unended = λ j ws r s h says e. st.unended j (v ∷ ws) r bar (rest j ws s h) says e;
          goes_on = λ r says e. datatype_refused (f.goes_on r says e);
        }

  module _ (o : Other tokens end (OfKind (token.Symbol symbol.Bar))) where
    none_more : Stops (member variant_more) (drop end tokens) → Read language n (of_decl more_variants) (drop end tokens) (drop end tokens) []
    none_more s = reads_by 0 n (omega arith) (record { v = tt; span = no_span; is_span = refl; allowed = refl; builds = refl; fills = nothing }) (stops_cons (symbol_class symbol.Bar) variant_more (drop end tokens) (missing refl o) s)

    datatype_unended : {r : Refusal} → Says r 5 [] [] → starts (member decl_ends) (drop end tokens) ≡ true → (z : Bool) → starts (member variant_more) (drop end tokens) ≡ z → Refused language n (of_decl decl) (drop at tokens) r
    datatype_unended {r = r} says e true g = st.goes_on r says g
    datatype_unended {r = r} says e false g = let s = first_stops (member variant_more) (drop end tokens) g in st.unended end [] r s (none_more s) says e

    pub datatype_done : Moves tokens at end → Declares n tokens at end (datatype tokens at end x vs)
    datatype_done m = record {
      read = λ s. let z = stops_within variant_more decl_ends refl (drop end tokens) s in rw append-nil at (st.found end [] z (none_more z) m s);
      unended = λ r says e. datatype_unended says e (starts (member variant_more) (drop end tokens)) refl;
    }
