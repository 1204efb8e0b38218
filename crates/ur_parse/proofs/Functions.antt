-- Functions with `and` between.
use Rattle.std.specs.Prelude.{◌≡◌, ℕ, Bool, true, false, List, [], ◌∷◌, ◌++◌, drop, refl}
use Rattle.std.proofs.Common.{arith, append_assoc}
use Rattle.std.proofs.lemmas.List.{append-nil}
use Rattle.ur_base.specs.declared.refusal.Refusal.{Refusal}
use Rattle.ur_base.specs.Stopping.{Says}
use Rattle.ur_lex.specs.declared.token.Keyword.TheVariants as keyword
use Rattle.ur_lex.specs.declared.token.TokenKind.TheVariants as token
use Rattle.ur_lex.specs.declared.token.Lexeme.{Lexeme}
use Rattle.ur_syntax.specs.declared.decl.FunDef.{FunDef}
use Rattle.ur_syntax.specs.declared.decl.Decl.{Decl}
use Rattle.ur_syntax.specs.declared.decl.DeclForm.TheVariants as form
use Rattle.ur_parse_rules.specs.Rules.{Read, Refused, Stops, no_span}
use Rattle.ur_parse_rules.specs.Places.{Moves, IsAt, Other, OfKind, span_of, starts}
use Rattle.ur_parse_rules.proofs.Tokens.{covers}
use Rattle.ur_parse_rules.proofs.Steps.{nothing, a_mark, an_one, mark_read, one_read, one_refused, reads_by, refused_by}
use Rattle.ur_parse_rules.proofs.Choices.{chosen_mark_at, first_stops}
use Rattle.ur_parse_rules.specs.Classes.{member, keyword_class}
use Rattle.ur_parse_rules.specs.DeclParts.{decl, definition, more_definitions}
use Rattle.ur_parse_rules.specs.Ends.{decl_ends, exp_ends}
use Rattle.ur_parse_rules.specs.Parts.{of_decl}
use Rattle.ur_parse_rules.specs.Language.{language}
use Rattle.ur_parse_rules.proofs.Choice.{choice}
use Rattle.ur_parse_rules.proofs.AllDecided.{decided}
use Rattle.ur_parse_rules.proofs.Places.{missing, stops_cons}
use Rattle.ur_parse.specs.Declares.{Declares}
use Rattle.ur_parse_con.proofs.Binders.{cannot_end}
use Rattle.ur_parse.proofs.Ending.{stops_within, stops_at}
use Rattle.ur_parse.specs.Definitions.{DefinitionRead}

abbrev functions : List Lexeme → ℕ → ℕ → List FunDef → Decl
functions tokens at end fs = record { span = span_of tokens at end; form = form.Fun fs }

-- The definitions so far: if the last of them ends here, what stands behind goes on with them, else no declaration is read.
pub record FunRead (n : ℕ) (tokens : List Lexeme) (at end : ℕ) (fs : List FunDef) : Type 0 where
  pub found : (j : ℕ) (gs : List FunDef) → Stops (member exp_ends) (drop end tokens) → Read language n (of_decl more_definitions) (drop end tokens) (drop j tokens) gs → Moves tokens at j → Stops (member decl_ends) (drop j tokens) →
      Read language n (of_decl decl) (drop at tokens) (drop j tokens) (functions tokens at j (fs ++ gs))
  pub refused : (r : Refusal) → Stops (member exp_ends) (drop end tokens) → Refused language n (of_decl more_definitions) (drop end tokens) r → Refused language n (of_decl decl) (drop at tokens) r
  pub unended : (j : ℕ) (gs : List FunDef) (r : Refusal) → Stops (member exp_ends) (drop end tokens) → Read language n (of_decl more_definitions) (drop end tokens) (drop j tokens) gs → Says r 5 [] [] →
      starts (member decl_ends) (drop j tokens) ≡ true → Refused language n (of_decl decl) (drop at tokens) r
  pub goes_on : (r : Refusal) → Says r 5 [] [] → starts (member exp_ends) (drop end tokens) ≡ true → Refused language n (of_decl decl) (drop at tokens) r

module _ {n : ℕ} {tokens : List Lexeme} {at next : ℕ} (a : IsAt tokens at next (OfKind (token.Keyword keyword.Fun))) where
  pub fun_definition : {r : Refusal} → Refused language n (of_decl definition) (drop next tokens) r → Refused language n (of_decl decl) (drop at tokens) r
  fun_definition h = refused_by decided 7 n (omega arith) (chosen_mark_at (choice (of_decl decl)) a (λ w s us. refl)) (mark_read a (one_refused h))

  pub fun_first : (end : ℕ) {f : FunDef} → DefinitionRead n tokens next end f → FunRead n tokens at end (f ∷ [])
  fun_first end {f = f} d = record {
    found = λ j gs s h m t. let fl = a_mark {n = n} a (an_one (d.ends s) (an_one h nothing)) in
        reads_by 7 n (omega arith) (record { v = (f, (gs, tt)); span = span_of tokens at j; fills = fl; is_span = covers tokens at j m fl.taken fl.split; allowed = refl; builds = refl }) t;
    refused = λ r s h. refused_by decided 7 n (omega arith) (chosen_mark_at (choice (of_decl decl)) a (λ w s us. refl)) (mark_read a (one_read decided (d.ends s) (one_refused h)));
    unended = λ j gs r s h says e. refused_by decided 7 n (omega arith) (chosen_mark_at (choice (of_decl decl)) a (λ w s us. refl))
        (mark_read a (one_read decided (d.ends s) (one_read decided h (cannot_end decl_ends says e (λ p. p.stops)))));
    goes_on = λ r says e. fun_definition (d.goes_on r says e);
  }

module _ {n : ℕ} {tokens : List Lexeme} {at end : ℕ} {fs : List FunDef} (st : FunRead n tokens at end fs) where
  module _ {next : ℕ} (c : IsAt tokens end next (OfKind (token.Keyword keyword.And))) where
    pub fun_refused : {r : Refusal} → Refused language n (of_decl definition) (drop next tokens) r → Refused language n (of_decl decl) (drop at tokens) r
    fun_refused {r = r} h = st.refused r (stops_at (member exp_ends) c (λ w. refl)) (refused_by decided 1 n (omega arith) (chosen_mark_at (choice (of_decl more_definitions)) c (λ w s us. refl)) (mark_read c (one_refused h)))

    pub fun_more : (stop : ℕ) {f : FunDef} → DefinitionRead n tokens next stop f → FunRead n tokens at stop (fs ++ f ∷ [])
    fun_more stop {f = f} d = let word : Stops (member exp_ends) (drop end tokens) = stops_at (member exp_ends) c (λ w. refl) in
        let rest : (j : ℕ) (gs : List FunDef) → Stops (member exp_ends) (drop stop tokens) → Read language n (of_decl more_definitions) (drop stop tokens) (drop j tokens) gs → Read language n (of_decl more_definitions) (drop end tokens) (drop j tokens) (f ∷ gs) =
        (λ j gs s h. reads_by 1 n (omega arith) (record { v = (f, (gs, tt)); span = no_span; is_span = refl; allowed = refl; builds = refl; fills = a_mark c (an_one (d.ends s) (an_one h nothing)) }) h.stops) in record {
          found = λ j gs s h m t. rw (append_assoc fs (f ∷ []) gs) (st.found j (f ∷ gs) word (rest j gs s h) m t);
          refused = λ r s h. st.refused r word (refused_by decided 1 n (omega arith) (chosen_mark_at (choice (of_decl more_definitions)) c (λ w s us. refl)) (mark_read c (one_read decided (d.ends s) (one_refused h))));
          unended = λ j gs r s h says e. st.unended j (f ∷ gs) r word (rest j gs s h) says e;
          goes_on = λ r says e. fun_refused (d.goes_on r says e);
        }

  module _ (o : Other tokens end (OfKind (token.Keyword keyword.And))) where
    none_more : Stops (member exp_ends) (drop end tokens) → Read language n (of_decl more_definitions) (drop end tokens) (drop end tokens) []
    none_more s = reads_by 0 n (omega arith) (record { v = tt; span = no_span; is_span = refl; allowed = refl; builds = refl; fills = nothing }) (stops_cons (keyword_class keyword.And) exp_ends (drop end tokens) (missing refl o) s)

    fun_unended : {r : Refusal} → Says r 5 [] [] → starts (member decl_ends) (drop end tokens) ≡ true → (z : Bool) → starts (member exp_ends) (drop end tokens) ≡ z → Refused language n (of_decl decl) (drop at tokens) r
    fun_unended {r = r} says e true g = st.goes_on r says g
    fun_unended {r = r} says e false g = let s = first_stops (member exp_ends) (drop end tokens) g in st.unended end [] r s (none_more s) says e

    pub fun_done : Moves tokens at end → Declares n tokens at end (functions tokens at end fs)
    fun_done m = record {
      read = λ s. let z = stops_within exp_ends decl_ends refl (drop end tokens) s in rw append-nil at (st.found end [] z (none_more z) m s);
      unended = λ r says e. fun_unended says e (starts (member exp_ends) (drop end tokens)) refl;
    }
