-- Declarations of constructors, types, cookies and sequences.
use Rattle.std.specs.Prelude.{◌≡◌, ◌+◌, ℕ, Bool, true, false, List, [], ◌∷◌, drop, refl}
use Rattle.std.proofs.Common.{sym, ◌∙◌, arith}
use Rattle.ur_base.specs.declared.refusal.Refusal.{Refusal}
use Rattle.ur_base.specs.Stopping.{Says}
use Rattle.ur_lex.specs.declared.token.Keyword.TheVariants as keyword
use Rattle.ur_lex.specs.declared.token.Symbol.TheVariants as symbol
use Rattle.ur_lex.specs.declared.token.TokenKind.TheVariants as token
use Rattle.ur_lex.specs.declared.token.Lexeme.{Lexeme}
use Rattle.ur_lex.specs.Spelling.{Text}
use Rattle.ur_syntax.specs.declared.kind.Kind.{Kind}
use Rattle.ur_syntax.specs.declared.con.Con.{Con}
use Rattle.ur_syntax.specs.declared.decl.Decl.{Decl}
use Rattle.ur_syntax.specs.declared.decl.DeclForm.TheVariants as form
use Rattle.ur_parse_rules.specs.Rules.{Stops, Read, Refused}
use Rattle.ur_parse_rules.specs.Places.{Moves, IsAt, IsName, OfKind, Passing, Unexpected, any, span_of, starts}
use Rattle.ur_parse_rules.proofs.Tokens.{covers}
use Rattle.ur_parse_rules.proofs.Steps.{nothing, a_mark, a_name, an_one, mark_read, name_read, one_read, one_refused, no_mark, no_name, reads_by, refused_by}
use Rattle.ur_parse_rules.proofs.Choices.{chosen_mark_at, stops_first}
use Rattle.ur_parse_rules.specs.Classes.{member}
use Rattle.ur_parse_rules.specs.ConParts.{con, kind}
use Rattle.ur_parse_rules.specs.DeclParts.{decl}
use Rattle.ur_parse_rules.specs.declared.parse_rules_place.ConPlace.TheVariants as places
use Rattle.ur_parse_rules.specs.Ends.{decl_ends}
use Rattle.ur_parse_rules.specs.Parts.{of_con, of_decl}
use Rattle.ur_parse_rules.specs.Language.{language}
use Rattle.ur_parse_rules.proofs.Choice.{choice}
use Rattle.ur_parse_rules.proofs.AllDecided.{decided}
use Rattle.ur_parse_rules.proofs.Tests.{false_true}
use Rattle.ur_parse_rules.proofs.Places.{may_not_end}
use Rattle.ur_parse.specs.Declares.{Declares}

-- what is refused where a declaration of this word begins
abbrev Refuses : ℕ → List Lexeme → ℕ → Refusal → Type 0
Refuses n tokens at r = Refused language n (of_decl decl) (drop at tokens) r

goes : (ts : List Lexeme) → starts (member decl_ends) ts ≡ true → Stops (member decl_ends) ts → ⊥
goes ts e s = false_true (sym (stops_first (member decl_ends) ts s) ∙ e)

-- ---- `type x = con`

module _ {n : ℕ} {tokens : List Lexeme} {at next : ℕ} (a : IsAt tokens at next (OfKind (token.Keyword keyword.Type))) where
  pub type_name : {r : Refusal} → Unexpected tokens next (Passing token.Lower any) r → Refuses n tokens at r
  type_name u = refused_by decided 1 n (omega arith) (chosen_mark_at (choice (of_decl decl)) a (λ w s us. refl)) (mark_read a (no_name u))

  module _ {mid : ℕ} {x : Text} (b : IsName tokens next mid token.Lower any x) where
    pub type_mark : {r : Refusal} → Unexpected tokens mid (OfKind (token.Symbol symbol.Eq)) r → Refuses n tokens at r
    type_mark u = refused_by decided 1 n (omega arith) (chosen_mark_at (choice (of_decl decl)) a (λ w s us. refl)) (mark_read a (name_read b (no_mark u)))

    module _ {begin : ℕ} (d : IsAt tokens mid begin (OfKind (token.Symbol symbol.Eq))) where
      pub type_con : {r : Refusal} → Refused language n (of_con (con places.Plain)) (drop begin tokens) r → Refuses n tokens at r
      type_con h = refused_by decided 1 n (omega arith) (chosen_mark_at (choice (of_decl decl)) a (λ w s us. refl)) (mark_read a (name_read b (mark_read d (one_refused h))))

      pub type_read : {end : ℕ} {c : Con} → Moves tokens at end → Read language n (of_con (con places.Plain)) (drop begin tokens) (drop end tokens) c →
          let t : Decl = record { span = span_of tokens at end; form = form.Type x c } in Declares n tokens at end t
      type_read {end = end} {c = c} m h = let fl = a_mark {n = n} a (a_name b (a_mark d (an_one h nothing))) in record {
        read = λ s. reads_by 1 n (omega arith) (record { v = (x, (c, tt)); span = span_of tokens at end; fills = fl; is_span = covers tokens at end m fl.taken fl.split; allowed = refl; builds = refl }) s;
        unended = λ r says e. refused_by decided 1 n (omega arith) (chosen_mark_at (choice (of_decl decl)) a (λ w s us. refl)) (mark_read a (name_read b (mark_read d (one_read decided h (may_not_end says (λ p. goes (drop end tokens) e p.stops))))));
      }

-- ---- `cookie x : con`

module _ {n : ℕ} {tokens : List Lexeme} {at next : ℕ} (a : IsAt tokens at next (OfKind (token.Keyword keyword.Cookie))) where
  pub cookie_name : {r : Refusal} → Unexpected tokens next (Passing token.Lower any) r → Refuses n tokens at r
  cookie_name u = refused_by decided 5 n (omega arith) (chosen_mark_at (choice (of_decl decl)) a (λ w s us. refl)) (mark_read a (no_name u))

  module _ {mid : ℕ} {x : Text} (b : IsName tokens next mid token.Lower any x) where
    pub cookie_mark : {r : Refusal} → Unexpected tokens mid (OfKind (token.Symbol symbol.Colon)) r → Refuses n tokens at r
    cookie_mark u = refused_by decided 5 n (omega arith) (chosen_mark_at (choice (of_decl decl)) a (λ w s us. refl)) (mark_read a (name_read b (no_mark u)))

    module _ {begin : ℕ} (d : IsAt tokens mid begin (OfKind (token.Symbol symbol.Colon))) where
      pub cookie_con : {r : Refusal} → Refused language n (of_con (con places.Plain)) (drop begin tokens) r → Refuses n tokens at r
      cookie_con h = refused_by decided 5 n (omega arith) (chosen_mark_at (choice (of_decl decl)) a (λ w s us. refl)) (mark_read a (name_read b (mark_read d (one_refused h))))

      pub cookie_read : {end : ℕ} {c : Con} → Moves tokens at end → Read language n (of_con (con places.Plain)) (drop begin tokens) (drop end tokens) c →
          let t : Decl = record { span = span_of tokens at end; form = form.Cookie x c } in Declares n tokens at end t
      cookie_read {end = end} {c = c} m h = let fl = a_mark {n = n} a (a_name b (a_mark d (an_one h nothing))) in record {
        read = λ s. reads_by 5 n (omega arith) (record { v = (x, (c, tt)); span = span_of tokens at end; fills = fl; is_span = covers tokens at end m fl.taken fl.split; allowed = refl; builds = refl }) s;
        unended = λ r says e. refused_by decided 5 n (omega arith) (chosen_mark_at (choice (of_decl decl)) a (λ w s us. refl)) (mark_read a (name_read b (mark_read d (one_read decided h (may_not_end says (λ p. goes (drop end tokens) e p.stops))))));
      }

-- ---- `sequence x`

module _ {n : ℕ} {tokens : List Lexeme} {at next : ℕ} (a : IsAt tokens at next (OfKind (token.Keyword keyword.Sequence))) where
  pub sequence_name : {r : Refusal} → Unexpected tokens next (Passing token.Lower any) r → Refuses n tokens at r
  sequence_name u = refused_by decided 4 n (omega arith) (chosen_mark_at (choice (of_decl decl)) a (λ w s us. refl)) (mark_read a (no_name u))

  pub sequence_read : {end : ℕ} {x : Text} → Moves tokens at end → IsName tokens next end token.Lower any x → let t : Decl = record { span = span_of tokens at end; form = form.Sequence x } in Declares n tokens at end t
  sequence_read {end = end} {x = x} m b = let fl = a_mark {n = n} a (a_name b nothing) in record {
    read = λ s. reads_by 4 n (omega arith) (record { v = (x, tt); span = span_of tokens at end; fills = fl; is_span = covers tokens at end m fl.taken fl.split; allowed = refl; builds = refl }) s;
    unended = λ r says e. refused_by decided 4 n (omega arith) (chosen_mark_at (choice (of_decl decl)) a (λ w s us. refl)) (mark_read a (name_read b (may_not_end says (λ p. goes (drop end tokens) e p.stops))));
  }

-- ---- `con x :: kind = con`

module _ {n : ℕ} {tokens : List Lexeme} {at next : ℕ} (a : IsAt tokens at next (OfKind (token.Keyword keyword.Con))) where
  pub con_name : {r : Refusal} → Unexpected tokens next (Passing token.Lower any) r → Refuses n tokens at r
  con_name u = refused_by decided 0 n (omega arith) (chosen_mark_at (choice (of_decl decl)) a (λ w s us. refl)) (mark_read a (no_name u))

  module _ {colons : ℕ} {x : Text} (b : IsName tokens next colons token.Lower any x) where
    pub con_colons : {r : Refusal} → Unexpected tokens colons (OfKind (token.Symbol symbol.DoubleColon)) r → Refuses n tokens at r
    con_colons u = refused_by decided 0 n (omega arith) (chosen_mark_at (choice (of_decl decl)) a (λ w s us. refl)) (mark_read a (name_read b (no_mark u)))

    module _ {of : ℕ} (d : IsAt tokens colons of (OfKind (token.Symbol symbol.DoubleColon))) where
      pub con_kind : {r : Refusal} → Refused language n (of_con kind) (drop of tokens) r → Refuses n tokens at r
      con_kind h = refused_by decided 0 n (omega arith) (chosen_mark_at (choice (of_decl decl)) a (λ w s us. refl)) (mark_read a (name_read b (mark_read d (one_refused h))))

      module _ (mid : ℕ) {k : Kind} (f : Read language n (of_con kind) (drop of tokens) (drop mid tokens) k) where
        pub con_equals : {r : Refusal} → Unexpected tokens mid (OfKind (token.Symbol symbol.Eq)) r → Refuses n tokens at r
        con_equals u = refused_by decided 0 n (omega arith) (chosen_mark_at (choice (of_decl decl)) a (λ w s us. refl)) (mark_read a (name_read b (mark_read d (one_read decided f (no_mark u)))))

        module _ {begin : ℕ} (g : IsAt tokens mid begin (OfKind (token.Symbol symbol.Eq))) where
          pub con_value : {r : Refusal} → Refused language n (of_con (con places.Plain)) (drop begin tokens) r → Refuses n tokens at r
          con_value h = refused_by decided 0 n (omega arith) (chosen_mark_at (choice (of_decl decl)) a (λ w s us. refl)) (mark_read a (name_read b (mark_read d (one_read decided f (mark_read g (one_refused h))))))

          pub con_read : {end : ℕ} {c : Con} → Moves tokens at end → Read language n (of_con (con places.Plain)) (drop begin tokens) (drop end tokens) c →
              let t : Decl = record { span = span_of tokens at end; form = form.Con x k c } in Declares n tokens at end t
          con_read {end = end} {c = c} m h = let fl = a_mark {n = n} a (a_name b (a_mark d (an_one f (a_mark g (an_one h nothing))))) in record {
            read = λ s. reads_by 0 n (omega arith) (record { v = (x, (k, (c, tt))); span = span_of tokens at end; fills = fl; is_span = covers tokens at end m fl.taken fl.split; allowed = refl; builds = refl }) s;
            unended = λ r says e. refused_by decided 0 n (omega arith) (chosen_mark_at (choice (of_decl decl)) a (λ w s us. refl))
                (mark_read a (name_read b (mark_read d (one_read decided f (mark_read g (one_read decided h (may_not_end says (λ p. goes (drop end tokens) e p.stops))))))));
          }
