-- Tables with their keys.
use Rattle.std.specs.Prelude.{◌≡◌, ℕ, Bool, true, false, List, [], drop, refl}
use Rattle.std.proofs.Common.{arith}
use Rattle.ur_base.specs.declared.refusal.Refusal.{Refusal}
use Rattle.ur_base.specs.Stopping.{Says}
use Rattle.ur_lex.specs.declared.token.Keyword.TheVariants as keyword
use Rattle.ur_lex.specs.declared.token.Symbol.TheVariants as symbol
use Rattle.ur_lex.specs.declared.token.TokenKind.TheVariants as token
use Rattle.ur_lex.specs.declared.token.Lexeme.{Lexeme}
use Rattle.ur_lex.specs.Spelling.{Text}
use Rattle.ur_syntax.specs.declared.con.Con.{Con}
use Rattle.ur_syntax.specs.declared.decl.Decl.{Decl}
use Rattle.ur_syntax.specs.declared.decl.DeclForm.TheVariants as form
use Rattle.ur_parse_rules.specs.Rules.{Read, Refused}
use Rattle.ur_parse_rules.specs.Places.{Moves, IsAt, IsName, OfKind, Passing, Unexpected, any, span_of, starts}
use Rattle.ur_parse_rules.proofs.Tokens.{covers}
use Rattle.ur_parse_rules.proofs.Steps.{nothing, a_mark, a_name, an_one, mark_read, name_read, one_read, one_refused, no_mark, no_name, reads_by, refused_by}
use Rattle.ur_parse_rules.proofs.Choices.{chosen_mark_at, first_stops}
use Rattle.ur_parse_rules.specs.Classes.{member}
use Rattle.ur_parse_rules.specs.ConParts.{con}
use Rattle.ur_parse_rules.specs.DeclParts.{decl, keys}
use Rattle.ur_parse_rules.specs.declared.parse_rules_place.ConPlace.TheVariants as places
use Rattle.ur_parse_rules.specs.Ends.{decl_ends, decl_last}
use Rattle.ur_parse_rules.specs.Parts.{of_con, of_decl, Keys}
use Rattle.ur_parse_rules.specs.Language.{language}
use Rattle.ur_parse_rules.proofs.Choice.{choice}
use Rattle.ur_parse_rules.proofs.AllDecided.{decided}
use Rattle.ur_parse.specs.Declares.{Declares}
use Rattle.ur_parse.specs.Tables.{KeysRead}
use Rattle.ur_parse_con.proofs.Binders.{cannot_end}
use Rattle.ur_parse.proofs.Ending.{stops_within}

module _ {n : ℕ} {tokens : List Lexeme} {at next : ℕ} (a : IsAt tokens at next (OfKind (token.Keyword keyword.Table))) where
  pub table_name : {r : Refusal} → Unexpected tokens next (Passing token.Lower any) r → Refused language n (of_decl decl) (drop at tokens) r
  table_name u = refused_by decided 3 n (omega arith) (chosen_mark_at (choice (of_decl decl)) a (λ w s us. refl)) (mark_read a (no_name u))

  module _ {colon : ℕ} {x : Text} (b : IsName tokens next colon token.Lower any x) where
    pub table_mark : {r : Refusal} → Unexpected tokens colon (OfKind (token.Symbol symbol.Colon)) r → Refused language n (of_decl decl) (drop at tokens) r
    table_mark u = refused_by decided 3 n (omega arith) (chosen_mark_at (choice (of_decl decl)) a (λ w s us. refl)) (mark_read a (name_read b (no_mark u)))

    module _ {begin : ℕ} (d : IsAt tokens colon begin (OfKind (token.Symbol symbol.Colon))) where
      pub table_con : {r : Refusal} → Refused language n (of_con (con places.BeforeKeys)) (drop begin tokens) r → Refused language n (of_decl decl) (drop at tokens) r
      table_con h = refused_by decided 3 n (omega arith) (chosen_mark_at (choice (of_decl decl)) a (λ w s us. refl)) (mark_read a (name_read b (mark_read d (one_refused h))))

      module _ (mid : ℕ) {c : Con} (f : Read language n (of_con (con places.BeforeKeys)) (drop begin tokens) (drop mid tokens) c) where
        pub table_keys : {r : Refusal} → Refused language n (of_decl keys) (drop mid tokens) r → Refused language n (of_decl decl) (drop at tokens) r
        table_keys h = refused_by decided 3 n (omega arith) (chosen_mark_at (choice (of_decl decl)) a (λ w s us. refl)) (mark_read a (name_read b (mark_read d (one_read decided f (one_refused h)))))

        table_unended : (end : ℕ) {k : Keys} {r : Refusal} → KeysRead n tokens mid end k → Says r 5 [] [] → starts (member decl_ends) (drop end tokens) ≡ true → (z : Bool) → starts (member (decl_last keys)) (drop end tokens) ≡ z → Refused language n (of_decl decl) (drop at tokens) r
        table_unended end {r = r} ks says e true g = table_keys (ks.goes_on r says g)
        table_unended end ks says e false g = refused_by decided 3 n (omega arith) (chosen_mark_at (choice (of_decl decl)) a (λ w s us. refl)) (mark_read a (name_read b (mark_read d (one_read decided f
            (one_read decided (ks.ends (first_stops (member (decl_last keys)) (drop end tokens) g)) (cannot_end decl_ends says e (λ p. p.stops)))))))

        pub table_read : {end : ℕ} {k : Keys} → Moves tokens at end → KeysRead n tokens mid end k → let t : Decl = record { span = span_of tokens at end; form = form.Table x c k.primary k.constraints } in Declares n tokens at end t
        table_read {end = end} {k = k} m ks = record {
          read = λ s. let fl = a_mark {n = n} a (a_name b (a_mark d (an_one f (an_one (ks.ends (stops_within (decl_last keys) decl_ends refl (drop end tokens) s)) nothing)))) in
              reads_by 3 n (omega arith) (record { v = (x, (c, (k, tt))); span = span_of tokens at end; fills = fl; is_span = covers tokens at end m fl.taken fl.split; allowed = refl; builds = refl }) s;
          unended = λ r says e. table_unended end ks says e (starts (member (decl_last keys)) (drop end tokens)) refl;
        }
