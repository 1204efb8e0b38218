-- `val x : con = exp`.
use Rattle.std.specs.Prelude.{ℕ, List, drop, refl}
use Rattle.std.proofs.Common.{arith}
use Rattle.ur_base.specs.declared.refusal.Refusal.{Refusal}
use Rattle.ur_lex.specs.declared.token.Keyword.TheVariants as keyword
use Rattle.ur_lex.specs.declared.token.Symbol.TheVariants as symbol
use Rattle.ur_lex.specs.declared.token.TokenKind.TheVariants as token
use Rattle.ur_lex.specs.declared.token.Lexeme.{Lexeme}
use Rattle.ur_lex.specs.Spelling.{Text}
use Rattle.ur_syntax.specs.declared.con.Con.{Con}
use Rattle.ur_syntax.specs.declared.decl.Decl.{Decl}
use Rattle.ur_syntax.specs.declared.decl.DeclForm.TheVariants as form
use Rattle.ur_parse_rules.specs.Rules.{Read, Refused}
use Rattle.ur_parse_rules.specs.Places.{Moves, IsAt, IsName, OfKind, Passing, Unexpected, any, span_of}
use Rattle.ur_parse_rules.proofs.Tokens.{covers}
use Rattle.ur_parse_rules.proofs.Steps.{nothing, a_mark, a_name, an_one, mark_read, name_read, one_read, one_refused, no_mark, no_name, reads_by, refused_by}
use Rattle.ur_parse_rules.proofs.Choices.{chosen_mark_at}
use Rattle.ur_parse_rules.specs.ConParts.{con}
use Rattle.ur_parse_rules.specs.ExpParts.{exp}
use Rattle.ur_parse_rules.specs.DeclParts.{decl}
use Rattle.ur_parse_rules.specs.declared.parse_rules_place.ConPlace.TheVariants as places
use Rattle.ur_parse_rules.specs.Ends.{decl_ends}
use Rattle.ur_parse_rules.specs.Parts.{of_con, of_exp, of_decl, Ended}
use Rattle.ur_parse_rules.specs.Language.{language}
use Rattle.ur_parse_rules.proofs.Choice.{choice}
use Rattle.ur_parse_rules.proofs.AllDecided.{decided}
use Rattle.ur_parse.specs.Declares.{Declares}
use Rattle.ur_parse_con.proofs.Binders.{cannot_end}

module _ {n : ℕ} {tokens : List Lexeme} {at next : ℕ} (a : IsAt tokens at next (OfKind (token.Keyword keyword.Val))) where
  pub val_name : {r : Refusal} → Unexpected tokens next (Passing token.Lower any) r → Refused language n (of_decl decl) (drop at tokens) r
  val_name u = refused_by decided 6 n (omega arith) (chosen_mark_at (choice (of_decl decl)) a (λ w s us. refl)) (mark_read a (no_name u))

  module _ {colon : ℕ} {x : Text} (b : IsName tokens next colon token.Lower any x) where
    pub val_colon : {r : Refusal} → Unexpected tokens colon (OfKind (token.Symbol symbol.Colon)) r → Refused language n (of_decl decl) (drop at tokens) r
    val_colon u = refused_by decided 6 n (omega arith) (chosen_mark_at (choice (of_decl decl)) a (λ w s us. refl)) (mark_read a (name_read b (no_mark u)))

    module _ {begin : ℕ} (d : IsAt tokens colon begin (OfKind (token.Symbol symbol.Colon))) where
      pub val_con : {r : Refusal} → Refused language n (of_con (con places.Plain)) (drop begin tokens) r → Refused language n (of_decl decl) (drop at tokens) r
      val_con h = refused_by decided 6 n (omega arith) (chosen_mark_at (choice (of_decl decl)) a (λ w s us. refl)) (mark_read a (name_read b (mark_read d (one_refused h))))

      module _ (mid : ℕ) {c : Con} (f : Read language n (of_con (con places.Plain)) (drop begin tokens) (drop mid tokens) c) where
        pub val_equals : {r : Refusal} → Unexpected tokens mid (OfKind (token.Symbol symbol.Eq)) r → Refused language n (of_decl decl) (drop at tokens) r
        val_equals u = refused_by decided 6 n (omega arith) (chosen_mark_at (choice (of_decl decl)) a (λ w s us. refl)) (mark_read a (name_read b (mark_read d (one_read decided f (no_mark u)))))

        module _ {value : ℕ} (g : IsAt tokens mid value (OfKind (token.Symbol symbol.Eq))) where
          pub val_exp : {r : Refusal} → Refused language n (of_exp exp) (drop value tokens) r → Refused language n (of_decl decl) (drop at tokens) r
          val_exp h = refused_by decided 6 n (omega arith) (chosen_mark_at (choice (of_decl decl)) a (λ w s us. refl)) (mark_read a (name_read b (mark_read d (one_read decided f (mark_read g (one_refused h))))))

          pub val_read : {end : ℕ} {e : Ended} → Moves tokens at end → Read language n (of_exp exp) (drop value tokens) (drop end tokens) e →
              let t : Decl = record { span = span_of tokens at end; form = form.Val x c e.exp } in Declares n tokens at end t
          val_read {end = end} {e = e} m h = let fl = a_mark {n = n} a (a_name b (a_mark d (an_one f (a_mark g (an_one h nothing))))) in record {
            read = λ s. reads_by 6 n (omega arith) (record { v = (x, (c, (e, tt))); span = span_of tokens at end; fills = fl; is_span = covers tokens at end m fl.taken fl.split; allowed = refl; builds = refl }) s;
            unended = λ r says z. refused_by decided 6 n (omega arith) (chosen_mark_at (choice (of_decl decl)) a (λ w s us. refl))
                (mark_read a (name_read b (mark_read d (one_read decided f (mark_read g (one_read decided h (cannot_end decl_ends says z (λ p. p.stops))))))));
          }
