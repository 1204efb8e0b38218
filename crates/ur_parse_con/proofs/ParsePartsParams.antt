-- Parameters with their types.
use Rattle.std.specs.Prelude.{◌≡◌, ℕ, Bool, true, false, if◌then◌else◌, List, [], ◌∷◌, drop, refl}
use Rattle.std.proofs.Common.{◌∙◌, arith}
use Rattle.ur_base.specs.declared.refusal.Refusal.{Refusal}
use Rattle.ur_lex.specs.declared.token.Symbol.TheVariants as symbol
use Rattle.ur_lex.specs.declared.token.TokenKind.TheVariants as token
use Rattle.ur_lex.specs.declared.token.Lexeme.{Lexeme}
use Rattle.ur_syntax.specs.declared.con.Con.{Con}
use Rattle.ur_syntax.specs.declared.exp.Binder.{Binder}
use Rattle.ur_syntax.specs.declared.exp.Param.TheVariants as params
use Rattle.ur_parse_rules.specs.Rules.{Read, Refused, Stops, no_span, syntax}
use Rattle.ur_parse_rules.specs.Places.{IsAt, Other, OfKind, Unexpected}
use Rattle.ur_parse_rules.proofs.Steps.{nothing, a_mark, an_one, mark_read, one_read, one_refused, no_mark, not_mark, reads_by, refused_by, none_of}
use Rattle.ur_parse_rules.proofs.Choices.{chosen_mark_at, if_false}
use Rattle.ur_parse_rules.specs.Classes.{member, symbol_class}
use Rattle.ur_parse_rules.specs.declared.parse_rules_place.ConPlace.TheVariants as places
use Rattle.ur_parse_rules.specs.ConParts.{con}
use Rattle.ur_parse_rules.specs.ExpParts.{binder, param, param_rest}
use Rattle.ur_parse_rules.specs.Parts.{of_con, of_exp}
use Rattle.ur_parse_rules.specs.Language.{language}
use Rattle.ur_parse_rules.proofs.Choice.{choice}
use Rattle.ur_parse_rules.proofs.AllDecided.{decided}
use Rattle.ur_parse_rules.proofs.Places.{ends_empty, missing}

second_one : (b : Bool) → let z : ℕ = if b then 1 else 1 in z ≡ 1
second_one true = refl
second_one false = refl

valued : (ts : List Lexeme) → Stops (member (symbol_class symbol.RParen ∷ [])) ts → choice (of_exp param_rest) ts ≡ 1
valued [] s = refl
valued (t ∷ ts) s = if_false 0 s ∙ second_one _

module _ {n : ℕ} (tokens : List Lexeme) (here : ℕ) where
  pub no_param : {r : Refusal} → Unexpected tokens here (OfKind (token.Symbol symbol.LParen)) r → Refused language n (of_exp param) (drop here tokens) r
  no_param u = syntax u.says (none_of (not_mark u.other, tt))

  module _ {begin : ℕ} (a : IsAt tokens here begin (OfKind (token.Symbol symbol.LParen))) where
    pub unit_read : {end : ℕ} → IsAt tokens begin end (OfKind (token.Symbol symbol.RParen)) → Read language n (of_exp param) (drop here tokens) (drop end tokens) params.Unit
    unit_read {end = end} b = let t : Read language n (of_exp param_rest) (drop begin tokens) (drop end tokens) params.Unit = reads_by 0 n (omega arith)
        (record { v = tt; span = no_span; is_span = refl; allowed = refl; builds = refl; fills = a_mark b nothing }) (ends_empty _) in
        reads_by 0 n (omega arith) (record { v = (params.Unit, tt); span = no_span; is_span = refl; allowed = refl; builds = refl; fills = a_mark a (an_one t nothing) }) (ends_empty _)

    module _ (o : Other tokens begin (OfKind (token.Symbol symbol.RParen))) where
      pub binder_refused : {r : Refusal} → Refused language n (of_exp binder) (drop begin tokens) r → Refused language n (of_exp param) (drop here tokens) r
      binder_refused h = refused_by decided 0 n (omega arith) (chosen_mark_at (choice (of_exp param)) a (λ w s us. refl)) (mark_read a (one_refused (refused_by decided 1 n (omega arith) (valued (drop begin tokens) (missing refl o)) (one_refused h))))

      module _ {colon : ℕ} {b : Binder} (f : Read language n (of_exp binder) (drop begin tokens) (drop colon tokens) b) where
        pub colon_refused : {r : Refusal} → Unexpected tokens colon (OfKind (token.Symbol symbol.Colon)) r → Refused language n (of_exp param) (drop here tokens) r
        colon_refused u = refused_by decided 0 n (omega arith) (chosen_mark_at (choice (of_exp param)) a (λ w s us. refl)) (mark_read a (one_refused (refused_by decided 1 n (omega arith) (valued (drop begin tokens) (missing refl o)) (one_read decided f (no_mark u)))))

        module _ {from : ℕ} (d : IsAt tokens colon from (OfKind (token.Symbol symbol.Colon))) where
          pub con_refused : {r : Refusal} → Refused language n (of_con (con places.Plain)) (drop from tokens) r → Refused language n (of_exp param) (drop here tokens) r
          con_refused h = refused_by decided 0 n (omega arith) (chosen_mark_at (choice (of_exp param)) a (λ w s us. refl))
              (mark_read a (one_refused (refused_by decided 1 n (omega arith) (valued (drop begin tokens) (missing refl o)) (one_read decided f (mark_read d (one_refused h))))))

          module _ (stop : ℕ) {c : Con} (g : Read language n (of_con (con places.Plain)) (drop from tokens) (drop stop tokens) c) where
            pub close_refused : {r : Refusal} → Unexpected tokens stop (OfKind (token.Symbol symbol.RParen)) r → Refused language n (of_exp param) (drop here tokens) r
            close_refused u = refused_by decided 0 n (omega arith) (chosen_mark_at (choice (of_exp param)) a (λ w s us. refl))
                (mark_read a (one_refused (refused_by decided 1 n (omega arith) (valued (drop begin tokens) (missing refl o)) (one_read decided f (mark_read d (one_read decided g (no_mark u)))))))

            pub typed_read : {end : ℕ} → IsAt tokens stop end (OfKind (token.Symbol symbol.RParen)) → Read language n (of_exp param) (drop here tokens) (drop end tokens) (params.Value b c)
            typed_read {end = end} e = let t : Read language n (of_exp param_rest) (drop begin tokens) (drop end tokens) (params.Value b c) = reads_by 1 n (omega arith)
                (record { v = (b, (c, tt)); span = no_span; is_span = refl; allowed = refl; builds = refl; fills = an_one f (a_mark d (an_one g (a_mark e nothing))) }) (ends_empty _) in
                reads_by 0 n (omega arith) (record { v = (params.Value b c, tt); span = no_span; is_span = refl; allowed = refl; builds = refl; fills = a_mark a (an_one t nothing) }) (ends_empty _)
