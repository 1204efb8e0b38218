-- Definitions.
use Rattle.std.specs.Prelude.{◌≡◌, ℕ, Bool, true, false, if◌then◌else◌, List, [], ◌∷◌, drop, refl}
use Rattle.std.proofs.Common.{arith}
use Rattle.ur_base.specs.declared.refusal.Refusal.{Refusal}
use Rattle.ur_lex.specs.declared.token.Symbol.TheVariants as symbol
use Rattle.ur_lex.specs.declared.token.TokenKind.TheVariants as token
use Rattle.ur_lex.specs.declared.token.Lexeme.{Lexeme}
use Rattle.ur_lex.specs.Spelling.{Text}
use Rattle.ur_syntax.specs.declared.con.Con.{Con}
use Rattle.ur_syntax.specs.declared.con.ConParam.{ConParam}
use Rattle.ur_syntax.specs.declared.exp.Param.{Param}
use Rattle.ur_syntax.specs.declared.decl.FunDef.{FunDef}
use Rattle.ur_parse_rules.specs.Rules.{Read, Refused}
use Rattle.ur_parse_rules.specs.Places.{Moves, IsAt, IsName, OfKind, Passing, Unexpected, any, span_of}
use Rattle.ur_parse_rules.proofs.Tokens.{covers}
use Rattle.ur_parse_rules.proofs.Steps.{nothing, a_mark, a_name, an_one, mark_read, name_read, one_read, one_refused, no_mark, no_name, reads_by, refused_by}
use Rattle.ur_parse_rules.specs.ConParts.{con}
use Rattle.ur_parse_rules.specs.ExpParts.{exp}
use Rattle.ur_parse_rules.specs.DeclParts.{definition, con_params, params}
use Rattle.ur_parse_rules.specs.declared.parse_rules_place.ConPlace.TheVariants as places
use Rattle.ur_parse_rules.specs.Ends.{exp_ends}
use Rattle.ur_parse_rules.specs.Parts.{of_con, of_exp, of_decl, Ended}
use Rattle.ur_parse_rules.specs.Language.{language}
use Rattle.ur_parse_rules.proofs.Choice.{choice}
use Rattle.ur_parse_rules.proofs.AllDecided.{decided}
use Rattle.ur_parse_con.proofs.Binders.{cannot_end}
use Rattle.ur_parse.specs.Definitions.{DefinitionRead}

only_one : (b : Bool) → let z : ℕ = if b then 0 else 0 in z ≡ 0
only_one true = refl
only_one false = refl

single_definition : (ts : List Lexeme) → choice (of_decl definition) ts ≡ 0
single_definition [] = refl
single_definition (t ∷ ts) = only_one _

module _ {n : ℕ} {tokens : List Lexeme} {at : ℕ} where
  pub definition_nameless : {r : Refusal} → Unexpected tokens at (Passing token.Lower any) r → Refused language n (of_decl definition) (drop at tokens) r
  definition_nameless u = refused_by decided 0 n (omega arith) (single_definition (drop at tokens)) (no_name u)

  module _ {begin : ℕ} {x : Text} (a : IsName tokens at begin token.Lower any x) where
    pub definition_con_params : {r : Refusal} → Refused language n (of_decl con_params) (drop begin tokens) r → Refused language n (of_decl definition) (drop at tokens) r
    definition_con_params h = refused_by decided 0 n (omega arith) (single_definition (drop at tokens)) (name_read a (one_refused h))

    module _ (first : ℕ) {qs : List ConParam} (b : Read language n (of_decl con_params) (drop begin tokens) (drop first tokens) qs) where
      pub definition_params : {r : Refusal} → Refused language n (of_decl params) (drop first tokens) r → Refused language n (of_decl definition) (drop at tokens) r
      definition_params h = refused_by decided 0 n (omega arith) (single_definition (drop at tokens)) (name_read a (one_read decided b (one_refused h)))

      module _ (colon : ℕ) {ps : List Param} (c : Read language n (of_decl params) (drop first tokens) (drop colon tokens) ps) where
        pub definition_mark : {r : Refusal} → Unexpected tokens colon (OfKind (token.Symbol symbol.Colon)) r → Refused language n (of_decl definition) (drop at tokens) r
        definition_mark u = refused_by decided 0 n (omega arith) (single_definition (drop at tokens)) (name_read a (one_read decided b (one_read decided c (no_mark u))))

        module _ {from : ℕ} (d : IsAt tokens colon from (OfKind (token.Symbol symbol.Colon))) where
          pub definition_con : {r : Refusal} → Refused language n (of_con (con places.Plain)) (drop from tokens) r → Refused language n (of_decl definition) (drop at tokens) r
          definition_con h = refused_by decided 0 n (omega arith) (single_definition (drop at tokens)) (name_read a (one_read decided b (one_read decided c (mark_read d (one_refused h)))))

          module _ (equals : ℕ) {t : Con} (f : Read language n (of_con (con places.Plain)) (drop from tokens) (drop equals tokens) t) where
            pub definition_equals : {r : Refusal} → Unexpected tokens equals (OfKind (token.Symbol symbol.Eq)) r → Refused language n (of_decl definition) (drop at tokens) r
            definition_equals u = refused_by decided 0 n (omega arith) (single_definition (drop at tokens)) (name_read a (one_read decided b (one_read decided c (mark_read d (one_read decided f (no_mark u))))))

            module _ {value : ℕ} (g : IsAt tokens equals value (OfKind (token.Symbol symbol.Eq))) where
              pub definition_exp : {r : Refusal} → Refused language n (of_exp exp) (drop value tokens) r → Refused language n (of_decl definition) (drop at tokens) r
              definition_exp h = refused_by decided 0 n (omega arith) (single_definition (drop at tokens)) (name_read a (one_read decided b (one_read decided c (mark_read d (one_read decided f (mark_read g (one_refused h)))))))

              pub definition_read : {end : ℕ} {e : Ended} → Moves tokens at end → Read language n (of_exp exp) (drop value tokens) (drop end tokens) e →
                  let w : FunDef = record { span = span_of tokens at end; name = x; con_params = qs; params = ps; result = t; body = e.exp } in DefinitionRead n tokens at end w
              definition_read {end = end} {e = e} m h = record {
                ends = λ s. let fl = a_name {n = n} a (an_one b (an_one c (a_mark d (an_one f (a_mark g (an_one h nothing)))))) in
                    reads_by 0 n (omega arith) (record { v = (x, (qs, (ps, (t, (e, tt))))); span = span_of tokens at end; fills = fl; is_span = covers tokens at end m fl.taken fl.split; allowed = refl; builds = refl }) s;
                goes_on = λ r says z. refused_by decided 0 n (omega arith) (single_definition (drop at tokens))
                    (name_read a (one_read decided b (one_read decided c (mark_read d (one_read decided f (mark_read g (one_read decided h (cannot_end exp_ends says z (λ p. p.stops)))))))));
              }
