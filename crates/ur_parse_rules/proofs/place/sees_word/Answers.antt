use Rattle.std.proofs.Common.{◌≡◌, refl, ◌∙◌, sym, false, true}
use Rattle.ur_parse_rules.proofs.Tokens.{at_of, content_at}
use Rattle.ur_parse_rules.proofs.place.sees_word.Goals as goal

pub returns-then-sees-clause-yes : goal.returns-then-sees-clause-yes
returns-then-sees-clause-yes c = λ b. let a = c.sees.ensures.yes c.if-sees.true in
    record { next = refl; t = a.t; at = a.at; is = (a.is, sym (content_at c.args.tokens.now c.args.at _ a.t a.at c.content.ensures) ∙ c.bytes_equal.ensures.0 b) }

pub returns-then-sees-clause-no : goal.returns-then-sees-clause-no
returns-then-sees-clause-no c = λ b. record {
  other = λ t rest e is. let a = c.sees.ensures.yes c.if-sees.true in
      let w = c.bytes_equal.ensures.1 (content_at c.args.tokens.now c.args.at _ t (at_of c.args.tokens.now c.args.at a.t t rest a.at e) c.content.ensures ∙ is.1) in (let z : false ≡ true = sym b ∙ w in cc);
}
