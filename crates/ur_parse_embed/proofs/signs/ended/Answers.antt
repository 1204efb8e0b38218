use Rattle.std.proofs.Common.{sym, ◌∙◌}
use Rattle.ur_parse_rules.proofs.Steps.{made}
use Rattle.ur_parse_embed.proofs.signs.ended.Goals as goal

pub returns-then-goes_on-clause-refused : goal.returns-then-goes_on-clause-refused
returns-then-goes_on-clause-refused c = made _ c.unexpected.ensures (λ r s. record { says = s; is = sym c.goes_on.ensures ∙ c.if-goes_on.true })
