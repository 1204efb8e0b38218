use Rattle.ur_parse_rules.proofs.Steps.{made}
use Rattle.ur_parse_embed.proofs.ends.finished.Goals as goal

pub returns-then-more-clause-refused : goal.returns-then-more-clause-refused
returns-then-more-clause-refused c = made _ c.unexpected.ensures (λ r s. (s, c.if-more.true))
