use Rattle.ur_parse_exp_parts.specs.Bindings.{ignored}
use Rattle.ur_parse_exp_parts.proofs.bound.sees_binding.Goals as goal

pub returns-then-sees-clause-yes : goal.returns-then-sees-clause-yes
returns-then-sees-clause-yes c = λ b. ignored (c.sees.ensures.yes c.if-sees.true)
