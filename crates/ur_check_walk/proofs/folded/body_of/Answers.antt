use Rattle.std.proofs.Common.{◌∙◌}
use Rattle.ur_check_cases.proofs.Folding.{body-is}
use Rattle.ur_check_walk.proofs.folded.body_of.Goals as goal

pub returns-in-Fn : goal.returns-in-Fn
returns-in-Fn c = c.as_type.ensures ∙ body-is c.args.function c.in-Fn.field-0 c.in-Fn.body c.into_inner.result c.in-Fn.is c.into_inner.ensures
