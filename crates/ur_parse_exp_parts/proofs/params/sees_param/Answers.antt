use Rattle.std.proofs.Common.{sym}
use Rattle.ur_parse_exp_parts.proofs.Heads.{paren_begins}
use Rattle.ur_parse_exp_parts.proofs.params.sees_param.Goals as goal

pub returns-then-sees : goal.returns-then-sees
returns-then-sees c = sym (paren_begins (c.sees.ensures.yes c.if-sees.true))
