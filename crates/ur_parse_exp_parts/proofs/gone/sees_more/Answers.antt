use Rattle.std.proofs.Common.{◌∙◌, sym}
use Rattle.ur_parse_exp_parts.proofs.Levels.{sum_stops, sum_goes_on}
use Rattle.ur_parse_exp_parts.proofs.gone.sees_more.Goals as goal

pub returns-in-Some : goal.returns-in-Some
returns-in-Some c = sym (sum_goes_on c.args.tokens.now c.args.at c.in-Some.ensures)

pub returns-else-sees : goal.returns-else-sees
returns-else-sees c = c.sees_argument.ensures ∙ sum_stops c.args.tokens.now c.args.at c.in-None.ensures c.in-None-sign_at.ensures (c.sees.ensures.no c.if-sees.false)
