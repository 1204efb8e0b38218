use Rattle.std.proofs.Common.{rules}
use Rattle.ur_check_limits.proofs.Equations.{nothing_left}
use Rattle.ur_check_limits.proofs.nodes.+after_scalar.Goals as goal

pub returns-in-None : goal.returns-in-None
returns-in-None t c = nothing_left c.args.left c.args.of.now (search rules)
