use Rattle.std.proofs.Common.{arith}
use Rattle.std.proofs.lemmas.Grind.{common_steps}
use Rattle.ur_rows_reduce.proofs.Holding.{same-shape}
use Rattle.ur_rows_reduce.proofs.held.measured.Goals as goal

pub returns : goal.returns
returns c = c.shape.ensures c.args.n (same-shape c.args.n) (grind (arith, common_steps))
