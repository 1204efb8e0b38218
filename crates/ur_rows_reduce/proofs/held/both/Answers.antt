use Rattle.ur_rows_reduce.proofs.Holding.{both-outlines}
use Rattle.ur_rows_reduce.proofs.held.both.Goals as goal

pub returns-in_ok-merged-in-Some-right : goal.returns-in_ok-merged-in-Some-right
returns-in_ok-merged-in-Some-right c = λ r s h k. both-outlines c.args.left c.args.right c.in-Some.l c.in-Some-right.r c.in_ok-merged-in-Some-right.field-0 r s c.in-Some.is c.in-Some-right.is c.in_ok-merged-in-Some-right.ensures h k
