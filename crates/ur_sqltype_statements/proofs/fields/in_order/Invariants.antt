use Rattle.std.proofs.Common.{◌≡◌, length, []}
use Rattle.ur_sqltype.specs.Query.{in_order_on}
use Rattle.ur_sqltype_statements.proofs.fields.in_order.Given as goal

abbrev pub invariant-loop-field : goal.invariant-loop-field
invariant-loop-field l = in_order_on l.left l.done ≡ in_order_on l.fn.fields []

abbrev pub decreases-loop-field : goal.decreases-loop-field
decreases-loop-field l = length l.left
