use Rattle.std.proofs.Common.{◌≡◌, true, length}
use Rattle.ur_rows.specs.Order.{joined}
use Rattle.ur_rows.specs.IsNormal.{is_row}
use Rattle.ur_rows_reduce.proofs.place.insert_all.Given as goal

abbrev pub invariant-loop-part : goal.invariant-loop-part
invariant-loop-part l = (joined l.left l.right ≡ joined l.fn.left l.fn.right) × (is_row l.right ≡ true)

abbrev pub decreases-loop-part : goal.decreases-loop-part
decreases-loop-part l = length l.left
