use Rattle.std.proofs.Common.{◌≡◌, ◌-◌, drop}
use Rattle.ur_rows.specs.IsNormal.{is_row}
use Rattle.ur_rows_reduce.proofs.place.is_in_order.Given as goal

abbrev pub invariant-loop-i : goal.invariant-loop-i
invariant-loop-i l = is_row l.parts ≡ is_row (drop (l.i - 1) l.parts)
