use Rattle.std.proofs.Common.{◌≡◌, drop}
use Rattle.ur_rows_normal.specs.Standing.{row_is_placed}
use Rattle.ur_rows_normal.proofs.standing.+places.Given as goal

abbrev pub invariant-row_is_placed-loop-i : goal.invariant-row_is_placed-loop-i
invariant-row_is_placed-loop-i l = row_is_placed (drop l.i l.parts) ≡ row_is_placed l.parts
