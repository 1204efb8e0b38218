use Rattle.std.proofs.Common.{◌≡◌, drop}
use Rattle.ur_rows_reduce.specs.Occurs.{uses_row}
use Rattle.ur_rows_reduce.proofs.occurs.+using.Given as goal

abbrev pub invariant-uses_row-loop-i : goal.invariant-uses_row-loop-i
invariant-uses_row-loop-i l = uses_row l.depth l.parts ≡ uses_row l.depth (drop l.i l.parts)
