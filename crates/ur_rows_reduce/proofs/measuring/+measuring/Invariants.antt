use Rattle.std.proofs.Common.{◌≡◌, ◌≤◌, max, drop}
use Rattle.ur_rows_reduce.specs.Height.{row_height}
use Rattle.ur_rows_reduce.proofs.measuring.+measuring.Given as goal

abbrev pub invariant-row_height-loop-i : goal.invariant-row_height-loop-i
invariant-row_height-loop-i l = (row_height l.parts ≡ max l.most (row_height (drop l.i l.parts))) × (l.most ≤ l.levels)
