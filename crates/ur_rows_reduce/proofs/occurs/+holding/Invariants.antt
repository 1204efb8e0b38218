use Rattle.std.proofs.Common.{◌≡◌, drop}
use Rattle.ur_rows_reduce.specs.Occurs.{holds_row}
use Rattle.ur_rows_reduce.proofs.occurs.+holding.Given as goal

abbrev pub invariant-holds_row-loop-i : goal.invariant-holds_row-loop-i
invariant-holds_row-loop-i l = holds_row l.as_row l.depth l.parts ≡ holds_row l.as_row l.depth (drop l.i l.parts)
