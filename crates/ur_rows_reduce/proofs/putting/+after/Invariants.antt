use Rattle.std.proofs.Common.{◌≤◌, max, drop}
use Rattle.ur_rows.specs.Put.{Putting, put_row}
use Rattle.ur_rows_reduce.specs.Height.{row_height}
use Rattle.ur_rows_reduce.specs.Lifts.{Within}
use Rattle.ur_rows_reduce.proofs.putting.+after.Given as goal

abbrev pub invariant-row_after-loop-i : goal.invariant-row_after-loop-i
invariant-row_after-loop-i g l = (σ : Putting) → Within (g.L.Lifts.levels l.how) σ → row_height (put_row σ l.depth l.parts) ≤ max l.levels (row_height (put_row σ l.depth (drop l.i l.parts)))
