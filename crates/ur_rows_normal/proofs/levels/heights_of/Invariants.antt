use Rattle.ur_rows_normal.proofs.Measuring.{Measured}
use Rattle.ur_rows_normal.proofs.levels.heights_of.Given as goal

abbrev pub invariant-loop-i : goal.invariant-loop-i
invariant-loop-i l = Measured l.args l.types l.rows l.i
