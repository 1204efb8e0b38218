use Rattle.ur_rows_normal.proofs.Finding.{Passed}
use Rattle.ur_rows_normal.proofs.fields.place_of.Given as goal

abbrev pub invariant-loop-i : goal.invariant-loop-i
invariant-loop-i l = Passed l.l l.r l.i
