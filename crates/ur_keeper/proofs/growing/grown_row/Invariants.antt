use Rattle.ur_keeper.proofs.GrowingRows.{Grows}
use Rattle.ur_keeper.proofs.growing.grown_row.Given as goal

abbrev pub invariant-loop-column : goal.invariant-loop-column
invariant-loop-column l = Grows l.columns l.kept l.cells l.column-index l.at l.all
