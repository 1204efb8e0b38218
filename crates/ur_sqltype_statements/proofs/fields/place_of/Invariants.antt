use Rattle.ur_sqltype_statements.proofs.Inserting.{Passed}
use Rattle.ur_sqltype_statements.proofs.fields.place_of.Given as goal

abbrev pub invariant-loop-at : goal.invariant-loop-at
invariant-loop-at l = Passed l.field l.fields l.at
