use Rattle.ur_meaning.proofs.Steps.{Along}
use Rattle.ur_meaning.proofs.work.all_terms.Given as goal

abbrev pub invariant-loop-number : goal.invariant-loop-number
invariant-loop-number g l = Along g.T.Table.language g.T.Table.instances g.T.Table.stands g.T.Table.sound l.initial.table l.table l.number l.made l.room
