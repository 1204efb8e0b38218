use Rattle.ur_meaning.proofs.Going.{Seen}
use Rattle.ur_meaning.proofs.terms.whole.Given as goal

abbrev pub invariant-loop-turn : goal.invariant-loop-turn
invariant-loop-turn g l = Seen g.T.Table.language g.T.Table.instances g.T.Table.stands g.T.Table.sound l.fn.table l.piece l.table l.opened
