use Rattle.ur_check_walk.specs.Leading.{GoesDown}
use Rattle.ur_check_walk.proofs.begun.descended.Given as goal

abbrev pub invariant-loop-turn : goal.invariant-loop-turn
invariant-loop-turn l = GoesDown l.initial.begun l.begun l.fn.from l.next
