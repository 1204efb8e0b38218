use Rattle.ur_check.proofs.Declaring.{Added}
use Rattle.ur_check.proofs.modules.modules_in.Given as goal

abbrev pub invariant-loop-i : goal.invariant-loop-i
invariant-loop-i l = Added l.initial.project l.project l.initial.bodies l.bodies l.names l.modules l.i
