use Rattle.ur_check_heads.proofs.Fitting.{Gathers}
use Rattle.ur_check_heads.proofs.bodies.head_scope.Given as goal

abbrev pub invariant-loop-i : goal.invariant-loop-i
invariant-loop-i l = Gathers l.cons l.scope l.i
