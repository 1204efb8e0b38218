use Rattle.std.proofs.Common.{drop}
use Rattle.ur_check_heads.proofs.Binding.{BoundSo}
use Rattle.ur_check_heads.proofs.bodies.variables_of.Given as goal

abbrev pub invariant-loop-i : goal.invariant-loop-i
invariant-loop-i l = BoundSo l.place l.params l.names (drop l.i l.params)
