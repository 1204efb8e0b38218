use Rattle.std.proofs.Common.{◌≡◌, ◌++◌, drop}
use Rattle.ur_check_heads.specs.Views.{written_locals}
use Rattle.ur_check_heads.proofs.bodies.locals_of.Given as goal

abbrev pub invariant-loop-i : goal.invariant-loop-i
invariant-loop-i l = l.locals ++ written_locals (drop l.i l.written) (drop l.i l.params) ≡ written_locals l.written l.params
