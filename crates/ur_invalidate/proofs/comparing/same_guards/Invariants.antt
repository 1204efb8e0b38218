use Rattle.std.proofs.Common.{◌≡◌, drop}
use Rattle.std.specs.Cmp.Lexicographic.{pointwise}
use Rattle.ur_conditions.specs.Patterns.{guard_eq}
use Rattle.ur_invalidate.proofs.comparing.same_guards.Given as goal

abbrev pub invariant-loop-i : goal.invariant-loop-i
invariant-loop-i l = pointwise guard_eq (drop l.i l.guards) (drop l.i l.others) ≡ pointwise guard_eq l.guards l.others
