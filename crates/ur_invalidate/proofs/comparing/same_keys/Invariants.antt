use Rattle.std.proofs.Common.{◌≡◌, drop}
use Rattle.std.specs.Cmp.Lexicographic.{pointwise}
use Rattle.ur_conditions.specs.Patterns.{key_eq}
use Rattle.ur_invalidate.proofs.comparing.same_keys.Given as goal

abbrev pub invariant-loop-i : goal.invariant-loop-i
invariant-loop-i l = pointwise key_eq (drop l.i l.keys) (drop l.i l.others) ≡ pointwise key_eq l.keys l.others
