use Rattle.std.proofs.Common.{◌≡◌, take, map}
use Rattle.ur_check_walk.proofs.applied.copy_types.Given as goal

abbrev pub invariant-loop-i : goal.invariant-loop-i
invariant-loop-i l = l.copies ≡ map (λ t. t.now) (take l.i l.types)
