use Rattle.std.proofs.Common.{◌≡◌, length, nat_eq}
use Rattle.ur_sqltype.specs.Lists.{repeated}
use Rattle.ur_sqltype.proofs.keys.repeated_place.Given as goal

abbrev pub invariant-loop-place : goal.invariant-loop-place
invariant-loop-place l = repeated nat_eq l.places ≡ repeated nat_eq l.left

abbrev pub decreases-loop-place : goal.decreases-loop-place
decreases-loop-place l = length l.left
