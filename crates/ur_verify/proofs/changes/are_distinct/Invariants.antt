-- The columns from here on tell whether all are distinct.
use Rattle.std.proofs.Common.{length, map, nat_eq}
use Rattle.std.specs.Prelude.{◌↔◌}
use Rattle.std.specs.List.{IsDistinct}
use Rattle.ur_verify.proofs.changes.are_distinct.Given as goal

abbrev pub invariant-loop-set : goal.invariant-loop-set
invariant-loop-set l = IsDistinct nat_eq (map (λ set. set.0) l.left) ↔ IsDistinct nat_eq (map (λ set. set.0) l.sets)

abbrev pub decreases-loop-set : goal.decreases-loop-set
decreases-loop-set l = length l.left
