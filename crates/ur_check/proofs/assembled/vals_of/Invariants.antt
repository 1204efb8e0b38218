use Rattle.std.proofs.Common.{◌≡◌, ◌++◌, map}
use Rattle.std.specs.Vec.Iter.{into_iter_items}
use Rattle.ur_check.proofs.assembled.vals_of.Given as goal

abbrev pub invariant-loop-of : goal.invariant-loop-of
invariant-loop-of l = (map (λ v. v.of) l.list ≡ l.yielded) × (map (λ v. v.body) l.list ++ into_iter_items l.left ≡ l.fn.bodies)
