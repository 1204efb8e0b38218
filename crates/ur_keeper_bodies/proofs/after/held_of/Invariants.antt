use Rattle.std.proofs.Common.{◌≡◌, ◌++◌, T}
use Rattle.std.specs.Ordering.{int_cmp}
use Rattle.std.specs.FinMap.{is_sorted}
use Rattle.std.specs.Vec.Iter.{into_iter_items}
use Rattle.ur_keeper_bodies.specs.Bodies.{bodies_of}
use Rattle.ur_keeper_bodies.proofs.after.held_of.Given as goal

abbrev pub invariant-loop-num : goal.invariant-loop-num
invariant-loop-num l = T (is_sorted int_cmp l.fn.entries) → bodies_of l.held l.tab ++ into_iter_items l.num-iterator ≡ l.fn.entries
