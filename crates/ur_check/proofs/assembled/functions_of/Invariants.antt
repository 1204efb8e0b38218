use Rattle.std.proofs.Common.{◌≡◌, ◌++◌, map}
use Rattle.std.specs.Vec.Iter.{into_iter_items}
use Rattle.ur_typed.specs.Made.{function_head}
use Rattle.ur_check_heads.specs.Views.{function_in}
use Rattle.ur_check.proofs.assembled.functions_of.Given as goal

abbrev pub invariant-loop-head : goal.invariant-loop-head
invariant-loop-head l = (map function_head l.list ≡ map function_in l.yielded) × (map (λ f. f.body) l.list ++ into_iter_items l.left ≡ l.fn.bodies)
