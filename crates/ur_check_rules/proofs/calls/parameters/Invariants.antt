use Rattle.std.proofs.Common.{◌≡◌, ◌++◌, length, map}
use Rattle.ur_tree.specs.Typing.{parameters}
use Rattle.ur_check_rules.proofs.calls.parameters.Given as goal

abbrev pub invariant-loop-left : goal.invariant-loop-left
invariant-loop-left l = map (λ t. t.now) l.params ++ (parameters l.left).0 ≡ (parameters l.of).0

abbrev pub decreases-loop-left : goal.decreases-loop-left
decreases-loop-left l = length (parameters l.left).0
