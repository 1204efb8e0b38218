use Rattle.std.proofs.Common.{◌≡◌, length}
use Rattle.ur_tree.specs.Typing.{parameters}
use Rattle.ur_check_rules.proofs.calls.result_behind.Given as goal

abbrev pub invariant-loop-left : goal.invariant-loop-left
invariant-loop-left l = (parameters l.left).1 ≡ (parameters l.of).1

abbrev pub decreases-loop-left : goal.decreases-loop-left
decreases-loop-left l = length (parameters l.left).0
