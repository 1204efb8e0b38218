use Rattle.std.proofs.Common.{◌≡◌, ◌++◌, length}
use Rattle.ur_machine_frames.proofs.stack.Stack.push_all.Given as goal

abbrev pub invariant-loop-item : goal.invariant-loop-item
invariant-loop-item g l = l.items ++ l.self ≡ l.initial.items ++ l.initial.self

abbrev pub decreases-loop-item : goal.decreases-loop-item
decreases-loop-item g l = length l.items
