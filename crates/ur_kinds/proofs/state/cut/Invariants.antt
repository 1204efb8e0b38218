use Rattle.std.proofs.Common.{◌≡◌, take, length}
use Rattle.ur_kinds.proofs.state.cut.Given as goal

abbrev pub invariant-loop-items : goal.invariant-loop-items
invariant-loop-items g l = take l.count l.items ≡ take l.count l.initial.items

abbrev pub decreases-loop-items : goal.decreases-loop-items
decreases-loop-items g l = length l.items
