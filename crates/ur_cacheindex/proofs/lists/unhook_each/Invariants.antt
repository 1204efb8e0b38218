use Rattle.std.proofs.Common.{◌+◌, ◌*◌, ◌≤◌}
use Rattle.ur_cacheindex.specs.Lists.{StayFilled}
use Rattle.ur_cacheindex.specs.Linked.{look_at, beside, UnhooksBelow, Alike}
use Rattle.ur_cacheindex.proofs.lists.unhook_each.Given as goal

abbrev pub invariant-loop-slot : goal.invariant-loop-slot
invariant-loop-slot l =
    UnhooksBelow l.slot l.held.node l.number l.fn.heads (beside (look_at l.fn.nodes) l.number l.held) l.heads (beside (look_at l.nodes) l.number l.held)
    × Alike (look_at l.fn.nodes) (look_at l.nodes) × (l.steps ≤ l.fn.steps + 2 * l.slot) × StayFilled l.fn.heads l.heads
