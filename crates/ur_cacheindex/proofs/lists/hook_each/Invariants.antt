use Rattle.ur_cacheindex.specs.declared.node.Node.{Node}
use Rattle.ur_cacheindex.specs.Lists.{AreFilledBut}
use Rattle.ur_cacheindex.specs.Linked.{look_at, HasNode, HooksBelow, Alike, StillKept}
use Rattle.ur_cacheindex.proofs.lists.hook_each.Given as goal

abbrev pub invariant-loop-slot : goal.invariant-loop-slot
invariant-loop-slot l =
    ((node : Node) → HasNode (look_at l.fn.nodes) l.number node → HooksBelow l.slot node l.number l.fn.heads (look_at l.fn.nodes) l.heads (look_at l.nodes))
    × Alike (look_at l.fn.nodes) (look_at l.nodes) × StillKept l.fn.heads l.heads
    × ((node : Node) → HasNode (look_at l.fn.nodes) l.number node → AreFilledBut 0 node l.fn.heads → AreFilledBut l.slot node l.heads)
