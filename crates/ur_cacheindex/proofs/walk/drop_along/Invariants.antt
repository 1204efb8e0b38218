use Rattle.std.proofs.Common.{◌+◌}
use Rattle.ur_cacheindex.specs.Lists.{StayFilled}
use Rattle.ur_cacheindex.specs.Linked.{nodes_of}
use Rattle.ur_cacheindex.proofs.Walking.{Moves}
use Rattle.ur_cacheindex.proofs.walk.drop_along.Given as goal

abbrev pub invariant-loop-turn : goal.invariant-loop-turn
invariant-loop-turn l =
    Moves l.mask (nodes_of l.fn.nodes) l.fn.dropped (l.fn.steps + l.listed.head.len) l.heads l.nodes l.listed.slot l.at l._turn l.listed.head.len l.dropped l.steps
    × StayFilled l.fn.heads l.heads
