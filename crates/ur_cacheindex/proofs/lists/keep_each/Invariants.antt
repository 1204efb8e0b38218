use Rattle.std.proofs.Common.{◌≡◌}
use Rattle.ur_cacheindex.specs.Lists.{SameHeads, KeptBelow, AreFilledBut, every}
use Rattle.ur_cacheindex.proofs.lists.keep_each.Given as goal

abbrev pub invariant-loop-slot : goal.invariant-loop-slot
invariant-loop-slot l = SameHeads l.fn.heads l.heads × KeptBelow l.slot l.node l.heads × (l.whole ≡ every) × (AreFilledBut 0 l.node l.fn.heads → AreFilledBut 0 l.node l.heads)
