use Rattle.std.proofs.Common.{◌≡◌}
use Rattle.ur_cacheindex.specs.Lists.{SameHeads, AreFilledBut, every}
use Rattle.ur_cacheindex.proofs.lists.tidy_each.Given as goal

abbrev pub invariant-loop-slot : goal.invariant-loop-slot
invariant-loop-slot l = SameHeads l.fn.heads l.heads × (l.whole ≡ every) × (AreFilledBut 0 l.node l.fn.heads → AreFilledBut l.slot l.node l.heads)
