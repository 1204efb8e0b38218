-- All are below where all that are left are.
use Rattle.std.proofs.Common.{◌↔◌, drop}
use Rattle.ur_unfold_static.specs.Held.{AreBelow}
use Rattle.ur_unfold_static.proofs.numbers.are_below.Given as goal

abbrev pub invariant-loop-i : goal.invariant-loop-i
invariant-loop-i l = (AreBelow l.most l.all) ↔ AreBelow l.most (drop l.i l.all)
