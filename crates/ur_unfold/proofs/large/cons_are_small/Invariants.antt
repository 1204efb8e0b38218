-- All are small where all that are left are.
use Rattle.std.proofs.Common.{◌↔◌, drop}
use Rattle.std.specs.List.{AllByRecursion}
use Rattle.ur_unfold.specs.Sizes.{ConIsSmall}
use Rattle.ur_unfold.proofs.large.cons_are_small.Given as goal

abbrev pub invariant-loop-i : goal.invariant-loop-i
invariant-loop-i l = AllByRecursion (ConIsSmall l.closing) l.all ↔ AllByRecursion (ConIsSmall l.closing) (drop l.i l.all)
