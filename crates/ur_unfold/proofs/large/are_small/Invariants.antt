-- All are small where all that are left are.
use Rattle.std.proofs.Common.{◌↔◌, drop}
use Rattle.std.specs.List.{AllByRecursion}
use Rattle.ur_unfold.specs.Sizes.{KeyIsSmall}
use Rattle.ur_unfold.proofs.large.are_small.Given as goal

abbrev pub invariant-loop-i : goal.invariant-loop-i
invariant-loop-i l = AllByRecursion (KeyIsSmall l.table.closing) l.keys ↔ AllByRecursion (KeyIsSmall l.table.closing) (drop l.i l.keys)
