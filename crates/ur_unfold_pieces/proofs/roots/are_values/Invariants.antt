-- All are values where all that are left are.
use Rattle.std.proofs.Common.{◌↔◌, drop}
use Rattle.ur_source.specs.Instances.{AreValues}
use Rattle.ur_unfold_pieces.proofs.roots.are_values.Given as goal

abbrev pub invariant-loop-i : goal.invariant-loop-i
invariant-loop-i l = AreValues l.all ↔ AreValues (drop l.i l.all)
