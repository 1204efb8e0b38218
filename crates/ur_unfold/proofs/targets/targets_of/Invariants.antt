-- The instances of the first routes.
use Rattle.std.proofs.Common.{take}
use Rattle.std.specs.List.{AllZip}
use Rattle.ur_source.specs.Instances.{IsTarget}
use Rattle.ur_unfold_pieces.specs.Standing.{instances_in}
use Rattle.ur_unfold.proofs.targets.targets_of.Given as goal

abbrev pub invariant-loop-i : goal.invariant-loop-i
invariant-loop-i l = AllZip (IsTarget (instances_in l.table)) (take l.i l.all) l.targets
