-- The first constructors.
use Rattle.std.proofs.Common.{take}
use Rattle.std.specs.List.{AllZip}
use Rattle.ur_source.specs.Instances.{IsVariant}
use Rattle.ur_unfold.proofs.targets.variants_of.Given as goal

abbrev pub invariant-loop-i : goal.invariant-loop-i
invariant-loop-i l = AllZip (IsVariant l.typed.names) (take l.i l.all) l.variants
