use Rattle.std.proofs.Common.{◌≡◌, take}
use Rattle.ur_invalidate.specs.Stages.{constants_at}
use Rattle.ur_invalidate.proofs.classes.constants_at.Given as goal

abbrev pub invariant-loop-constant : goal.invariant-loop-constant
invariant-loop-constant l = l.all ≡ constants_at l.classes (take l.constant-index l.constants)
