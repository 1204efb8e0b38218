-- The constants so far are apart.
use Rattle.std.proofs.Common.{take, All}
use Rattle.ur_invalidate.specs.Stages.{IsApart}
use Rattle.ur_invalidate.proofs.classes.are_apart.Given as goal

abbrev pub invariant-loop-constant : goal.invariant-loop-constant
invariant-loop-constant l = All (IsApart l.closure) (take l.constant-index l.constants)
