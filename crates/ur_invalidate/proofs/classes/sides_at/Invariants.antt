use Rattle.std.proofs.Common.{◌≡◌, take}
use Rattle.ur_invalidate.specs.Stages.{sides_at}
use Rattle.ur_invalidate.proofs.classes.sides_at.Given as goal

abbrev pub invariant-loop-side : goal.invariant-loop-side
invariant-loop-side l = l.all ≡ sides_at l.classes (take l.side-index l.sides)
