use Rattle.std.proofs.Common.{◌≡◌, take}
use Rattle.ur_invalidate.specs.Stages.{classes_at}
use Rattle.ur_invalidate.proofs.classes.classes_at.Given as goal

abbrev pub invariant-loop-number : goal.invariant-loop-number
invariant-loop-number l = l.all ≡ classes_at l.classes (take l.number-index l.numbers)
