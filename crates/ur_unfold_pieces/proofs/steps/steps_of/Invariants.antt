-- What is left and the rest are the row, which is in order, and the steps are those of the rest.
use Rattle.std.proofs.Common.{length}
use Rattle.ur_unfold_pieces.proofs.Stepping.{Stepped}
use Rattle.ur_unfold_pieces.proofs.steps.steps_of.Given as goal

abbrev pub invariant-loop-part : goal.invariant-loop-part
invariant-loop-part l = Stepped l.initial.closing l.closing l.fn.row l.left l.rest l.steps

abbrev pub decreases-loop-part : goal.decreases-loop-part
decreases-loop-part l = length l.left
