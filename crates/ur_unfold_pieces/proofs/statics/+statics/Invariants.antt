-- The fields that are made are those from a place on; the steps that are left give what all steps give.
use Rattle.ur_unfold_static.specs.Held.{Grows}
use Rattle.ur_unfold_pieces.proofs.Turning.{MadeFrom, TurnedTo}
use Rattle.ur_unfold_pieces.proofs.statics.+statics.Given as goal

abbrev pub invariant-static_record-loop-i : goal.invariant-static_record-loop-i
invariant-static_record-loop-i l = MadeFrom l.names l.initial.closing l.scope l.vals l.closing l.all l.i l.made × Grows l.initial.closing l.closing

abbrev pub invariant-folded-loop-i : goal.invariant-folded-loop-i
invariant-folded-loop-i l = TurnedTo l.names l.step l.initial.closing l.scope l.vals l.closing l.all l.i l.fn.start l.made × Grows l.initial.closing l.closing
