use Rattle.std.proofs.Common.{length}
use Rattle.std.specs.Prelude.{reverse}
use Rattle.ur_emit.specs.declared.slots.Slot.{Slot}
use Rattle.ur_emit.specs.Ends.{EndsAt}
use Rattle.ur_emit.proofs.ends.end_of.Given as goal

abbrev pub invariant-loop-frame : goal.invariant-loop-frame
invariant-loop-frame l = (last : Slot) → EndsAt l.handlers l.functions (reverse l.left) l.slots l.given last
    → EndsAt l.handlers l.functions (reverse l.frames) l.initial.slots l.initial.given last

abbrev pub decreases-loop-frame : goal.decreases-loop-frame
decreases-loop-frame l = length l.left
