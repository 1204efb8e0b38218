-- The end of a run that is written at once.
use Rattle.std.specs.Prelude.{◌≡◌, List, Some}
use Rattle.ur_values.specs.declared.value.Value.{Value}
use Rattle.ur_terms.specs.declared.term.Term.{Term}
use Rattle.ur_machine_frames.specs.declared.control.Pause.TheVariants as pause
use Rattle.ur_machine_frames.specs.Rest.{standing}
use Rattle.ur_emit.specs.declared.slots.Chunk.{Chunk}
use Rattle.ur_emit.specs.declared.slots.Slot.{Slot}
use Rattle.ur_emit.specs.Slots.{ComesTo, IsSlot}
use Rattle.ur_code.specs.declared.code.Code.{Code}
use Rattle.ur_machine.specs.declared.machine.Machine.{Machine}
use Rattle.ur_machine.specs.Left.{EndsAs}

-- The run comes to the page for which this stands, and the machine stays as it is.
abbrev pub IsEnd : Code → Machine → Slot → Type 0
IsEnd code m s = (page : Value) × IsSlot code.handlers s page × EndsAs code m m (pause.Page page)

-- The term to which the frames lead comes to the XML that is written here.
abbrev pub IsBegun : Code → Machine → List Slot → Chunk → Type 0
IsBegun code m slots c = (a : Term) × (standing code.functions m.frames.frames ≡ Some a) × ComesTo code.handlers slots a c
