-- What is left of a run, where it comes to a page and changes nothing.
use Rattle.std.specs.Prelude.{◌≡◌, List, ◌∷◌}
use Rattle.ur_tags.specs.declared.routes.Handlers.{Handlers}
use Rattle.ur_emit.specs.declared.slots.Slot.{Slot}
use Rattle.ur_emit.specs.Slots.{IsSlot, Stand}
use Rattle.ur_values.specs.declared.value.Value.{Value}
use Rattle.ur_terms.specs.declared.term.Function.{Function}
use Rattle.ur_terms.specs.State.{State, Done}
use Rattle.ur_terms.specs.Run.{Does}
use Rattle.ur_machine_frames.specs.declared.frame.Frame.{Frame}
use Rattle.ur_machine_frames.specs.Rest.{outer, resume}
use Rattle.ur_machine_frames.specs.Plays.{Plays}

-- Frames that wait for this value come to this page and change nothing of the state, whatever operations on tables do.
abbrev pub EndsIn : List Function → List Frame → List Value → Value → Value → Type 0
EndsIn fs frames env x page = (d : Does) → Plays d → (s : State) → resume d fs frames env (Done x s) ≡ Done page s

-- The same of what stands for the value and the variables: what is given last stands for the page.
abbrev pub EndsAt : Handlers → List Function → List Frame → List Slot → Slot → Slot → Type 0
EndsAt h fs frames slots given last = (env : List Value) (x : Value) → Stand h slots env → IsSlot h given x
    → (page : Value) × IsSlot h last page × EndsIn fs frames env x page

-- What a frame makes of a value for the frames under it: the run comes to the page to which these come with what is given next.
abbrev pub Passes : Handlers → List Function → Frame → List Frame → List Slot → List Slot → Slot → Slot → Type 0
Passes h fs f frames slots slots' given next = (env : List Value) (x : Value) → Stand h slots env → IsSlot h given x
    → (y : Value) × IsSlot h next y × Stand h slots' (outer f env) ×
    ((page : Value) → EndsIn fs frames (outer f env) y page → EndsIn fs (f ∷ frames) env x page)
