-- What an operation comes to that changes nothing of the request.
use Rattle.std.specs.Prelude.{◌≡◌, ◌≢◌}
use Rattle.ur_values.specs.declared.value.Value.{Value}
use Rattle.ur_terms.specs.State.{State, Outcome, Done, Error, Spent, Stuck}
use Rattle.ur_machine_frames.specs.declared.control.Performed.{Performed}
use Rattle.ur_machine_frames.specs.declared.control.Performed.TheVariants as performed

-- in every state it comes to this; nothing is said where memory was wanting
abbrev pub Comes : (State → Outcome Value) → Performed → Type 0
Comes w (performed.Done x) = (s : State) → w s ≡ Done x s
Comes w (performed.Failed body) = (s : State) → w s ≡ Error body s.events
Comes w performed.Spent = (s : State) → w s ≡ Spent s.events
Comes w (performed.Store xs) = ⊥
Comes w performed.Memory = Unit {0}

-- it is not stuck in some state
abbrev pub CanDo : (State → Outcome Value) → Type 0
CanDo w = (s : State) × (w s ≢ Stuck)
