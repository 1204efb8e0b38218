-- What a term reads of its variables alone.
use Rattle.std.specs.Prelude.{◌≡◌, List}
use Rattle.ur_values.specs.declared.value.Value.{Value}
use Rattle.ur_terms.specs.declared.term.Term.{Term}
use Rattle.ur_terms.specs.State.{State, Done}
use Rattle.ur_terms.specs.Run.{Does, Calls, eval}
use Rattle.ur_machine_frames.specs.Plays.{Plays}

-- with these variables the term comes to this value and changes nothing, whatever operations on tables and calls do
abbrev pub ReadsAs : List Value → Term → Value → Type 0
ReadsAs env a x = (d : Does) → Plays d → (calls : Calls) (s : State) → eval d calls a env s ≡ Done x s
