-- What a turn came to, as the events of its store call show it.
use Rattle.std.specs.Prelude.{◌≡◌, ℕ, List, [], ◌∷◌, Option, Some, None}
use Rattle.ur_values.specs.declared.value.Value.{Value}
use Rattle.ur_values.specs.Atom.{atom_values}
use Rattle.ur_values.specs.Event.{Event, Ask, Write}
use Rattle.ur_cache.specs.Entries.{Entry}
use Rattle.ur_code.specs.declared.code.Code.{Code}
use Rattle.ur_machine.specs.declared.reached.Reached.{Reached}
use Rattle.ur_machine.specs.declared.reached.Reached.TheVariants as reached
use Rattle.ur_machine.specs.Answers.{IsEntryOf}

-- A query was asked, of typed rows at its key where this is told; a change was run; without either there is no event.
abbrev pub HasReached : Code → Reached → List Event → Type 0
HasReached code reached.Nothing events = events ≡ []
HasReached code (reached.Query site None) events = (key : List Value) × (rows : List Value) × (events ≡ Ask site key rows ∷ [])
HasReached code (reached.Query site (Some key)) events =
    (e : Entry) × IsEntryOf code e × (e.site ≡ site) × (e.key ≡ atom_values key) × (events ≡ Ask e.site e.key e.rows ∷ [])
HasReached code (reached.Change update) events = (args : List Value) × (events ≡ Write update args ∷ [])
HasReached code (reached.Sequence q) events = events ≡ []
