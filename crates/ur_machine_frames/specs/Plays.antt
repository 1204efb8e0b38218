-- What operations do, up to the next one on tables.
use Rattle.std.specs.Prelude.{◌≡◌, ℕ, List, [], Some, None}
use Rattle.ur_values.specs.declared.value.Value.{Value}
use Rattle.ur_values.specs.Event.{Event}
use Rattle.ur_values.specs.Store.{Store}
use Rattle.ur_values.specs.Sql.{Sql, After}
use Rattle.ur_terms.specs.declared.term.Op.{Op}
use Rattle.ur_terms.specs.declared.term.Op.TheVariants as op
use Rattle.ur_terms.specs.declared.term.Pattern.{Pattern}
use Rattle.ur_terms.specs.State.{State, Done, Error, Spent}
use Rattle.ur_terms.specs.Ops.{does}
use Rattle.ur_terms.specs.Run.{Does, NeverRaises, matched, joined}
use Rattle.ur_machine_frames.specs.declared.control.Performed.{Performed}
use Rattle.ur_machine_frames.specs.declared.control.Performed.TheVariants as performed
use Rattle.ur_machine_frames.specs.declared.control.Matched.{Matched}
use Rattle.ur_machine_frames.specs.declared.control.Matched.TheVariants as matching

abbrev pub no_store : Store
no_store = record { tables = []; sequences = [] }

-- no tables
abbrev pub nothing : Sql
nothing = record { answer = λ q key s. []; change = λ u args s. After s; table = λ u. [] }

-- all but queries, changes and draws of numbers
abbrev pub IsLocal : Op → Type 0
IsLocal (op.Ask how site) = ⊥
IsLocal (op.Write update) = ⊥
IsLocal (op.Next q) = ⊥
IsLocal _ = Unit {0}

-- operations that do as the table says where they need no tables, and by which units do not rise
pub record Plays (d : Does) : Type 0 where
  pub plain : (o : Op) → IsLocal o → (xs : List Value) (s : State) → d o xs s ≡ does nothing o xs s
  pub units : NeverRaises d

-- those that stop at tables
abbrev pub until : Does
until (op.Ask how site) xs s = Spent s.events
until (op.Write update) xs s = Spent s.events
until (op.Next q) xs s = Spent s.events
until o xs s = does nothing o xs s

abbrev pub held : List Value → List (ℕ × Value) → Store → List Event → ℕ → State
held carried sent store events left = record { store = store; carried = carried; sent = sent; units = left; events = events }

-- the operation did what the table says, whatever the tables are
abbrev pub Performs : Op → List Value → List Value → List (ℕ × Value) → List (ℕ × Value) → Performed → Type 0
Performs o xs carried sent sent' (performed.Done x) =
    IsLocal o × ((store : Store) (events : List Event) (left : ℕ) → does nothing o xs (held carried sent store events left) ≡ Done x (held carried sent' store events left))
Performs o xs carried sent sent' (performed.Failed body) =
    IsLocal o × ((store : Store) (events : List Event) (left : ℕ) → does nothing o xs (held carried sent store events left) ≡ Error body events)
Performs o xs carried sent sent' performed.Spent =
    IsLocal o × ((store : Store) (events : List Event) (left : ℕ) → does nothing o xs (held carried sent store events left) ≡ Spent events)
Performs o xs carried sent sent' (performed.Store ys) = (IsLocal o → ⊥) × (ys ≡ xs) × (sent' ≡ sent)
Performs o xs carried sent sent' performed.Memory = Unit {0}

abbrev pub Joins : List Value → Performed → Type 0
Joins xs (performed.Done x) = (s : State) → joined xs s ≡ Done x s
Joins xs (performed.Failed body) = ⊥
Joins xs performed.Spent = (s : State) → joined xs s ≡ Spent s.events
Joins xs (performed.Store ys) = ⊥
Joins xs performed.Memory = Unit {0}

abbrev pub IsMatched : Pattern → Value → Matched → Type 0
IsMatched p x (matching.Yes xs) = matched p x ≡ Some xs
IsMatched p x (matching.No y) = (y ≡ x) × (matched p x ≡ None)
IsMatched p x matching.Memory = Unit {0}
