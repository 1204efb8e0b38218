-- What an operation on tables comes to.
use Rattle.std.specs.Prelude.{◌≡◌, ℕ, ◌<◌, ◌+◌, ◌-◌, List, [], ◌∷◌, ◌++◌, length, Bool, Option, Some, None, Result, Ok, Err, IfOk, OnOk}
use Rattle.ur_base.specs.Told.{WhereTold}
use Rattle.ur_values.specs.declared.value.Value.{Value}
use Rattle.ur_values.specs.Event.{Event, Ask, Write}
use Rattle.ur_values.specs.Store.{Store}
use Rattle.ur_keeper.specs.Tables.{Tables, KeptSchema, Keeps, store_of}
use Rattle.ur_terms.specs.declared.term.AnswerForm.{AnswerForm}
use Rattle.ur_terms.specs.declared.term.Op.{Op}
use Rattle.ur_terms.specs.State.{State, Outcome, Done, Error, Spent, charge}
use Rattle.ur_terms.specs.Ops.{answered}
use Rattle.ur_machine_frames.specs.Plays.{held}
use Rattle.ur_code.specs.declared.code.Code.{Code}
use Rattle.ur_code.specs.Meaning.{does_code}
use Rattle.ur_machine.specs.UnderWay.{IsTypedStoreCall, IsAnswerTo}
use Rattle.ur_machine.specs.declared.stop.TurnStop.{TurnStop}
use Rattle.ur_machine.specs.declared.stop.TurnStop.TheVariants as stop
use Rattle.ur_cache.specs.Entries.{Cached}
use Rattle.ur_cache.specs.Cached.{Sites}
use Rattle.ur_machine.specs.Answers.{Follows}
use Rattle.ur_machine.specs.Reached.{HasReached}
use Rattle.ur_machine.specs.declared.reached.Reached.{Reached}
use Rattle.ur_machine.specs.Ready.{AreReady, RaisedBy}
use Rattle.ur_machine.specs.Stops.{Leaves, Stays}

-- what one turn did with the store: it drew a number, asked or wrote
pub data OneStoreCall : List Event → Type 0 where
  drew : OneStoreCall []
  asked : (site : ℕ) (key found : List Value) → OneStoreCall (Ask site key found ∷ [])
  wrote : (update : ℕ) (args : List Value) → OneStoreCall (Write update args ∷ [])

-- one store call, the one that was reached, at which the list of entries went through its steps
abbrev pub OneStep : Code → Sites → Cached → Cached → ℕ → ℕ → Reached → List Event → Type 0
OneStep code sites old new reads reads' reached events = OneStoreCall events × Follows sites old new reads reads' events × HasReached code reached events

-- the operation's arguments have its types
abbrev pub Takes : Code → Op → List Value → Type 0
Takes code o args = (carried : List Value) × IsTypedStoreCall code o args carried

-- what it comes to in every state, where nothing of the state changes; nothing is said after want of memory, and no keeper
-- is called
abbrev pub Gives : (State → Outcome Value) → Result Value TurnStop → Type 0
Gives w (Ok x) = (s : State) → w s ≡ Done x s
Gives w (Err (stop.Failed body)) = (s : State) → w s ≡ Error body s.events
Gives w (Err stop.Spent) = (s : State) → w s ≡ Spent s.events
Gives w (Err stop.Keeper) = ⊥
Gives w (Err stop.Undone) = ⊥
Gives w (Err stop.Memory) = Unit {0}

-- what these rows are answered as where so many units are left before and after, of which one and one for each row are taken
abbrev pub Answers : AnswerForm → List Value → ℕ → ℕ → Result Value TurnStop → Type 0
Answers how rows units units' (Ok x) = (units' < units) × ((s : State) → charge (1 + length rows) (record s { units = units }) (answered how rows) ≡ Done x (record s { units = units' }))
Answers how rows units units' (Err (stop.Failed body)) = (s : State) → charge (1 + length rows) (record s { units = units }) (answered how rows) ≡ Error body s.events
Answers how rows units units' (Err stop.Spent) = (s : State) → charge (1 + length rows) (record s { units = units }) (answered how rows) ≡ Spent s.events
Answers how rows units units' (Err stop.Keeper) = ⊥
Answers how rows units units' (Err stop.Undone) = ⊥
Answers how rows units units' (Err stop.Memory) = Unit {0}

-- What the operation does with these tables and units, whatever the cookies and the earlier events are: its value, the tables
-- and units after it and its one store call, of which `Did` says more; a program error or a spent budget after at most one store call.
abbrev pub DoesStoreCall : (List Event → Type 0) → Code → Op → List Value → ℕ → Store → Option Tables → ℕ → Result Value TurnStop → Type 0
DoesStoreCall Did code o args units before after units' (Ok x) = (t : Tables) × (one : List Event) × Did one × (after ≡ Some t)
    × ((carried : List Value) (sent : List (ℕ × Value)) (earlier : List Event)
    → does_code code o args (held carried sent before earlier units) ≡ Done x (held carried sent (store_of t) (earlier ++ one) units'))
DoesStoreCall Did code o args units before after units' (Err (stop.Failed body)) = (one : List Event) × Did one
    × ((carried : List Value) (sent : List (ℕ × Value)) (earlier : List Event) → does_code code o args (held carried sent before earlier units) ≡ Error body (earlier ++ one))
DoesStoreCall Did code o args units before after units' (Err stop.Spent) = (one : List Event) × Did one
    × ((carried : List Value) (sent : List (ℕ × Value)) (earlier : List Event) → does_code code o args (held carried sent before earlier units) ≡ Spent (earlier ++ one))
DoesStoreCall Did code o args units before after units' (Err stop.Keeper) = Unit {0}
DoesStoreCall Did code o args units before after units' (Err stop.Undone) = Unit {0}
DoesStoreCall Did code o args units before after units' (Err stop.Memory) = Unit {0}

-- An operation on tables over a keeper: where the tables are told it does what it does in the code's meaning; its value has
-- its type, it takes units, and leaves tables that may be read and changed by those that are left, and that are not told where
-- they were not told before.
pub record StoreCall (Did : List Event → Type 0) (code : Code) (o : Op) (args : List Value) (units units' : ℕ) (saved saved' current current' : Option Tables) (kept' : KeptSchema) (under_way' : Bool) (result : Result Value TurnStop) : Type 0 where
  pub does : WhereTold current (λ t. DoesStoreCall Did code o args units (store_of t) current' units' result)
  pub answer : IfOk result (IsAnswerTo code o)
  pub fewer : OnOk result (units' < units)
  pub ready : OnOk result (WhereTold current' (AreReady code.schema units'))
  pub raised : OnOk result (RaisedBy (units - units') current current')
  pub leaves : Leaves result saved saved' current' (Keeps code.schema) kept' under_way'
  pub stays : Stays result current current'
  pub untold : OnOk result (current ≡ None → current' ≡ None)
