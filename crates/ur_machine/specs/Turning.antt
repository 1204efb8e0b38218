-- What a turn of the machine does.
use Rattle.std.specs.Prelude.{◌≡◌, ℕ, ◌<◌, ◌-◌, Bool, false, true, List, [], ◌++◌, codes, Option, Some, None, Result, Ok, Err}
use Rattle.std.specs.Borrow.{Bor}
use Rattle.ur_values.specs.declared.value.Value.{Value}
use Rattle.ur_base.specs.Told.{WhereTold}
use Rattle.ur_keeper.specs.Tables.{Tables, KeptSchema, Keeps, store_of}
use Rattle.ur_tags.specs.Show.{show, show_error, show_text}
use Rattle.ur_code.specs.declared.code.Code.{Code}
use Rattle.ur_machine.specs.declared.machine.Machine.{Machine}
use Rattle.ur_machine.specs.declared.stop.TurnStop.{TurnStop}
use Rattle.ur_machine.specs.declared.stop.TurnStop.TheVariants as stop
use Rattle.ur_machine.specs.declared.turn.Turn.{Turn}
use Rattle.ur_machine.specs.declared.turn.Turn.TheVariants as turn
use Rattle.ur_values.specs.Event.{Event}
use Rattle.ur_values.specs.Store.{Store}
use Rattle.ur_terms.specs.State.{Outcome, Done, Error, Spent}
use Rattle.ur_terms.specs.declared.term.Op.{Op}
use Rattle.ur_machine_frames.specs.declared.control.Pause.TheVariants as pause
use Rattle.ur_machine_frames.specs.Plays.{IsLocal, held}
use Rattle.ur_code.specs.Meaning.{does_code}
use Rattle.ur_machine.specs.Left.{left, EndsAs, given_to}
use Rattle.ur_machine.specs.UnderWay.{IsUnderWay}
use Rattle.ur_machine.specs.TurnsCookies.{sent_pairs}
use Rattle.ur_machine.specs.Ready.{AreReady, RaisedBy}
use Rattle.ur_machine.specs.Stops.{Leaves}

-- The run stands at this operation on tables: what is left of it, whatever operations on tables do, is this one and then
-- what is behind it.
pub record StandsAt (code : Code) (m : Machine) : Type 0 where
  pub here : Machine
  pub store_call : Bor Op
  pub args : List Value
  pub on_tables : IsLocal store_call.now → ⊥
  pub stands : EndsAs code m here (pause.Store store_call args)

-- A turn that goes on has done the operation on tables at which the run stood, and no other; what was left is what the turn
-- did and then what is left now.
pub record GoesOn (Did : List Event → Type 0) (code : Code) (m m' : Machine) (before after : Store) : Type 0 where
  pub events : List Event
  pub did : Did events
  pub through : StandsAt code m
  pub answer : Value
  pub units : ℕ
  pub answered : m' ≡ given_to through.here answer units
  pub kept : (earlier : List Event) → left (does_code code) code m before earlier ≡ left (does_code code) code m' after (earlier ++ events)

-- A turn that ends with a page: the run stands at no operation on tables, and the machine has the cookies and the units that
-- are left.
pub record EndsWith (code : Code) (m m' : Machine) (page : Value) (store : Store) : Type 0 where
  pub stands : EndsAs code m m' (pause.Page page)
  pub ends : (earlier : List Event)
      → left (does_code code) code m store earlier ≡ Done page (held m'.frames.carried m'.frames.sent store earlier m'.frames.units)

abbrev pub failed : Option Value → List Event → Outcome Value
failed (Some body) events = Error body events
failed None events = Spent events

-- where a turn fails: before any operation on tables, or in the one at which the run stands
pub data FailsThere (code : Code) (m : Machine) (store : Store) : Option Value → List Event → Type 0 where
  by_itself : (here : Machine) (body : Value) → EndsAs code m here (pause.Failed body) → FailsThere code m store (Some body) []
  without_units : (here : Machine) → EndsAs code m here pause.Spent → FailsThere code m store None []
  in_store_call : (s : StandsAt code m) (body : Option Value) (events : List Event)
      → ((carried : List Value) (sent : List (ℕ × Value)) (earlier : List Event) → does_code code s.store_call.now s.args (held carried sent store earlier s.here.frames.units) ≡ failed body (earlier ++ events))
      → FailsThere code m store body events

-- A turn that fails: a program error with its body, or the budget is spent, after at most one store call.
pub record FailsWith (Did : List Event → Type 0) (code : Code) (m : Machine) (body : Option Value) (store : Store) : Type 0 where
  pub events : List Event
  pub did : Did events
  pub there : FailsThere code m store body events
  pub fails : (earlier : List Event) → left (does_code code) code m store earlier ≡ failed body (earlier ++ events)

-- the page of a program error, or of a spent budget
abbrev pub failed_bytes : Code → Option Value → List ℕ
failed_bytes code (Some body) = show_error code.handlers body
failed_bytes code None = show_text (codes "Error") (codes "budget spent")

-- Where the tables are told: what a turn made of what was left and of the tables.
pub data TurnOn (Did : List Event → Type 0) (code : Code) (m m' : Machine) (before : Tables) (after : Option Tables) : Turn → Type 0 where
  goes_on : (t : Tables) → GoesOn Did code m m' (store_of before) (store_of t) → after ≡ Some t → TurnOn Did code m m' before after turn.More
  ends : (page : Value) → EndsWith code m m' page (store_of before) → Did [] → after ≡ Some before
      → TurnOn Did code m m' before after (turn.Page (show code.handlers page) (sent_pairs code.cookies m'.frames.sent))
  fails : (body : Option Value) → FailsWith Did code m body (store_of before) → after ≡ Some before → TurnOn Did code m m' before after (turn.Failed (failed_bytes code body))
  keeper : TurnOn Did code m m' before after turn.Keeper
  memory : TurnOn Did code m m' before after turn.Memory

-- the same before the page of an error is made
abbrev pub RunOn : (List Event → Type 0) → Code → Machine → Machine → Tables → Option Tables → Result Turn TurnStop → Type 0
RunOn Did code m m' before after (Ok t) = TurnOn Did code m m' before after t
RunOn Did code m m' before after (Err (stop.Failed body)) = FailsWith Did code m (Some body) (store_of before)
RunOn Did code m m' before after (Err stop.Spent) = FailsWith Did code m None (store_of before)
RunOn Did code m m' before after (Err stop.Keeper) = Unit {0}
RunOn Did code m m' before after (Err stop.Undone) = Unit {0}
RunOn Did code m m' before after (Err stop.Memory) = Unit {0}

-- After Keeper and Memory no transaction is under way and the current tables are the saved ones; after the others it is
-- still under way.
abbrev pub IsKeeperUndone : Turn → Option Tables → Option Tables → Bool → Type 0
IsKeeperUndone turn.More saved current under_way = under_way ≡ true
IsKeeperUndone (turn.Page bytes cookies) saved current under_way = under_way ≡ true
IsKeeperUndone (turn.Failed bytes) saved current under_way = under_way ≡ true
IsKeeperUndone turn.Keeper saved current under_way = (under_way ≡ false) × (current ≡ saved)
IsKeeperUndone turn.Memory saved current under_way = (under_way ≡ false) × (current ≡ saved)

-- what holds of a turn that goes on
abbrev pub IfMore : Turn → Type 0 → Type 0
IfMore turn.More P = P
IfMore _ P = Unit {0}

-- a turn that ends with a page, or with the page of an error, leaves the tables as they were
abbrev pub StaysAtEnd : Turn → Option Tables → Option Tables → Type 0
StaysAtEnd (turn.Page bytes cookies) current current' = current' ≡ current
StaysAtEnd (turn.Failed bytes) current current' = current' ≡ current
StaysAtEnd _ current current' = Unit {0}

-- ---- the two steps of a turn

-- a run up to an operation on tables, and that, goes on or ends with a page, or gives no turn
abbrev pub IsRunTurn : Result Turn TurnStop → Type 0
IsRunTurn (Ok turn.More) = Unit {0}
IsRunTurn (Ok (turn.Page bytes cookies)) = Unit {0}
IsRunTurn (Ok (turn.Failed bytes)) = ⊥
IsRunTurn (Ok turn.Keeper) = ⊥
IsRunTurn (Ok turn.Memory) = ⊥
IsRunTurn (Err e) = Unit {0}

abbrev pub IfRunMore : Result Turn TurnStop → Type 0 → Type 0
IfRunMore (Ok t) P = IfMore t P
IfRunMore (Err e) P = Unit {0}

abbrev pub RunStays : Result Turn TurnStop → Option Tables → Option Tables → Type 0
RunStays (Ok t) current current' = StaysAtEnd t current current'
RunStays (Err (stop.Failed body)) current current' = current' ≡ current
RunStays (Err stop.Spent) current current' = current' ≡ current
RunStays (Err e) current current' = Unit {0}

-- what it did with what is left of the run, with the machine and with the keeper
pub record Ran (Did : List Event → Type 0) (code : Code) (m m' : Machine) (saved saved' current current' : Option Tables) (kept' : KeptSchema) (under_way' : Bool) (result : Result Turn TurnStop) : Type 0 where
  pub kind : IsRunTurn result
  pub on : WhereTold current (λ before. RunOn Did code m m' before current' result)
  pub leaves : Leaves result saved saved' current' (Keeps code.schema) kept' under_way'
  pub stays : RunStays result current current'
  pub machine : IfRunMore result (IsUnderWay code m')
  pub ready : IfRunMore result (WhereTold current' (AreReady code.schema m'.frames.units))
  pub charged : IfRunMore result (m'.frames.units < m.frames.units)
  pub raised : IfRunMore result (RaisedBy (m.frames.units - m'.frames.units) current current')
  pub untold : IfRunMore result (current ≡ None → current' ≡ None)

-- the same of the whole turn
pub record Turned (Did : List Event → Type 0) (code : Code) (m m' : Machine) (saved saved' current current' : Option Tables) (kept' : KeptSchema) (under_way' : Bool) (t : Turn) : Type 0 where
  pub on : WhereTold current (λ before. TurnOn Did code m m' before current' t)
  pub undone : IsKeeperUndone t saved' current' under_way'
  pub same_saved : saved' ≡ saved
  pub same_kept : kept' ≡ Keeps code.schema
  pub stays : StaysAtEnd t current current'
  pub machine : IfMore t (IsUnderWay code m')
  pub ready : IfMore t (WhereTold current' (AreReady code.schema m'.frames.units))
  pub charged : IfMore t (m'.frames.units < m.frames.units)
  pub raised : IfMore t (RaisedBy (m.frames.units - m'.frames.units) current current')
  pub untold : IfMore t (current ≡ None → current' ≡ None)
