-- A machine that is under way in code that fits: what is left of its run keeps to its types.
use Rattle.std.specs.Prelude.{◌≡◌, ◌≢◌, ◌<◌, ◌⊎◌, ℕ, List, [], ◌∷◌}
use Rattle.std.specs.List.{AllZip}
use Rattle.ur_values.specs.declared.types.ValueType.{ValueType}
use Rattle.ur_values.specs.declared.types.ValueType.TheVariants as ty
use Rattle.ur_values.specs.declared.value.Value.{Value}
use Rattle.ur_values.specs.declared.value.Value.TheVariants as v
use Rattle.ur_values.specs.Event.{Event}
use Rattle.ur_values.specs.Store.{Store}
use Rattle.ur_terms.specs.declared.term.Op.{Op}
use Rattle.ur_terms.specs.State.{State, Stuck}
use Rattle.ur_terms.specs.Types.{OpType}
use Rattle.ur_terms.specs.Sound.{Comes}
use Rattle.ur_terms.specs.Run.{Does}
use Rattle.ur_machine_frames.specs.declared.control.Pause.{Pause}
use Rattle.ur_machine_frames.specs.declared.control.Pause.TheVariants as pause
use Rattle.ur_machine_frames.specs.Rest.{state_of}
use Rattle.ur_machine_frames.specs.Plays.{Plays, IsLocal, until, no_store}
use Rattle.ur_code.specs.declared.code.Code.{Code}
use Rattle.ur_code.specs.Fits.{signature}
use Rattle.ur_code.specs.Sound.{FitsState, FitsCookie, IsOf}
use Rattle.ur_machine.specs.declared.machine.Machine.{Machine}
use Rattle.ur_machine.specs.Left.{left, given_to}

-- an operation comes with arguments of its types, and with cookies of their kinds
pub record IsTypedStoreCall (code : Code) (o : Op) (xs carried : List Value) : Type 0 where
  pub types : List ValueType
  pub result : ValueType
  pub has : OpType (signature code) o types result
  pub args : AllZip (IsOf code) xs types
  pub cookies : AllZip FitsCookie carried code.cookies

-- a value that tells with what an operation came
abbrev pub told : List Value → List Value → Value
told xs carried = v.Many (v.Many xs ∷ v.Many carried ∷ [])

-- XML, or what tells of the operation with arguments of its types
abbrev pub Shows : Code → Op → Value → Type 0
Shows code o x = IsOf code x ty.Xbody ⊎ ((xs : List Value) × (carried : List Value) × (x ≡ told xs carried) × IsTypedStoreCall code o xs carried)

-- Operations that do as the table says where they need no tables, and keep to their types where they do: those of the tables
-- themselves, those that stop there, and those that give any typed answer. An error may tell of one operation.
pub record KeepTypes (code : Code) (o : Op) (d : Does) : Type 0 where
  pub plays : Plays d
  pub deeds : (p : Op) (ts : List ValueType) (r : ValueType) (xs : List Value) (s : State) → (IsLocal p → ⊥) → OpType (signature code) p ts r
      → AllZip (IsOf code) xs ts → FitsState code s → Comes (λ x. IsOf code x r) (FitsState code) (Shows code o) (d p xs s)

-- Whatever typed answers the tables give, over any tables of the code, what is left comes to a page, to an error with a
-- body, or to a spent budget. Up to the next operation on tables it is not stuck over no tables either.
pub record IsUnderWay (code : Code) (m : Machine) : Type 0 where
  pub cookies : AllZip FitsCookie m.frames.carried code.cookies
  pub sound : (o : Op) (d : Does) → KeepTypes code o d → (store : Store) (events : List Event) → FitsState code (state_of m.frames store events)
      → Comes (λ x. IsOf code x ty.Page) (FitsState code) (Shows code o) (left d code m store events)
  pub safe : left until code m no_store [] ≢ Stuck

-- a value that the operation may answer
abbrev pub IsAnswerTo : Code → Op → Value → Type 0
IsAnswerTo code o x = (ts : List ValueType) (r : ValueType) → OpType (signature code) o ts r → IsOf code x r

-- with such an answer and fewer units the machine is under way
abbrev pub WaitsFor : Code → Op → Machine → Type 0
WaitsFor code o m = (x : Value) (units : ℕ) → IsAnswerTo code o x → units < m.frames.units → IsUnderWay code (given_to m x units)

-- A run stops with a page, whose links and buttons are calls of routes that answer them; with such a body; or at an
-- operation on tables with arguments of its types, whose answer it waits for.
abbrev pub Pauses : Code → Machine → Pause → Type 0
Pauses code m (pause.Page x) = IsOf code x ty.Page
Pauses code m (pause.Failed body) = IsOf code body ty.Xbody
Pauses code m pause.Spent = Unit {0}
Pauses code m (pause.Store o xs) = (IsLocal o.now → ⊥) × IsTypedStoreCall code o.now xs m.frames.carried × WaitsFor code o.now m
Pauses code m pause.Memory = Unit {0}
