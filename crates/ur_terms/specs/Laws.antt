-- What is so of all first-order terms.
use Rattle.std.specs.Prelude.{◌≡◌, ℕ, suc, List, ◌++◌, map, Some, slice_get}
use Rattle.std.specs.List.{AllByRecursion, AllZip}
use Rattle.ur_values.specs.declared.types.ValueType.{ValueType}
use Rattle.ur_values.specs.declared.types.ValueType.TheVariants as ty
use Rattle.ur_values.specs.declared.value.Value.{Value}
use Rattle.ur_values.specs.Event.{Event}
use Rattle.ur_values.specs.Sql.{Sql}
use Rattle.ur_terms.specs.declared.term.Function.{Function}
use Rattle.ur_terms.specs.State.{State, Outcome, Done, Error, Spent, Stuck, LeavesAtMost}
use Rattle.ur_terms.specs.Types.{Signature, FitsFunction, function_type}
use Rattle.ur_terms.specs.Inhabits.{Inhabits}
use Rattle.ur_terms.specs.Ops.{given, does}
use Rattle.ur_terms.specs.Run.{Does, NeverRaises, eval, outcome_of}
use Rattle.ur_terms.specs.Cost.{cost, cost_of, given_cost}
use Rattle.ur_terms.specs.Sound.{Comes, KeepsTables, IsStateOf, NumbersLast}

-- a value of the type, of whose XML nothing else is said
abbrev pub IsOf : Signature → Value → ValueType → Type 0
IsOf sig = Inhabits (λ x. Unit {0}) sig.variants

-- A call of a typed function comes to a value of its type and is never stuck, where queries answer rows of their types
-- whatever the tables hold.
abbrev pub TypedAreSound : Type 0
TypedAreSound = (sig : Signature) (sql : Sql) (fs : List Function) → sig.functions ≡ map function_type fs → AllByRecursion (FitsFunction sig) fs
    → KeepsTables sig (IsOf sig) (NumbersLast sig.sequences) sql
    → (f : ℕ) (ts : List ValueType) (r : ValueType) (xs : List Value) (s : State) → slice_get sig.functions f ≡ Some (ts, r) → AllZip (IsOf sig) xs ts
    → IsStateOf sig (IsOf sig) (NumbersLast sig.sequences) s
    → Comes (λ x. IsOf sig x r) (IsStateOf sig (IsOf sig) (NumbersLast sig.sequences)) (λ x. IsOf sig x ty.Xbody) (outcome_of (does sql) fs f xs s)

-- a call is its body, each call within with the bound of its own units
abbrev pub CallsAreBodies : Type 0
CallsAreBodies = (d : Does) → NeverRaises d → (fs : List Function) (f : ℕ) (xs : List Value) (s : State)
    → outcome_of d fs f xs s ≡ given (slice_get fs f) (λ function. eval d (outcome_of d fs) function.body xs s)

-- The steps that a machine takes for a call at most are two more than its body's.
abbrev pub CostsAreBodies : Type 0
CostsAreBodies = (d : Does) → NeverRaises d → (fs : List Function) (f : ℕ) (xs : List Value) (s : State)
    → cost_of d fs f xs s ≡ given_cost (slice_get fs f) (λ function. suc (suc (cost d (outcome_of d fs) (cost_of d fs) function.body xs s)))

-- no call leaves more units than there were
abbrev pub UnitsNeverRise : Type 0
UnitsNeverRise = (sql : Sql) (fs : List Function) (f : ℕ) (xs : List Value) (s : State) → LeavesAtMost s.units (outcome_of (does sql) fs f xs s)

-- these events before the others
abbrev pub behind : List Event → State → State
behind before s = record s { events = before ++ s.events }

abbrev pub all_behind : {A : Type 0} → List Event → Outcome A → Outcome A
all_behind before (Done x s) = Done x (behind before s)
all_behind before (Error body events) = Error body (before ++ events)
all_behind before (Spent events) = Spent (before ++ events)
all_behind before Stuck = Stuck

-- a run does the same whatever was noted before it
abbrev pub EventsFollow : Type 0
EventsFollow = (before : List Event) (sql : Sql) (fs : List Function) (f : ℕ) (xs : List Value) (s : State)
    → outcome_of (does sql) fs f xs (behind before s) ≡ all_behind before (outcome_of (does sql) fs f xs s)
