-- What a request has, what it comes to, and how it is charged.
use Rattle.std.specs.Prelude.{ℕ, ◌≤◌, ◌-◌, ◌==◌, if◌then◌else◌, nat_le, List, [], ◌∷◌, ◌++◌}
use Rattle.ur_values.specs.declared.value.Value.{Value}
use Rattle.ur_values.specs.declared.value.Value.TheVariants as v
use Rattle.ur_values.specs.declared.value.Node.TheVariants as n
use Rattle.ur_values.specs.Event.{Event}
use Rattle.ur_values.specs.Size.{is_small}
use Rattle.ur_values.specs.Store.{Store}

-- The store, what the request's cookies hold by number, the cookies set in order, the units left, and the events so far.
pub record State : Type 0 where
  pub store : Store
  pub carried : List Value
  pub sent : List (ℕ × Value)
  pub units : ℕ
  pub events : List Event

-- Done with a result and the state after it; a program error with the body that is shown; the budget is spent.
-- Stuck is for what no typed program does.
pub data Outcome (A : Type 0) : Type 0 where
  Done : A → State → Outcome A
  Error : (body : Value) (events : List Event) → Outcome A
  Spent : (events : List Event) → Outcome A
  Stuck : Outcome A

-- goes on where a run is done
abbrev pub after : {A B : Type 0} → Outcome A → (A → State → Outcome B) → Outcome B
after (Done x s) go = go x s
after (Error body events) go = Error body events
after (Spent events) go = Spent events
after Stuck go = Stuck

-- the first of these runs ended, and the second ends in the same way
pub data Stops {A B : Type 0} : Outcome A → Outcome B → Type 0 where
  on_error : (body : Value) (events : List Event) → Stops (Error body events) (Error body events)
  on_spent : (events : List Event) → Stops (Spent events) (Spent events)

-- Units are taken, and where too few are left the request is spent.
abbrev pub charge : {A : Type 0} → ℕ → State → (State → Outcome A) → Outcome A
charge n s go = if nat_le n s.units then go (record s { units = s.units - n }) else Spent s.events

-- A value is built, where it is not too large or too deep.
abbrev pub built : Value → State → Outcome Value
built x s = if is_small x then Done x s else Spent s.events

abbrev pub note : Event → State → State
note e s = record s { events = s.events ++ e ∷ [] }

-- a program error that is shown as this text
abbrev pub error_text : {A : Type 0} → List ℕ → State → Outcome A
error_text text s = Error (v.Markup (n.Text text ∷ [])) s.events

-- a cookie set before is set anew in its place
abbrev pub with_cookie : ℕ → Value → List (ℕ × Value) → List (ℕ × Value)
with_cookie c x [] = (c, x) ∷ []
with_cookie c x (d ∷ ds) = if d.0 == c then (c, x) ∷ ds else d ∷ with_cookie c x ds

-- so many units are left at most, where the run is done
abbrev pub LeavesAtMost : {A : Type 0} → ℕ → Outcome A → Type 0
LeavesAtMost u (Done x s) = s.units ≤ u
LeavesAtMost u (Error body events) = Unit {0}
LeavesAtMost u (Spent events) = Unit {0}
LeavesAtMost u Stuck = Unit {0}
