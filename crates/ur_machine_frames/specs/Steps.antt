-- What a step of a machine keeps.
use Rattle.std.specs.Prelude.{◌≡◌, ◌≢◌, ℕ, suc, ◌-◌, ◌<◌, List, [], ◌∷◌, ◌++◌, Some, slice_get}
use Rattle.ur_values.specs.declared.value.Value.{Value}
use Rattle.ur_values.specs.Event.{Event}
use Rattle.ur_values.specs.Store.{Store}
use Rattle.ur_terms.specs.declared.term.Function.{Function}
use Rattle.ur_terms.specs.declared.term.Term.{Term, out-Term}
use Rattle.ur_terms.specs.declared.term.Op.{Op}
use Rattle.ur_terms.specs.declared.term.Branch.{Branch}
use Rattle.ur_terms.specs.State.{State, Outcome, Done, Error, Spent, Stuck, charge}
use Rattle.ur_terms.specs.Cost.{CallsCost, charge_cost, cost, first_cost, cost_of}
use Rattle.ur_terms.specs.Run.{Does, Calls, eval, first_branch, outcome_of}
use Rattle.ur_machine_frames.specs.declared.frame.Frame.{Frame}
use Rattle.ur_machine_frames.specs.declared.frame.Frames.{Frames}
use Rattle.ur_machine_frames.specs.declared.control.Control.{Control}
use Rattle.ur_machine_frames.specs.declared.control.Control.TheVariants as control
use Rattle.ur_machine_frames.specs.declared.control.Pause.{Pause}
use Rattle.ur_machine_frames.specs.declared.control.Pause.TheVariants as pause
use Rattle.ur_machine_frames.specs.declared.control.Found.{Found}
use Rattle.ur_machine_frames.specs.declared.control.Found.TheVariants as found
use Rattle.ur_machine_frames.specs.declared.control.Next.{Next}
use Rattle.ur_machine_frames.specs.declared.control.Next.TheVariants as next
use Rattle.ur_machine_frames.specs.Rest.{standing, resume, state_of, applied, args_from, items_from, goes_on, frame_goes_on}
use Rattle.ur_machine_frames.specs.Work.{term_cost, total, applied_cost, args_cost, items_cost, going_cost, frame_cost}
use Rattle.ur_machine_frames.specs.Plays.{Plays, IsLocal, until, no_store, held}

-- what a control comes to by itself, and what that costs
abbrev pub begins : Does → List Function → Control → List Value → State → Outcome Value
begins d fs (control.Enter a) env s = eval d (outcome_of d fs) a.now env s
begins d fs (control.Give x) env s = Done x s

abbrev pub begin_cost : Does → List Function → Control → List Value → State → ℕ
begin_cost d fs (control.Enter a) env s = term_cost d fs a.now env s
begin_cost d fs (control.Give x) env s = 0

-- What is left of a run on a store, its events going on from these.
abbrev pub left : Does → List Function → Frames → Control → Store → List Event → Outcome Value
left d fs m c store events = resume d fs m.frames m.values (begins d fs c m.values (state_of m store events))

-- the steps that it takes at most
abbrev pub work : Does → List Function → Frames → Control → Store → List Event → ℕ
work d fs m c store events =
    let s = state_of m store events in
    total d fs m.frames m.values (begin_cost d fs c m.values s) (begins d fs c m.values s)

-- the frames lead to the term that is entered
abbrev pub Stands : List Function → Frames → Control → Type 0
Stands fs m (control.Enter a) = standing fs m.frames ≡ Some a.now
Stands fs m (control.Give x) = Unit {0}

-- What a run comes to that has stopped; it says nothing where memory was wanting.
abbrev pub ends : Does → List Function → Frames → Pause → Outcome Value → Store → List Event → Outcome Value
ends d fs m (pause.Page x) before store events = Done x (state_of m store events)
ends d fs m (pause.Failed body) before store events = Error body events
ends d fs m pause.Spent before store events = Spent events
ends d fs m (pause.Store o xs) before store events = resume d fs m.frames m.values (d o.now xs (state_of m store events))
ends d fs m pause.Memory before store events = before

abbrev pub comes_to : Does → List Function → Frames → Next → Outcome Value → Store → List Event → Outcome Value
comes_to d fs m (next.On c) before store events = left d fs m c store events
comes_to d fs m (next.Off p) before store events = ends d fs m p before store events

abbrev pub next_work : Does → List Function → Frames → Next → Store → List Event → ℕ
next_work d fs m (next.On c) store events = work d fs m c store events
next_work d fs m (next.Off p) store events = 0

-- a run stops at an operation only where it is one on tables
abbrev pub IsStoreCall : Pause → Type 0
IsStoreCall (pause.Store o xs) = IsLocal o.now → ⊥
IsStoreCall _ = Unit {0}

abbrev pub NextStands : List Function → Frames → Next → Type 0
NextStands fs m (next.On c) = Stands fs m c
NextStands fs m (next.Off p) = IsStoreCall p

-- the frames below the nearest
abbrev pub below : List Frame → List Frame
below [] = []
below (f ∷ frames) = frames

-- the frames that are left when a step begins: one to which a value is given is not
abbrev pub remaining : Control → List Frame → List Frame
remaining (control.Enter a) frames = frames
remaining (control.Give x) frames = below frames

-- a run that goes on stands under the same frames, or in a part under one more
abbrev pub IsAbove : List Frame → List Frame → Next → Type 0
IsAbove frames frames' (next.On (control.Enter a)) = (f : Frame) × (frames' ≡ f ∷ frames)
IsAbove frames frames' (next.On (control.Give x)) = frames' ≡ frames
IsAbove frames frames' (next.Off p) = Unit {0}

-- An outcome that costs so much, under the frames of a machine.
abbrev pub Doing : Type 0
Doing = Does → List Value → State → Outcome Value

abbrev pub Costs : Type 0
Costs = Does → List Value → State → ℕ

-- The step keeps what comes of the run, and less is left to do; it holds for all operations on tables at once.
pub record Leads (fs : List Function) (m : Frames) (w : Doing) (n : Costs) (m' : Frames) (result : Next) : Type 0 where
  pub same : (d : Does) → Plays d → (store : Store) (events : List Event)
      → resume d fs m.frames m.values (w d m.values (state_of m store events))
      ≡ comes_to d fs m' result (resume d fs m.frames m.values (w d m.values (state_of m store events))) store events
  pub less : (d : Does) → Plays d → (store : Store) (events : List Event)
      → next_work d fs m' result store events < suc (total d fs m.frames m.values (n d m.values (state_of m store events)) (w d m.values (state_of m store events)))
  pub stands : NextStands fs m' result
  pub above : IsAbove m.frames m'.frames result

-- The run does not get stuck before its next operation on tables.
abbrev pub IsSafe : List Function → Frames → Doing → Type 0
IsSafe fs m w = resume until fs m.frames m.values (w until m.values (state_of m no_store [])) ≢ Stuck

-- ---- what the parts of a step do

-- a term is evaluated; a step less than its cost is left for its parts
abbrev pub entering : List Function → Term → Doing
entering fs a d env s = eval d (outcome_of d fs) a env s

abbrev pub entering_cost : List Function → Term → Costs
entering_cost fs a d env s = term_cost d fs a env s - 1

-- the arguments of a term after these
abbrev pub with_args : List Function → Term → List Value → Doing
with_args fs place done d env s = args_from d (outcome_of d fs) (out-Term place) env done s

abbrev pub with_args_cost : List Function → Term → List Value → Costs
with_args_cost fs place done d env s = args_cost d fs (out-Term place) env done s

-- what a term does with its arguments
abbrev pub applying : List Function → Term → List Value → Doing
applying fs place args d env s = applied d (outcome_of d fs) (out-Term place) env args s

abbrev pub applying_cost : List Function → Term → List Value → Costs
applying_cost fs place args d env s = applied_cost d fs (out-Term place) env args s

abbrev pub performing : Op → List Value → Doing
performing o xs d env s = d o xs s

abbrev pub no_cost : Costs
no_cost d env s = 0

abbrev pub calling : List Function → ℕ → List Value → Doing
calling fs f xs d env s = charge 1 s (outcome_of d fs f xs)

abbrev pub calling_cost : List Function → ℕ → List Value → Costs
calling_cost fs f xs d env s = charge_cost s (cost_of d fs f xs)

abbrev pub binding : List Function → Term → List Value → Doing
binding fs body xs d env s = eval d (outcome_of d fs) body (xs ++ env) s

abbrev pub binding_cost : List Function → Term → List Value → Costs
binding_cost fs body xs d env s = suc (term_cost d fs body (xs ++ env) s)

-- a frame goes on with a value
abbrev pub going : List Function → Frame → Term → Value → Doing
going fs f place x d env s = goes_on d (outcome_of d fs) f (out-Term place) env x s

abbrev pub going_costs : List Function → Frame → Term → Value → Costs
going_costs fs f place x d env s = going_cost d fs f (out-Term place) env x s

-- the body for these items, after these results
abbrev pub with_items : List Function → Term → List Value → List Value → Doing
with_items fs body done more d env s = items_from d (outcome_of d fs) body env done more s

abbrev pub with_items_cost : List Function → Term → List Value → Costs
with_items_cost fs body more d env s = items_cost d fs body env more s

abbrev pub giving : Value → Doing
giving x d env s = Done x s

abbrev pub beginning : List Function → Control → Doing
beginning fs c d env s = begins d fs c env s

-- less is left to do where the run goes on
abbrev pub IsLess : Does → List Function → Frames → Next → Store → List Event → ℕ → Type 0
IsLess d fs m (next.On c) store events n = work d fs m c store events < n
IsLess d fs m (next.Off p) store events n = Unit {0}

-- A whole step keeps what is left of the run, and takes a step off the work.
pub record Steps (fs : List Function) (m : Frames) (c : Control) (m' : Frames) (result : Next) : Type 0 where
  pub same : (d : Does) → Plays d → (store : Store) (events : List Event)
      → left d fs m c store events ≡ comes_to d fs m' result (left d fs m c store events) store events
  pub less : (d : Does) → Plays d → (store : Store) (events : List Event) → IsLess d fs m' result store events (work d fs m c store events)
  pub stands : NextStands fs m' result
  pub above : IsAbove (remaining c m.frames) m'.frames result

-- a part is entered under a new frame, or memory was wanting
abbrev pub Descends : Frame → Term → Frames → Frames → Next → Type 0
Descends f a m m' (next.On (control.Enter r)) = (r.now ≡ a) × (m' ≡ record m { frames = f ∷ m.frames })
Descends f a m m' (next.Off pause.Memory) = Unit {0}
Descends f a m m' _ = ⊥

-- a frame goes on with a value, wherever the frames below it lead
abbrev pub resuming : List Function → List Frame → Frame → Value → Doing
resuming fs frames f x d env s = frame_goes_on d (outcome_of d fs) f (standing fs frames) env x s

abbrev pub resuming_cost : List Function → List Frame → Frame → Value → Costs
resuming_cost fs frames f x d env s = frame_cost d fs f (standing fs frames) env x s

-- the first branch that matches, with its number and what it binds
abbrev pub IsFound : List Branch → Value → Found → Type 0
IsFound bs x (found.Branch k b xs) = (slice_get bs k ≡ Some b.now)
    × ((d : Does) (c : Calls) (env : List Value) (s : State) → first_branch d c bs x env s ≡ eval d c b.now.body (xs ++ env) s)
    × ((d : Does) (c : Calls) (k' : CallsCost) (env : List Value) (s : State) → first_cost d c k' bs x env s ≡ suc (suc (cost d c k' b.now.body (xs ++ env) s)))
IsFound bs x found.None = (d : Does) (c : Calls) (env : List Value) (s : State) → first_branch d c bs x env s ≡ Stuck
IsFound bs x found.Memory = Unit {0}

-- What comes of a whole run up to its pause.
abbrev pub Ends : List Function → Frames → Control → Frames → Pause → Type 0
Ends fs m c m' p = (d : Does) → Plays d → (store : Store) (events : List Event)
    → left d fs m c store events ≡ ends d fs m' p (left d fs m c store events) store events

-- What a call comes to, from its beginning to a pause: for all operations on tables at once.
abbrev pub ComesTo : List Function → ℕ → List Value → List Value → ℕ → Frames → Pause → Type 0
ComesTo fs f args carried units m p = (d : Does) → Plays d → (store : Store) (events : List Event)
    → outcome_of d fs f args (held carried [] store events units) ≡ ends d fs m p (outcome_of d fs f args (held carried [] store events units)) store events
