-- What is left of a request's run.
use Rattle.std.specs.Prelude.{◌≡◌, ℕ, List, [], Option, Some, None, slice_get}
use Rattle.ur_values.specs.declared.value.Value.{Value}
use Rattle.ur_values.specs.declared.value.Call.{Call}
use Rattle.ur_values.specs.Event.{Event}
use Rattle.ur_values.specs.Store.{Store}
use Rattle.ur_terms.specs.declared.term.Term.{Term}
use Rattle.ur_terms.specs.declared.term.Function.{Function}
use Rattle.ur_terms.specs.State.{State, Outcome, Done, Stuck}
use Rattle.ur_terms.specs.Ops.{given}
use Rattle.ur_terms.specs.Run.{Does, eval, outcome_of}
use Rattle.ur_machine_frames.specs.declared.control.Control.{Control}
use Rattle.ur_machine_frames.specs.declared.control.Control.TheVariants as control
use Rattle.ur_machine_frames.specs.declared.control.Pause.{Pause}
use Rattle.ur_machine_frames.specs.Rest.{standing, resume, state_of}
use Rattle.ur_machine_frames.specs.Steps.{ends}
use Rattle.ur_machine_frames.specs.Plays.{Plays, held}
use Rattle.ur_code.specs.declared.code.Code.{Code}
use Rattle.ur_machine.specs.declared.machine.Machine.{Machine}
use Rattle.ur_machine.specs.Cookies.{carried}

-- the value that was given, or the term to which the frames lead
abbrev pub begun : Does → List Function → Option Value → Option Term → List Value → State → Outcome Value
begun d fs (Some x) place env s = Done x s
begun d fs None place env s = given place (λ a. eval d (outcome_of d fs) a env s)

-- what is left of a run on a store, its events going on from these
abbrev pub left : Does → Code → Machine → Store → List Event → Outcome Value
left d code m store events =
    resume d code.functions m.frames.frames m.frames.values
    (begun d code.functions m.given (standing code.functions m.frames.frames) m.frames.values (state_of m.frames store events))

abbrev pub at_target : Does → Code → Option ℕ → List Value → State → Outcome Value
at_target d code None args s = Stuck
at_target d code (Some f) args s = outcome_of d code.functions f args s

-- the machine stands at the beginning of a call, whatever operations on tables do
abbrev pub Starts : Code → Call → List (List ℕ × List ℕ) → ℕ → Machine → Type 0
Starts code call pairs steps m = (d : Does) → Plays d → (store : Store) (events : List Event)
    → left d code m store events ≡ at_target d code (slice_get code.targets call.route) call.args (held (carried code.cookies pairs) [] store events steps)

-- the run goes on with the value that was given, or with the term to which the frames lead
abbrev pub IsControl : Code → Machine → Control → Type 0
IsControl code m (control.Give x) = m.given ≡ Some x
IsControl code m (control.Enter a) = (m.given ≡ None) × (standing code.functions m.frames.frames ≡ Some a.now)

-- What was left is what the pause says, for all operations on tables, tables and earlier events at once.
abbrev pub EndsAs : Code → Machine → Machine → Pause → Type 0
EndsAs code m m' p = (d : Does) → Plays d → (store : Store) (events : List Event)
    → left d code m store events ≡ ends d code.functions m'.frames p (left d code m store events) store events

-- the machine with an answer and the units that are left
abbrev pub given_to : Machine → Value → ℕ → Machine
given_to m x units = record { frames = record m.frames { units = units }; given = Some x }
