-- Where a machine stands in the code, and what is left of its run.
use Rattle.std.specs.Prelude.{true, false, List, [], ◌∷◌, ◌++◌, length, drop, Option, Some, None, slice_get, option_map, option_and_then}
use Rattle.ur_values.specs.declared.value.Value.{Value}
use Rattle.ur_values.specs.Event.{Event}
use Rattle.ur_values.specs.Store.{Store}
use Rattle.ur_terms.specs.declared.term.Branch.{Branch}
use Rattle.ur_terms.specs.declared.term.Term.{Term, Term-F, out-Term}
use Rattle.ur_terms.specs.declared.term.Term.TheOpen as o
use Rattle.ur_terms.specs.declared.term.Function.{Function}
use Rattle.ur_terms.specs.State.{State, Outcome, Done, Stuck, after, charge}
use Rattle.ur_terms.specs.Values.{as_items}
use Rattle.ur_terms.specs.Ops.{given}
use Rattle.ur_terms.specs.Run.{Does, Calls, eval, eval_list, first_branch, for_each, joined, choose, outcome_of}
use Rattle.ur_machine_frames.specs.declared.frame.Frame.{Frame}
use Rattle.ur_machine_frames.specs.declared.frame.Frame.TheVariants as frame
use Rattle.ur_machine_frames.specs.declared.frame.Frames.{Frames}

-- a term one level deep
abbrev pub Open : Type 0
Open = Term-F Term Branch

-- ---- where a frame leads

-- the arguments of an operation, a call or a `let`
abbrev pub args_of : Open → Option (List Term)
args_of (o.Make op args) = Some args
args_of (o.Call f args) = Some args
args_of (o.Let args body) = Some args
args_of _ = None

-- the part of a term that a frame leads to
abbrev pub part : Frame → Open → Option Term
part (frame.Args done) a = option_and_then (λ args. slice_get args (length done)) (args_of a)
part (frame.LetBody n) (o.Let args body) = Some body
part frame.Condition (o.If c a b) = Some c
part (frame.Side true) (o.If c a b) = Some a
part (frame.Side false) (o.If c a b) = Some b
part frame.Subject (o.Case x bs) = Some x
part (frame.Branch k n) (o.Case x bs) = option_map (λ b. b.body) (slice_get bs k)
part frame.Rows (o.Each x body) = Some x
part (frame.Item done more) (o.Each x body) = Some body
part _ _ = None

-- the term that the nearest frame leads to
abbrev pub standing : List Function → List Frame → Option Term
standing functions [] = None
standing functions (frame.Body f caller ∷ frames) = option_map (λ function. function.body) (slice_get functions f)
standing functions (f ∷ frames) = option_and_then (λ a. part f (out-Term a)) (standing functions frames)

-- the variables outside a frame
abbrev pub outer : Frame → List Value → List Value
outer (frame.Body f caller) env = caller
outer (frame.LetBody n) env = drop n env
outer (frame.Branch k n) env = drop n env
outer (frame.Item done more) env = drop 1 env
outer _ env = env

-- ---- what a frame does with a value

-- what is done with the arguments of a term
abbrev pub applied : Does → Calls → Open → List Value → List Value → State → Outcome Value
applied d c (o.Make op args) env xs s = d op xs s
applied d c (o.Call f args) env xs s = charge 1 s (c f xs)
applied d c (o.Let args body) env xs s = eval d c body (xs ++ env) s
applied d c _ env xs s = Stuck

-- the arguments after the first ones, and then what is done with all of them
abbrev pub args_from : Does → Calls → Open → List Value → List Value → State → Outcome Value
args_from d c a env done s =
    given (args_of a) (λ args. after (eval_list d c (drop (length done) args) env s) (λ ys t. applied d c a env (done ++ ys) t))

-- the body for each of these items, after these results
abbrev pub items_from : Does → Calls → Term → List Value → List Value → List Value → State → Outcome Value
items_from d c body env done more s = after (for_each (λ y. eval d c body (y ∷ env)) more s) (λ ys t. joined (done ++ ys) t)

-- a frame that stands in a term goes on with the value of its part
abbrev pub goes_on : Does → Calls → Frame → Open → List Value → Value → State → Outcome Value
goes_on d c (frame.Args done) a env x s = args_from d c a env (done ++ x ∷ []) s
goes_on d c frame.Condition (o.If q a b) env x s = choose x (eval d c a env s) (eval d c b env s)
goes_on d c frame.Subject (o.Case q bs) env x s = first_branch d c bs x env s
goes_on d c frame.Rows (o.Each q body) env x s = given (as_items x) (λ items. items_from d c body env [] items s)
goes_on d c (frame.Item done more) (o.Each q body) env x s = items_from d c body env (done ++ x ∷ []) more s
goes_on d c _ _ env x s = Stuck

-- a frame whose term is done when its part is, is left
abbrev pub leaves_or : Frame → Outcome Value → Value → State → Outcome Value
leaves_or (frame.Body f caller) other x s = Done x s
leaves_or (frame.LetBody n) other x s = Done x s
leaves_or (frame.Side side) other x s = Done x s
leaves_or (frame.Branch k n) other x s = Done x s
leaves_or _ other x s = other

abbrev pub frame_goes_on : Does → Calls → Frame → Option Term → List Value → Value → State → Outcome Value
frame_goes_on d c f place env x s = leaves_or f (given place (λ a. goes_on d c f (out-Term a) env x s)) x s

-- What comes of a run whose frames, the nearest first, wait for an outcome.
abbrev pub resume : Does → List Function → List Frame → List Value → Outcome Value → Outcome Value
resume d functions [] env w = w
resume d functions (f ∷ frames) env w =
    resume d functions frames (outer f env) (after w (frame_goes_on d (outcome_of d functions) f (standing functions frames) (outer f env)))

-- the state of a machine on a store
abbrev pub state_of : Frames → Store → List Event → State
state_of m store events = record { store = store; carried = m.carried; sent = m.sent; units = m.units; events = events }
