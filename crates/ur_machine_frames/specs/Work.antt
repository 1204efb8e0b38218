-- How many steps what is left of a run takes at most: the measure of a run.
use Rattle.std.specs.Prelude.{ℕ, suc, ◌+◌, List, [], ◌∷◌, ◌++◌, length, drop, Option}
use Rattle.ur_values.specs.declared.value.Value.{Value}
use Rattle.ur_terms.specs.declared.term.Term.{Term, out-Term}
use Rattle.ur_terms.specs.declared.term.Term.TheOpen as o
use Rattle.ur_terms.specs.declared.term.Function.{Function}
use Rattle.ur_terms.specs.State.{State, Outcome}
use Rattle.ur_terms.specs.Values.{as_items}
use Rattle.ur_terms.specs.Run.{Does, eval, eval_list, outcome_of}
use Rattle.ur_terms.specs.Cost.{after_cost, given_cost, choice_cost, charge_cost, each_cost, cost, cost_list, first_cost, cost_of}
use Rattle.ur_machine_frames.specs.declared.frame.Frame.{Frame}
use Rattle.ur_machine_frames.specs.declared.frame.Frame.TheVariants as frame
use Rattle.ur_machine_frames.specs.Rest.{Open, args_of, standing, outer, frame_goes_on}

abbrev pub term_cost : Does → List Function → Term → List Value → State → ℕ
term_cost d fs = cost d (outcome_of d fs) (cost_of d fs)

abbrev pub applied_cost : Does → List Function → Open → List Value → List Value → State → ℕ
applied_cost d fs (o.Call f args) env xs s = charge_cost s (cost_of d fs f xs)
applied_cost d fs (o.Let args body) env xs s = suc (term_cost d fs body (xs ++ env) s)
applied_cost d fs _ env xs s = 0

abbrev pub args_cost : Does → List Function → Open → List Value → List Value → State → ℕ
args_cost d fs a env done s =
    given_cost (args_of a) (λ args. cost_list d (outcome_of d fs) (cost_of d fs) (drop (length done) args) env s
    + after_cost (eval_list d (outcome_of d fs) (drop (length done) args) env s) (λ ys t. applied_cost d fs a env (done ++ ys) t))

abbrev pub items_cost : Does → List Function → Term → List Value → List Value → State → ℕ
items_cost d fs body env more s =
    each_cost (λ y. eval d (outcome_of d fs) body (y ∷ env)) (λ y. term_cost d fs body (y ∷ env)) more s

abbrev pub going_cost : Does → List Function → Frame → Open → List Value → Value → State → ℕ
going_cost d fs (frame.Args done) a env x s = args_cost d fs a env (done ++ x ∷ []) s
going_cost d fs frame.Condition (o.If q a b) env x s = choice_cost x (term_cost d fs a env s) (term_cost d fs b env s)
going_cost d fs frame.Subject (o.Case q bs) env x s = first_cost d (outcome_of d fs) (cost_of d fs) bs x env s
going_cost d fs frame.Rows (o.Each q body) env x s = given_cost (as_items x) (λ items. items_cost d fs body env items s)
going_cost d fs (frame.Item done more) (o.Each q body) env x s = items_cost d fs body env more s
going_cost d fs _ _ env x s = 0

abbrev pub frame_cost : Does → List Function → Frame → Option Term → List Value → Value → State → ℕ
frame_cost d fs f place env x s = given_cost place (λ a. going_cost d fs f (out-Term a) env x s)

abbrev pub frames_cost : Does → List Function → List Frame → List Value → Value → State → ℕ
frames_cost d fs [] env x s = 0
frames_cost d fs (f ∷ frames) env x s =
    suc (frame_cost d fs f (standing fs frames) (outer f env) x s
    + after_cost (frame_goes_on d (outcome_of d fs) f (standing fs frames) (outer f env) x s) (frames_cost d fs frames (outer f env)))

-- what an outcome that costs so much takes under these frames
abbrev pub total : Does → List Function → List Frame → List Value → ℕ → Outcome Value → ℕ
total d fs frames env n w = n + after_cost w (frames_cost d fs frames env)
