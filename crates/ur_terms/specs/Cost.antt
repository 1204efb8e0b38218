-- How many steps of a machine a term takes at most: the measure of a machine's run.
use Rattle.std.specs.Prelude.{ℕ, zero, suc, ◌+◌, ◌-◌, nat_le, if◌then◌else◌, List, [], ◌∷◌, ◌++◌, Option, Some, None, slice_get}
use Rattle.ur_values.specs.declared.value.Value.{Value}
use Rattle.ur_terms.specs.declared.term.Branch.{Branch}
use Rattle.ur_terms.specs.declared.term.Function.{Function}
use Rattle.ur_terms.specs.declared.term.Term.{Term, Row_of-Term, end_of-Term, more_of-Term, Row_of-Branch, end_of-Branch, more_of-Branch}
use Rattle.ur_terms.specs.declared.term.Term.TheVariants as t
use Rattle.ur_terms.specs.State.{State, Outcome, Done, Error, Spent, Stuck}
use Rattle.ur_terms.specs.Values.{as_bool, as_items}
use Rattle.ur_terms.specs.Run.{Does, Calls, eval, eval_one, eval_all, matched, run}

-- what calls cost
abbrev pub CallsCost : Type 0
CallsCost = ℕ → List Value → State → ℕ

abbrev pub after_cost : {A : Type 0} → Outcome A → (A → State → ℕ) → ℕ
after_cost (Done x s) k = k x s
after_cost (Error body events) k = 0
after_cost (Spent events) k = 0
after_cost Stuck k = 0

abbrev pub given_cost : {A : Type 0} → Option A → (A → ℕ) → ℕ
given_cost None k = 0
given_cost (Some x) k = k x

abbrev pub match_cost : Option (List Value) → (List Value → ℕ) → ℕ → ℕ
match_cost None k other = other
match_cost (Some xs) k other = suc (suc (k xs))

abbrev pub choice_cost : Value → ℕ → ℕ → ℕ
choice_cost x a b = given_cost (as_bool x) (λ yes. if yes then suc (suc a) else suc (suc b))

abbrev pub charge_cost : State → (State → ℕ) → ℕ
charge_cost s k = if nat_le 1 s.units then k (record s { units = s.units - 1 }) else 0

abbrev pub each_cost : (Value → State → Outcome Value) → (Value → State → ℕ) → List Value → State → ℕ
each_cost go k [] s = 0
each_cost go k (x ∷ xs) s = suc (k x s + after_cost (go x s) (λ y t. suc (each_cost go k xs t)))

abbrev mutual
  pub cost : Does → Calls → CallsCost → Term → List Value → State → ℕ
  cost d c k (t.Variable i) env s = 1
  cost d c k (t.Int i) env s = 1
  cost d c k (t.Str text) env s = 1
  cost d c k (t.Bool b) env s = 1
  cost d c k (t.Make' o _ args) env s = suc (cost_all d c k args env s)
  cost d c k (t.Call' f _ args) env s =
      suc (cost_all d c k args env s + after_cost (eval_all d c args env s) (λ xs u. charge_cost u (k f xs)))
  cost d c k (t.Let' _ args _ body) env s =
      suc (cost_all d c k args env s + after_cost (eval_all d c args env s) (λ xs u. suc (cost_one d c k body (xs ++ env) u)))
  cost d c k (t.If' _ x _ a _ b) env s =
      suc (cost_one d c k x env s + after_cost (eval_one d c x env s) (λ y u. suc (choice_cost y (cost_one d c k a env u) (cost_one d c k b env u))))
  cost d c k (t.Case' _ x _ bs) env s =
      suc (cost_one d c k x env s + after_cost (eval_one d c x env s) (λ y u. suc (cost_branches d c k bs y env u)))
  cost d c k (t.Each' _ rows _ body) env s =
      suc (cost_one d c k rows env s + after_cost (eval_one d c rows env s) (λ x u. suc (given_cost (as_items x) (λ items.
      each_cost (λ item. eval_one d c body (item ∷ env)) (λ item. cost_one d c k body (item ∷ env)) items u))))

  pub cost_one : Does → Calls → CallsCost → {m : _} → Row_of-Term m → List Value → State → ℕ
  cost_one d c k end_of-Term env s = 0
  cost_one d c k (more_of-Term x rest) env s = cost d c k x env s

  pub cost_all : Does → Calls → CallsCost → {m : _} → Row_of-Term m → List Value → State → ℕ
  cost_all d c k end_of-Term env s = 0
  cost_all d c k (more_of-Term x rest) env s = cost d c k x env s + after_cost (eval d c x env s) (λ y u. suc (cost_all d c k rest env u))

  pub cost_branches : Does → Calls → CallsCost → {m : _} → Row_of-Branch m → Value → List Value → State → ℕ
  cost_branches d c k end_of-Branch x env s = 0
  cost_branches d c k (more_of-Branch pattern body rest) x env s =
      match_cost (matched pattern x) (λ bound. cost d c k body (bound ++ env) s) (cost_branches d c k rest x env s)

abbrev pub cost_list : Does → Calls → CallsCost → List Term → List Value → State → ℕ
cost_list d c k [] env s = 0
cost_list d c k (a ∷ more) env s = cost d c k a env s + after_cost (eval d c a env s) (λ y u. suc (cost_list d c k more env u))

abbrev pub first_cost : Does → Calls → CallsCost → List Branch → Value → List Value → State → ℕ
first_cost d c k [] x env s = 0
first_cost d c k (b ∷ bs) x env s = match_cost (matched b.pattern x) (λ bound. cost d c k b.body (bound ++ env) s) (first_cost d c k bs x env s)

-- a call's cost, with a bound on nested calls
abbrev pub run_cost : Does → List Function → ℕ → CallsCost
run_cost d fs zero f args s = 0
run_cost d fs (suc n) f args s = given_cost (slice_get fs f) (λ function. suc (suc (cost d (run d fs n) (run_cost d fs n) function.body args s)))

abbrev pub cost_of : Does → List Function → CallsCost
cost_of d fs f args s = run_cost d fs (suc s.units) f args s
