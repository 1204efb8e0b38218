-- What terms cost, over plain lists, and whatever the bound on nested calls.
use Rattle.std.proofs.Common.{◌≡◌, ℕ, zero, suc, ◌+◌, ◌-◌, ◌<◌, ◌≤◌, List, [], ◌∷◌, ◌++◌, Option, Some, None, Bool, true, false, if◌then◌else◌, refl, ap, ◌∙◌, arith}
use Rattle.std.specs.Prelude.{nat_le, slice_get}
use Rattle.std.proofs.lemmas.Bool.{leb-true}
use mathlib.Core.Former.{Count}
use denote.Hole.Carrier
use Rattle.ur_values.specs.declared.value.Value.{Value}
use Rattle.ur_terms.specs.declared.term.Op.{Op}
use Rattle.ur_terms.specs.declared.term.Branch.{Branch}
use Rattle.ur_terms.specs.declared.term.Function.{Function}
use Rattle.ur_terms.specs.declared.term.Term.TheBlock as block
use Rattle.ur_terms.specs.declared.term.Term.{Term, Row_of-Term, end_of-Term, more_of-Term, Row_of-Branch, end_of-Branch, more_of-Branch, items-the_row-Term, items_hidden-the_row-Term-0, items-the_row-Branch, items_hidden-the_row-Branch-2}
use Rattle.ur_terms.specs.declared.term.Term.TheVariants as t
use Rattle.ur_terms.specs.State.{State, Outcome, Done, Error, Spent, Stuck, charge}
use Rattle.ur_terms.specs.Values.{as_items}
use Rattle.ur_terms.specs.Run.{Does, Calls, eval, eval_one, eval_all, eval_list, matched, run, outcome_of, NeverRaises}
use Rattle.ur_terms.specs.Cost.{CallsCost, after_cost, given_cost, match_cost, choice_cost, charge_cost, each_cost, cost, cost_one, cost_all, cost_branches, cost_list, first_cost, run_cost, cost_of}
use Rattle.ur_terms.proofs.Alike.{both_done, both_error, both_spent, both_stuck, both_eval, both_one, both_all}
use Rattle.ur_terms.proofs.Bound.{Same, SameEvents, AtMost, deeds, joins, charged_calls, both_bounds, more_units}
use Rattle.ur_terms.proofs.Equations.{row_of, branches_of, all_items}

-- ---- equations

pub after_cost_same : {A : Type 0} (o : Outcome A) (f g : A → State → ℕ) → ((x : A) (s : State) → f x s ≡ g x s) → after_cost o f ≡ after_cost o g
after_cost_same (Done x s) f g h = h x s
after_cost_same (Error body events) f g h = refl
after_cost_same (Spent events) f g h = refl
after_cost_same Stuck f g h = refl

pub given_cost_same : {A : Type 0} (o : Option A) (f g : A → ℕ) → ((x : A) → f x ≡ g x) → given_cost o f ≡ given_cost o g
given_cost_same None f g h = refl
given_cost_same (Some x) f g h = h x

match_cost_same : (m : Option (List Value)) (f : List Value → ℕ) (a b : ℕ) → a ≡ b → match_cost m f a ≡ match_cost m f b
match_cost_same None f a b e = e
match_cost_same (Some xs) f a b e = refl

module _ (d : Does) (c : Calls) (k : CallsCost) where
  cost_all_items : (m : Count) (row : Row_of-Term m) (env : List Value) (s : State)
      → cost_all d c k row env s ≡ cost_list d c k (items-the_row-Term m row) env s
  cost_all_items m end_of-Term env s = refl
  cost_all_items m (more_of-Term a rest) env s =
      ap (λ n. cost d c k a env s + n) (after_cost_same (eval d c a env s) _ _ (λ y u. ap suc (cost_all_items _ rest env u)))

  cost_branch_items : (m : Count) (row : Row_of-Branch m) (x : Value) (env : List Value) (s : State)
      → cost_branches d c k row x env s ≡ first_cost d c k (items-the_row-Branch m row) x env s
  cost_branch_items m end_of-Branch x env s = refl
  cost_branch_items m (more_of-Branch pattern body rest) x env s = match_cost_same (matched pattern x) _ _ _ (cost_branch_items _ rest x env s)

  args_eval : (a : Term) (args : List Term) → items-the_row-Term _ (row_of a).1 ≡ args → (env : List Value) (s : State)
      → eval_all d c (row_of a).1 env s ≡ eval_list d c args env s
  args_eval a args e env s = all_items d c _ (row_of a).1 env s ∙ ap (λ xs. eval_list d c xs env s) e

  args_cost : (a : Term) (args : List Term) → items-the_row-Term _ (row_of a).1 ≡ args → (env : List Value) (s : State)
      → cost_all d c k (row_of a).1 env s ≡ cost_list d c k args env s
  args_cost a args e env s = cost_all_items _ (row_of a).1 env s ∙ ap (λ xs. cost_list d c k xs env s) e

  pub cost-Make : (o : Op) (args : List Term) (env : List Value) (s : State)
      → cost d c k (t.Make o args) env s ≡ suc (cost_list d c k args env s)
  cost-Make o args env s = ap suc (args_cost (t.Make o args) args (items_hidden-the_row-Term-0 args) env s)

  two_parts : {A : Type 0} (m n : ℕ) (o p : Outcome A) (f : A → State → ℕ) → m ≡ n → o ≡ p → suc (m + after_cost o f) ≡ suc (n + after_cost p f)
  two_parts m n o p f e g = ap (λ x. suc (x + after_cost o f)) e ∙ ap (λ x. suc (n + after_cost x f)) g

  pub cost-Call : (f : ℕ) (args : List Term) (env : List Value) (s : State)
      → cost d c k (t.Call f args) env s ≡ suc (cost_list d c k args env s + after_cost (eval_list d c args env s) (λ xs u. charge_cost u (k f xs)))
  cost-Call f args env s =
      two_parts _ _ _ _ (λ xs u. charge_cost u (k f xs)) (args_cost (t.Call f args) args (items_hidden-the_row-Term-0 args) env s)
      (args_eval (t.Call f args) args (items_hidden-the_row-Term-0 args) env s)

  pub cost-Let : (args : List Term) (body : Term) (env : List Value) (s : State)
      → cost d c k (t.Let args body) env s ≡ suc (cost_list d c k args env s + after_cost (eval_list d c args env s) (λ xs u. suc (cost d c k body (xs ++ env) u)))
  unfolding block.hidden-the_row-Term-1 Carrier.hidden
  cost-Let args body env s =
      two_parts _ _ _ _ (λ xs u. suc (cost d c k body (xs ++ env) u)) (args_cost (t.Let args body) args (items_hidden-the_row-Term-0 args) env s)
      (args_eval (t.Let args body) args (items_hidden-the_row-Term-0 args) env s)

  pub cost-If : (x a b : Term) (env : List Value) (s : State)
      → cost d c k (t.If x a b) env s ≡ suc (cost d c k x env s + after_cost (eval d c x env s) (λ y u. suc (choice_cost y (cost d c k a env u) (cost d c k b env u))))
  unfolding block.hidden-the_row-Term-1 Carrier.hidden
  cost-If x a b env s = refl

  pub cost-Case : (x : Term) (bs : List Branch) (env : List Value) (s : State)
      → cost d c k (t.Case x bs) env s ≡ suc (cost d c k x env s + after_cost (eval d c x env s) (λ y u. suc (first_cost d c k bs y env u)))
  unfolding block.hidden-the_row-Term-1 Carrier.hidden
  cost-Case x bs env s =
      let row = branches_of (t.Case x bs) in
      ap (λ n. suc (cost d c k x env s + n)) (after_cost_same (eval d c x env s) _ _ (λ y u.
      ap suc (cost_branch_items row.0 row.1 y env u ∙ ap (λ ys. first_cost d c k ys y env u) (items_hidden-the_row-Branch-2 bs))))

  pub cost-Each : (x body : Term) (env : List Value) (s : State)
      → cost d c k (t.Each x body) env s ≡ suc (cost d c k x env s + after_cost (eval d c x env s) (λ y u. suc (given_cost (as_items y) (λ items.
      each_cost (λ item. eval d c body (item ∷ env)) (λ item. cost d c k body (item ∷ env)) items u))))
  unfolding block.hidden-the_row-Term-1 Carrier.hidden
  cost-Each x body env s = refl

-- ---- the bound on nested calls

pub after_cost_both : {A : Type 0} (u : ℕ) (o p : Outcome A) (f g : A → State → ℕ) → AtMost u o p
    → ((x : A) (s : State) → s.units ≤ u → f x s ≡ g x s) → after_cost o f ≡ after_cost p g
after_cost_both u o p f g (both_done x s t r) h = h x s r.1 ∙ ap (g x) r.0
after_cost_both u o p f g (both_error body e e' r) h = refl
after_cost_both u o p f g (both_spent e e' r) h = refl
after_cost_both u o p f g both_stuck h = refl

sum_same : (m n o p : ℕ) → m ≡ n → o ≡ p → suc (m + o) ≡ suc (n + p)
sum_same m n o p e f = cc

plus_same : (m n o p : ℕ) → m ≡ n → o ≡ p → m + o ≡ n + p
plus_same m n o p e f = cc

choice_cost_same : (x : Value) (a a' b b' : ℕ) → a ≡ a' → b ≡ b' → choice_cost x a b ≡ choice_cost x a' b'
choice_cost_same x a a' b b' e f = cc

both_match_cost : (m : Option (List Value)) (f g : List Value → ℕ) (a b : ℕ) → ((xs : List Value) → f xs ≡ g xs) → a ≡ b → match_cost m f a ≡ match_cost m g b
both_match_cost None f g a b h e = e
both_match_cost (Some xs) f g a b h e = ap (λ n. suc (suc n)) (h xs)

both_each_cost : (u : ℕ) (go come : Value → State → Outcome Value) (f g : Value → State → ℕ)
    → ((x : Value) (s t : State) → Same u s t → AtMost u (go x s) (come x t)) → ((x : Value) (s : State) → s.units ≤ u → f x s ≡ g x s)
    → (xs : List Value) (s : State) → s.units ≤ u → each_cost go f xs s ≡ each_cost come g xs s
both_each_cost u go come f g h k [] s l = refl
both_each_cost u go come f g h k (x ∷ xs) s l =
    sum_same _ _ _ _ (k x s l) (after_cost_both u _ _ _ _ (h x s s (refl, l)) (λ y t few. ap suc (both_each_cost u go come f g h k xs t few)))

module _ (d : Does) (steady : NeverRaises d) (c c' : Calls) (k k' : CallsCost) (u : ℕ)
    (calls : (f : ℕ) (xs : List Value) (s t : State) → Same u s t → AtMost u (charge 1 s (c f xs)) (charge 1 t (c' f xs)))
    (costs : (f : ℕ) (xs : List Value) (s : State) → s.units ≤ u → charge_cost s (k f xs) ≡ charge_cost s (k' f xs)) where
  ev : (a : Term) (env : List Value) (s t : State) → Same u s t → AtMost u (eval d c a env s) (eval d c' a env t)
  ev a env s t r = both_eval (Same u) SameEvents d d c c' calls (deeds d steady [] u) (joins d steady [] u) a env s t r

  ev_one : {m : _} (a : Row_of-Term m) (env : List Value) (s t : State) → Same u s t → AtMost u (eval_one d c a env s) (eval_one d c' a env t)
  ev_one a env s t r = both_one (Same u) SameEvents d d c c' calls (deeds d steady [] u) (joins d steady [] u) a env s t r

  ev_all : {m : _} (a : Row_of-Term m) (env : List Value) (s t : State) → Same u s t → AtMost u (eval_all d c a env s) (eval_all d c' a env t)
  ev_all a env s t r = both_all (Same u) SameEvents d d c c' calls (deeds d steady [] u) (joins d steady [] u) a env s t r

  mutual
    pub both_cost : (a : Term) (env : List Value) (s : State) → s.units ≤ u → cost d c k a env s ≡ cost d c' k' a env s
    both_cost (t.Variable i) env s l = refl
    both_cost (t.Int i) env s l = refl
    both_cost (t.Str text) env s l = refl
    both_cost (t.Bool b) env s l = refl
    both_cost (t.Make' o _ args) env s l = ap suc (both_cost_all args env s l)
    both_cost (t.Call' f _ args) env s l =
        sum_same _ _ _ _ (both_cost_all args env s l) (after_cost_both u _ _ _ _ (ev_all args env s s (refl, l)) (λ xs t few. costs f xs t few))
    both_cost (t.Let' _ args _ body) env s l =
        sum_same _ _ _ _ (both_cost_all args env s l)
        (after_cost_both u _ _ _ _ (ev_all args env s s (refl, l)) (λ xs t few. ap suc (both_cost_one body (xs ++ env) t few)))
    both_cost (t.If' _ x _ a _ b) env s l =
        sum_same _ _ _ _ (both_cost_one x env s l)
        (after_cost_both u _ _ _ _ (ev_one x env s s (refl, l)) (λ y t few.
        ap suc (choice_cost_same y _ _ _ _ (both_cost_one a env t few) (both_cost_one b env t few))))
    both_cost (t.Case' _ x _ bs) env s l =
        sum_same _ _ _ _ (both_cost_one x env s l)
        (after_cost_both u _ _ _ _ (ev_one x env s s (refl, l)) (λ y t few. ap suc (both_cost_branches bs y env t few)))
    both_cost (t.Each' _ rows _ body) env s l =
        sum_same _ _ _ _ (both_cost_one rows env s l)
        (after_cost_both u _ _ _ _ (ev_one rows env s s (refl, l)) (λ x t few. ap suc (given_cost_same (as_items x) _ _ (λ items.
        both_each_cost u _ _ _ _ (λ y s t r. ev_one body (y ∷ env) s t r) (λ y s few. both_cost_one body (y ∷ env) s few) items t few))))

    pub both_cost_one : {m : _} (a : Row_of-Term m) (env : List Value) (s : State) → s.units ≤ u → cost_one d c k a env s ≡ cost_one d c' k' a env s
    both_cost_one end_of-Term env s l = refl
    both_cost_one (more_of-Term x rest) env s l = both_cost x env s l

    pub both_cost_all : {m : _} (a : Row_of-Term m) (env : List Value) (s : State) → s.units ≤ u → cost_all d c k a env s ≡ cost_all d c' k' a env s
    both_cost_all end_of-Term env s l = refl
    both_cost_all (more_of-Term x rest) env s l =
        plus_same _ _ _ _ (both_cost x env s l)
        (after_cost_both u _ _ _ _ (ev x env s s (refl, l)) (λ y t few. ap suc (both_cost_all rest env t few)))

    pub both_cost_branches : {m : _} (bs : Row_of-Branch m) (x : Value) (env : List Value) (s : State) → s.units ≤ u
        → cost_branches d c k bs x env s ≡ cost_branches d c' k' bs x env s
    both_cost_branches end_of-Branch x env s l = refl
    both_cost_branches (more_of-Branch pattern body rest) x env s l =
        both_match_cost (matched pattern x) _ _ _ _ (λ bound. both_cost body (bound ++ env) s l) (both_cost_branches rest x env s l)

charged_costs : (k k' : CallsCost) (u : ℕ) → ((w : ℕ) → w < u → (f : ℕ) (xs : List Value) (s : State) → s.units ≤ w → k f xs s ≡ k' f xs s)
    → (f : ℕ) (xs : List Value) (s : State) → s.units ≤ u → charge_cost s (k f xs) ≡ charge_cost s (k' f xs)
charged_costs k k' u h f xs s l = decided (nat_le 1 s.units) refl
  where
    decided : (b : Bool) → nat_le 1 s.units ≡ b
        → (if b then k f xs (record s { units = s.units - 1 }) else 0) ≡ (if b then k' f xs (record s { units = s.units - 1 }) else 0)
    decided true e =
        let some : 1 ≤ s.units = leb-true 1 s.units e in
        h (u - 1) (omega arith) f xs (record s { units = s.units - 1 }) (omega arith)
    decided false e = refl

module _ (d : Does) (steady : NeverRaises d) (fs : List Function) where
  both_run_costs : (n m u : ℕ) → u < n → u < m → (f : ℕ) (xs : List Value) (s : State) → s.units ≤ u → run_cost d fs n f xs s ≡ run_cost d fs m f xs s
  both_run_costs zero m u h k f xs s l = absurd (omega arith)
  both_run_costs (suc n) zero u h k f xs s l = absurd (omega arith)
  both_run_costs (suc n) (suc m) u h k f xs s l =
      given_cost_same (slice_get fs f) _ _ (λ function. ap (λ n. suc (suc n))
      (both_cost d steady (run d fs n) (run d fs m) (run_cost d fs n) (run_cost d fs m) u
      (charged_calls (run d fs n) (run d fs m) u (λ w less g ys t few. both_bounds d steady fs n m w (omega arith) (omega arith) g ys t few))
      (charged_costs (run_cost d fs n) (run_cost d fs m) u (λ w less g ys t few. both_run_costs n m w (omega arith) (omega arith) g ys t few))
      function.body xs s l))

  -- What a call costs is what its body costs.
  pub cost_body : (f : ℕ) (xs : List Value) (s : State)
      → cost_of d fs f xs s ≡ given_cost (slice_get fs f) (λ function. suc (suc (cost d (outcome_of d fs) (cost_of d fs) function.body xs s)))
  cost_body f xs s =
      given_cost_same (slice_get fs f) _ _ (λ function. ap (λ n. suc (suc n))
      (both_cost d steady (run d fs s.units) (outcome_of d fs) (run_cost d fs s.units) (cost_of d fs) s.units
      (charged_calls (run d fs s.units) (outcome_of d fs) s.units (λ w less g ys t few.
      more_units t.units w _ _ few (both_bounds d steady fs s.units (suc t.units) t.units (omega arith) (omega arith) g ys t (omega arith))))
      (charged_costs (run_cost d fs s.units) (cost_of d fs) s.units (λ w less g ys t few. both_run_costs s.units (suc t.units) t.units (omega arith) (omega arith) g ys t (omega arith)))
      function.body xs s (omega arith)))
