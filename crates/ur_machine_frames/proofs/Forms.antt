-- How each form of term is entered.
use Rattle.std.proofs.Common.{◌≡◌, ℕ, zero, suc, ◌+◌, ◌-◌, ◌≤◌, List, [], ◌∷◌, ◌++◌, length, drop, Some, None, refl, sym, ap, ◌∙◌, arith, length-append}
use Rattle.std.proofs.lemmas.List.{append-nil}
use Rattle.std.proofs.Math.Seq.{append_snoc}
use Rattle.std.specs.Prelude.{slice_get}
use Rattle.ur_values.specs.declared.value.Value.{Value}
use Rattle.ur_terms.specs.declared.term.Branch.{Branch}
use Rattle.ur_terms.specs.declared.term.Term.{Term}
use Rattle.ur_terms.specs.declared.term.Term.TheVariants as t
use Rattle.ur_terms.specs.declared.term.Function.{Function}
use Rattle.ur_terms.specs.State.{State, Outcome, Done, Error, Spent, Stuck, after}
use Rattle.ur_terms.specs.Ops.{given}
use Rattle.ur_terms.specs.Run.{Does, eval, eval_list, for_each, joined, outcome_of}
use Rattle.ur_terms.specs.Cost.{after_cost, given_cost, cost_list, cost_of}
use Rattle.ur_terms.proofs.Equations.{after_same, after_after, eval-If, eval-Case, eval-Each}
use Rattle.ur_terms.proofs.Cost.{after_cost_same, cost-If, cost-Case, cost-Each}
use Rattle.ur_machine_frames.specs.declared.frame.Frame.TheVariants as frame
use Rattle.ur_machine_frames.specs.Rest.{Open, args_of, applied, args_from, items_from, goes_on, frame_goes_on}
use Rattle.ur_machine_frames.specs.Work.{term_cost, applied_cost, args_cost, going_cost, frame_cost}

one_less : (x y z : ℕ) → x ≡ y → z ≡ suc y → x ≤ z - 1
one_less x y z e f = omega arith

module _ (fs : List Function) (d : Does) (q a b : Term) (env : List Value) (s : State) where
  pub if_goes : eval d (outcome_of d fs) (t.If q a b) env s
      ≡ after (eval d (outcome_of d fs) q env s) (frame_goes_on d (outcome_of d fs) frame.Condition (Some (t.If q a b)) env)
  if_goes = eval-If d (outcome_of d fs) q a b env s
      ∙ after_same (eval d (outcome_of d fs) q env s) _ _ (λ y u. ap (λ p. goes_on d (outcome_of d fs) frame.Condition p env y u) (sym (t.outs-If q a b)))

  pub if_costs : term_cost d fs q env s + after_cost (eval d (outcome_of d fs) q env s) (λ x u. suc (frame_cost d fs frame.Condition (Some (t.If q a b)) env x u))
      ≤ term_cost d fs (t.If q a b) env s - 1
  if_costs = one_less _ _ _
      (ap (λ n. term_cost d fs q env s + n) (after_cost_same (eval d (outcome_of d fs) q env s) _ _ (λ y u.
      ap (λ p. suc (going_cost d fs frame.Condition p env y u)) (t.outs-If q a b))))
      (cost-If d (outcome_of d fs) (cost_of d fs) q a b env s)

module _ (fs : List Function) (d : Does) (x : Term) (bs : List Branch) (env : List Value) (s : State) where
  pub case_goes : eval d (outcome_of d fs) (t.Case x bs) env s
      ≡ after (eval d (outcome_of d fs) x env s) (frame_goes_on d (outcome_of d fs) frame.Subject (Some (t.Case x bs)) env)
  case_goes = eval-Case d (outcome_of d fs) x bs env s
      ∙ after_same (eval d (outcome_of d fs) x env s) _ _ (λ y u. ap (λ p. goes_on d (outcome_of d fs) frame.Subject p env y u) (sym (t.outs-Case x bs)))

  pub case_costs : term_cost d fs x env s + after_cost (eval d (outcome_of d fs) x env s) (λ y u. suc (frame_cost d fs frame.Subject (Some (t.Case x bs)) env y u))
      ≤ term_cost d fs (t.Case x bs) env s - 1
  case_costs = one_less _ _ _
      (ap (λ n. term_cost d fs x env s + n) (after_cost_same (eval d (outcome_of d fs) x env s) _ _ (λ y u.
      ap (λ p. suc (going_cost d fs frame.Subject p env y u)) (t.outs-Case x bs))))
      (cost-Case d (outcome_of d fs) (cost_of d fs) x bs env s)

module _ (fs : List Function) (d : Does) (x body : Term) (env : List Value) (s : State) where
  pub each_goes : eval d (outcome_of d fs) (t.Each x body) env s
      ≡ after (eval d (outcome_of d fs) x env s) (frame_goes_on d (outcome_of d fs) frame.Rows (Some (t.Each x body)) env)
  each_goes = eval-Each d (outcome_of d fs) x body env s
      ∙ after_same (eval d (outcome_of d fs) x env s) _ _ (λ y u. ap (λ p. goes_on d (outcome_of d fs) frame.Rows p env y u) (sym (t.outs-Each x body)))

  pub each_costs : term_cost d fs x env s + after_cost (eval d (outcome_of d fs) x env s) (λ y u. suc (frame_cost d fs frame.Rows (Some (t.Each x body)) env y u))
      ≤ term_cost d fs (t.Each x body) env s - 1
  each_costs = one_less _ _ _
      (ap (λ n. term_cost d fs x env s + n) (after_cost_same (eval d (outcome_of d fs) x env s) _ _ (λ y u.
      ap (λ p. suc (going_cost d fs frame.Rows p env y u)) (t.outs-Each x body))))
      (cost-Each d (outcome_of d fs) (cost_of d fs) x body env s)

-- ---- arguments

pub drop_at : {A : Type 0} (n : ℕ) (xs : List A) (a : A) → slice_get xs n ≡ Some a → drop n xs ≡ a ∷ drop (suc n) xs
drop_at zero [] a e = cc
drop_at zero (x ∷ xs) a e = cc
drop_at (suc n) [] a e = cc
drop_at (suc n) (x ∷ xs) a e = drop_at n xs a e

pub drop_past : {A : Type 0} (n : ℕ) (xs : List A) → slice_get xs n ≡ None → drop n xs ≡ []
drop_past zero [] e = refl
drop_past zero (x ∷ xs) e = cc
drop_past (suc n) [] e = refl
drop_past (suc n) (x ∷ xs) e = drop_past n xs e

one_more_of : {A : Type 0} (xs : List A) (x : A) → length (xs ++ x ∷ []) ≡ suc (length xs)
one_more_of xs x = omega (arith, length-append xs (x ∷ []))

split_cost : {A B : Type 0} (w : Outcome A) (c : ℕ) (f : A → State → ℕ) (go : A → State → Outcome B) (k : B → State → ℕ)
    → c + after_cost w (λ y u. suc (f y u + after_cost (go y u) k)) ≤ (c + after_cost w (λ y u. suc (f y u))) + after_cost (after w go) k
split_cost (Done x s) c f go k = omega arith
split_cost (Error body events) c f go k = omega arith
split_cost (Spent events) c f go k = omega arith
split_cost Stuck c f go k = omega arith

after_cost_after : {A B : Type 0} (w : Outcome A) (go : A → State → Outcome B) (k : B → State → ℕ)
    → after_cost (after w go) k ≡ after_cost w (λ x s. after_cost (go x s) k)
after_cost_after (Done x s) go k = refl
after_cost_after (Error body events) go k = refl
after_cost_after (Spent events) go k = refl
after_cost_after Stuck go k = refl

module _ (fs : List Function) (d : Does) (p : Open) (args : List Term) (some : args_of p ≡ Some args) (env : List Value) where
  from_args : (done : List Value) (more : List Term) (s : State) → drop (length done) args ≡ more
      → args_from d (outcome_of d fs) p env done s ≡ after (eval_list d (outcome_of d fs) more env s) (λ ys u. applied d (outcome_of d fs) p env (done ++ ys) u)
  from_args done more s e =
      ap (λ a. given a (λ args. after (eval_list d (outcome_of d fs) (drop (length done) args) env s) (λ ys u. applied d (outcome_of d fs) p env (done ++ ys) u))) some
      ∙ ap (λ l. after (eval_list d (outcome_of d fs) l env s) (λ ys u. applied d (outcome_of d fs) p env (done ++ ys) u)) e

  from_costs : (done : List Value) (more : List Term) (s : State) → drop (length done) args ≡ more
      → args_cost d fs p env done s ≡ cost_list d (outcome_of d fs) (cost_of d fs) more env s
      + after_cost (eval_list d (outcome_of d fs) more env s) (λ ys u. applied_cost d fs p env (done ++ ys) u)
  from_costs done more s e =
      ap (λ a. given_cost a (λ args. cost_list d (outcome_of d fs) (cost_of d fs) (drop (length done) args) env s
      + after_cost (eval_list d (outcome_of d fs) (drop (length done) args) env s) (λ ys u. applied_cost d fs p env (done ++ ys) u))) some
      ∙ ap (λ l. cost_list d (outcome_of d fs) (cost_of d fs) l env s
      + after_cost (eval_list d (outcome_of d fs) l env s) (λ ys u. applied_cost d fs p env (done ++ ys) u)) e

  -- all arguments are there
  pub args_end : (done : List Value) (s : State) → slice_get args (length done) ≡ None
      → args_from d (outcome_of d fs) p env done s ≡ applied d (outcome_of d fs) p env done s
  args_end done s e = from_args done [] s (drop_past (length done) args e) ∙ ap (λ xs. applied d (outcome_of d fs) p env xs s) (append-nil done)

  pub args_end_cost : (done : List Value) (s : State) → slice_get args (length done) ≡ None
      → applied_cost d fs p env done s ≤ args_cost d fs p env done s
  args_end_cost done s e =
      as_much _ _ _ (from_costs done [] s (drop_past (length done) args e)) (ap (λ xs. applied_cost d fs p env xs s) (append-nil done))
    where
      as_much : (x y z : ℕ) → z ≡ 0 + y → y ≡ x → x ≤ z
      as_much x y z e f = omega arith

  -- the next argument is evaluated
  pub args_next : (done : List Value) (a : Term) (s : State) → slice_get args (length done) ≡ Some a
      → args_from d (outcome_of d fs) p env done s ≡ after (eval d (outcome_of d fs) a env s) (λ x u. args_from d (outcome_of d fs) p env (done ++ x ∷ []) u)
  args_next done a s e =
      let more = drop (suc (length done)) args in
      from_args done (a ∷ more) s (drop_at (length done) args a e)
      ∙ after_after (eval d (outcome_of d fs) a env s) _ _
      ∙ after_same (eval d (outcome_of d fs) a env s) _ _ (λ x u.
      after_after (eval_list d (outcome_of d fs) more env u) _ _
      ∙ after_same (eval_list d (outcome_of d fs) more env u) _ _ (λ ys w. ap (λ zs. applied d (outcome_of d fs) p env zs w) (sym (append_snoc done x ys)))
      ∙ sym (from_args (done ++ x ∷ []) more u (ap (λ n. drop n args) (one_more_of done x))))

  pub args_next_cost : (done : List Value) (a : Term) (s : State) → slice_get args (length done) ≡ Some a
      → term_cost d fs a env s + after_cost (eval d (outcome_of d fs) a env s) (λ x u. suc (args_cost d fs p env (done ++ x ∷ []) u)) ≤ args_cost d fs p env done s
  args_next_cost done a s e =
      let more = drop (suc (length done)) args in
      let k = λ (ys : List Value) (u : State). applied_cost d fs p env (done ++ ys) u in
      let go = λ (y : Value) (u : State). after (eval_list d (outcome_of d fs) more env u) (λ ys w. Done (y ∷ ys) w) in
      le_of _ _ _ _
      (ap (λ n. term_cost d fs a env s + n) (after_cost_same (eval d (outcome_of d fs) a env s) _ _ (λ x u. ap suc
      (from_costs (done ++ x ∷ []) more u (ap (λ n. drop n args) (one_more_of done x))
      ∙ ap (λ n. cost_list d (outcome_of d fs) (cost_of d fs) more env u + n)
      (after_cost_same (eval_list d (outcome_of d fs) more env u) _ _ (λ ys w. ap (λ zs. applied_cost d fs p env zs w) (append_snoc done x ys))
      ∙ sym (after_cost_after (eval_list d (outcome_of d fs) more env u) (λ ys w. Done (x ∷ ys) w) k))))))
      (split_cost (eval d (outcome_of d fs) a env s) (term_cost d fs a env s) (λ y u. cost_list d (outcome_of d fs) (cost_of d fs) more env u) go k)
      (from_costs done (a ∷ more) s (drop_at (length done) args a e))
    where
      le_of : (x y z w : ℕ) → x ≡ y → y ≤ z → w ≡ z → x ≤ w
      le_of x y z w e h f = omega arith

-- ---- frames that are left with the value of their part

pub after_done : {A : Type 0} (w : Outcome A) → w ≡ after w (λ x s. Done x s)
after_done (Done x s) = refl
after_done (Error body events) = refl
after_done (Spent events) = refl
after_done Stuck = refl

pub one_step : {A : Type 0} (w : Outcome A) (c n : ℕ) → suc c ≤ n → c + after_cost w (λ x s. suc 0) ≤ n
one_step (Done x s) c n h = omega arith
one_step (Error body events) c n h = omega arith
one_step (Spent events) c n h = omega arith
one_step Stuck c n h = omega arith

-- ---- items

module _ (fs : List Function) (d : Does) (body : Term) (env : List Value) where
  pub items_next : (done : List Value) (y : Value) (more : List Value) (s : State)
      → items_from d (outcome_of d fs) body env done (y ∷ more) s
      ≡ after (eval d (outcome_of d fs) body (y ∷ env) s) (λ x u. items_from d (outcome_of d fs) body env (done ++ x ∷ []) more u)
  items_next done y more s =
      after_after (eval d (outcome_of d fs) body (y ∷ env) s) _ _
      ∙ after_same (eval d (outcome_of d fs) body (y ∷ env) s) _ _ (λ x u.
      after_after (for_each (λ z. eval d (outcome_of d fs) body (z ∷ env)) more u) _ _
      ∙ after_same (for_each (λ z. eval d (outcome_of d fs) body (z ∷ env)) more u) _ _ (λ ys w. ap (λ zs. joined zs w) (sym (append_snoc done x ys))))

  pub items_end : (done : List Value) (s : State) → items_from d (outcome_of d fs) body env done [] s ≡ joined done s
  items_end done s = ap (λ xs. joined xs s) (append-nil done)
