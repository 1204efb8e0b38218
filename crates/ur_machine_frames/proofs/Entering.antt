-- How terms are entered, branches picked and lists begun.
use Rattle.std.proofs.Common.{◌≡◌, ℕ, suc, ◌+◌, ◌-◌, ◌≤◌, List, [], ◌∷◌, ◌++◌, length, drop, Some, None, refl, sym, ap, subst, ◌∙◌, arith}
use Rattle.std.specs.Prelude.{slice_get, option_map, option_and_then}
use Rattle.std.proofs.Math.Seq.{drop-append_seam}
use Rattle.ur_values.specs.declared.value.Value.{Value}
use Rattle.ur_values.specs.declared.value.Value.TheVariants as v
use Rattle.ur_terms.specs.declared.term.Op.{Op}
use Rattle.ur_terms.specs.declared.term.Branch.{Branch}
use Rattle.ur_terms.specs.declared.term.Term.{Term, out-Term}
use Rattle.ur_terms.specs.declared.term.Term.TheOpen as o
use Rattle.ur_terms.specs.declared.term.Term.TheVariants as t
use Rattle.ur_terms.specs.declared.term.Function.{Function}
use Rattle.ur_terms.specs.State.{State, Outcome, Done, Error, Spent, Stuck, after}
use Rattle.ur_terms.specs.Values.{as_items, open_items}
use Rattle.ur_terms.specs.Ops.{given}
use Rattle.ur_terms.specs.Run.{Does, Calls, eval, eval_list, first_branch, outcome_of}
use Rattle.ur_terms.specs.Cost.{CallsCost, after_cost, given_cost, cost, cost_list, first_cost, cost_of}
use Rattle.ur_terms.proofs.Equations.{eval-Make, eval-Call, eval-Let}
use Rattle.ur_terms.proofs.Cost.{cost-Make, cost-Call, cost-Let}
use Rattle.ur_machine_frames.specs.declared.frame.Frame.{Frame}
use Rattle.ur_machine_frames.specs.declared.frame.Frame.TheVariants as frame
use Rattle.ur_machine_frames.specs.declared.frame.Frames.{Frames}
use Rattle.ur_machine_frames.specs.declared.control.Control.TheVariants as control
use Rattle.ur_machine_frames.specs.declared.control.Next.{Next}
use Rattle.ur_machine_frames.specs.declared.control.Next.TheVariants as next
use Rattle.ur_machine_frames.specs.Rest.{Open, args_of, part, standing, outer, state_of, applied, args_from, items_from, goes_on, frame_goes_on}
use Rattle.ur_machine_frames.specs.Work.{term_cost, frame_cost, going_cost, applied_cost, args_cost, items_cost}
use Rattle.ur_machine_frames.specs.Plays.{until, no_store}
use Rattle.ur_machine_frames.specs.Steps.{Leads, IsSafe, Descends, entering, entering_cost, with_args, with_args_cost, going, going_costs, with_items, with_items_cost}
use Rattle.ur_machine_frames.proofs.Forms.{if_goes, if_costs, case_goes, case_costs, each_goes, each_costs}
use Rattle.ur_machine_frames.proofs.Leading.{gives, branch_tail, transfers, not_stuck, same_safe}
use Rattle.ur_machine_frames.proofs.Descending.{descends, descends_tail}

module _ (fs : List Function) where
  -- ---- branches

  pub picks : (m m₁ m' : Frames) (place q : Term) (bs : List Branch) (k : ℕ) (b : Branch) (xs : List Value) (value : Value) (r : Next)
      → standing fs m.frames ≡ Some place → place ≡ t.Case q bs → slice_get bs k ≡ Some b
      → ((d : Does) (c : Calls) (env : List Value) (s : State) → first_branch d c bs value env s ≡ eval d c b.body (xs ++ env) s)
      → ((d : Does) (c : Calls) (k' : CallsCost) (env : List Value) (s : State) → first_cost d c k' bs value env s ≡ suc (suc (cost d c k' b.body (xs ++ env) s)))
      → m₁ ≡ record m { values = xs ++ m.values } → Descends (frame.Branch k (length xs)) b.body m₁ m' r
      → Leads fs m (going fs frame.Subject place value) (going_costs fs frame.Subject place value) m' r
  picks m m₁ m' place q bs k b xs value r stands is at runs costs e down =
      descends_tail fs m (record m { values = xs ++ m.values }) m' (going fs frame.Subject place value) (going_costs fs frame.Subject place value) (frame.Branch k (length xs)) b.body r (branch_tail fs k (length xs))
      refl (drop-append_seam xs m.values)
      (λ d p store events. ap (λ z. goes_on d (outcome_of d fs) frame.Subject (out-Term z) m.values value (state_of m store events)) is
      ∙ ap (λ z. goes_on d (outcome_of d fs) frame.Subject z m.values value (state_of m store events)) (t.outs-Case q bs)
      ∙ runs d (outcome_of d fs) m.values (state_of m store events))
      (λ d p store events. more _ _
      (ap (λ z. going_cost d fs frame.Subject (out-Term z) m.values value (state_of m store events)) is
      ∙ ap (λ z. going_cost d fs frame.Subject z m.values value (state_of m store events)) (t.outs-Case q bs)
      ∙ costs d (outcome_of d fs) (cost_of d fs) m.values (state_of m store events)))
      (ap (λ z. option_and_then (λ z. part (frame.Branch k (length xs)) (out-Term z)) z) stands ∙ ap (λ z. part (frame.Branch k (length xs)) (out-Term z)) is
      ∙ ap (part (frame.Branch k (length xs))) (t.outs-Case q bs) ∙ ap (option_map (λ b. b.body)) at)
      (subst (λ z. Descends (frame.Branch k (length xs)) b.body z m' r) e down)
    where
      more : (x n : ℕ) → n ≡ suc (suc x) → suc x ≤ n
      more x n f = omega arith

  pub pick_known : (m : Frames) (place q : Term) (bs : List Branch) (value : Value) → place ≡ t.Case q bs
      → ((d : Does) (c : Calls) (env : List Value) (s : State) → first_branch d c bs value env s ≡ Stuck)
      → IsSafe fs m (going fs frame.Subject place value) → ⊥
  pick_known m place q bs value is none safe = not_stuck fs m (going fs frame.Subject place value) safe
      (ap (λ z. goes_on until (outcome_of until fs) frame.Subject (out-Term z) m.values value (state_of m no_store [])) is
      ∙ ap (λ z. goes_on until (outcome_of until fs) frame.Subject z m.values value (state_of m no_store [])) (t.outs-Case q bs)
      ∙ none until (outcome_of until fs) m.values (state_of m no_store []))

  -- ---- lists

  items_of : (value : Value) (items : List Value) → value ≡ v.Many items → as_items value ≡ Some items
  items_of value items e = ap as_items e ∙ ap open_items (v.outs-Many items)

  rows_go : (d : Does) (place rows body : Term) (value : Value) (items env : List Value) (s : State) → place ≡ t.Each rows body → value ≡ v.Many items
      → going fs frame.Rows place value d env s ≡ with_items fs body [] items d env s
  rows_go d place rows body value items env s is e =
      ap (λ z. goes_on d (outcome_of d fs) frame.Rows (out-Term z) env value s) is
      ∙ ap (λ z. goes_on d (outcome_of d fs) frame.Rows z env value s) (t.outs-Each rows body)
      ∙ ap (λ z. given z (λ items. items_from d (outcome_of d fs) body env [] items s)) (items_of value items e)

  rows_cost : (d : Does) (place rows body : Term) (value : Value) (items env : List Value) (s : State) → place ≡ t.Each rows body → value ≡ v.Many items
      → going_costs fs frame.Rows place value d env s ≡ with_items_cost fs body items d env s
  rows_cost d place rows body value items env s is e =
      ap (λ z. going_cost d fs frame.Rows (out-Term z) env value s) is
      ∙ ap (λ z. going_cost d fs frame.Rows z env value s) (t.outs-Each rows body)
      ∙ ap (λ z. given_cost z (λ items. items_cost d fs body env items s)) (items_of value items e)

  pub rows_safe : (m : Frames) (place rows body : Term) (value : Value) (items : List Value) → place ≡ t.Each rows body → value ≡ v.Many items
      → IsSafe fs m (going fs frame.Rows place value) → IsSafe fs m (with_items fs body [] items)
  rows_safe m place rows body value items is e = same_safe fs m (going fs frame.Rows place value) (with_items fs body [] items) (rows_go until place rows body value items m.values (state_of m no_store []) is e)

  pub rows_lead : (m m' : Frames) (place rows body : Term) (value : Value) (items : List Value) (r : Next) → place ≡ t.Each rows body → value ≡ v.Many items
      → Leads fs m (with_items fs body [] items) (with_items_cost fs body items) m' r → Leads fs m (going fs frame.Rows place value) (going_costs fs frame.Rows place value) m' r
  rows_lead m m' place rows body value items r is e l =
      transfers fs m m' (going fs frame.Rows place value) (with_items fs body [] items) (going_costs fs frame.Rows place value) (with_items_cost fs body items) r
      (λ d p s. rows_go d place rows body value items m.values s is e) (λ d p s. same_le _ _ (rows_cost d place rows body value items m.values s is e)) l
    where
      same_le : (x y : ℕ) → x ≡ y → y ≤ x
      same_le x y e = omega arith

  -- ---- terms

  pub enter_part : (m m' : Frames) (place a : Term) (f : Frame) (r : Next) → standing fs m.frames ≡ Some place → outer f m.values ≡ m.values
      → ((d : Does) (env : List Value) (s : State) → eval d (outcome_of d fs) place env s ≡ after (eval d (outcome_of d fs) a env s) (frame_goes_on d (outcome_of d fs) f (Some place) env))
      → ((d : Does) (env : List Value) (s : State) → term_cost d fs a env s + after_cost (eval d (outcome_of d fs) a env s) (λ x u. suc (frame_cost d fs f (Some place) env x u)) ≤ term_cost d fs place env s - 1)
      → standing fs (f ∷ m.frames) ≡ Some a
      → Descends f a m m' r → Leads fs m (entering fs place) (entering_cost fs place) m' r
  enter_part m m' place a f r stands outside h k to down =
      descends fs m m m' (entering fs place) (entering_cost fs place) f a r refl outside
      (λ d p store events. h d m.values (state_of m store events) ∙ ap (λ z. after (eval d (outcome_of d fs) a m.values (state_of m store events)) (frame_goes_on d (outcome_of d fs) f z m.values)) (sym stands))
      (λ d p store events. subst (λ z. term_cost d fs a m.values (state_of m store events) + after_cost (eval d (outcome_of d fs) a m.values (state_of m store events)) (λ x u. suc (frame_cost d fs f z m.values x u)) ≤ term_cost d fs place m.values (state_of m store events) - 1) (sym stands) (k d m.values (state_of m store events)))
      to down

  pub enter_if : (m m' : Frames) (place q a b : Term) (r : Next) → standing fs m.frames ≡ Some place → place ≡ t.If q a b
      → Descends frame.Condition q m m' r → Leads fs m (entering fs place) (entering_cost fs place) m' r
  enter_if m m' place q a b r stands is down = subst (λ z. Leads fs m (entering fs z) (entering_cost fs z) m' r) (sym is)
      (enter_part m m' (t.If q a b) q frame.Condition r (stands ∙ ap Some is) refl (λ d env s. if_goes fs d q a b env s) (λ d env s. if_costs fs d q a b env s)
      (ap (λ z. option_and_then (λ z. part frame.Condition (out-Term z)) z) (stands ∙ ap Some is) ∙ ap (part frame.Condition) (t.outs-If q a b)) down)

  pub enter_case : (m m' : Frames) (place q : Term) (bs : List Branch) (r : Next) → standing fs m.frames ≡ Some place → place ≡ t.Case q bs
      → Descends frame.Subject q m m' r → Leads fs m (entering fs place) (entering_cost fs place) m' r
  enter_case m m' place q bs r stands is down = subst (λ z. Leads fs m (entering fs z) (entering_cost fs z) m' r) (sym is)
      (enter_part m m' (t.Case q bs) q frame.Subject r (stands ∙ ap Some is) refl (λ d env s. case_goes fs d q bs env s) (λ d env s. case_costs fs d q bs env s)
      (ap (λ z. option_and_then (λ z. part frame.Subject (out-Term z)) z) (stands ∙ ap Some is) ∙ ap (part frame.Subject) (t.outs-Case q bs)) down)

  pub enter_each : (m m' : Frames) (place q body : Term) (r : Next) → standing fs m.frames ≡ Some place → place ≡ t.Each q body
      → Descends frame.Rows q m m' r → Leads fs m (entering fs place) (entering_cost fs place) m' r
  enter_each m m' place q body r stands is down = subst (λ z. Leads fs m (entering fs z) (entering_cost fs z) m' r) (sym is)
      (enter_part m m' (t.Each q body) q frame.Rows r (stands ∙ ap Some is) refl (λ d env s. each_goes fs d q body env s) (λ d env s. each_costs fs d q body env s)
      (ap (λ z. option_and_then (λ z. part frame.Rows (out-Term z)) z) (stands ∙ ap Some is) ∙ ap (part frame.Rows) (t.outs-Each q body)) down)

  -- A term with arguments begins with none of them done.
  begin_args : (d : Does) (y : Open) (args : List Term) (env : List Value) (s : State) → args_of y ≡ Some args
      → args_from d (outcome_of d fs) y env [] s ≡ after (eval_list d (outcome_of d fs) args env s) (λ xs u. applied d (outcome_of d fs) y env xs u)
  begin_args d y args env s e = ap (λ z. given z (λ args. after (eval_list d (outcome_of d fs) (drop 0 args) env s) (λ xs u. applied d (outcome_of d fs) y env ([] ++ xs) u))) e

  begin_cost : (d : Does) (y : Open) (args : List Term) (env : List Value) (s : State) → args_of y ≡ Some args
      → args_cost d fs y env [] s ≡ cost_list d (outcome_of d fs) (cost_of d fs) args env s + after_cost (eval_list d (outcome_of d fs) args env s) (λ xs u. applied_cost d fs y env xs u)
  begin_cost d y args env s e = ap (λ z. given_cost z (λ args. cost_list d (outcome_of d fs) (cost_of d fs) (drop 0 args) env s + after_cost (eval_list d (outcome_of d fs) (drop 0 args) env s) (λ xs u. applied_cost d fs y env ([] ++ xs) u))) e

  less_one_of : (x y z : ℕ) → x ≡ y → z ≡ suc y → x ≤ z - 1
  less_one_of x y z e f = omega arith

  no_more : {A : Type 0} (c : ℕ) (w : Outcome A) → c + after_cost w (λ x s. 0) ≡ c
  no_more c (Done x s) = omega arith
  no_more c (Error body events) = omega arith
  no_more c (Spent events) = omega arith
  no_more c Stuck = omega arith

  make_goes : (d : Does) (op : Op) (args : List Term) (env : List Value) (s : State)
      → entering fs (t.Make op args) d env s ≡ with_args fs (t.Make op args) [] d env s
  make_goes d op args env s = eval-Make d (outcome_of d fs) op args env s ∙ sym (begin_args d (o.Make op args) args env s refl)
      ∙ ap (λ y. args_from d (outcome_of d fs) y env [] s) (sym (t.outs-Make op args))

  make_costs : (d : Does) (op : Op) (args : List Term) (env : List Value) (s : State)
      → with_args_cost fs (t.Make op args) [] d env s ≤ entering_cost fs (t.Make op args) d env s
  make_costs d op args env s = less_one_of _ _ _
      (ap (λ y. args_cost d fs y env [] s) (t.outs-Make op args) ∙ begin_cost d (o.Make op args) args env s refl ∙ no_more _ (eval_list d (outcome_of d fs) args env s))
      (cost-Make d (outcome_of d fs) (cost_of d fs) op args env s)

  call_goes : (d : Does) (f : ℕ) (args : List Term) (env : List Value) (s : State)
      → entering fs (t.Call f args) d env s ≡ with_args fs (t.Call f args) [] d env s
  call_goes d f args env s = eval-Call d (outcome_of d fs) f args env s ∙ sym (begin_args d (o.Call f args) args env s refl)
      ∙ ap (λ y. args_from d (outcome_of d fs) y env [] s) (sym (t.outs-Call f args))

  call_costs : (d : Does) (f : ℕ) (args : List Term) (env : List Value) (s : State)
      → with_args_cost fs (t.Call f args) [] d env s ≤ entering_cost fs (t.Call f args) d env s
  call_costs d f args env s = less_one_of _ _ _
      (ap (λ y. args_cost d fs y env [] s) (t.outs-Call f args) ∙ begin_cost d (o.Call f args) args env s refl)
      (cost-Call d (outcome_of d fs) (cost_of d fs) f args env s)

  let_goes : (d : Does) (args : List Term) (body : Term) (env : List Value) (s : State)
      → entering fs (t.Let args body) d env s ≡ with_args fs (t.Let args body) [] d env s
  let_goes d args body env s = eval-Let d (outcome_of d fs) args body env s ∙ sym (begin_args d (o.Let args body) args env s refl)
      ∙ ap (λ y. args_from d (outcome_of d fs) y env [] s) (sym (t.outs-Let args body))

  let_costs : (d : Does) (args : List Term) (body : Term) (env : List Value) (s : State)
      → with_args_cost fs (t.Let args body) [] d env s ≤ entering_cost fs (t.Let args body) d env s
  let_costs d args body env s = less_one_of _ _ _
      (ap (λ y. args_cost d fs y env [] s) (t.outs-Let args body) ∙ begin_cost d (o.Let args body) args env s refl)
      (cost-Let d (outcome_of d fs) (cost_of d fs) args body env s)

  -- what a term with arguments is entered with
  pub record BeginsArgs (place : Term) : Type 0 where
    pub goes : (d : Does) (env : List Value) (s : State) → entering fs place d env s ≡ with_args fs place [] d env s
    pub costs : (d : Does) (env : List Value) (s : State) → with_args_cost fs place [] d env s ≤ entering_cost fs place d env s

  pub make_begins : (place : Term) (op : Op) (args : List Term) → place ≡ t.Make op args → BeginsArgs place
  make_begins place op args e = subst BeginsArgs (sym e) (record { goes = λ d env s. make_goes d op args env s; costs = λ d env s. make_costs d op args env s })

  pub call_begins : (place : Term) (f : ℕ) (args : List Term) → place ≡ t.Call f args → BeginsArgs place
  call_begins place f args e = subst BeginsArgs (sym e) (record { goes = λ d env s. call_goes d f args env s; costs = λ d env s. call_costs d f args env s })

  pub let_begins : (place : Term) (args : List Term) (body : Term) → place ≡ t.Let args body → BeginsArgs place
  let_begins place args body e = subst BeginsArgs (sym e) (record { goes = λ d env s. let_goes d args body env s; costs = λ d env s. let_costs d args body env s })

  pub begins_safe : (m : Frames) (place : Term) (none : List Value) → BeginsArgs place → none ≡ [] → IsSafe fs m (entering fs place) → IsSafe fs m (with_args fs place none)
  begins_safe m place none b e safe = subst (λ l. IsSafe fs m (with_args fs place l)) (sym e) (same_safe fs m (entering fs place) (with_args fs place []) (b.goes until m.values (state_of m no_store [])) safe)

  pub begins_lead : (m m' : Frames) (place : Term) (none : List Value) (r : Next) → BeginsArgs place → none ≡ []
      → Leads fs m (with_args fs place none) (with_args_cost fs place none) m' r → Leads fs m (entering fs place) (entering_cost fs place) m' r
  begins_lead m m' place none r b e l = transfers fs m m' (entering fs place) (with_args fs place []) (entering_cost fs place) (with_args_cost fs place []) r
      (λ d p s. b.goes d m.values s) (λ d p s. b.costs d m.values s) (subst (λ l. Leads fs m (with_args fs place l) (with_args_cost fs place l) m' r) e l)

  -- a term that is a value
  pub enter_value : (m : Frames) (place : Term) (x : Value) → ((d : Does) (env : List Value) (s : State) → env ≡ m.values → entering fs place d env s ≡ Done x s)
      → Leads fs m (entering fs place) (entering_cost fs place) m (next.On (control.Give x))
  enter_value m place x h = gives fs m m (entering fs place) (entering_cost fs place) x refl refl (λ d p store events. h d m.values (state_of m store events) refl)

  pub enter_variable : (m : Frames) (place : Term) (i : ℕ) (x : Value) → place ≡ t.Variable i → slice_get m.values i ≡ Some x
      → Leads fs m (entering fs place) (entering_cost fs place) m (next.On (control.Give x))
  enter_variable m place i x is e = enter_value m place x (λ d env s same. ap (λ z. eval d (outcome_of d fs) z env s) is ∙ ap (λ l. given (slice_get l i) (λ x. Done x s)) same ∙ ap (λ z. given z (λ x. Done x s)) e)

  pub known_variable : (m : Frames) (place : Term) (i : ℕ) → place ≡ t.Variable i → slice_get m.values i ≡ None → IsSafe fs m (entering fs place) → ⊥
  known_variable m place i is e safe = not_stuck fs m (entering fs place) safe
      (ap (λ z. eval until (outcome_of until fs) z m.values (state_of m no_store [])) is ∙ ap (λ z. given z (λ x. Done x (state_of m no_store []))) e)
