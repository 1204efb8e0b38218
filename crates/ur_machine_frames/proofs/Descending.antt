-- Steps that enter a part under a new frame.
use Rattle.std.proofs.Common.{◌≡◌, ℕ, suc, ◌+◌, ◌-◌, ◌≤◌, Bool, true, false, if◌then◌else◌, List, [], ◌∷◌, ◌++◌, length, drop, Option, Some, None, refl, sym, ap, subst, ◌∙◌, arith}
use Rattle.std.specs.Prelude.{slice_get, option_and_then}
use Rattle.std.proofs.Math.Seq.{drop-append_seam}
use Rattle.ur_values.specs.declared.value.Value.{Value}
use Rattle.ur_values.specs.Event.{Event}
use Rattle.ur_values.specs.Store.{Store}
use Rattle.ur_terms.specs.declared.term.Term.{Term, out-Term}
use Rattle.ur_terms.specs.declared.term.Term.TheVariants as t
use Rattle.ur_terms.specs.declared.term.Function.{Function}
use Rattle.ur_terms.specs.State.{State, Done, Spent, Stuck, after}
use Rattle.ur_terms.specs.Values.{as_bool}
use Rattle.ur_terms.specs.Ops.{given}
use Rattle.ur_terms.specs.Run.{Does, eval, eval_list, outcome_of, joined}
use Rattle.ur_terms.specs.Cost.{after_cost, given_cost}
use Rattle.ur_machine_frames.specs.declared.frame.Frame.{Frame}
use Rattle.ur_machine_frames.specs.declared.frame.Frame.TheVariants as frame
use Rattle.ur_machine_frames.specs.declared.frame.Frames.{Frames}
use Rattle.ur_machine_frames.specs.declared.control.Control.TheVariants as control
use Rattle.ur_machine_frames.specs.declared.control.Pause.TheVariants as pause
use Rattle.ur_machine_frames.specs.declared.control.Next.{Next}
use Rattle.ur_machine_frames.specs.declared.control.Next.TheVariants as next
use Rattle.ur_machine_frames.specs.Rest.{args_of, part, standing, outer, state_of, applied, goes_on, frame_goes_on}
use Rattle.ur_machine_frames.specs.Work.{term_cost, frame_cost, going_cost}
use Rattle.ur_machine_frames.specs.Plays.{Plays, until, no_store}
use Rattle.ur_machine_frames.specs.Steps.{Doing, Costs, Leads, IsSafe, Descends, with_args, with_args_cost, applying, applying_cost, calling, calling_cost, binding, binding_cost, going, going_costs, with_items, with_items_cost}
use Rattle.ur_terms.proofs.Equations.{after_same}
use Rattle.ur_terms.proofs.Cost.{after_cost_same}
use Rattle.ur_machine_frames.proofs.Forms.{args_next, args_next_cost, args_end, args_end_cost, items_next, items_end}
use Rattle.ur_machine_frames.proofs.Leading.{gives, spends, enters, enters_tail, IsTail, let_tail, side_tail, wants_memory, transfers, not_stuck, same_safe, call_enters}

module _ (fs : List Function) where
  -- a part is entered under a frame, from a machine whose variables may have changed before
  pub descends : (m m₁ m' : Frames) (w : Doing) (n : Costs) (f : Frame) (a : Term) (r : Next)
      → m₁.frames ≡ m.frames → outer f m₁.values ≡ m.values
      → ((d : Does) → Plays d → (store : Store) (events : List Event) → w d m.values (state_of m store events)
      ≡ after (eval d (outcome_of d fs) a m₁.values (state_of m₁ store events)) (frame_goes_on d (outcome_of d fs) f (standing fs m.frames) m.values))
      → ((d : Does) → Plays d → (store : Store) (events : List Event) → term_cost d fs a m₁.values (state_of m₁ store events)
      + after_cost (eval d (outcome_of d fs) a m₁.values (state_of m₁ store events)) (λ x u. suc (frame_cost d fs f (standing fs m.frames) m.values x u))
      ≤ n d m.values (state_of m store events))
      → standing fs (f ∷ m.frames) ≡ Some a
      → Descends f a m₁ m' r → Leads fs m w n m' r
  descends m m₁ m' w n f a (next.On (control.Enter r)) e outside h k stands down =
      subst (λ z. Leads fs m w n z (next.On (control.Enter r))) (sym down.1)
      (enters fs m (record m₁ { frames = f ∷ m₁.frames }) w n f r (ap (λ fr. f ∷ fr) e) outside
      (λ d p store events. h d p store events ∙ ap (λ b. after (eval d (outcome_of d fs) b m₁.values (state_of m₁ store events)) (frame_goes_on d (outcome_of d fs) f (standing fs m.frames) m.values)) (sym down.0))
      (λ d p store events. subst (λ b. term_cost d fs b m₁.values (state_of m₁ store events)
      + after_cost (eval d (outcome_of d fs) b m₁.values (state_of m₁ store events)) (λ x u. suc (frame_cost d fs f (standing fs m.frames) m.values x u)) ≤ n d m.values (state_of m store events))
      (sym down.0) (k d p store events))
      (stands ∙ ap Some (sym down.0)))
  descends m m₁ m' w n f a (next.On (control.Give x)) e outside h k stands down = absurd down
  descends m m₁ m' w n f a (next.Off (pause.Page x)) e outside h k stands down = absurd down
  descends m m₁ m' w n f a (next.Off (pause.Failed x)) e outside h k stands down = absurd down
  descends m m₁ m' w n f a (next.Off pause.Spent) e outside h k stands down = absurd down
  descends m m₁ m' w n f a (next.Off (pause.Store op xs)) e outside h k stands down = absurd down
  descends m m₁ m' w n f a (next.Off pause.Memory) e outside h k stands down = wants_memory fs m m' w n

  pub descends_tail : (m m₁ m' : Frames) (w : Doing) (n : Costs) (f : Frame) (a : Term) (r : Next) → IsTail fs f
      → m₁.frames ≡ m.frames → outer f m₁.values ≡ m.values
      → ((d : Does) → Plays d → (store : Store) (events : List Event) → w d m.values (state_of m store events)
      ≡ eval d (outcome_of d fs) a m₁.values (state_of m₁ store events))
      → ((d : Does) → Plays d → (store : Store) (events : List Event) → suc (term_cost d fs a m₁.values (state_of m₁ store events)) ≤ n d m.values (state_of m store events))
      → standing fs (f ∷ m.frames) ≡ Some a
      → Descends f a m₁ m' r → Leads fs m w n m' r
  descends_tail m m₁ m' w n f a (next.On (control.Enter r)) tail e outside h k stands down =
      subst (λ z. Leads fs m w n z (next.On (control.Enter r))) (sym down.1)
      (enters_tail fs m (record m₁ { frames = f ∷ m₁.frames }) w n f r tail (ap (λ fr. f ∷ fr) e) outside
      (λ d p store events. h d p store events ∙ ap (λ b. eval d (outcome_of d fs) b m₁.values (state_of m₁ store events)) (sym down.0))
      (λ d p store events. subst (λ b. suc (term_cost d fs b m₁.values (state_of m₁ store events)) ≤ n d m.values (state_of m store events)) (sym down.0) (k d p store events))
      (stands ∙ ap Some (sym down.0)))
  descends_tail m m₁ m' w n f a (next.On (control.Give x)) tail e outside h k stands down = absurd down
  descends_tail m m₁ m' w n f a (next.Off (pause.Page x)) tail e outside h k stands down = absurd down
  descends_tail m m₁ m' w n f a (next.Off (pause.Failed x)) tail e outside h k stands down = absurd down
  descends_tail m m₁ m' w n f a (next.Off pause.Spent) tail e outside h k stands down = absurd down
  descends_tail m m₁ m' w n f a (next.Off (pause.Store op xs)) tail e outside h k stands down = absurd down
  descends_tail m m₁ m' w n f a (next.Off pause.Memory) tail e outside h k stands down = wants_memory fs m m' w n

  -- ---- let

  pub binds : (m m₁ m' : Frames) (place body : Term) (args : List Value) (r : Next)
      → standing fs m.frames ≡ Some place → ((xs : List Term) × (place ≡ t.Let xs body))
      → m₁ ≡ record m { values = args ++ m.values } → Descends (frame.LetBody (length args)) body m₁ m' r
      → Leads fs m (binding fs body args) (binding_cost fs body args) m' r
  binds m m₁ m' place body args r stands is e down =
      descends_tail m (record m { values = args ++ m.values }) m' (binding fs body args) (binding_cost fs body args) (frame.LetBody (length args)) body r (let_tail fs (length args))
      refl (drop-append_seam args m.values) (λ d p store events. refl) (λ d p store events. omega arith)
      (ap (λ a. option_and_then (λ a. part (frame.LetBody (length args)) (out-Term a)) a) stands
      ∙ ap (λ a. part (frame.LetBody (length args)) (out-Term a)) is.1 ∙ ap (part (frame.LetBody (length args))) (t.outs-Let is.0 body))
      (subst (λ z. Descends (frame.LetBody (length args)) body z m' r) e down)

  -- ---- arguments

  next_leads : (m m' : Frames) (place : Term) (done : List Value) (a : Term) (r : Next) (args : Option (List Term)) → args_of (out-Term place) ≡ args
      → standing fs m.frames ≡ Some place → option_and_then (λ xs. slice_get xs (length done)) args ≡ Some a
      → Descends (frame.Args done) a m m' r → Leads fs m (with_args fs place done) (with_args_cost fs place done) m' r
  next_leads m m' place done a r None ea stands e down = cc
  next_leads m m' place done a r (Some args) ea stands e down =
      descends m m m' (with_args fs place done) (with_args_cost fs place done) (frame.Args done) a r refl refl
      (λ d p store events. args_next fs d (out-Term place) args ea m.values done a (state_of m store events) e
      ∙ ap (λ z. after (eval d (outcome_of d fs) a m.values (state_of m store events)) (frame_goes_on d (outcome_of d fs) (frame.Args done) z m.values)) (sym stands))
      (λ d p store events. subst (λ z. term_cost d fs a m.values (state_of m store events)
      + after_cost (eval d (outcome_of d fs) a m.values (state_of m store events)) (λ x u. suc (frame_cost d fs (frame.Args done) z m.values x u)) ≤ with_args_cost fs place done d m.values (state_of m store events))
      (sym stands) (args_next_cost fs d (out-Term place) args ea m.values done a (state_of m store events) e))
      (ap (λ z. option_and_then (λ z. part (frame.Args done) (out-Term z)) z) stands ∙ ap (λ z. option_and_then (λ xs. slice_get xs (length done)) z) ea ∙ e)
      down

  pub next_argument_leads : (m m' : Frames) (place : Term) (done : List Value) (a : Term) (r : Next)
      → standing fs m.frames ≡ Some place → option_and_then (λ xs. slice_get xs (length done)) (args_of (out-Term place)) ≡ Some a
      → Descends (frame.Args done) a m m' r → Leads fs m (with_args fs place done) (with_args_cost fs place done) m' r
  next_argument_leads m m' place done a r stands e down = next_leads m m' place done a r (args_of (out-Term place)) refl stands e down

  -- all arguments are there
  no_argument : (d : Does) (place : Term) (done : List Value) (env : List Value) (s : State) (args : Option (List Term)) → args_of (out-Term place) ≡ args
      → option_and_then (λ xs. slice_get xs (length done)) args ≡ None
      → ((args ≡ None) → ⊥)
      → (with_args fs place done d env s ≡ applying fs place done d env s) × (applying_cost fs place done d env s ≤ with_args_cost fs place done d env s)
  no_argument d place done env s None ea e known = absurd (known refl)
  no_argument d place done env s (Some args) ea e known =
      (args_end fs d (out-Term place) args ea env done s e, args_end_cost fs d (out-Term place) args ea env done s e)

  pub has_args : (m : Frames) (place : Term) (done : List Value) → IsSafe fs m (with_args fs place done) → (args_of (out-Term place) ≡ None) → ⊥
  has_args m place done safe e = not_stuck fs m (with_args fs place done) safe
      (ap (λ z. given z (λ args. after (eval_list until (outcome_of until fs) (drop (length done) args) m.values (state_of m no_store [])) (λ ys u. applied until (outcome_of until fs) (out-Term place) m.values (done ++ ys) u))) e)

  pub all_arguments_safe : (m : Frames) (place : Term) (done : List Value)
      → option_and_then (λ xs. slice_get xs (length done)) (args_of (out-Term place)) ≡ None
      → IsSafe fs m (with_args fs place done) → IsSafe fs m (applying fs place done)
  all_arguments_safe m place done e safe = same_safe fs m (with_args fs place done) (applying fs place done)
      (no_argument until place done m.values (state_of m no_store []) (args_of (out-Term place)) refl e (has_args m place done safe)).0 safe

  pub all_arguments : (m m' : Frames) (place : Term) (done : List Value) (r : Next)
      → option_and_then (λ xs. slice_get xs (length done)) (args_of (out-Term place)) ≡ None
      → IsSafe fs m (with_args fs place done)
      → Leads fs m (applying fs place done) (applying_cost fs place done) m' r → Leads fs m (with_args fs place done) (with_args_cost fs place done) m' r
  all_arguments m m' place done r e safe l = transfers fs m m' (with_args fs place done) (applying fs place done) (with_args_cost fs place done) (applying_cost fs place done) r
      (λ d p s. (no_argument d place done m.values s (args_of (out-Term place)) refl e (has_args m place done safe)).0)
      (λ d p s. (no_argument d place done m.values s (args_of (out-Term place)) refl e (has_args m place done safe)).1) l

  -- ---- choices

  pub chooses : (m m' : Frames) (place q a b : Term) (value : Value) (yes_side : Bool) (part_of : Term) (r : Next)
      → standing fs m.frames ≡ Some place → place ≡ t.If q a b → as_bool value ≡ Some yes_side
      → (if yes_side then a else b) ≡ part_of
      → Descends (frame.Side yes_side) part_of m m' r
      → Leads fs m (going fs frame.Condition place value) (going_costs fs frame.Condition place value) m' r
  chooses m m' place q a b value true part_of r stands is bool e down =
      descends_tail m m m' (going fs frame.Condition place value) (going_costs fs frame.Condition place value) (frame.Side true) part_of r (side_tail fs true) refl refl
      (λ d p store events. ap (λ z. goes_on d (outcome_of d fs) frame.Condition (out-Term z) m.values value (state_of m store events)) is
      ∙ ap (λ z. goes_on d (outcome_of d fs) frame.Condition z m.values value (state_of m store events)) (t.outs-If q a b)
      ∙ ap (λ z. given z (λ c. if c then eval d (outcome_of d fs) a m.values (state_of m store events) else eval d (outcome_of d fs) b m.values (state_of m store events))) bool
      ∙ ap (λ z. eval d (outcome_of d fs) z m.values (state_of m store events)) e)
      (λ d p store events. more _ _ _ (ap (λ z. going_cost d fs frame.Condition (out-Term z) m.values value (state_of m store events)) is
      ∙ ap (λ z. going_cost d fs frame.Condition z m.values value (state_of m store events)) (t.outs-If q a b)
      ∙ ap (λ z. given_cost z (λ c. if c then suc (suc (term_cost d fs a m.values (state_of m store events))) else suc (suc (term_cost d fs b m.values (state_of m store events))))) bool)
      (ap (λ z. term_cost d fs z m.values (state_of m store events)) e))
      (ap (λ z. option_and_then (λ z. part (frame.Side true) (out-Term z)) z) stands ∙ ap (λ z. part (frame.Side true) (out-Term z)) is ∙ ap (part (frame.Side true)) (t.outs-If q a b) ∙ ap Some e)
      down
    where
      more : (x y n : ℕ) → n ≡ suc (suc x) → x ≡ y → suc y ≤ n
      more x y n f g = omega arith
  chooses m m' place q a b value false part_of r stands is bool e down =
      descends_tail m m m' (going fs frame.Condition place value) (going_costs fs frame.Condition place value) (frame.Side false) part_of r (side_tail fs false) refl refl
      (λ d p store events. ap (λ z. goes_on d (outcome_of d fs) frame.Condition (out-Term z) m.values value (state_of m store events)) is
      ∙ ap (λ z. goes_on d (outcome_of d fs) frame.Condition z m.values value (state_of m store events)) (t.outs-If q a b)
      ∙ ap (λ z. given z (λ c. if c then eval d (outcome_of d fs) a m.values (state_of m store events) else eval d (outcome_of d fs) b m.values (state_of m store events))) bool
      ∙ ap (λ z. eval d (outcome_of d fs) z m.values (state_of m store events)) e)
      (λ d p store events. more _ _ _ (ap (λ z. going_cost d fs frame.Condition (out-Term z) m.values value (state_of m store events)) is
      ∙ ap (λ z. going_cost d fs frame.Condition z m.values value (state_of m store events)) (t.outs-If q a b)
      ∙ ap (λ z. given_cost z (λ c. if c then suc (suc (term_cost d fs a m.values (state_of m store events))) else suc (suc (term_cost d fs b m.values (state_of m store events))))) bool)
      (ap (λ z. term_cost d fs z m.values (state_of m store events)) e))
      (ap (λ z. option_and_then (λ z. part (frame.Side false) (out-Term z)) z) stands ∙ ap (λ z. part (frame.Side false) (out-Term z)) is ∙ ap (part (frame.Side false)) (t.outs-If q a b) ∙ ap Some e)
      down
    where
      more : (x y n : ℕ) → n ≡ suc (suc x) → x ≡ y → suc y ≤ n
      more x y n f g = omega arith

  -- ---- items

  pub next_item_leads : (m m₁ m' : Frames) (place body : Term) (done : List Value) (y : Value) (more : List Value) (r : Next)
      → standing fs m.frames ≡ Some place → ((rows : Term) × (place ≡ t.Each rows body))
      → m₁ ≡ record m { values = y ∷ m.values } → Descends (frame.Item done more) body m₁ m' r
      → Leads fs m (with_items fs body done (y ∷ more)) (with_items_cost fs body (y ∷ more)) m' r
  next_item_leads m m₁ m' place body done y more r stands is e down =
      let here = stands ∙ ap Some is.1 in
      descends m (record m { values = y ∷ m.values }) m' (with_items fs body done (y ∷ more)) (with_items_cost fs body (y ∷ more)) (frame.Item done more) body r refl refl
      (λ d p store events. items_next fs d body m.values done y more (state_of m store events)
      ∙ after_same (eval d (outcome_of d fs) body (y ∷ m.values) (state_of m store events)) _ _ (λ x u.
      ap (λ z. goes_on d (outcome_of d fs) (frame.Item done more) z m.values x u) (sym (t.outs-Each is.0 body)))
      ∙ ap (λ z. after (eval d (outcome_of d fs) body (y ∷ m.values) (state_of m store events)) (frame_goes_on d (outcome_of d fs) (frame.Item done more) z m.values)) (sym here))
      (λ d p store events. item_cost _ _
      (ap (λ n. term_cost d fs body (y ∷ m.values) (state_of m store events) + n) (after_cost_same (eval d (outcome_of d fs) body (y ∷ m.values) (state_of m store events)) _ _ (λ x u. ap suc
      (ap (λ z. frame_cost d fs (frame.Item done more) z m.values x u) here ∙ ap (λ z. going_cost d fs (frame.Item done more) z m.values x u) (t.outs-Each is.0 body))))))
      (ap (λ z. option_and_then (λ z. part (frame.Item done more) (out-Term z)) z) here ∙ ap (part (frame.Item done more)) (t.outs-Each is.0 body))
      (subst (λ z. Descends (frame.Item done more) body z m' r) e down)
    where
      item_cost : (x y : ℕ) → x ≡ y → x ≤ suc y
      item_cost x y e = omega arith

  pub items_join : (m m' : Frames) (body : Term) (done more : List Value) (x : Value) → more ≡ [] → ((s : State) → joined done s ≡ Done x s)
      → Leads fs m (with_items fs body done more) (with_items_cost fs body more) m (next.On (control.Give x))
  items_join m m' body done more x e h = gives fs m m (with_items fs body done more) (with_items_cost fs body more) x refl refl
      (λ d p store events. ap (λ l. with_items fs body done l d m.values (state_of m store events)) e ∙ items_end fs d body m.values done (state_of m store events) ∙ h (state_of m store events))

  pub items_spent : (m : Frames) (body : Term) (done more : List Value) → more ≡ [] → ((s : State) → joined done s ≡ Spent s.events)
      → Leads fs m (with_items fs body done more) (with_items_cost fs body more) m (next.Off pause.Spent)
  items_spent m body done more e h = spends fs m m (with_items fs body done more) (with_items_cost fs body more)
      (λ d p store events. ap (λ l. with_items fs body done l d m.values (state_of m store events)) e ∙ items_end fs d body m.values done (state_of m store events) ∙ h (state_of m store events))

  pub items_safe : (m : Frames) (body : Term) (done more : List Value) → more ≡ [] → IsSafe fs m (with_items fs body done more) → joined done (state_of m no_store []) ≡ Stuck → ⊥
  items_safe m body done more e safe stuck = not_stuck fs m (with_items fs body done more) safe
      (ap (λ l. with_items fs body done l until m.values (state_of m no_store [])) e ∙ items_end fs until body m.values done (state_of m no_store []) ∙ stuck)

  -- ---- calls

  pub calls_lead : (m m₁ m' : Frames) (f : ℕ) (xs : List Value) (function : Function) (r : Next)
      → (m.units ≡ 0 → ⊥) → slice_get fs f ≡ Some function
      → m₁.frames ≡ m.frames → m₁.values ≡ xs → ((store : Store) (events : List Event) → state_of m₁ store events ≡ record (state_of m store events) { units = m.units - 1 })
      → Descends (frame.Body f m.values) function.body m₁ m' r
      → Leads fs m (calling fs f xs) (calling_cost fs f xs) m' r
  calls_lead m m₁ m' f xs function (next.On (control.Enter r)) some known e values states down =
      subst (λ z. Leads fs m (calling fs f xs) (calling_cost fs f xs) z (next.On (control.Enter r))) (sym down.1)
      (call_enters fs m (record m₁ { frames = frame.Body f m.values ∷ m₁.frames }) f xs function r some known down.0 (ap (λ fr. frame.Body f m.values ∷ fr) e) values states)
  calls_lead m m₁ m' f xs function (next.On (control.Give x)) some known e values states down = absurd down
  calls_lead m m₁ m' f xs function (next.Off (pause.Page x)) some known e values states down = absurd down
  calls_lead m m₁ m' f xs function (next.Off (pause.Failed x)) some known e values states down = absurd down
  calls_lead m m₁ m' f xs function (next.Off pause.Spent) some known e values states down = absurd down
  calls_lead m m₁ m' f xs function (next.Off (pause.Store op ys)) some known e values states down = absurd down
  calls_lead m m₁ m' f xs function (next.Off pause.Memory) some known e values states down = wants_memory fs m m' (calling fs f xs) (calling_cost fs f xs)
