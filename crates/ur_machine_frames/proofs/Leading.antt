-- How a step is seen to keep what comes of a run.
use Rattle.std.specs.Prelude.{nat_le, slice_get, option_map}
use Rattle.std.proofs.lemmas.Bool.{le-leb}
use Rattle.std.specs.Prelude.{Result, Ok, Err, OnOk}
use Rattle.std.specs.Result.{is_err}
use Rattle.std.proofs.Common.{◌≡◌, ℕ, zero, suc, Bool, true, false, if◌then◌else◌, ◌+◌, ◌-◌, ◌<◌, ◌≤◌, List, [], ◌∷◌, Option, Some, None, refl, sym, ap, subst, ◌∙◌, arith, Bor}
use Rattle.ur_values.specs.declared.value.Value.{Value}
use Rattle.ur_values.specs.Event.{Event}
use Rattle.ur_values.specs.Store.{Store}
use Rattle.ur_terms.specs.declared.term.Op.{Op}
use Rattle.ur_terms.specs.declared.term.Term.{Term, out-Term}
use Rattle.ur_terms.specs.declared.term.Function.{Function}
use Rattle.ur_terms.specs.State.{State, Outcome, Done, Error, Spent, Stuck, after, charge}
use Rattle.ur_terms.specs.Ops.{given}
use Rattle.ur_terms.specs.Run.{Does, eval, run, outcome_of}
use Rattle.ur_terms.proofs.Equations.{after_same}
use Rattle.ur_terms.proofs.Bound.{outcome_body}
use Rattle.ur_terms.proofs.Cost.{after_cost_same, cost_body}
use Rattle.ur_machine_frames.proofs.Forms.{after_done, one_step}
use Rattle.ur_terms.specs.Cost.{after_cost, given_cost, charge_cost, cost_of}
use Rattle.ur_machine_frames.specs.declared.frame.Frame.{Frame}
use Rattle.ur_machine_frames.specs.declared.frame.Frame.TheVariants as frame
use Rattle.ur_machine_frames.specs.declared.frame.Frames.{Frames}
use Rattle.ur_machine_frames.specs.declared.control.Performed.TheVariants as performed
use Rattle.ur_machine_frames.specs.declared.control.Control.TheVariants as control
use Rattle.ur_machine_frames.specs.declared.control.Pause.TheVariants as pause
use Rattle.ur_machine_frames.specs.declared.control.Next.{Next}
use Rattle.ur_machine_frames.specs.declared.control.Next.TheVariants as next
use Rattle.ur_machine_frames.specs.Rest.{Open, standing, outer, resume, state_of, leaves_or, frame_goes_on}
use Rattle.ur_machine_frames.specs.Work.{term_cost, total, going_cost, frame_cost, frames_cost}
use Rattle.ur_machine_frames.specs.Plays.{Plays, until, no_store, Performs}
use Rattle.ur_machine_frames.specs.Steps.{Doing, Costs, Leads, IsSafe, performing, no_cost, calling, calling_cost, comes_to, next_work}

at_most : (a b n : ℕ) → b ≡ a → 0 + a < suc (n + b)
at_most a b n e = omega arith

none_left : (n b : ℕ) → 0 < suc (n + b)
none_left n b = omega arith

pub wrap : {A B : Type 0} (o : Outcome A) (go : A → State → Outcome B) (f : A → State → ℕ) (k : B → State → ℕ) (c n : ℕ)
    → c + after_cost o (λ x s. suc (f x s)) ≤ n
    → c + after_cost o (λ x s. suc (f x s + after_cost (go x s) k)) < suc (n + after_cost (after o go) k)
wrap (Done x s) go f k c n h = omega arith
wrap (Error body events) go f k c n h = omega arith
wrap (Spent events) go f k c n h = omega arith
wrap Stuck go f k c n h = omega arith

module _ (fs : List Function) where
  frames_same : (d : Does) (frames frames' : List Frame) (env env' : List Value) (o : Outcome Value) → frames' ≡ frames → env' ≡ env
      → resume d fs frames env o ≡ resume d fs frames' env' o
  frames_same d frames frames' env env' o e e' = ap (λ f. resume d fs f env o) (sym e) ∙ ap (λ v. resume d fs frames' v o) (sym e')

  cost_same : (d : Does) (frames frames' : List Frame) (env env' : List Value) (x : Value) (s : State) → frames' ≡ frames → env' ≡ env
      → frames_cost d fs frames env x s ≡ frames_cost d fs frames' env' x s
  cost_same d frames frames' env env' x s e e' = ap (λ f. frames_cost d fs f env x s) (sym e) ∙ ap (λ v. frames_cost d fs frames' v x s) (sym e')

  -- a value is given
  pub gives : (m m' : Frames) (w : Doing) (n : Costs) (x : Value) → m'.frames ≡ m.frames → m'.values ≡ m.values
      → ((d : Does) → Plays d → (store : Store) (events : List Event) → w d m.values (state_of m store events) ≡ Done x (state_of m' store events))
      → Leads fs m w n m' (next.On (control.Give x))
  gives m m' w n x e e' h = record {
    same = λ d p store events. ap (resume d fs m.frames m.values) (h d p store events) ∙ frames_same d m.frames m'.frames m.values m'.values _ e e';
    less = λ d p store events. at_most _ _ _ (ap (λ o. after_cost o (frames_cost d fs m.frames m.values)) (h d p store events)
        ∙ cost_same d m.frames m'.frames m.values m'.values x (state_of m' store events) e e');
    stands = tt;
    above = e;
  }

  pub fails : (m m' : Frames) (w : Doing) (n : Costs) (body : Value)
      → ((d : Does) → Plays d → (store : Store) (events : List Event) → w d m.values (state_of m store events) ≡ Error body events)
      → Leads fs m w n m' (next.Off (pause.Failed body))
  fails m m' w n body h = record {
    same = λ d p store events. ap (resume d fs m.frames m.values) (h d p store events) ∙ stays_error d m.frames m.values events;
    less = λ d p store events. none_left _ _;
    stands = tt;
    above = tt;
  }
    where
      stays_error : (d : Does) (frames : List Frame) (env : List Value) (events : List Event) → resume d fs frames env (Error body events) ≡ Error body events
      stays_error d [] env events = refl
      stays_error d (f ∷ frames) env events = stays_error d frames (outer f env) events

  pub spends : (m m' : Frames) (w : Doing) (n : Costs)
      → ((d : Does) → Plays d → (store : Store) (events : List Event) → w d m.values (state_of m store events) ≡ Spent events)
      → Leads fs m w n m' (next.Off pause.Spent)
  spends m m' w n h = record {
    same = λ d p store events. ap (resume d fs m.frames m.values) (h d p store events) ∙ stays_spent d m.frames m.values events;
    less = λ d p store events. none_left _ _;
    stands = tt;
    above = tt;
  }
    where
      stays_spent : (d : Does) (frames : List Frame) (env : List Value) (events : List Event) → resume d fs frames env (Spent events) ≡ Spent events
      stays_spent d [] env events = refl
      stays_spent d (f ∷ frames) env events = stays_spent d frames (outer f env) events

  pub wants_memory : (m m' : Frames) (w : Doing) (n : Costs) → Leads fs m w n m' (next.Off pause.Memory)
  wants_memory m m' w n = record { same = λ d p store events. refl; less = λ d p store events. none_left _ _; stands = tt; above = tt }

  -- the run is done
  pub finishes : (m m' : Frames) (w : Doing) (n : Costs) (x : Value) → m.frames ≡ []
      → ((d : Does) → Plays d → (store : Store) (events : List Event) → w d m.values (state_of m store events) ≡ Done x (state_of m' store events))
      → Leads fs m w n m' (next.Off (pause.Page x))
  finishes m m' w n x e h = record {
    same = λ d p store events. ap (λ f. resume d fs f m.values (w d m.values (state_of m store events))) e ∙ h d p store events;
    less = λ d p store events. none_left _ _;
    stands = tt;
    above = tt;
  }

  enter_same : (d : Does) (frames frames' : List Frame) (env env' : List Value) (f : Frame) (o : Outcome Value) → frames' ≡ f ∷ frames → outer f env' ≡ env
      → resume d fs frames env (after o (frame_goes_on d (outcome_of d fs) f (standing fs frames) env)) ≡ resume d fs frames' env' o
  enter_same d frames frames' env env' f o e outside =
      ap (λ v. resume d fs frames v (after o (frame_goes_on d (outcome_of d fs) f (standing fs frames) v))) (sym outside) ∙ ap (λ fr. resume d fs fr env' o) (sym e)

  enter_less : (d : Does) (frames frames' : List Frame) (env env' : List Value) (f : Frame) (o : Outcome Value) (c n : ℕ) → frames' ≡ f ∷ frames → outer f env' ≡ env
      → c + after_cost o (λ x t. suc (frame_cost d fs f (standing fs frames) env x t)) ≤ n
      → total d fs frames' env' c o < suc (n + after_cost (after o (frame_goes_on d (outcome_of d fs) f (standing fs frames) env)) (frames_cost d fs frames env))
  enter_less d frames frames' env env' f o c n e outside h =
      subst (λ fr. total d fs fr env' c o < suc (n + after_cost (after o (frame_goes_on d (outcome_of d fs) f (standing fs frames) env)) (frames_cost d fs frames env))) (sym e)
      (subst (λ v. c + after_cost o (λ x s. suc (frame_cost d fs f (standing fs frames) v x s + after_cost (frame_goes_on d (outcome_of d fs) f (standing fs frames) v x s) (frames_cost d fs frames v)))
      < suc (n + after_cost (after o (frame_goes_on d (outcome_of d fs) f (standing fs frames) env)) (frames_cost d fs frames env))) (sym outside)
      (wrap o (frame_goes_on d (outcome_of d fs) f (standing fs frames) env) (frame_cost d fs f (standing fs frames) env) (frames_cost d fs frames env) c n h))

  -- A part is entered under a new frame, which goes on as the whole does.
  pub enters : (m m' : Frames) (w : Doing) (n : Costs) (f : Frame) (r : Bor Term)
      → m'.frames ≡ f ∷ m.frames → outer f m'.values ≡ m.values
      → ((d : Does) → Plays d → (store : Store) (events : List Event) → w d m.values (state_of m store events)
      ≡ after (eval d (outcome_of d fs) r.now m'.values (state_of m' store events)) (frame_goes_on d (outcome_of d fs) f (standing fs m.frames) m.values))
      → ((d : Does) → Plays d → (store : Store) (events : List Event) → term_cost d fs r.now m'.values (state_of m' store events)
      + after_cost (eval d (outcome_of d fs) r.now m'.values (state_of m' store events)) (λ x t. suc (frame_cost d fs f (standing fs m.frames) m.values x t))
      ≤ n d m.values (state_of m store events))
      → standing fs (f ∷ m.frames) ≡ Some r.now
      → Leads fs m w n m' (next.On (control.Enter r))
  enters m m' w n f r e outside h k stands = record {
    same = λ d p store events.
        ap (resume d fs m.frames m.values) (h d p store events)
        ∙ enter_same d m.frames m'.frames m.values m'.values f (eval d (outcome_of d fs) r.now m'.values (state_of m' store events)) e outside;
    less = λ d p store events.
        subst (λ o. total d fs m'.frames m'.values (term_cost d fs r.now m'.values (state_of m' store events)) (eval d (outcome_of d fs) r.now m'.values (state_of m' store events))
        < suc (total d fs m.frames m.values (n d m.values (state_of m store events)) o)) (sym (h d p store events))
        (enter_less d m.frames m'.frames m.values m'.values f _ _ _ e outside (k d p store events));
    stands = ap (standing fs) e ∙ stands;
    above = (f, e);
  }

  -- the same outcome, at a cost that is no less
  pub transfers : (m m' : Frames) (w v : Doing) (n k : Costs) (r : Next)
      → ((d : Does) → Plays d → (s : State) → w d m.values s ≡ v d m.values s) → ((d : Does) → Plays d → (s : State) → k d m.values s ≤ n d m.values s)
      → Leads fs m v k m' r → Leads fs m w n m' r
  transfers m m' w v n k r e le l = record {
    same = λ d p store events.
        subst (λ o. resume d fs m.frames m.values o ≡ comes_to d fs m' r (resume d fs m.frames m.values o) store events) (sym (e d p (state_of m store events))) (l.same d p store events);
    less = λ d p store events.
        subst (λ o. next_work d fs m' r store events < suc (total d fs m.frames m.values (n d m.values (state_of m store events)) o)) (sym (e d p (state_of m store events)))
        (more _ _ _ _ (le d p (state_of m store events)) (l.less d p store events));
    stands = l.stands;
    above = l.above;
  }
    where
      more : (a k n b : ℕ) → k ≤ n → a < suc (k + b) → a < suc (n + b)
      more a k n b h g = omega arith

  pub stays_stuck : (d : Does) (frames : List Frame) (env : List Value) → resume d fs frames env Stuck ≡ Stuck
  stays_stuck d [] env = refl
  stays_stuck d (f ∷ frames) env = stays_stuck d frames (outer f env)

  pub not_stuck : (m : Frames) (w : Doing) → IsSafe fs m w → w until m.values (state_of m no_store []) ≡ Stuck → ⊥
  not_stuck m w safe e = safe (ap (resume until fs m.frames m.values) e ∙ stays_stuck until m.frames m.values)

  pub same_safe : (m : Frames) (w v : Doing) → w until m.values (state_of m no_store []) ≡ v until m.values (state_of m no_store []) → IsSafe fs m w → IsSafe fs m v
  same_safe m w v e safe stuck = safe (ap (resume until fs m.frames m.values) e ∙ stuck)

  -- ---- operations

  pub perform_failed : (m m' : Frames) (o : Op) (xs : List Value) (body : Value) → Performs o xs m.carried m.sent m'.sent (performed.Failed body)
      → Leads fs m (performing o xs) no_cost m' (next.Off (pause.Failed body))
  perform_failed m m' o xs body h = fails m m' (performing o xs) no_cost body (λ d p store events. p.plain o h.0 xs _ ∙ h.1 store events m.units)

  pub perform_spent : (m m' : Frames) (o : Op) (xs : List Value) → Performs o xs m.carried m.sent m'.sent performed.Spent
      → Leads fs m (performing o xs) no_cost m' (next.Off pause.Spent)
  perform_spent m m' o xs h = spends m m' (performing o xs) no_cost (λ d p store events. p.plain o h.0 xs _ ∙ h.1 store events m.units)

  -- ---- frames that are left with the value of their part

  abbrev pub IsTail : Frame → Type 0
  IsTail f = ((other : Outcome Value) (x : Value) (s : State) → leaves_or f other x s ≡ Done x s)
      × ((d : Does) (a : Open) (env : List Value) (x : Value) (s : State) → going_cost d fs f a env x s ≡ 0)

  no_frame_cost : (d : Does) (f : Frame) (place : Option Term) (env : List Value) (x : Value) (s : State)
      → ((a : Open) → going_cost d fs f a env x s ≡ 0) → frame_cost d fs f place env x s ≡ 0
  no_frame_cost d f None env x s h = refl
  no_frame_cost d f (Some a) env x s h = h (out-Term a)

  pub enters_tail : (m m' : Frames) (w : Doing) (n : Costs) (f : Frame) (r : Bor Term) → IsTail f
      → m'.frames ≡ f ∷ m.frames → outer f m'.values ≡ m.values
      → ((d : Does) → Plays d → (store : Store) (events : List Event) → w d m.values (state_of m store events)
      ≡ eval d (outcome_of d fs) r.now m'.values (state_of m' store events))
      → ((d : Does) → Plays d → (store : Store) (events : List Event) → suc (term_cost d fs r.now m'.values (state_of m' store events)) ≤ n d m.values (state_of m store events))
      → standing fs (f ∷ m.frames) ≡ Some r.now
      → Leads fs m w n m' (next.On (control.Enter r))
  enters_tail m m' w n f r tail e outside h k stands = enters m m' w n f r e outside
      (λ d p store events. h d p store events
      ∙ after_done (eval d (outcome_of d fs) r.now m'.values (state_of m' store events))
      ∙ after_same (eval d (outcome_of d fs) r.now m'.values (state_of m' store events)) _ _ (λ x s. sym (tail.0 _ x s)))
      (λ d p store events. subst (λ z. term_cost d fs r.now m'.values (state_of m' store events) + z ≤ n d m.values (state_of m store events))
      (after_cost_same (eval d (outcome_of d fs) r.now m'.values (state_of m' store events)) _ _ (λ x s. ap suc (sym (no_frame_cost d f (standing fs m.frames) m.values x s (λ a. tail.1 d a m.values x s)))))
      (one_step (eval d (outcome_of d fs) r.now m'.values (state_of m' store events)) _ _ (k d p store events)))
      stands

  pub body_tail : (f : ℕ) (caller : List Value) → IsTail (frame.Body f caller)
  body_tail f caller = (λ other x s. refl, λ d a env x s. refl)

  pub let_tail : (n : ℕ) → IsTail (frame.LetBody n)
  let_tail n = (λ other x s. refl, λ d a env x s. refl)

  pub side_tail : (b : Bool) → IsTail (frame.Side b)
  side_tail b = (λ other x s. refl, λ d a env x s. refl)

  pub branch_tail : (k n : ℕ) → IsTail (frame.Branch k n)
  branch_tail k n = (λ other x s. refl, λ d a env x s. refl)

  -- ---- calls

  pub call_spent : (m : Frames) (f : ℕ) (xs : List Value) → m.units ≡ 0 → Leads fs m (calling fs f xs) (calling_cost fs f xs) m (next.Off pause.Spent)
  call_spent m f xs e = spends m m (calling fs f xs) (calling_cost fs f xs) (λ d p store events.
      ap (λ u. if nat_le 1 u then outcome_of d fs f xs (record (state_of m store events) { units = u - 1 }) else Spent events) e)

  some_units : (u : ℕ) → (u ≡ 0 → ⊥) → nat_le 1 u ≡ true
  some_units zero h = absurd (h refl)
  some_units (suc u) h = le-leb 1 (suc u) (omega arith)

  abbrev less_one : State → State
  less_one s = record s { units = s.units - 1 }

  charged : (d : Does) (s : State) (go : State → Outcome Value) → (s.units ≡ 0 → ⊥) → charge 1 s go ≡ go (less_one s)
  charged d s go h = ap (λ b. if b then go (less_one s) else Spent s.events) (some_units s.units h)

  charged_cost : (s : State) (go : State → ℕ) → (s.units ≡ 0 → ⊥) → charge_cost s go ≡ go (less_one s)
  charged_cost s go h = ap (λ b. if b then go (less_one s) else 0) (some_units s.units h)

  pub call_known : (m : Frames) (f : ℕ) (xs : List Value) → IsSafe fs m (calling fs f xs) → (m.units ≡ 0 → ⊥) → slice_get fs f ≡ None → ⊥
  call_known m f xs safe h e = not_stuck m (calling fs f xs) safe
      (charged until (state_of m no_store []) (outcome_of until fs f xs) h
      ∙ ap (λ o. given o (λ function. eval until (run until fs (m.units - 1)) function.body xs (less_one (state_of m no_store [])))) e)

  pub call_enters : (m m' : Frames) (f : ℕ) (xs : List Value) (function : Function) (r : Bor Term)
      → (m.units ≡ 0 → ⊥) → slice_get fs f ≡ Some function → r.now ≡ function.body
      → m'.frames ≡ frame.Body f m.values ∷ m.frames → m'.values ≡ xs
      → ((store : Store) (events : List Event) → state_of m' store events ≡ less_one (state_of m store events))
      → Leads fs m (calling fs f xs) (calling_cost fs f xs) m' (next.On (control.Enter r))
  call_enters m m' f xs function r some known body e values states =
      enters_tail m m' (calling fs f xs) (calling_cost fs f xs) (frame.Body f m.values) r (body_tail f m.values) e refl
      (λ d p store events.
      charged d (state_of m store events) (outcome_of d fs f xs) some
      ∙ outcome_body d p.units fs f xs (less_one (state_of m store events))
      ∙ ap (λ o. given o (λ function. eval d (outcome_of d fs) function.body xs (less_one (state_of m store events)))) known
      ∙ ap (λ a. eval d (outcome_of d fs) a xs (less_one (state_of m store events))) (sym body)
      ∙ ap (λ env. eval d (outcome_of d fs) r.now env (less_one (state_of m store events))) (sym values)
      ∙ ap (eval d (outcome_of d fs) r.now m'.values) (sym (states store events)))
      (λ d p store events. two_less _ _ _
      (ap (λ s. term_cost d fs r.now m'.values s) (states store events)
      ∙ ap (λ env. term_cost d fs r.now env (less_one (state_of m store events))) values
      ∙ ap (λ a. term_cost d fs a xs (less_one (state_of m store events))) body)
      (charged_cost (state_of m store events) (cost_of d fs f xs) some
      ∙ cost_body d p.units fs f xs (less_one (state_of m store events))
      ∙ ap (λ o. given_cost o (λ function. suc (suc (term_cost d fs function.body xs (less_one (state_of m store events)))))) known))
      (ap (λ o. option_map (λ function. function.body) o) known ∙ ap Some (sym body))
    where
      two_less : (x y n : ℕ) → x ≡ y → n ≡ suc (suc y) → suc x ≤ n
      two_less x y n e f = omega arith

pub ok_of : {A E : Type 0} (r : Result A E) (P : Type 0) → is_err r ≡ false → OnOk r P → P
ok_of (Ok x) P e h = h
ok_of (Err x) P e h = cc
