-- How a value is given to the nearest frame.
use Rattle.std.proofs.Common.{◌≡◌, ℕ, suc, ◌+◌, ◌-◌, ◌<◌, ◌≤◌, List, [], ◌∷◌, Some, None, sym, ap, subst, ◌∙◌, arith, Bor}
use Rattle.ur_values.specs.declared.value.Value.{Value}
use Rattle.ur_values.specs.Event.{Event}
use Rattle.ur_values.specs.Store.{Store}
use Rattle.ur_terms.specs.declared.term.Term.{Term, out-Term}
use Rattle.ur_terms.specs.declared.term.Term.TheVariants as t
use Rattle.ur_terms.specs.declared.term.Function.{Function}
use Rattle.ur_terms.specs.State.{State, Outcome, Done}
use Rattle.ur_terms.specs.Ops.{given}
use Rattle.ur_terms.specs.Run.{Does, outcome_of}
use Rattle.ur_terms.specs.Cost.{after_cost, given_cost}
use Rattle.ur_machine_frames.specs.declared.frame.Frame.{Frame}
use Rattle.ur_machine_frames.specs.declared.frame.Frames.{Frames}
use Rattle.ur_machine_frames.specs.declared.control.Control.TheVariants as control
use Rattle.ur_machine_frames.specs.declared.control.Pause.TheVariants as pause
use Rattle.ur_machine_frames.specs.declared.control.Next.{Next}
use Rattle.ur_machine_frames.specs.declared.control.Next.TheVariants as next
use Rattle.ur_machine_frames.specs.Rest.{standing, outer, resume, state_of, leaves_or, goes_on, frame_goes_on}
use Rattle.ur_machine_frames.specs.Work.{term_cost, total, going_cost, frame_cost, frames_cost}
use Rattle.ur_machine_frames.specs.Plays.{until, no_store}
use Rattle.ur_machine_frames.specs.Steps.{Leads, Steps, IsSafe, IsLess, IsAbove, below, going, going_costs, resuming, resuming_cost, giving, entering, entering_cost, comes_to, next_work}
use Rattle.ur_machine_frames.proofs.Leading.{IsTail, not_stuck, same_safe, transfers}

module _ (fs : List Function) where
  -- a frame that goes on with its part's value
  abbrev pub IsHead : Frame → Type 0
  IsHead f = (other : Outcome Value) (x : Value) (s : State) → leaves_or f other x s ≡ other

  resumes : (m : Frames) (f : Frame) (place : Term) (x : Value) → IsHead f → standing fs m.frames ≡ Some place
      → (d : Does) (env : List Value) (s : State) → resuming fs m.frames f x d env s ≡ going fs f place x d env s
  resumes m f place x head stands d env s = head _ x s ∙ ap (λ z. given z (λ a. goes_on d (outcome_of d fs) f (out-Term a) env x s)) stands

  pub resumes_safe : (m : Frames) (f : Frame) (place : Term) (x : Value) → IsHead f → standing fs m.frames ≡ Some place
      → IsSafe fs m (resuming fs m.frames f x) → IsSafe fs m (going fs f place x)
  resumes_safe m f place x head stands = same_safe fs m (resuming fs m.frames f x) (going fs f place x) (resumes m f place x head stands until m.values (state_of m no_store []))

  pub resumes_lead : (m m' : Frames) (f : Frame) (place : Term) (x : Value) (r : Next) → IsHead f → standing fs m.frames ≡ Some place
      → Leads fs m (going fs f place x) (going_costs fs f place x) m' r → Leads fs m (resuming fs m.frames f x) (resuming_cost fs m.frames f x) m' r
  resumes_lead m m' f place x r head stands l = transfers fs m m' (resuming fs m.frames f x) (going fs f place x) (resuming_cost fs m.frames f x) (going_costs fs f place x) r
      (λ d p s. resumes m f place x head stands d m.values s)
      (λ d p s. same_le _ _ (ap (λ z. given_cost z (λ a. going_cost d fs f (out-Term a) m.values x s)) stands)) l
    where
      same_le : (x y : ℕ) → x ≡ y → y ≤ x
      same_le x y e = omega arith

  pub resumes_known : (m : Frames) (f : Frame) (x : Value) → IsHead f → standing fs m.frames ≡ None → IsSafe fs m (resuming fs m.frames f x) → ⊥
  resumes_known m f x head e safe = not_stuck fs m (resuming fs m.frames f x) safe
      (head _ x (state_of m no_store []) ∙ ap (λ z. given z (λ a. goes_on until (outcome_of until fs) f (out-Term a) m.values x (state_of m no_store []))) e)

  -- ---- the nearest frame is taken

  taken : (d : Does) (frames frames₁ : List Frame) (env env₁ : List Value) (f : Frame) (x : Value) (s : State) → frames ≡ f ∷ frames₁ → outer f env ≡ env₁
      → resume d fs frames env (Done x s) ≡ resume d fs frames₁ env₁ (frame_goes_on d (outcome_of d fs) f (standing fs frames₁) env₁ x s)
  taken d frames frames₁ env env₁ f x s e outside =
      ap (λ fr. resume d fs fr env (Done x s)) e ∙ ap (λ v. resume d fs frames₁ v (frame_goes_on d (outcome_of d fs) f (standing fs frames₁) v x s)) outside

  taken_cost : (d : Does) (frames frames₁ : List Frame) (env env₁ : List Value) (f : Frame) (x : Value) (s : State) → frames ≡ f ∷ frames₁ → outer f env ≡ env₁
      → frames_cost d fs frames env x s ≡ suc (total d fs frames₁ env₁ (frame_cost d fs f (standing fs frames₁) env₁ x s) (frame_goes_on d (outcome_of d fs) f (standing fs frames₁) env₁ x s))
  taken_cost d frames frames₁ env env₁ f x s e outside =
      ap (λ fr. frames_cost d fs fr env x s) e ∙ ap (λ v. suc (frame_cost d fs f (standing fs frames₁) v x s + after_cost (frame_goes_on d (outcome_of d fs) f (standing fs frames₁) v x s) (frames_cost d fs frames₁ v))) outside

  pub taken_safe : (m m₁ : Frames) (f : Frame) (x : Value) → m.frames ≡ f ∷ m₁.frames → outer f m.values ≡ m₁.values
      → state_of m₁ no_store [] ≡ state_of m no_store [] → IsSafe fs m (giving x) → IsSafe fs m₁ (resuming fs m₁.frames f x)
  taken_safe m m₁ f x e outside states safe stuck =
      safe (taken until m.frames m₁.frames m.values m₁.values f x (state_of m no_store []) e outside
      ∙ ap (λ s. resume until fs m₁.frames m₁.values (frame_goes_on until (outcome_of until fs) f (standing fs m₁.frames) m₁.values x s)) (sym states) ∙ stuck)

  on_less : (d : Does) (m' : Frames) (r : Next) (store : Store) (events : List Event) (a b : ℕ) → next_work d fs m' r store events < a → a ≤ b → IsLess d fs m' r store events b
  on_less d m' (next.On c) store events a b h k = omega arith
  on_less d m' (next.Off p) store events a b h k = tt

  pub takes : (m m₁ m' : Frames) (f : Frame) (x : Value) (r : Next) → m.frames ≡ f ∷ m₁.frames → outer f m.values ≡ m₁.values
      → ((store : Store) (events : List Event) → state_of m₁ store events ≡ state_of m store events)
      → Leads fs m₁ (resuming fs m₁.frames f x) (resuming_cost fs m₁.frames f x) m' r → Steps fs m (control.Give x) m' r
  takes m m₁ m' f x r e outside states l = record {
    same = λ d p store events.
        let eq = taken d m.frames m₁.frames m.values m₁.values f x (state_of m store events) e outside
        ∙ ap (λ s. resume d fs m₁.frames m₁.values (frame_goes_on d (outcome_of d fs) f (standing fs m₁.frames) m₁.values x s)) (sym (states store events)) in
        subst (λ o. o ≡ comes_to d fs m' r o store events) (sym eq) (l.same d p store events);
    less = λ d p store events. on_less d m' r store events _ _ (l.less d p store events)
        (as_much _ _ (taken_cost d m.frames m₁.frames m.values m₁.values f x (state_of m store events) e outside
        ∙ ap (λ s. suc (total d fs m₁.frames m₁.values (frame_cost d fs f (standing fs m₁.frames) m₁.values x s) (frame_goes_on d (outcome_of d fs) f (standing fs m₁.frames) m₁.values x s))) (sym (states store events))));
    stands = l.stands;
    above = subst (λ fr. IsAbove fr m'.frames r) (sym (ap below e)) l.above;
  }
    where
      as_much : (x y : ℕ) → x ≡ y → y ≤ 0 + x
      as_much x y e = omega arith

  -- a frame whose term is done is left
  pub leaves : (m m₁ : Frames) (f : Frame) (x : Value) → IsTail fs f → m.frames ≡ f ∷ m₁.frames → outer f m.values ≡ m₁.values
      → ((store : Store) (events : List Event) → state_of m₁ store events ≡ state_of m store events)
      → Steps fs m (control.Give x) m₁ (next.On (control.Give x))
  leaves m m₁ f x tail e outside states = record {
    same = λ d p store events. taken d m.frames m₁.frames m.values m₁.values f x (state_of m store events) e outside
        ∙ ap (resume d fs m₁.frames m₁.values) (tail.0 _ x (state_of m store events)) ∙ ap (λ s. resume d fs m₁.frames m₁.values (Done x s)) (sym (states store events));
    less = λ d p store events. smaller _ _ _ _
        (taken_cost d m.frames m₁.frames m.values m₁.values f x (state_of m store events) e outside)
        (ap (λ o. after_cost o (frames_cost d fs m₁.frames m₁.values)) (tail.0 _ x (state_of m store events)) ∙ ap (frames_cost d fs m₁.frames m₁.values x) (sym (states store events)));
    stands = tt;
    above = sym (ap below e);
  }
    where
      smaller : (a b c k : ℕ) → a ≡ suc (k + b) → b ≡ c → 0 + c < 0 + a
      smaller a b c k e f = omega arith

  pub ends_run : (m m' : Frames) (x : Value) → m.frames ≡ [] → ((store : Store) (events : List Event) → state_of m' store events ≡ state_of m store events)
      → Steps fs m (control.Give x) m' (next.Off (pause.Page x))
  ends_run m m' x e states = record {
    same = λ d p store events. ap (λ fr. resume d fs fr m.values (Done x (state_of m store events))) e ∙ ap (Done x) (sym (states store events));
    less = λ d p store events. tt;
    stands = tt;
    above = tt;
  }

  -- ---- whole steps

  positive : (n : ℕ) → 1 ≤ suc n
  positive n = omega arith

  one_at_least : (d : Does) (a : Term) (env : List Value) (s : State) → 1 ≤ term_cost d fs a env s
  one_at_least d (t.Variable i) env s = omega arith
  one_at_least d (t.Int i) env s = omega arith
  one_at_least d (t.Str i) env s = omega arith
  one_at_least d (t.Bool i) env s = omega arith
  one_at_least d (t.Make' op _ args) env s = positive _
  one_at_least d (t.Call' f _ args) env s = positive _
  one_at_least d (t.Let' _ args _ body) env s = positive _
  one_at_least d (t.If' _ q _ a _ b) env s = positive _
  one_at_least d (t.Case' _ q _ bs) env s = positive _
  one_at_least d (t.Each' _ q _ body) env s = positive _

  pub entered : (m m' : Frames) (a : Bor Term) (r : Next) → Leads fs m (entering fs a.now) (entering_cost fs a.now) m' r → Steps fs m (control.Enter a) m' r
  entered m m' a r l = record {
    same = l.same;
    less = λ d p store events. on_less d m' r store events _ _ (l.less d p store events) (back _ _ (one_at_least d a.now m.values (state_of m store events)));
    stands = l.stands;
    above = l.above;
  }
    where
      back : (c k : ℕ) → 1 ≤ c → suc ((c - 1) + k) ≤ c + k
      back c k h = omega arith
