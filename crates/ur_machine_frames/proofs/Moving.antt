-- A variable that nothing reads any more may hold anything.
use Rattle.std.proofs.lemmas.List.{length-drop}
use Rattle.std.proofs.Common.{◌≡◌, ℕ, zero, suc, ◌+◌, ◌<◌, List, [], ◌∷◌, ◌++◌, length, drop, true, Option, Some, None, refl, sym, ap, subst, ◌∙◌, arith, length-append}
use Rattle.std.specs.Prelude.{slice_get, slice_set}
use Rattle.ur_values.specs.declared.value.Value.{Value}
use Rattle.ur_terms.specs.declared.term.Term.{Term, out-Term}
use Rattle.ur_terms.specs.declared.term.Term.TheOpen as o
use Rattle.ur_terms.specs.declared.term.Term.TheVariants as t
use Rattle.ur_terms.specs.declared.term.Function.{Function}
use Rattle.ur_terms.specs.State.{State, Outcome, Done, after}
use Rattle.ur_terms.specs.Values.{as_items}
use Rattle.ur_terms.specs.Ops.{given}
use Rattle.ur_terms.specs.Run.{Does, eval, eval_list, joined, choose, outcome_of}
use Rattle.ur_terms.specs.Cost.{after_cost, given_cost, choice_cost, cost_list, cost_of}
use Rattle.ur_terms.proofs.Equations.{after_same, given_same}
use Rattle.ur_terms.proofs.Cost.{after_cost_same, given_cost_same}
use Rattle.ur_machine_frames.specs.Unread.{under, AreUnread, SameBut, there, further}
use Rattle.ur_machine_frames.proofs.Bound.{bound_same}
use Rattle.ur_machine_frames.proofs.Alike.{after_long, after_cost_long, eval_alike, cost_alike, each_alike, each_cost_alike}
use Rattle.ur_machine_frames.proofs.Lists.{list_long, list_alike, first_alike, list_cost_alike, first_cost_alike}
use Rattle.ur_machine_frames.specs.declared.frame.Frame.{Frame}
use Rattle.ur_machine_frames.specs.declared.frame.Frame.TheVariants as frame
use Rattle.ur_machine_frames.specs.declared.frame.Frames.{Frames}
use Rattle.ur_machine_frames.specs.declared.control.Control.TheVariants as control
use Rattle.ur_machine_frames.specs.declared.control.Next.TheVariants as next
use Rattle.ur_machine_frames.specs.Rest.{Open, standing, resume, state_of, applied, goes_on}
use Rattle.ur_machine_frames.specs.Work.{term_cost, applied_cost, going_cost, frame_cost, frames_cost}
use Rattle.ur_machine_frames.specs.Steps.{Leads, entering, entering_cost}
use Rattle.ur_machine_frames.specs.Over.{Outside, LeavesUnread, IsThere, IsOver}

one_more_of : {A : Type 0} (xs : List A) (x : A) → length (xs ++ x ∷ []) ≡ suc (length xs)
one_more_of xs x = omega (arith, length-append xs (x ∷ []))

-- outside a binder the lists are the same, or differ in the variable
outside : (n i : ℕ) (env env' : List Value) (P : ℕ → Type 0) (G : List Value → List Value → Type 0) → Outside n i P → SameBut i env env'
    → ((l : List Value) → G l l) → ((j : ℕ) (l l' : List Value) → P j → SameBut j l l' → G l l') → G (drop n env) (drop n env')
outside zero i env env' P G u h same go = go i env env' u h
outside (suc n) zero _ _ P G u (there x y env) same go = same (drop n env)
outside (suc n) (suc i) _ _ P G u (further _ x env env' h) same go = outside n i env env' P G u h same go

-- the variables that a `let` binds, when its values are all there
all_bound : (done : List Value) (x : Value) (args : List Term) (ys : List Value) (i : ℕ) (env env' : List Value) → length done < length args
    → length ys ≡ length (drop (length (done ++ x ∷ [])) args) → SameBut i env env'
    → SameBut (under (length args) i) (((done ++ x ∷ []) ++ ys) ++ env) (((done ++ x ∷ []) ++ ys) ++ env')
all_bound done x args ys i env env' l e h =
    subst (λ n. SameBut (under n i) (((done ++ x ∷ []) ++ ys) ++ env) (((done ++ x ∷ []) ++ ys) ++ env'))
    (omega (arith, length-append (done ++ x ∷ []) ys, length-append done (x ∷ []), length-drop (length (done ++ x ∷ [])) args))
    (bound_same ((done ++ x ∷ []) ++ ys) i env env' h)

module _ (fs : List Function) (d : Does) where
  -- ---- what a frame does

  args_alike : (done : List Value) (x : Value) (p : Open) (args : List Term) (i : ℕ) (env env' : List Value) (s : State) → AreUnread i (drop (suc (length done)) args) → SameBut i env env'
      → eval_list d (outcome_of d fs) (drop (length (done ++ x ∷ [])) args) env s ≡ eval_list d (outcome_of d fs) (drop (length (done ++ x ∷ [])) args) env' s
  args_alike done x p args i env env' s u h =
      list_alike d (outcome_of d fs) (drop (length (done ++ x ∷ [])) args) i env env' s (subst (λ n. AreUnread i (drop n args)) (sym (one_more_of done x)) u) h

  args_cost_alike : (done : List Value) (x : Value) (args : List Term) (i : ℕ) (env env' : List Value) (s : State) → AreUnread i (drop (suc (length done)) args) → SameBut i env env'
      → cost_list d (outcome_of d fs) (cost_of d fs) (drop (length (done ++ x ∷ [])) args) env s ≡ cost_list d (outcome_of d fs) (cost_of d fs) (drop (length (done ++ x ∷ [])) args) env' s
  args_cost_alike done x args i env env' s u h =
      list_cost_alike d (outcome_of d fs) (cost_of d fs) (drop (length (done ++ x ∷ [])) args) i env env' s (subst (λ n. AreUnread i (drop n args)) (sym (one_more_of done x)) u) h

  goes_alike : (f : Frame) (a : Open) (i : ℕ) (env env' : List Value) (x : Value) (s : State) → LeavesUnread f a i → SameBut i env env'
      → goes_on d (outcome_of d fs) f a env x s ≡ goes_on d (outcome_of d fs) f a env' x s
  goes_alike (frame.Args done) (o.Make op args) i env env' x s u h =
      ap (λ w. after w (λ ys v. d op ((done ++ x ∷ []) ++ ys) v)) (args_alike done x (o.Make op args) args i env env' s u h)
  goes_alike (frame.Args done) (o.Call f args) i env env' x s u h =
      ap (λ w. after w (λ ys v. applied d (outcome_of d fs) (o.Call f args) env' ((done ++ x ∷ []) ++ ys) v)) (args_alike done x (o.Call f args) args i env env' s u h)
  goes_alike (frame.Args done) (o.Let args body) i env env' x s u h =
      ap (λ w. after w (λ ys v. eval d (outcome_of d fs) body (((done ++ x ∷ []) ++ ys) ++ env) v)) (args_alike done x (o.Let args body) args i env env' s u.1 h)
      ∙ after_long _ (eval_list d (outcome_of d fs) (drop (length (done ++ x ∷ [])) args) env' s) _ _ (list_long d (outcome_of d fs) (drop (length (done ++ x ∷ [])) args) env' s) (λ ys e v.
      eval_alike d (outcome_of d fs) body (under (length args) i) (((done ++ x ∷ []) ++ ys) ++ env) (((done ++ x ∷ []) ++ ys) ++ env') v u.2 (all_bound done x args ys i env env' u.0 e h))
  goes_alike frame.Condition (o.If q a b) i env env' x s u h =
      ap (λ w. choose x w (eval d (outcome_of d fs) b env s)) (eval_alike d (outcome_of d fs) a i env env' s u.0 h)
      ∙ ap (λ w. choose x (eval d (outcome_of d fs) a env' s) w) (eval_alike d (outcome_of d fs) b i env env' s u.1 h)
  goes_alike frame.Subject (o.Case q bs) i env env' x s u h = first_alike d (outcome_of d fs) bs x i env env' s u h
  goes_alike frame.Rows (o.Each q body) i env env' x s u h = given_same (as_items x) _ _ (λ items.
      ap (λ w. after w (λ ys v. joined ([] ++ ys) v))
      (each_alike _ _ (λ y v. eval_alike d (outcome_of d fs) body (suc i) (y ∷ env) (y ∷ env') v u (further i y env env' h)) items s))
  goes_alike _ _ i env env' x s u h = elim u [ ]

  going_alike : (f : Frame) (a : Open) (i : ℕ) (env env' : List Value) (x : Value) (s : State) → LeavesUnread f a i → SameBut i env env'
      → going_cost d fs f a env x s ≡ going_cost d fs f a env' x s
  going_alike (frame.Args done) (o.Make op args) i env env' x s u h =
      ap (λ n. n + after_cost (eval_list d (outcome_of d fs) (drop (length (done ++ x ∷ [])) args) env s) (λ ys v. 0)) (args_cost_alike done x args i env env' s u h)
      ∙ ap (λ w. cost_list d (outcome_of d fs) (cost_of d fs) (drop (length (done ++ x ∷ [])) args) env' s + after_cost w (λ ys v. 0)) (args_alike done x (o.Make op args) args i env env' s u h)
  going_alike (frame.Args done) (o.Call f args) i env env' x s u h =
      ap (λ n. n + after_cost (eval_list d (outcome_of d fs) (drop (length (done ++ x ∷ [])) args) env s) (λ ys v. applied_cost d fs (o.Call f args) env' ((done ++ x ∷ []) ++ ys) v)) (args_cost_alike done x args i env env' s u h)
      ∙ ap (λ w. cost_list d (outcome_of d fs) (cost_of d fs) (drop (length (done ++ x ∷ [])) args) env' s + after_cost w (λ ys v. applied_cost d fs (o.Call f args) env' ((done ++ x ∷ []) ++ ys) v)) (args_alike done x (o.Call f args) args i env env' s u h)
  going_alike (frame.Args done) (o.Let args body) i env env' x s u h =
      ap (λ n. n + after_cost (eval_list d (outcome_of d fs) (drop (length (done ++ x ∷ [])) args) env s) (λ ys v. applied_cost d fs (o.Let args body) env ((done ++ x ∷ []) ++ ys) v)) (args_cost_alike done x args i env env' s u.1 h)
      ∙ ap (λ n. cost_list d (outcome_of d fs) (cost_of d fs) (drop (length (done ++ x ∷ [])) args) env' s + n)
      (ap (λ w. after_cost w (λ ys v. applied_cost d fs (o.Let args body) env ((done ++ x ∷ []) ++ ys) v)) (args_alike done x (o.Let args body) args i env env' s u.1 h)
      ∙ after_cost_long _ (eval_list d (outcome_of d fs) (drop (length (done ++ x ∷ [])) args) env' s) _ _ (list_long d (outcome_of d fs) (drop (length (done ++ x ∷ [])) args) env' s) (λ ys e v. ap suc
      (cost_alike d (outcome_of d fs) (cost_of d fs) body (under (length args) i) (((done ++ x ∷ []) ++ ys) ++ env) (((done ++ x ∷ []) ++ ys) ++ env') v u.2 (all_bound done x args ys i env env' u.0 e h))))
  going_alike frame.Condition (o.If q a b) i env env' x s u h =
      ap (λ n. choice_cost x n (term_cost d fs b env s)) (cost_alike d (outcome_of d fs) (cost_of d fs) a i env env' s u.0 h)
      ∙ ap (λ n. choice_cost x (term_cost d fs a env' s) n) (cost_alike d (outcome_of d fs) (cost_of d fs) b i env env' s u.1 h)
  going_alike frame.Subject (o.Case q bs) i env env' x s u h = first_cost_alike d (outcome_of d fs) (cost_of d fs) bs x i env env' s u h
  going_alike frame.Rows (o.Each q body) i env env' x s u h = given_cost_same (as_items x) _ _ (λ items.
      each_cost_alike _ _ _ _
      (λ y v. eval_alike d (outcome_of d fs) body (suc i) (y ∷ env) (y ∷ env') v u (further i y env env' h))
      (λ y v. cost_alike d (outcome_of d fs) (cost_of d fs) body (suc i) (y ∷ env) (y ∷ env') v u (further i y env env' h)) items s)
  going_alike _ _ i env env' x s u h = elim u [ ]

  place_alike : (f : Frame) (place : Option Term) (i : ℕ) (env env' : List Value) → IsThere place (λ a. LeavesUnread f a i) → SameBut i env env' → (x : Value) (s : State)
      → given place (λ a. goes_on d (outcome_of d fs) f (out-Term a) env x s) ≡ given place (λ a. goes_on d (outcome_of d fs) f (out-Term a) env' x s)
  place_alike f None i env env' u h x s = absurd u
  place_alike f (Some a) i env env' u h x s = goes_alike f (out-Term a) i env env' x s u h

  place_cost_alike : (f : Frame) (place : Option Term) (i : ℕ) (env env' : List Value) → IsThere place (λ a. LeavesUnread f a i) → SameBut i env env' → (x : Value) (s : State)
      → frame_cost d fs f place env x s ≡ frame_cost d fs f place env' x s
  place_cost_alike f None i env env' u h x s = absurd u
  place_cost_alike f (Some a) i env env' u h x s = going_alike f (out-Term a) i env env' x s u h

  -- ---- what frames come to

  -- under these frames the lists of variables do not differ
  abbrev Alike : List Frame → List Value → List Value → Type 0
  Alike frames env env' = ((w : Outcome Value) → resume d fs frames env w ≡ resume d fs frames env' w) × ((x : Value) (s : State) → frames_cost d fs frames env x s ≡ frames_cost d fs frames env' x s)

  itself : (frames : List Frame) (env : List Value) → Alike frames env env
  itself frames env = (λ w. refl, λ x s. refl)

  head_alike : (frames : List Frame) (env env' : List Value) (go come : Value → State → Outcome Value) (f g : Value → State → ℕ)
      → ((x : Value) (s : State) → go x s ≡ come x s) → ((x : Value) (s : State) → f x s ≡ g x s) → Alike frames env env'
      → ((w : Outcome Value) → resume d fs frames env (after w go) ≡ resume d fs frames env' (after w come))
      × ((x : Value) (s : State) → suc (f x s + after_cost (go x s) (frames_cost d fs frames env)) ≡ suc (g x s + after_cost (come x s) (frames_cost d fs frames env')))
  head_alike frames env env' go come f g h k l = (
    λ w. l.0 (after w go) ∙ ap (resume d fs frames env') (after_same w go come h),
    λ x s. ap (λ n. suc (n + after_cost (go x s) (frames_cost d fs frames env))) (k x s)
        ∙ ap (λ o. suc (g x s + after_cost o (frames_cost d fs frames env))) (h x s)
        ∙ ap (λ n. suc (g x s + n)) (after_cost_same (come x s) _ _ l.1),
  )

  -- what a frame does in its term, and what that costs
  abbrev does_in : Frame → List Frame → List Value → Value → State → Outcome Value
  does_in f frames env x s = given (standing fs frames) (λ a. goes_on d (outcome_of d fs) f (out-Term a) env x s)

  abbrev costs_in : Frame → List Frame → List Value → Value → State → ℕ
  costs_in f frames env x s = given_cost (standing fs frames) (λ a. going_cost d fs f (out-Term a) env x s)

  -- a frame that is left with the value of its part
  left_alike : (frames : List Frame) (env env' : List Value) → Alike frames env env' → Alike (frame.Side true ∷ frames) env env'
  left_alike frames env env' l = head_alike frames env env' (λ x s. Done x s) (λ x s. Done x s) (costs_in (frame.Side true) frames env) (costs_in (frame.Side true) frames env')
      (λ x s. refl) (λ x s. refl) l

  -- a frame that goes on in its term
  abbrev Heads : Frame → List Frame → List Value → List Value → Type 0
  Heads f frames env env' = ((w : Outcome Value) → resume d fs frames env (after w (does_in f frames env)) ≡ resume d fs frames env' (after w (does_in f frames env')))
      × ((x : Value) (s : State) → suc (costs_in f frames env x s + after_cost (does_in f frames env x s) (frames_cost d fs frames env))
      ≡ suc (costs_in f frames env' x s + after_cost (does_in f frames env' x s) (frames_cost d fs frames env')))

  goes_on_alike : (f : Frame) (frames : List Frame) (i : ℕ) (env env' : List Value) → IsThere (standing fs frames) (λ a. LeavesUnread f a i) → SameBut i env env'
      → Alike frames env env' → Heads f frames env env'
  goes_on_alike f frames i env env' u h l = head_alike frames env env' (does_in f frames env) (does_in f frames env') (costs_in f frames env) (costs_in f frames env')
      (place_alike f (standing fs frames) i env env' u h) (place_cost_alike f (standing fs frames) i env env' u h) l

  last_item : (done : List Value) (a : Open) (env env' : List Value) (x : Value) (s : State)
      → goes_on d (outcome_of d fs) (frame.Item done []) a env x s ≡ goes_on d (outcome_of d fs) (frame.Item done []) a env' x s
  last_item done (o.Each q body) env env' x s = refl
  last_item done (o.Variable i) env env' x s = refl
  last_item done (o.Int i) env env' x s = refl
  last_item done (o.Str i) env env' x s = refl
  last_item done (o.Bool i) env env' x s = refl
  last_item done (o.Make op args) env env' x s = refl
  last_item done (o.Call f args) env env' x s = refl
  last_item done (o.Let args body) env env' x s = refl
  last_item done (o.If q a b) env env' x s = refl
  last_item done (o.Case q bs) env env' x s = refl

  last_item_cost : (done : List Value) (a : Open) (env env' : List Value) (x : Value) (s : State)
      → going_cost d fs (frame.Item done []) a env x s ≡ going_cost d fs (frame.Item done []) a env' x s
  last_item_cost done (o.Each q body) env env' x s = refl
  last_item_cost done (o.Variable i) env env' x s = refl
  last_item_cost done (o.Int i) env env' x s = refl
  last_item_cost done (o.Str i) env env' x s = refl
  last_item_cost done (o.Bool i) env env' x s = refl
  last_item_cost done (o.Make op args) env env' x s = refl
  last_item_cost done (o.Call f args) env env' x s = refl
  last_item_cost done (o.Let args body) env env' x s = refl
  last_item_cost done (o.If q a b) env env' x s = refl
  last_item_cost done (o.Case q bs) env env' x s = refl

  last_alike : (done : List Value) (frames : List Frame) (env env' : List Value) → Alike frames env env' → Heads (frame.Item done []) frames env env'
  last_alike done frames env env' l = head_alike frames env env' (does_in (frame.Item done []) frames env) (does_in (frame.Item done []) frames env')
      (costs_in (frame.Item done []) frames env) (costs_in (frame.Item done []) frames env')
      (λ x s. given_same (standing fs frames) _ _ (λ a. last_item done (out-Term a) env env' x s))
      (λ x s. given_cost_same (standing fs frames) _ _ (λ a. last_item_cost done (out-Term a) env env' x s)) l

  over_alike : (frames : List Frame) (i : ℕ) (env env' : List Value) → IsOver fs frames i → SameBut i env env' → Alike frames env env'
  over_alike [] i env env' u h = (λ w. refl, λ x s. refl)
  over_alike (frame.Body f caller ∷ frames) i env env' u h = (λ w. refl, λ x s. refl)
  over_alike (frame.LetBody n ∷ frames) i env env' u h = outside n i env env' (IsOver fs frames) (Alike (frame.Side true ∷ frames)) u h
      (itself (frame.Side true ∷ frames)) (λ j l l' v k. left_alike frames l l' (over_alike frames j l l' v k))
  over_alike (frame.Branch b n ∷ frames) i env env' u h = outside n i env env' (IsOver fs frames) (Alike (frame.Side true ∷ frames)) u h
      (itself (frame.Side true ∷ frames)) (λ j l l' v k. left_alike frames l l' (over_alike frames j l l' v k))
  over_alike (frame.Side side ∷ frames) i env env' u h = left_alike frames env env' (over_alike frames i env env' u h)
  over_alike (frame.Item done [] ∷ frames) i env env' u h = outside 1 i env env' (IsOver fs frames) (Heads (frame.Item done []) frames) u.1 h
      (λ l. (λ w. refl, λ x s. refl)) (λ j l l' v k. last_alike done frames l l' (over_alike frames j l l' v k))
  over_alike (frame.Item done (y ∷ more) ∷ frames) i env env' u h = absurd u.0
  over_alike (frame.Args done ∷ frames) i env env' u h = goes_on_alike (frame.Args done) frames i env env' u.0 h (over_alike frames i env env' u.1 h)
  over_alike (frame.Condition ∷ frames) i env env' u h = goes_on_alike frame.Condition frames i env env' u.0 h (over_alike frames i env env' u.1 h)
  over_alike (frame.Subject ∷ frames) i env env' u h = goes_on_alike frame.Subject frames i env env' u.0 h (over_alike frames i env env' u.1 h)
  over_alike (frame.Rows ∷ frames) i env env' u h = goes_on_alike frame.Rows frames i env env' u.0 h (over_alike frames i env env' u.1 h)

-- ---- a variable's value is moved

same_set : (i : ℕ) (env : List Value) (x y : Value) → slice_get env i ≡ Some x → SameBut i env (slice_set env i y)
same_set zero [] x y e = cc
same_set zero (z ∷ env) x y e = there z y env
same_set (suc i) [] x y e = cc
same_set (suc i) (z ∷ env) x y e = further i z env (slice_set env i y) (same_set i env x y e)

module _ (fs : List Function) where
  read_moved : (m : Frames) (place : Term) (i : ℕ) (x y : Value) → place ≡ t.Variable i → slice_get m.values i ≡ Some x → IsOver fs m.frames i
      → Leads fs m (entering fs place) (entering_cost fs place) (record m { values = slice_set m.values i y }) (next.On (control.Give x))
  read_moved m place i x y is e over = record {
    same = λ d p store events.
        ap (resume d fs m.frames m.values) (comes d (state_of m store events))
        ∙ (over_alike fs d m.frames i m.values (slice_set m.values i y) over (same_set i m.values x y e)).0 (Done x (state_of m store events));
    less = λ d p store events. at_most _ _ _ (ap (λ w. after_cost w (frames_cost d fs m.frames m.values)) (comes d (state_of m store events))
        ∙ (over_alike fs d m.frames i m.values (slice_set m.values i y) over (same_set i m.values x y e)).1 x (state_of m store events));
    stands = tt;
    above = refl;
  }
    where
      comes : (d : Does) (s : State) → eval d (outcome_of d fs) place m.values s ≡ Done x s
      comes d s = ap (λ z. eval d (outcome_of d fs) z m.values s) is ∙ ap (λ z. given z (λ x. Done x s)) e

      at_most : (a b n : ℕ) → b ≡ a → 0 + a < suc (n + b)
      at_most a b n e = omega arith

  -- the value of a variable that nothing reads any more is given, and another one left in its place
  pub moves : (m m' : Frames) (place : Term) (i : ℕ) (x y : Value) → place ≡ t.Variable i → slice_get m.values i ≡ Some x → IsOver fs m.frames i
      → m' ≡ record m { values = slice_set m.values i y } → Leads fs m (entering fs place) (entering_cost fs place) m' (next.On (control.Give x))
  moves m m' place i x y is e over same = subst (λ z. Leads fs m (entering fs place) (entering_cost fs place) z (next.On (control.Give x))) (sym same) (read_moved m place i x y is e over)
