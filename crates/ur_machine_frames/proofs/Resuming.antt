-- What is left of a run on related states comes to the same, where operations and calls do.
use Rattle.std.proofs.Common.{List, [], ◌∷◌, ◌++◌, length, drop, Option, ℕ}
use Rattle.ur_values.specs.declared.value.Value.{Value}
use Rattle.ur_values.specs.Event.{Event}
use Rattle.ur_terms.specs.declared.term.Op.{Op}
use Rattle.ur_terms.specs.declared.term.Branch.{Branch}
use Rattle.ur_terms.specs.declared.term.Function.{Function}
use Rattle.ur_terms.specs.declared.term.Term.{Term, out-Term}
use Rattle.ur_terms.specs.declared.term.Term.TheOpen as o
use Rattle.ur_terms.specs.State.{State, Outcome, charge}
use Rattle.ur_terms.specs.Values.{as_bool, as_items}
use Rattle.ur_terms.specs.Run.{Does, eval, eval_list, first_branch, joined, matched, outcome_of}
use Rattle.ur_terms.proofs.Alike.{Both, both_done, both_stuck, both_after, both_given, both_if, both_match, both_each, both_eval}
use Rattle.ur_machine_frames.specs.declared.frame.Frame.{Frame}
use Rattle.ur_machine_frames.specs.declared.frame.Frame.TheVariants as frame
use Rattle.ur_machine_frames.specs.Rest.{Open, args_of, standing, outer, applied, args_from, items_from, goes_on, frame_goes_on, resume}

module _ (R : State → State → Type 0) (E : List Event → List Event → Type 0) (m n : Does) (fs : List Function)
    (calls : (f : ℕ) (xs : List Value) (s t : State) → R s t → Both R E (charge 1 s (outcome_of m fs f xs)) (charge 1 t (outcome_of n fs f xs)))
    (deeds : (op : Op) (xs : List Value) (s t : State) → R s t → Both R E (m op xs s) (n op xs t))
    (joins : (xs : List Value) (s t : State) → R s t → Both R E (joined xs s) (joined xs t)) where
  both_term : (a : Term) (env : List Value) (s t : State) → R s t → Both R E (eval m (outcome_of m fs) a env s) (eval n (outcome_of n fs) a env t)
  both_term = both_eval R E m n (outcome_of m fs) (outcome_of n fs) calls deeds joins

  both_list : (as' : List Term) (env : List Value) (s t : State) → R s t → Both R E (eval_list m (outcome_of m fs) as' env s) (eval_list n (outcome_of n fs) as' env t)
  both_list [] env s t r = both_done [] s t r
  both_list (a ∷ more) env s t r = both_after R E _ _ _ _ (both_term a env s t r) (λ y s t r.
      both_after R E _ _ _ _ (both_list more env s t r) (λ ys s t r. both_done (y ∷ ys) s t r))

  both_first : (bs : List Branch) (x : Value) (env : List Value) (s t : State) → R s t → Both R E (first_branch m (outcome_of m fs) bs x env s) (first_branch n (outcome_of n fs) bs x env t)
  both_first [] x env s t r = both_stuck
  both_first (b ∷ bs) x env s t r = both_match R E (matched b.pattern x) _ _ _ _ (λ bound. both_term b.body (bound ++ env) s t r) (both_first bs x env s t r)

  both_applied : (a : Open) (env xs : List Value) (s t : State) → R s t → Both R E (applied m (outcome_of m fs) a env xs s) (applied n (outcome_of n fs) a env xs t)
  both_applied (o.Make op args) env xs s t r = deeds op xs s t r
  both_applied (o.Call f args) env xs s t r = calls f xs s t r
  both_applied (o.Let args body) env xs s t r = both_term body (xs ++ env) s t r
  both_applied _ env xs s t r = both_stuck

  both_args : (a : Open) (env done : List Value) (s t : State) → R s t → Both R E (args_from m (outcome_of m fs) a env done s) (args_from n (outcome_of n fs) a env done t)
  both_args a env done s t r = both_given R E (args_of a) _ _ (λ args. both_after R E _ _ _ _ (both_list (drop (length done) args) env s t r) (λ ys s t r.
      both_applied a env (done ++ ys) s t r))

  both_items : (body : Term) (env done more : List Value) (s t : State) → R s t → Both R E (items_from m (outcome_of m fs) body env done more s) (items_from n (outcome_of n fs) body env done more t)
  both_items body env done more s t r = both_after R E _ _ _ _ (both_each R E _ _ (λ y s t r. both_term body (y ∷ env) s t r) more s t r) (λ ys s t r. joins (done ++ ys) s t r)

  both_goes : (f : Frame) (a : Open) (env : List Value) (x : Value) (s t : State) → R s t → Both R E (goes_on m (outcome_of m fs) f a env x s) (goes_on n (outcome_of n fs) f a env x t)
  both_goes (frame.Args done) a env x s t r = both_args a env (done ++ x ∷ []) s t r
  both_goes frame.Condition (o.If q a b) env x s t r = both_given R E (as_bool x) _ _ (λ truth. both_if R E truth _ _ _ _ (both_term a env s t r) (both_term b env s t r))
  both_goes frame.Subject (o.Case q bs) env x s t r = both_first bs x env s t r
  both_goes frame.Rows (o.Each q body) env x s t r = both_given R E (as_items x) _ _ (λ items. both_items body env [] items s t r)
  both_goes (frame.Item done more) (o.Each q body) env x s t r = both_items body env (done ++ x ∷ []) more s t r
  both_goes _ _ env x s t r = both_stuck

  both_frame : (f : Frame) (place : Option Term) (env : List Value) (x : Value) (s t : State) → R s t
      → Both R E (frame_goes_on m (outcome_of m fs) f place env x s) (frame_goes_on n (outcome_of n fs) f place env x t)
  both_frame (frame.Body f caller) place env x s t r = both_done x s t r
  both_frame (frame.LetBody k) place env x s t r = both_done x s t r
  both_frame (frame.Side side) place env x s t r = both_done x s t r
  both_frame (frame.Branch k bound) place env x s t r = both_done x s t r
  both_frame (frame.Args done) place env x s t r = both_given R E place _ _ (λ a. both_goes (frame.Args done) (out-Term a) env x s t r)
  both_frame frame.Condition place env x s t r = both_given R E place _ _ (λ a. both_goes frame.Condition (out-Term a) env x s t r)
  both_frame frame.Subject place env x s t r = both_given R E place _ _ (λ a. both_goes frame.Subject (out-Term a) env x s t r)
  both_frame frame.Rows place env x s t r = both_given R E place _ _ (λ a. both_goes frame.Rows (out-Term a) env x s t r)
  both_frame (frame.Item done more) place env x s t r = both_given R E place _ _ (λ a. both_goes (frame.Item done more) (out-Term a) env x s t r)

  -- what comes of outcomes that are alike, under the same frames
  pub both_resume : (frames : List Frame) (env : List Value) (o p : Outcome Value) → Both R E o p → Both R E (resume m fs frames env o) (resume n fs frames env p)
  both_resume [] env o p h = h
  both_resume (f ∷ frames) env o p h = both_resume frames (outer f env) _ _ (both_after R E _ _ _ _ h (λ x s t r. both_frame f (standing fs frames) (outer f env) x s t r))
