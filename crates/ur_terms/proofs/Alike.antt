-- Two runs of a term that begin in related states go on alike, where their calls and operations do.
use Rattle.std.proofs.Common.{ℕ, List, [], ◌∷◌, ◌++◌, Option, Some, None, Bool, true, false, if◌then◌else◌}
use Rattle.ur_values.specs.declared.value.Value.{Value}
use Rattle.ur_values.specs.Event.{Event}
use Rattle.ur_terms.specs.declared.term.Op.{Op}
use Rattle.ur_terms.specs.declared.term.Term.{Term, Row_of-Term, end_of-Term, more_of-Term, Row_of-Branch, end_of-Branch, more_of-Branch}
use Rattle.ur_terms.specs.declared.term.Term.TheVariants as t
use Rattle.ur_terms.specs.State.{State, Outcome, Done, Error, Spent, Stuck, after, charge}
use Rattle.ur_terms.specs.Values.{as_bool, as_items}
use Rattle.ur_terms.specs.Ops.{given}
use Rattle.ur_terms.specs.Run.{Does, Calls, eval, eval_one, eval_all, eval_branches, for_each, joined, matched, on_match}

-- The same result, in related states; or the same end, after related events.
pub data Both (R : State → State → Type 0) (E : List Event → List Event → Type 0) {A : Type 0} : Outcome A → Outcome A → Type 0 where
  both_done : (x : A) (s t : State) → R s t → Both R E (Done x s) (Done x t)
  both_error : (body : Value) (e f : List Event) → E e f → Both R E (Error body e) (Error body f)
  both_spent : (e f : List Event) → E e f → Both R E (Spent e) (Spent f)
  both_stuck : Both R E Stuck Stuck

module _ (R : State → State → Type 0) (E : List Event → List Event → Type 0) where
  pub both_after : {A B : Type 0} (o p : Outcome A) (go come : A → State → Outcome B) → Both R E o p
      → ((x : A) (s t : State) → R s t → Both R E (go x s) (come x t)) → Both R E (after o go) (after p come)
  both_after o p go come (both_done x s t r) h = h x s t r
  both_after o p go come (both_error body e f r) h = both_error body e f r
  both_after o p go come (both_spent e f r) h = both_spent e f r
  both_after o p go come both_stuck h = both_stuck

  pub both_given : {A B : Type 0} (o : Option A) (go come : A → Outcome B)
      → ((x : A) → Both R E (go x) (come x)) → Both R E (given o go) (given o come)
  both_given None go come h = both_stuck
  both_given (Some x) go come h = h x

  pub both_if : {A : Type 0} (c : Bool) (a b a' b' : Outcome A) → Both R E a a' → Both R E b b'
      → Both R E (if c then a else b) (if c then a' else b')
  both_if true a b a' b' h k = h
  both_if false a b a' b' h k = k

  pub both_match : {A : Type 0} (m : Option (List Value)) (go come : List Value → Outcome A) (a b : Outcome A)
      → ((xs : List Value) → Both R E (go xs) (come xs)) → Both R E a b → Both R E (on_match m go a) (on_match m come b)
  both_match None go come a b h k = k
  both_match (Some xs) go come a b h k = h xs

  pub both_each : (go come : Value → State → Outcome Value) → ((x : Value) (s t : State) → R s t → Both R E (go x s) (come x t))
      → (xs : List Value) (s t : State) → R s t → Both R E (for_each go xs s) (for_each come xs t)
  both_each go come h [] s t r = both_done [] s t r
  both_each go come h (x ∷ xs) s t r =
      both_after _ _ _ _ (h x s t r) (λ y s t r. both_after _ _ _ _ (both_each go come h xs s t r) (λ ys s t r. both_done (y ∷ ys) s t r))

  module _ (m n : Does) (c d : Calls)
      (calls : (f : ℕ) (xs : List Value) (s t : State) → R s t → Both R E (charge 1 s (c f xs)) (charge 1 t (d f xs)))
      (deeds : (o : Op) (xs : List Value) (s t : State) → R s t → Both R E (m o xs s) (n o xs t))
      (joins : (xs : List Value) (s t : State) → R s t → Both R E (joined xs s) (joined xs t)) where
    mutual
      pub both_eval : (a : Term) (env : List Value) (s t : State) → R s t → Both R E (eval m c a env s) (eval n d a env t)
      both_eval (t.Variable i) env s t r = both_given _ _ _ (λ x. both_done x s t r)
      both_eval (t.Int i) env s t r = both_done _ s t r
      both_eval (t.Str text) env s t r = both_done _ s t r
      both_eval (t.Bool b) env s t r = both_done _ s t r
      both_eval (t.Make' o _ args) env s t r = both_after _ _ _ _ (both_all args env s t r) (λ xs s t r. deeds o xs s t r)
      both_eval (t.Call' f _ args) env s t r = both_after _ _ _ _ (both_all args env s t r) (λ xs s t r. calls f xs s t r)
      both_eval (t.Let' _ args _ body) env s t r =
          both_after _ _ _ _ (both_all args env s t r) (λ xs s t r. both_one body (xs ++ env) s t r)
      both_eval (t.If' _ x _ a _ b) env s t r = both_after _ _ _ _ (both_one x env s t r) (λ y s t r.
          both_given (as_bool y) _ _ (λ yes. both_if yes _ _ _ _ (both_one a env s t r) (both_one b env s t r)))
      both_eval (t.Case' _ x _ bs) env s t r = both_after _ _ _ _ (both_one x env s t r) (λ y s t r. both_branches bs y env s t r)
      both_eval (t.Each' _ rows _ body) env s t r = both_after _ _ _ _ (both_one rows env s t r) (λ x s t r.
          both_given (as_items x) _ _ (λ items. both_after _ _ _ _
          (both_each _ _ (λ y s t r. both_one body (y ∷ env) s t r) items s t r)
          (λ xs s t r. joins xs s t r)))

      pub both_one : {k : _} (a : Row_of-Term k) (env : List Value) (s t : State) → R s t
          → Both R E (eval_one m c a env s) (eval_one n d a env t)
      both_one end_of-Term env s t r = both_stuck
      both_one (more_of-Term x rest) env s t r = both_eval x env s t r

      pub both_all : {k : _} (a : Row_of-Term k) (env : List Value) (s t : State) → R s t
          → Both R E (eval_all m c a env s) (eval_all n d a env t)
      both_all end_of-Term env s t r = both_done [] s t r
      both_all (more_of-Term x rest) env s t r = both_after _ _ _ _ (both_eval x env s t r) (λ y s t r.
          both_after _ _ _ _ (both_all rest env s t r) (λ ys s t r. both_done (y ∷ ys) s t r))

      pub both_branches : {k : _} (bs : Row_of-Branch k) (x : Value) (env : List Value) (s t : State) → R s t
          → Both R E (eval_branches m c bs x env s) (eval_branches n d bs x env t)
      both_branches end_of-Branch x env s t r = both_stuck
      both_branches (more_of-Branch pattern body rest) x env s t r =
          both_match (matched pattern x) _ _ _ _ (λ bound. both_eval body (bound ++ env) s t r) (both_branches rest x env s t r)
