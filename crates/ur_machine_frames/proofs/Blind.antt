-- Runs up to the next operation on tables do not see the tables.
use Rattle.std.proofs.Common.{◌≡◌, ◌≢◌, ℕ, zero, suc, ◌-◌, ℤ, pos, List, [], ◌∷◌, ◌++◌, take, drop, Some, if◌then◌else◌, refl, sym, ap, subst}
use Rattle.std.specs.Prelude.{nat_le, slice_get, int_rem}
use Rattle.std.specs.Int.{w64, int_wrapping_div}
use Rattle.std.specs.Ordering.{int_eq}
use Rattle.ur_values.specs.declared.value.Value.{Value}
use Rattle.ur_values.specs.declared.value.Value.TheVariants as v
use Rattle.ur_values.specs.declared.value.Node.TheVariants as n
use Rattle.ur_values.specs.Event.{Event}
use Rattle.ur_values.specs.Store.{Store}
use Rattle.ur_values.specs.Size.{is_small}
use Rattle.ur_terms.specs.declared.term.Op.{Op}
use Rattle.ur_terms.specs.declared.term.Op.TheVariants as op
use Rattle.ur_terms.specs.declared.term.Function.{Function}
use Rattle.ur_terms.specs.State.{State, Outcome, Done, Spent, Stuck, charge, built, with_cookie}
use Rattle.ur_terms.specs.Values.{as_int, as_bool, as_text, as_fields, as_items, all_nodes, shown, fields_of, field_at, fields_together}
use Rattle.ur_terms.specs.Ops.{given, divided, optional_text, with_unit}
use Rattle.ur_terms.specs.Run.{joined, run, outcome_of}
use Rattle.ur_terms.proofs.Alike.{Both, both_done, both_error, both_spent, both_stuck, both_given, both_if, both_eval}
use Rattle.ur_terms.proofs.Steady.{both_no_arg, both_one_arg, both_two_args, both_two_ints}
use Rattle.ur_machine_frames.specs.declared.frame.Frame.{Frame}
use Rattle.ur_machine_frames.specs.Rest.{resume}
use Rattle.ur_machine_frames.specs.Plays.{until, held, no_store}
use Rattle.ur_machine_frames.proofs.Resuming.{both_resume}

-- States that are related have the same cookies and units, and stay related where both are changed alike; their tables may
-- differ.
pub record Blind (R : State → State → Type 0) (E : List Event → List Event → Type 0) : Type 0 where
  pub carried : (s t : State) → R s t → s.carried ≡ t.carried
  pub sent : (s t : State) → R s t → s.sent ≡ t.sent
  pub units : (s t : State) → R s t → s.units ≡ t.units
  pub events : (s t : State) → R s t → E s.events t.events
  pub charged : (k : ℕ) (s t : State) → R s t → R (record s { units = s.units - k }) (record t { units = t.units - k })
  pub cookied : (xs : List (ℕ × Value)) (s t : State) → R s t → R (record s { sent = xs }) (record t { sent = xs })

module _ (R : State → State → Type 0) (E : List Event → List Event → Type 0) where
  module _ (b : Blind R E) where
    blind_built : (x : Value) (s t : State) → R s t → Both R E (built x s) (built x t)
    blind_built x s t r = both_if R E (is_small x) _ _ _ _ (both_done x s t r) (both_spent _ _ (b.events s t r))

    blind_divided : (f : ℤ → ℤ → ℤ) (i j : ℤ) (s t : State) → R s t → Both R E (divided f i j s) (divided f i j t)
    blind_divided f i j s t r = both_if R E (int_eq j (pos 0)) _ _ _ _ (both_error _ _ _ (b.events s t r)) (both_done _ s t r)

    blind_joined : (xs : List Value) (s t : State) → R s t → Both R E (joined xs s) (joined xs t)
    blind_joined xs s t r = both_given R E (all_nodes xs) _ _ (λ nodes. blind_built (v.Markup nodes) s t r)

    blind_charge : (s t : State) (go come : State → Outcome Value) → R s t
        → ((s t : State) → R s t → Both R E (go s) (come t)) → Both R E (charge 1 s go) (charge 1 t come)
    blind_charge s t go come r h =
        subst (λ c. Both R E (if nat_le 1 s.units then go (record s { units = s.units - 1 }) else Spent s.events) (if c then come (record t { units = t.units - 1 }) else Spent t.events))
        (ap (nat_le 1) (b.units s t r))
        (both_if R E (nat_le 1 s.units) _ _ _ _ (h _ _ (b.charged 1 s t r)) (both_spent _ _ (b.events s t r)))

    blind_until : (o : Op) (xs : List Value) (s t : State) → R s t → Both R E (until o xs s) (until o xs t)
    blind_until op.Add xs s t r = both_two_ints R E xs _ _ (λ a b. both_done _ s t r)
    blind_until op.Sub xs s t r = both_two_ints R E xs _ _ (λ a b. both_done _ s t r)
    blind_until op.Mul xs s t r = both_two_ints R E xs _ _ (λ a b. both_done _ s t r)
    blind_until op.Div xs s t r = both_two_ints R E xs _ _ (λ a b. blind_divided (int_wrapping_div w64) a b s t r)
    blind_until op.Rem xs s t r = both_two_ints R E xs _ _ (λ a b. blind_divided int_rem a b s t r)
    blind_until op.Neg xs s t r = both_one_arg R E xs _ _ (λ x. both_given R E (as_int x) _ _ (λ a. both_done _ s t r))
    blind_until op.Append xs s t r = both_two_args R E xs _ _ (λ a b. both_given R E (as_text a) _ _ (λ x. both_given R E (as_text b) _ _ (λ y. blind_built (v.Str (x ++ y)) s t r)))
    blind_until op.Not xs s t r = both_one_arg R E xs _ _ (λ x. both_given R E (as_bool x) _ _ (λ a. both_done _ s t r))
    blind_until op.Equal xs s t r = both_two_args R E xs _ _ (λ a b. both_done _ s t r)
    blind_until op.Unequal xs s t r = both_two_args R E xs _ _ (λ a b. both_done _ s t r)
    blind_until op.Less xs s t r = both_two_args R E xs _ _ (λ a b. both_done _ s t r)
    blind_until op.LessEqual xs s t r = both_two_args R E xs _ _ (λ a b. both_done _ s t r)
    blind_until op.Greater xs s t r = both_two_args R E xs _ _ (λ a b. both_done _ s t r)
    blind_until op.GreaterEqual xs s t r = both_two_args R E xs _ _ (λ a b. both_done _ s t r)
    blind_until op.Show xs s t r = both_one_arg R E xs _ _ (λ x. both_given R E (shown x) _ _ (λ a. blind_built (v.Str a) s t r))
    blind_until (op.Record names) xs s t r = both_given R E (fields_of names xs) _ _ (λ fs. blind_built (v.Row fs) s t r)
    blind_until (op.Project name) xs s t r = both_one_arg R E xs _ _ (λ x. both_given R E (as_fields x) _ _ (λ fs. both_given R E (field_at name fs) _ _ (λ y. both_done _ s t r)))
    blind_until op.Join xs s t r = both_two_args R E xs _ _ (λ a b. both_given R E (as_fields a) _ _ (λ fs. both_given R E (as_fields b) _ _ (λ gs. blind_built (v.Row (fields_together fs gs)) s t r)))
    blind_until (op.Cut name) xs s t r = both_one_arg R E xs _ _ (λ x. both_given R E (as_fields x) _ _ (λ fs. both_done _ s t r))
    blind_until (op.Absent of) xs s t r = both_no_arg R E xs _ _ (both_done _ s t r)
    blind_until op.Present xs s t r = both_one_arg R E xs _ _ (λ x. blind_built (v.Present x) s t r)
    blind_until (op.Empty of) xs s t r = both_no_arg R E xs _ _ (both_done _ s t r)
    blind_until op.Cons xs s t r = both_two_args R E xs _ _ (λ a b. both_given R E (as_items b) _ _ (λ items. blind_built (v.Many (a ∷ items)) s t r))
    blind_until (op.Tagged c) [] s t r = both_done _ s t r
    blind_until (op.Tagged c) (x ∷ xs) s t r = both_one_arg R E (x ∷ xs) _ _ (λ y. blind_built (v.Tagged c (Some y)) s t r)
    blind_until (op.Fail of) xs s t r = both_one_arg R E xs _ _ (λ x. both_error x _ _ (b.events s t r))
    blind_until (op.Markup of) xs s t r = both_given R E (all_nodes xs) _ _ (λ nodes. blind_built (v.Markup nodes) s t r)
    blind_until (op.Text text) xs s t r = both_no_arg R E xs _ _ (blind_built (v.Markup (n.Text text ∷ [])) s t r)
    blind_until op.Shown xs s t r = both_one_arg R E xs _ _ (λ x. both_given R E (shown x) _ _ (λ a. blind_built (v.Markup (n.Text a ∷ [])) s t r))
    blind_until (op.Element tag) xs s t r = both_given R E (all_nodes xs) _ _ (λ kids. blind_built (v.Markup (n.Element tag kids ∷ [])) s t r)
    blind_until (op.Link route k) xs s t r = both_given R E (all_nodes (drop k xs)) _ _ (λ kids. blind_built (v.Markup (n.Link (record { route = route; args = take k xs }) kids ∷ [])) s t r)
    blind_until (op.Input kind name text) xs s t r = both_given R E (optional_text xs) _ _ (λ value. blind_built (v.Markup (n.Field kind text value ∷ [])) s t r)
    blind_until (op.Submit route k unit) xs s t r = both_given R E (optional_text (drop k xs)) _ _ (λ label. blind_built (v.Markup (n.Submit (record { route = route; args = with_unit unit (take k xs) }) label ∷ [])) s t r)
    blind_until (op.Ask how site) xs s t r = both_spent _ _ (b.events s t r)
    blind_until (op.Write update) xs s t r = both_spent _ _ (b.events s t r)
    blind_until (op.Next q) xs s t r = both_spent _ _ (b.events s t r)
    blind_until (op.GetCookie c) xs s t r = both_no_arg R E xs _ _
        (subst (λ x. Both R E (given (slice_get s.carried c) (λ x. Done x s)) (given (slice_get x c) (λ x. Done x t))) (b.carried s t r)
        (both_given R E (slice_get s.carried c) _ _ (λ x. both_done x s t r)))
    blind_until (op.SetCookie c) xs s t r = both_one_arg R E xs _ _ (λ x.
        both_done _ _ _ (subst (λ ys. R (record s { sent = with_cookie c x s.sent }) (record t { sent = with_cookie c x ys })) (b.sent s t r) (b.cookied _ s t r)))

    blind_run : (fs : List Function) (n f : ℕ) (xs : List Value) (s t : State) → R s t → Both R E (run until fs n f xs s) (run until fs n f xs t)
    blind_run fs zero f xs s t r = both_spent _ _ (b.events s t r)
    blind_run fs (suc n) f xs s t r = both_given R E (slice_get fs f) _ _ (λ function.
        both_eval R E until until (run until fs n) (run until fs n)
        (λ g ys s t r. blind_charge s t (run until fs n g ys) (run until fs n g ys) r (λ s t r. blind_run fs n g ys s t r))
        blind_until blind_joined function.body xs s t r)

    blind_calls : (fs : List Function) (f : ℕ) (xs : List Value) (s t : State) → R s t → Both R E (charge 1 s (outcome_of until fs f xs)) (charge 1 t (outcome_of until fs f xs))
    blind_calls fs f xs s t r = blind_charge s t (outcome_of until fs f xs) (outcome_of until fs f xs) r (λ s t r.
        subst (λ n. Both R E (run until fs (suc s.units) f xs s) (run until fs n f xs t)) (ap suc (b.units s t r)) (blind_run fs (suc s.units) f xs s t r))

    pub blind_resume : (fs : List Function) (frames : List Frame) (env : List Value) (o p : Outcome Value) → Both R E o p → Both R E (resume until fs frames env o) (resume until fs frames env p)
    blind_resume fs frames env o p h = both_resume R E until until fs (blind_calls fs) blind_until blind_joined frames env o p h

-- ---- the same state but for its tables

abbrev Elsewhere : Store → State → State → Type 0
Elsewhere store s t = t ≡ record s { store = store }

abbrev SameEvents : List Event → List Event → Type 0
SameEvents e f = e ≡ f

elsewhere : (store : Store) → Blind (Elsewhere store) SameEvents
elsewhere store = record {
  carried = λ s t r. sym (ap (λ x. x.carried) r);
  sent = λ s t r. sym (ap (λ x. x.sent) r);
  units = λ s t r. sym (ap (λ x. x.units) r);
  events = λ s t r. sym (ap (λ x. x.events) r);
  charged = λ k s t r. ap (λ (x : State). record x { units = x.units - k }) r;
  cookied = λ xs s t r. ap (λ (x : State). record x { sent = xs }) r;
}

stuck_both : (R : State → State → Type 0) (E : List Event → List Event → Type 0) (o p : Outcome Value) → Both R E o p → p ≡ Stuck → o ≡ Stuck
stuck_both R E o p (both_done x s t r) e = cc
stuck_both R E o p (both_error body e' f r) e = cc
stuck_both R E o p (both_spent e' f r) e = cc
stuck_both R E o p both_stuck e = refl

-- A run up to the next operation on tables that does not get stuck over some tables does not over none.
pub anywhere : (fs : List Function) (f : ℕ) (xs carried : List Value) (store : Store) (units : ℕ) → outcome_of until fs f xs (held carried [] store [] units) ≢ Stuck
    → outcome_of until fs f xs (held carried [] no_store [] units) ≢ Stuck
anywhere fs f xs carried store units safe stuck =
    safe (stuck_both (Elsewhere no_store) SameEvents _ _
    (blind_run (Elsewhere no_store) SameEvents (elsewhere no_store) fs (suc units) f xs (held carried [] store [] units) (held carried [] no_store [] units) refl) stuck)
