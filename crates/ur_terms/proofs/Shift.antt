-- A run comes to the same whatever events were noted before it: they stand before its own.
use Rattle.std.proofs.Common.{◌≡◌, ℕ, zero, suc, ◌-◌, List, [], ◌∷◌, ◌++◌, refl, sym, ap, ◌∙◌}
use Rattle.std.specs.Prelude.{slice_get}
use Rattle.std.proofs.lemmas.List.{append_assoc}
use Rattle.ur_values.specs.declared.value.Value.{Value}
use Rattle.ur_values.specs.Event.{Event}
use Rattle.ur_values.specs.Sql.{Sql}
use Rattle.ur_terms.specs.declared.term.Function.{Function}
use Rattle.ur_terms.specs.State.{State, Outcome, Done, Error, Spent, note}
use Rattle.ur_terms.specs.Ops.{does}
use Rattle.ur_terms.specs.Run.{run, outcome_of}
use Rattle.ur_terms.specs.Laws.{behind, all_behind}
use Rattle.ur_terms.proofs.Alike.{Both, both_done, both_error, both_spent, both_stuck, both_given, both_eval}
use Rattle.ur_terms.proofs.Steady.{Steady, both_does, both_joined, both_charge}

abbrev Shifted : List Event → State → State → Type 0
Shifted before s t = t ≡ behind before s

abbrev ShiftedEvents : List Event → List Event → List Event → Type 0
ShiftedEvents before e f = f ≡ before ++ e

shift_steady : (before : List Event) → Steady (Shifted before) (ShiftedEvents before)
shift_steady before = record {
  store = λ s t r. sym (ap (λ x. x.store) r);
  carried = λ s t r. sym (ap (λ x. x.carried) r);
  sent = λ s t r. sym (ap (λ x. x.sent) r);
  units = λ s t r. sym (ap (λ x. x.units) r);
  events = λ s t r. ap (λ x. x.events) r;
  noted = λ e s t r. ap (note e) r ∙ ap (λ l. record s { events = l }) (append_assoc before s.events (e ∷ []));
  charged = λ k s t r. ap (λ (x : State). record x { units = x.units - k }) r;
  stored = λ x s t r. ap (λ (y : State). record y { store = x }) r;
  cookied = λ xs s t r. ap (λ (y : State). record y { sent = xs }) r;
}

shifted_of : {A : Type 0} (before : List Event) (o p : Outcome A) → Both (Shifted before) (ShiftedEvents before) o p → p ≡ all_behind before o
shifted_of before o p (both_done x s t r) = ap (Done x) r
shifted_of before o p (both_error body e f r) = ap (Error body) r
shifted_of before o p (both_spent e f r) = ap Spent r
shifted_of before o p both_stuck = refl

module _ (before : List Event) (sql : Sql) (fs : List Function) where
  both_run : (n f : ℕ) (xs : List Value) (s t : State) → Shifted before s t → Both (Shifted before) (ShiftedEvents before) (run (does sql) fs n f xs s) (run (does sql) fs n f xs t)
  both_run zero f xs s t r = both_spent _ _ (ap (λ x. x.events) r)
  both_run (suc n) f xs s t r = both_given (Shifted before) (ShiftedEvents before) (slice_get fs f) _ _ (λ function.
      both_eval (Shifted before) (ShiftedEvents before) (does sql) (does sql) (run (does sql) fs n) (run (does sql) fs n)
      (λ g ys s t r. both_charge (Shifted before) (ShiftedEvents before) (shift_steady before) 1 s t (run (does sql) fs n g ys) (run (does sql) fs n g ys) r (λ s t r. both_run n g ys s t r))
      (λ o ys s t r. both_does (Shifted before) (ShiftedEvents before) (shift_steady before) sql o ys s t r)
      (λ ys s t r. both_joined (Shifted before) (ShiftedEvents before) (shift_steady before) ys s t r)
      function.body xs s t r)

  -- a call's events stand after those before it
  pub outcome_events : (f : ℕ) (xs : List Value) (s : State)
      → outcome_of (does sql) fs f xs (behind before s) ≡ all_behind before (outcome_of (does sql) fs f xs s)
  outcome_events f xs s = shifted_of before _ _ (both_run (suc s.units) f xs s (behind before s) refl)
