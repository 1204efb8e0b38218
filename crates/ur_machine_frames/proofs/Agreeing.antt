-- Operations that agree below a number of units leave the same of a run that has no more.
use Rattle.std.proofs.Common.{◌≡◌, ℕ, zero, suc, ◌≤◌, List, refl, ap, ◌∙◌, arith}
use Rattle.std.specs.Prelude.{slice_get}
use Rattle.ur_values.specs.declared.value.Value.{Value}
use Rattle.ur_terms.specs.declared.term.Op.{Op}
use Rattle.ur_terms.specs.declared.term.Function.{Function}
use Rattle.ur_terms.specs.State.{State, Outcome, charge, LeavesAtMost}
use Rattle.ur_terms.specs.Run.{Does, NeverRaises, joined, run, outcome_of}
use Rattle.ur_terms.proofs.Alike.{both_spent, both_given, both_eval}
use Rattle.ur_terms.proofs.Steady.{both_charge, both_joined}
use Rattle.ur_terms.proofs.Bound.{Same, SameEvents, AtMost, same_steady, equal_of, at_same, of_leaves}
use Rattle.ur_machine_frames.specs.declared.frame.Frame.{Frame}
use Rattle.ur_machine_frames.specs.Rest.{resume}
use Rattle.ur_machine_frames.proofs.Resuming.{both_resume}

module _ (d e : Does) (steady : NeverRaises d) (w : ℕ) (agree : (o : Op) (xs : List Value) (s : State) → s.units ≤ w → d o xs s ≡ e o xs s) (fs : List Function) where
  deeds_agree : (o : Op) (xs : List Value) (s t : State) → Same w s t → AtMost w (d o xs s) (e o xs t)
  deeds_agree o xs s t r = at_same w (d o xs s) (d o xs s) (e o xs t) (agree o xs s r.1 ∙ ap (e o xs) r.0) (of_leaves s.units w (d o xs s) (steady o xs s) r.1)

  joins_agree : (xs : List Value) (s t : State) → Same w s t → AtMost w (joined xs s) (joined xs t)
  joins_agree = both_joined (Same w) SameEvents (same_steady w)

  run_agree : (n f : ℕ) (xs : List Value) (s t : State) → Same w s t → AtMost w (run d fs n f xs s) (run e fs n f xs t)
  run_agree zero f xs s t r = both_spent _ _ (ap (λ x. x.events) r.0)
  run_agree (suc n) f xs s t r = both_given (Same w) SameEvents (slice_get fs f) _ _ (λ function.
      both_eval (Same w) SameEvents d e (run d fs n) (run e fs n)
      (λ g ys s t r. both_charge (Same w) SameEvents (same_steady w) 1 s t (run d fs n g ys) (run e fs n g ys) r (λ s t r. run_agree n g ys s t r))
      deeds_agree joins_agree function.body xs s t r)

  calls_agree : (f : ℕ) (xs : List Value) (s t : State) → Same w s t → AtMost w (charge 1 s (outcome_of d fs f xs)) (charge 1 t (outcome_of e fs f xs))
  calls_agree f xs s t r = both_charge (Same w) SameEvents (same_steady w) 1 s t (outcome_of d fs f xs) (outcome_of e fs f xs) r (λ s t r.
      at_same w _ _ _ (ap (outcome_of e fs f xs) r.0) (run_agree (suc s.units) f xs s s (refl, r.1)))

  pub resume_agrees : (frames : List Frame) (env : List Value) (o : Outcome Value) → LeavesAtMost w o → resume d fs frames env o ≡ resume e fs frames env o
  resume_agrees frames env o h = equal_of w _ _ (both_resume (Same w) SameEvents d e fs calls_agree deeds_agree joins_agree frames env o o (of_leaves w w o h (omega arith)))
