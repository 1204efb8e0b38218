-- How a call begins.
use Rattle.std.proofs.Common.{◌≡◌, ℕ, List, [], ◌∷◌, Some, None, sym, ap, ◌∙◌, Bor}
use Rattle.std.specs.Prelude.{slice_get, option_map}
use Rattle.ur_values.specs.declared.value.Value.{Value}
use Rattle.ur_values.specs.Event.{Event}
use Rattle.ur_values.specs.Store.{Store}
use Rattle.ur_terms.specs.declared.term.Term.{Term}
use Rattle.ur_terms.specs.declared.term.Function.{Function}
use Rattle.ur_terms.specs.State.{State, Stuck}
use Rattle.ur_terms.specs.Ops.{given}
use Rattle.ur_terms.specs.Run.{Does, eval, run, outcome_of}
use Rattle.ur_terms.proofs.Bound.{outcome_body}
use Rattle.ur_machine_frames.specs.declared.frame.Frame.{Frame}
use Rattle.ur_machine_frames.specs.declared.frame.Frame.TheVariants as frame
use Rattle.ur_machine_frames.specs.declared.frame.Frames.{Frames}
use Rattle.ur_machine_frames.specs.Rest.{standing, resume, state_of}
use Rattle.ur_machine_frames.specs.Plays.{Plays, until}
use Rattle.ur_machine_frames.proofs.Forms.{after_done}

module _ (fs : List Function) (f : ℕ) (function : Function) (known : slice_get fs f ≡ Some function) where
  pub started : (m : Frames) (args caller : List Value) → m.frames ≡ frame.Body f caller ∷ [] → m.values ≡ args
      → (d : Does) → Plays d → (store : Store) (events : List Event)
      → resume d fs m.frames m.values (eval d (outcome_of d fs) function.body m.values (state_of m store events)) ≡ outcome_of d fs f args (state_of m store events)
  started m args caller frames values d p store events =
      ap (λ fr. resume d fs fr m.values (eval d (outcome_of d fs) function.body m.values (state_of m store events))) frames
      ∙ sym (after_done (eval d (outcome_of d fs) function.body m.values (state_of m store events)))
      ∙ ap (λ env. eval d (outcome_of d fs) function.body env (state_of m store events)) values
      ∙ ap (λ z. given z (λ function. eval d (outcome_of d fs) function.body args (state_of m store events))) (sym known)
      ∙ sym (outcome_body d p.units fs f args (state_of m store events))

  pub start_stands : (frames : List Frame) (caller : List Value) (r : Bor Term) → r.now ≡ function.body → frames ≡ frame.Body f caller ∷ [] → standing fs frames ≡ Some r.now
  start_stands frames caller r body e = ap (standing fs) e ∙ ap (option_map (λ function. function.body)) known ∙ ap Some (sym body)

pub start_known : (fs : List Function) (f : ℕ) (args : List Value) (s : State) → slice_get fs f ≡ None → outcome_of until fs f args s ≡ Stuck
start_known fs f args s e = ap (λ z. given z (λ function. eval until (run until fs s.units) function.body args s)) e
