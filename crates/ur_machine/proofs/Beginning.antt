-- How a request's run begins.
use Rattle.std.proofs.Common.{◌≡◌, ◌≢◌, ℕ, List, [], ◌∷◌, Option, Some, None, refl, sym, ap, ◌∙◌}
use Rattle.std.specs.Prelude.{slice_get, option_map}
use Rattle.ur_values.specs.declared.value.Value.{Value}
use Rattle.ur_terms.specs.declared.term.Function.{Function}
use Rattle.ur_terms.specs.State.{State, Outcome}
use Rattle.ur_terms.specs.Ops.{given}
use Rattle.ur_terms.specs.Run.{Does, NeverRaises, eval, outcome_of}
use Rattle.ur_terms.proofs.Bound.{outcome_body}
use Rattle.ur_machine_frames.specs.declared.frame.Frame.TheVariants as frame
use Rattle.ur_machine_frames.specs.Rest.{standing, resume}
use Rattle.ur_machine_frames.proofs.Forms.{after_done}
use Rattle.ur_machine_frames.specs.declared.frame.Frame.{Frame}
use Rattle.ur_machine_frames.specs.Rest.{outer, state_of}
use Rattle.ur_machine_frames.specs.Plays.{until, no_store, held}
use Rattle.ur_values.specs.declared.value.Call.{Call}
use Rattle.ur_values.specs.Event.{Event}
use Rattle.ur_values.specs.Store.{Store}
use Rattle.ur_terms.specs.State.{Stuck}
use Rattle.ur_code.specs.declared.code.Code.{Code}
use Rattle.ur_code.specs.RouteTypes.{IsRequestOf}
use Rattle.ur_code.specs.Fits.{Fits}
use Rattle.ur_code.proofs.Unstuck.{route_at}
use Rattle.ur_machine.specs.declared.machine.Machine.{Machine}
use Rattle.ur_machine.specs.Cookies.{carried}
use Rattle.ur_machine.specs.Left.{begun, at_target, Starts}
use Rattle.ur_machine.specs.UnderWay.{IsUnderWay}

given_map : {A B : Type 0} (o : Option A) (f : A → B) (go : B → Outcome Value) → given (option_map f o) go ≡ given o (λ x. go (f x))
given_map None f go = refl
given_map (Some x) f go = refl

-- what is left at the beginning of a function is its call
pub at_start : (d : Does) → NeverRaises d → (fs : List Function) (f : ℕ) (args caller : List Value) (s : State)
    → resume d fs (frame.Body f caller ∷ []) args (given (standing fs (frame.Body f caller ∷ [])) (λ a. eval d (outcome_of d fs) a args s)) ≡ outcome_of d fs f args s
at_start d steady fs f args caller s =
    sym (after_done (given (standing fs (frame.Body f caller ∷ [])) (λ a. eval d (outcome_of d fs) a args s)))
    ∙ given_map (slice_get fs f) (λ function. function.body) (λ a. eval d (outcome_of d fs) a args s)
    ∙ sym (outcome_body d steady fs f args s)

same_state : (carried carried' : List Value) (sent sent' : List (ℕ × Value)) (units units' : ℕ) (store : Store) (events : List Event) → carried ≡ carried' → sent ≡ sent' → units ≡ units'
    → held carried sent store events units ≡ held carried' sent' store events units'
same_state carried carried' sent sent' units units' store events e f g =
    ap (λ xs. held xs sent store events units) e ∙ ap (λ xs. held carried' xs store events units) f ∙ ap (held carried' sent' store events) g

-- a machine with the frame of a call's function stands at the beginning of the call
pub starts_as : (code : Code) (call : Call) (pairs : List (List ℕ × List ℕ)) (steps : ℕ) (m : Machine) (f : ℕ) (caller : List Value) → m.given ≡ None → m.frames.frames ≡ frame.Body f caller ∷ []
    → m.frames.values ≡ call.args → m.frames.carried ≡ carried code.cookies pairs → m.frames.sent ≡ [] → m.frames.units ≡ steps → slice_get code.targets call.route ≡ Some f
    → Starts code call pairs steps m
starts_as code call pairs steps m f caller given_none frames values cookies sent units target d plays store events =
    let fs = code.functions in
    let s = state_of m.frames store events in
    ap (λ o. resume d fs m.frames.frames m.frames.values (begun d fs o (standing fs m.frames.frames) m.frames.values s)) given_none
    ∙ ap (λ fr. resume d fs fr m.frames.values (given (standing fs fr) (λ a. eval d (outcome_of d fs) a m.frames.values s))) frames
    ∙ ap (λ vs. resume d fs (frame.Body f caller ∷ []) vs (given (standing fs (frame.Body f caller ∷ [])) (λ a. eval d (outcome_of d fs) a vs s))) values
    ∙ at_start d plays.units fs f call.args caller s
    ∙ ap (outcome_of d fs f call.args) (same_state _ _ _ _ _ _ store events cookies sent units)
    ∙ ap (λ o. at_target d code o call.args (held (carried code.cookies pairs) [] store events steps)) (sym target)

stays_stuck : (fs : List Function) (d : Does) (frames : List Frame) (env : List Value) → resume d fs frames env Stuck ≡ Stuck
stays_stuck fs d [] env = refl
stays_stuck fs d (f ∷ frames) env = stays_stuck fs d frames (outer f env)

-- a machine under way that was given no value stands at a term
pub stands_there : (code : Code) (m : Machine) → IsUnderWay code m → m.given ≡ None → None ≡ standing code.functions m.frames.frames → ⊥
stands_there code m under given_none nowhere =
    under.safe (
    ap (λ o. resume until code.functions m.frames.frames m.frames.values (begun until code.functions o (standing code.functions m.frames.frames) m.frames.values (state_of m.frames no_store []))) given_none
    ∙ ap (λ place. resume until code.functions m.frames.frames m.frames.values
    (given place (λ a. eval until (outcome_of until code.functions) a m.frames.values (state_of m.frames no_store [])))) (sym nowhere)
    ∙ stays_stuck code.functions until m.frames.frames m.frames.values
    )

-- the function of a request's route is there
pub target_there : (code : Code) → Fits code → (call : Call) → IsRequestOf code.handlers call → slice_get code.targets call.route ≢ None
target_there code fit call request none = let at = route_at code fit call.route request.route request.is_route in nothing_there (sym none ∙ at.1)
  where
    nothing_there : {A : Type 0} {x : A} → None ≡ Some x → ⊥
    nothing_there e = cc
