-- How a request's run is under way from its beginning.
use Rattle.std.proofs.Common.{◌≡◌, ◌≢◌, ◌⊎◌, inl, inr, ℕ, ◌-◌, ◌≤◌, List, [], length, Option, Some, None, refl, sym, ap, ap₂, subst, ◌∙◌, arith}
use Rattle.std.specs.Prelude.{map, option_map, slice_get}
use Rattle.std.specs.List.{AllZip}
use Rattle.std.proofs.lemmas.Option.{slice_get-map}
use Rattle.std.proofs.lemmas.List.Elements.{recursion_from_All}
use Rattle.ur_values.specs.declared.types.ValueType.{ValueType}
use Rattle.ur_values.specs.declared.types.ValueType.TheVariants as ty
use Rattle.ur_values.specs.declared.value.Value.{Value}
use Rattle.ur_values.specs.declared.value.Call.{Call}
use Rattle.ur_values.specs.Event.{Event}
use Rattle.ur_values.specs.Store.{Store, empty_store}
use Rattle.ur_terms.specs.declared.term.Op.{Op}
use Rattle.ur_terms.specs.declared.term.Op.TheVariants as op
use Rattle.ur_terms.specs.State.{State, Outcome, Done, Error, Spent, Stuck}
use Rattle.ur_terms.specs.Types.{OpType, FitsFunction, function_type}
use Rattle.ur_terms.specs.Sound.{Comes, Typing, IsStateOf, NumbersLast}
use Rattle.ur_terms.specs.Ops.{does}
use Rattle.ur_terms.specs.Run.{Does, joined}
use Rattle.ur_terms.proofs.Typed.{typed_outcome}
use Rattle.ur_terms.proofs.TypedDeeds.{typing}
use Rattle.ur_machine_frames.specs.Plays.{Plays, IsLocal, until, no_store, held}
use Rattle.ur_machine_frames.proofs.Playing.{until_plays, does_plays}
use Rattle.ur_machine_frames.proofs.Blind.{anywhere}
use Rattle.ur_code.specs.declared.code.Code.{Code}
use Rattle.ur_code.specs.RouteTypes.{route_params, IsRequestOf}
use Rattle.ur_code.specs.Meaning.{code_sql}
use Rattle.ur_code.specs.Fits.{Fits, signature}
use Rattle.ur_code.specs.Sound.{FitsState, FitsCookie, IsOf}
use Rattle.ur_code.proofs.Numbers.{fewer_last}
use Rattle.ur_code.proofs.Requests.{request_values}
use Rattle.ur_code.proofs.Unstuck.{own, V, kept, route_at, keeps_xml, keeps_tables, state_is, is_state}
use Rattle.ur_machine.specs.declared.machine.Machine.{Machine}
use Rattle.ur_machine.specs.Left.{left, at_target}
use Rattle.ur_machine.specs.UnderWay.{KeepTypes, IsUnderWay, Shows}
use Rattle.ur_machine.proofs.MachineStoreCalls.{until_keeps}
use Rattle.ur_machine.proofs.Running.{empty_fits, empty_lasts}

local_or : (o : Op) → IsLocal o ⊎ (IsLocal o → ⊥)
local_or (op.Ask how site) = inr (λ l. l)
local_or (op.Write update) = inr (λ l. l)
local_or (op.Next q) = inr (λ l. l)
local_or _ = inl tt

-- it comes to what more is said of
comes_more : {A : Type 0} (P : A → Type 0) (S T : State → Type 0) (B C : Value → Type 0) (w : Outcome A) → Comes P S B w → ((s : State) → S s → T s) → ((x : Value) → B x → C x)
    → Comes P T C w
comes_more P S T B C (Done x s) h k l = (h.0, k s h.1)
comes_more P S T B C (Error body events) h k l = l body h
comes_more P S T B C (Spent events) h k l = tt
comes_more P S T B C Stuck h k l = absurd h

module _ (code : Code) (fit : Fits code) where
  abbrev S : State → Type 0
  S = IsStateOf (signature code) (V code fit) (kept code fit)

  table : Typing (signature code) (V code fit) S (λ x. V code fit x ty.Xbody) (does (code_sql code))
  table = typing (own code fit) (signature code) (keeps_xml code fit) (kept code fit) (code_sql code) (keeps_tables code fit)

  typed_for : (o : Op) (d : Does) → KeepTypes code o d → Typing (signature code) (V code fit) (FitsState code) (Shows code o) d
  typed_for o d keeps = record {
    int = table.int;
    text = table.text;
    bool = table.bool;
    as_bool = table.as_bool;
    as_items = table.as_items;
    binds = table.binds;
    covers = table.covers;
    joins = λ r xs s xml hs f. comes_more (λ x. V code fit x r) S (FitsState code) (λ x. V code fit x ty.Xbody) (Shows code o) (joined xs s) (table.joins r xs s xml hs (state_is code fit s f)) (is_state code fit) (λ x h. inl h);
    deeds = λ p ts r xs s has vs f. deeds_for p ts r xs s has vs f (local_or p);
  }
    where
      deeds_for : (p : Op) (ts : List ValueType) (r : ValueType) (xs : List Value) (s : State) → OpType (signature code) p ts r → AllZip (V code fit) xs ts → FitsState code s → IsLocal p ⊎ (IsLocal p → ⊥)
          → Comes (λ x. V code fit x r) (FitsState code) (Shows code o) (d p xs s)
      deeds_for p ts r xs s has vs f (inl l) =
          subst (Comes (λ x. V code fit x r) (FitsState code) (Shows code o)) ((does_plays (code_sql code)).plain p l xs s ∙ sym (keeps.plays.plain p l xs s))
          (comes_more (λ x. V code fit x r) S (FitsState code) (λ x. V code fit x ty.Xbody) (Shows code o) (does (code_sql code) p xs s) (table.deeds p ts r xs s has vs (state_is code fit s f)) (is_state code fit) (λ x h. inl h))
      deeds_for p ts r xs s has vs f (inr n) = keeps.deeds p ts r xs s n has vs f

  fewer_units : (n : ℕ) (s : State) → FitsState code s → FitsState code (record s { units = s.units - n })
  fewer_units n s f = record { store = f.store; numbers = fewer_last (length code.schema.sequences) s.units (s.units - n) s.store (omega arith) f.numbers; carried = f.carried }

  -- a call of a request, whatever typed answers the tables give
  pub call_typed : (o : Op) (d : Does) → KeepTypes code o d → (call : Call) (s : State) → IsRequestOf code.handlers call → FitsState code s
      → Comes (λ x. IsOf code x ty.Page) (FitsState code) (Shows code o) (at_target d code (slice_get code.targets call.route) call.args s)
  call_typed o d keeps call s request h =
      let at = route_at code fit call.route request.route request.is_route in
      let target = at.2 in
      let function : slice_get (map function_type code.functions) (at.0) ≡ Some (route_params request.route, ty.Page) =
      slice_get-map function_type code.functions (at.0) ∙ ap (option_map function_type) target.is_function ∙ ap₂ (λ a b. Some (a, b)) target.params target.page in
      subst (λ z. Comes (λ x. IsOf code x ty.Page) (FitsState code) (Shows code o) (at_target d code z call.args s)) (sym (at.1))
      (typed_outcome (signature code) (V code fit) (FitsState code) (Shows code o) d (typed_for o d keeps) fewer_units code.functions refl
      (recursion_from_All (FitsFunction (signature code)) code.functions fit.functions)
      (at.0) (route_params request.route) ty.Page call.args s function (request_values (own code fit) code.variants code.handlers call request) h)

  not_stuck : (o : Op) (w : Outcome Value) → Comes (λ x. IsOf code x ty.Page) (FitsState code) (Shows code o) w → w ≢ Stuck
  not_stuck o w h e = subst (Comes (λ x. IsOf code x ty.Page) (FitsState code) (Shows code o)) e h

  module _ (call : Call) (request : IsRequestOf code.handlers call) (pairs : List (List ℕ × List ℕ)) (carried : List Value) (cookies : AllZip FitsCookie carried code.cookies) (steps : ℕ) where
    safe_at : (z : Option ℕ) (store : Store) → at_target until code z call.args (held carried [] store [] steps) ≢ Stuck → at_target until code z call.args (held carried [] no_store [] steps) ≢ Stuck
    safe_at None store h = h
    safe_at (Some f) store h = anywhere code.functions f call.args carried store steps h

    -- the machine at the beginning of the call is under way
    pub start_under_way : (m : Machine) → m.frames.carried ≡ carried → m.frames.units ≡ steps → steps ≤ 4294967295
        → ((d : Does) → Plays d → (store : Store) (events : List Event) → left d code m store events ≡ at_target d code (slice_get code.targets call.route) call.args (held carried [] store events steps))
        → IsUnderWay code m
    start_under_way m same_cookies same_units few starts = record {
      cookies = subst (λ xs. AllZip FitsCookie xs code.cookies) (sym same_cookies) cookies;
      sound = λ o d keeps store events fits.
          subst (Comes (λ x. IsOf code x ty.Page) (FitsState code) (Shows code o)) (sym (starts d keeps.plays store events))
          (call_typed o d keeps call (held carried [] store events steps) request
          (record { store = fits.store; numbers = subst (λ u. NumbersLast (length code.schema.sequences) u store) same_units fits.numbers; carried = cookies }));
      safe = λ stuck. safe_at (slice_get code.targets call.route) (empty_store code.schema)
          (not_stuck op.Add _ (call_typed op.Add until (until_keeps code op.Add) call (held carried [] (empty_store code.schema) [] steps) request
          (record { store = empty_fits code.schema; numbers = empty_lasts code.schema steps few; carried = cookies })))
          (sym (starts until until_plays no_store []) ∙ stuck);
    }
