-- What a request makes of a store: the numbers of sequences rise by no more than its units.
use Rattle.std.proofs.Common.{◌≡◌, ℕ, suc, ◌+◌, ◌-◌, Some, refl, sym, ap, ap₂, subst, ◌∙◌, arith}
use Rattle.std.specs.Prelude.{map, option_map, slice_get}
use Rattle.std.specs.List.{AllZip}
use Rattle.std.proofs.lemmas.Option.{slice_get-map}
use Rattle.std.proofs.lemmas.List.Elements.{recursion_from_All}
use Rattle.ur_values.specs.declared.types.ValueType.TheVariants as ty
use Rattle.ur_values.specs.declared.value.Value.{Value}
use Rattle.ur_values.specs.declared.value.Call.{Call}
use Rattle.ur_values.specs.Store.{Store}
use Rattle.ur_terms.specs.State.{State, Outcome, Done, Error, Spent, Stuck}
use Rattle.ur_terms.specs.Types.{FitsFunction, function_type}
use Rattle.ur_terms.specs.Sound.{Comes, Typing, KeepsTables, IsStateOf}
use Rattle.ur_terms.specs.Ops.{does}
use Rattle.ur_terms.specs.Run.{outcome_of}
use Rattle.ur_terms.proofs.Typed.{typed_outcome}
use Rattle.ur_terms.proofs.TypedDeeds.{typing}
use Rattle.ur_code.specs.declared.code.Code.{Code}
use Rattle.ur_code.specs.RouteTypes.{route_params, IsRequestOf}
use Rattle.ur_code.specs.Meaning.{code_sql, does_code, outcome, at_target}
use Rattle.ur_code.specs.Fits.{Fits, signature}
use Rattle.ur_code.specs.Sound.{FitsCookie, IsOf}
use Rattle.ur_code.proofs.Requests.{request_values, cookies_values}
use Rattle.ur_code.proofs.Unstuck.{own, V, kept, route_at, keeps_xml, keeps_tables, comes_limited}

other_states : {A : Type 0} (P : A → Type 0) (S T : State → Type 0) (B : Value → Type 0) (o : Outcome A) → Comes P S B o → ((s : State) → S s → T s) →
    Comes P T B o
other_states P S T B (Done x s) h k = (h.0, k s h.1)
other_states P S T B (Error body events) h k = h
other_states P S T B (Spent events) h k = tt
other_states P S T B Stuck h k = absurd h

-- `more` units are left for later requests.
module _ (code : Code) (fit : Fits code) (more : ℕ) where
  -- a store of the code's tables whose sequences' numbers stay ints for these units and more
  abbrev pub kept_by : ℕ → Store → Type 0
  kept_by u store = kept code fit (u + more) store

  keeps_by : KeepsTables (signature code) (V code fit) kept_by (code_sql code)
  keeps_by = record {
    fewer = λ u w store le h. (keeps_tables code fit).fewer (u + more) (w + more) store (omega (arith, le)) h;
    answers = λ site ts row key u store at h k. (keeps_tables code fit).answers site ts row key (u + more) store at h k;
    changes = λ update ts args u store at h k. (keeps_tables code fit).changes update ts args (u + more) store at h k;
    tables = (keeps_tables code fit).tables;
    draws = λ q u store below h. (keeps_tables code fit).draws q (u + more) store below (subst (λ k. kept code fit k store) (one_more u) h);
  }
    where
      one_more : (u : ℕ) → suc u + more ≡ suc (u + more)
      one_more u = omega arith

  abbrev IsState : State → Type 0
  IsState = IsStateOf (signature code) (V code fit) kept_by

  table : Typing (signature code) (V code fit) IsState (λ x. V code fit x ty.Xbody) (does (code_sql code))
  table = typing (own code fit) (signature code) (keeps_xml code fit) kept_by (code_sql code) keeps_by

  typing_by : Typing (signature code) (V code fit) IsState (λ x. V code fit x ty.Xbody) (does_code code)
  typing_by = record {
    int = table.int;
    text = table.text;
    bool = table.bool;
    as_bool = table.as_bool;
    as_items = table.as_items;
    binds = table.binds;
    covers = table.covers;
    joins = table.joins;
    deeds = λ o ts r xs s has vs f. comes_limited (λ x. V code fit x r) IsState (λ x. V code fit x ty.Xbody) o (does (code_sql code) o xs s) (table.deeds o ts r xs s has vs f);
  }

  fewer_units : (n : ℕ) (s : State) → IsState s → IsState (record s { units = s.units - n })
  fewer_units n s f = (keeps_by.fewer s.units (s.units - n) s.store (omega arith) f.0, f.1)

  -- A request comes to a page and a store that lasts for what is left of its units and for more; or to an error, or its units are
  -- spent.
  pub grows : (call : Call) (s : State) → IsRequestOf code.handlers call → kept_by s.units s.store → AllZip FitsCookie s.carried code.cookies
      → Comes (λ x. IsOf code x ty.Page) (λ t. kept_by t.units t.store) (λ x. IsOf code x ty.Xbody) (outcome code call s)
  grows call s request lasts carries =
      let at = route_at code fit call.route request.route request.is_route in
      let target = at.2 in
      let function : slice_get (map function_type code.functions) (at.0) ≡ Some (route_params request.route, ty.Page) =
      slice_get-map function_type code.functions (at.0) ∙ ap (option_map function_type) target.is_function ∙ ap₂ (λ a b. Some (a, b)) target.params target.page in
      subst (λ o. Comes (λ x. IsOf code x ty.Page) (λ t. kept_by t.units t.store) (λ x. IsOf code x ty.Xbody) (at_target code o call s)) (sym (at.1))
      (other_states (λ x. V code fit x ty.Page) IsState (λ t. kept_by t.units t.store) (λ x. V code fit x ty.Xbody)
      (outcome_of (does_code code) code.functions (at.0) call.args s)
      (typed_outcome (signature code) (V code fit) IsState (λ x. V code fit x ty.Xbody) (does_code code) typing_by fewer_units code.functions refl
      (recursion_from_All (FitsFunction (signature code)) code.functions fit.functions)
      (at.0) (route_params request.route) ty.Page call.args s function (request_values (own code fit) code.variants code.handlers call request) (lasts, cookies_values (own code fit) code.variants s.carried code.cookies carries))
      (λ t h. h.0))
