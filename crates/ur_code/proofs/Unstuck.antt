-- Calls of routes of code that fits are never stuck.
use Rattle.std.proofs.Common.{◌≡◌, ℕ, ◌-◌, zero, suc, ℤ, pos, ◌+ℤ◌, Bool, true, false, if◌then◌else◌, List, [], ◌∷◌, ◌++◌, length, Some, refl, sym, subst, ap, ap₂, ◌∙◌, arith}
use Rattle.std.specs.Prelude.{map, option_map, slice_get, slice_set}
use Rattle.std.specs.List.{AllByRecursion, AllZip}
use Rattle.std.proofs.lemmas.Option.{slice_get-map}
use Rattle.std.proofs.lemmas.List.Elements.{recursion_from_All}
use Rattle.ur_values.specs.declared.types.ValueType.{ValueType}
use Rattle.ur_values.specs.declared.types.ValueType.TheVariants as ty
use Rattle.ur_values.specs.declared.value.Value.{Value}
use Rattle.ur_values.specs.declared.value.Node.TheVariants as n
use Rattle.ur_values.specs.declared.value.Call.{Call}
use Rattle.ur_values.specs.Store.{Store, FitsSchema}
use Rattle.ur_values.specs.Sql.{Changed, After, DuplicateKey, TableFull}
use Rattle.ur_sql.specs.Answer.{answer, answer_if_any}
use Rattle.ur_sql.specs.Change.{change}
use Rattle.ur_sql.specs.Sql.{change_at}
use Rattle.ur_sql.specs.Typing.{QueryFits, ChangeFits}
use Rattle.ur_tags.specs.declared.routes.Route.{Route}
use Rattle.ur_terms.specs.declared.term.Op.{Op}
use Rattle.ur_terms.specs.declared.term.Op.TheVariants as op
use Rattle.ur_terms.specs.State.{State, Outcome, Done, Error, Spent, Stuck}
use Rattle.ur_terms.specs.Types.{RouteType, record_type, FitsFunction, function_type}
use Rattle.ur_terms.specs.Sound.{Comes, Typing, KeepsXml, KeepsTables, IsStateOf, IfAfter, NumbersLast}
use Rattle.ur_terms.specs.Ops.{does, with_unit}
use Rattle.ur_terms.specs.Run.{outcome_of}
use Rattle.ur_terms.proofs.Inhabiting.{Of}
use Rattle.ur_terms.proofs.Typed.{typed_outcome}
use Rattle.ur_terms.proofs.TypedDeeds.{typing}
use Rattle.ur_code.specs.declared.code.Code.{Code}
use Rattle.ur_code.specs.RowType.{kind_type, query_type}
use Rattle.ur_code.specs.RouteTypes.{route_params, IsRequestOf}
use Rattle.ur_code.specs.Links.{HasOwnCalls}
use Rattle.ur_code.specs.Meaning.{code_sql, are_storable, if_storable, limited, does_code, outcome, at_target}
use Rattle.ur_code.specs.Fits.{Fits, FitsRoute, route_type, signature}
use Rattle.ur_code.specs.Sound.{FitsState, IsSound}
use Rattle.ur_code.proofs.Links.{at_mapped, of_markup, to_markup, to_element, together, to_link, to_submit, without_form, button_fits}
use Rattle.ur_code.proofs.Numbers.{fewer_last, drawn_last}
use Rattle.ur_code.proofs.KindTypes.{values_kinds}
use Rattle.ur_code.proofs.Requests.{at_zip, request_values, cookies_values, values_cookies}
use Rattle.ur_code.proofs.TypedChanges.{at_all, changed_store, table_named}
use Rattle.ur_code.proofs.TypedAnswers.{answer_typed}

numbers_set : {A : Type 0} (xs : List A) (ys : List ℤ) (i : ℕ) (y : ℤ) → AllZip (λ x n. Unit {0}) xs ys → AllZip (λ x n. Unit {0}) xs (slice_set ys i y)
numbers_set [] [] i y h = tt
numbers_set [] (z ∷ ys) i y h = absurd h
numbers_set (x ∷ xs) [] i y h = absurd h
numbers_set (x ∷ xs) (z ∷ ys) zero y h = (tt, h.1)
numbers_set (x ∷ xs) (z ∷ ys) (suc i) y h = (tt, numbers_set xs ys i y h.1)

other_states : {A : Type 0} (P : A → Type 0) (S T : State → Type 0) (B : Value → Type 0) (o : Outcome A) → Comes P S B o → ((s : State) → S s → T s) → Comes P T B o
other_states P S T B (Done x s) h k = (h.0, k s h.1)
other_states P S T B (Error body events) h k = h
other_states P S T B (Spent events) h k = tt
other_states P S T B Stuck h k = absurd h

-- a change that stores too much is spent, which is an end of a run like any other
comes_if : (P : Value → Type 0) (S : State → Type 0) (B : Value → Type 0) (c : Bool) (x : Value) (s : State) → P x × S s → Comes P S B (if c then Done x s else Spent s.events)
comes_if P S B true x s h = h
comes_if P S B false x s h = tt

comes_storable : (P : Value → Type 0) (S : State → Type 0) (B : Value → Type 0) (w : Outcome Value) → Comes P S B w → Comes P S B (if_storable w)
comes_storable P S B (Done x s) h = comes_if P S B (are_storable s.store) x s h
comes_storable P S B (Error body events) h = h
comes_storable P S B (Spent events) h = h
comes_storable P S B Stuck h = h

pub comes_limited : (P : Value → Type 0) (S : State → Type 0) (B : Value → Type 0) (o : Op) (w : Outcome Value) → Comes P S B w → Comes P S B (limited o w)
comes_limited P S B (op.Write update) w h = comes_storable P S B w h
comes_limited P S B _ w h = h

module _ (code : Code) (fit : Fits code) where
  abbrev pub own : Value → Type 0
  own = HasOwnCalls code.handlers

  abbrev pub V : Value → ValueType → Type 0
  V x t = Of own code.variants x t

  abbrev pub kept : ℕ → Store → Type 0
  kept u store = FitsSchema code.schema store × NumbersLast (length code.schema.sequences) u store

  pub route_at : (i : ℕ) (r : Route) → slice_get code.handlers.routes i ≡ Some r → (target : ℕ) × (slice_get code.targets i ≡ Some target) × FitsRoute code r target
  route_at i r e = at_zip (FitsRoute code) code.handlers.routes code.targets i r fit.routes e

  pub keeps_xml : KeepsXml own (signature code) V
  keeps_xml = record {
    none = to_markup code.handlers [] tt;
    together = λ a b h k. to_markup code.handlers (a ++ b) (together code.handlers a b (of_markup code.handlers a h) (of_markup code.handlers b k));
    text = λ t h. to_markup code.handlers (n.Text t ∷ []) (tt, tt);
    element = λ tag kids h. to_markup code.handlers (n.Element tag kids ∷ []) (to_element code.handlers tag kids (of_markup code.handlers kids h), tt);
    link = λ route params post args kids at h k. (
        let r = at_mapped route_type code.handlers.routes route (record { params = params; get = true; post = post }) at in
        let get = ap (λ (t : RouteType). t.get) (r.2) in
        let fits_route = (route_at route (r.0) (r.1)).2 in
        let its : Route = r.0 in
        to_markup code.handlers (n.Link (record { route = route; args = args }) kids ∷ []) (
          to_link code.handlers (record { route = route; args = args }) kids its (r.1) get
              (without_form own code.variants its.params its.form args (fits_route.no_form get) (subst (AllZip V args) (sym (ap (λ (t : RouteType). t.params) (r.2))) h))
              (of_markup code.handlers kids k),
          tt,
        ));
    field = λ kind name value. to_markup code.handlers (n.Field kind name value ∷ []) (tt, tt);
    submit = λ route params last get unit args label at is h. (
        let r = at_mapped route_type code.handlers.routes route (record { params = params ++ record_type last ∷ []; get = get; post = true }) at in
        let its : Route = r.0 in
        let call : Call = record { route = route; args = with_unit unit args } in
        to_markup code.handlers (n.Submit call label ∷ []) (
          to_submit code.handlers call label its (r.1) (ap (λ (t : RouteType). t.post) (r.2))
              (button_fits own code.variants its.params its.form params last unit args (ap (λ (t : RouteType). t.params) (r.2)) is h),
          tt,
        ));
  }

  kept_after : (u : ℕ) (old : Store) (c : Changed Store) → NumbersLast (length code.schema.sequences) u old
      → IfAfter (λ store. FitsSchema code.schema store × (store.sequences ≡ old.sequences)) c → IfAfter (kept u) c
  kept_after u old (After store) numbers (fits, e) =
      (fits, λ q below. (let k = numbers q below in (k.0, ap (λ xs. slice_get xs q) e ∙ k.1, k.2, k.3)))
  kept_after u old (DuplicateKey k) numbers h = tt
  kept_after u old TableFull numbers h = tt

  pub keeps_tables : KeepsTables (signature code) V kept (code_sql code)
  keeps_tables = record {
    fewer = λ u w store le h. (h.0, fewer_last (length code.schema.sequences) u w store le h.1);
    answers = λ site ts row key u store at h k. (
        let q = at_mapped query_type code.queries site (ts, row) at in
        let keys = values_kinds own code.variants key (q.0).params (subst (AllZip V key) (sym (ap (λ (p : List ValueType × ValueType). p.0) (q.2))) h) in
        subst (λ o. AllByRecursion (λ x. V x row) (answer_if_any o key store)) (sym (q.1))
        (subst (λ t. AllByRecursion (λ x. V x t) (answer (q.0) key store)) (ap (λ (p : List ValueType × ValueType). p.1) (q.2))
        (answer_typed own code.variants code.schema (q.0) (at_all (QueryFits code.schema) code.queries site (q.0) fit.queries (q.1)) key keys store k.0)));
    changes = λ update ts args u store at h k. (
        let c = at_mapped (λ u. map kind_type u.params) code.changes update ts at in
        let keys = values_kinds own code.variants args (c.0).params (subst (AllZip V args) (sym (c.2)) h) in
        subst (λ o. IfAfter (kept u) (change_at code.schema o args store)) (sym (c.1))
        (kept_after u store (change code.schema (c.0) args store) k.1
        (changed_store code.schema (c.0) (at_all (ChangeFits code.schema) code.changes update (c.0) fit.changes (c.1)) args keys store k.0)));
    tables = λ update. table_named code.schema fit.tables (slice_get code.changes update);
    draws = λ q u store below h. (
        let d = drawn_last (length code.schema.sequences) q u store below h.1 in
        let fits = h.0 in
        (d.0, d.1, d.2, (record { tables = fits.tables; sequences = numbers_set code.schema.sequences store.sequences q (d.0 +ℤ pos 1) fits.sequences }, d.3)));
  }

  pub state_is : (s : State) → FitsState code s → IsStateOf (signature code) V kept s
  state_is s h = ((h.store, h.numbers), cookies_values own code.variants s.carried code.cookies h.carried)

  pub is_state : (s : State) → IsStateOf (signature code) V kept s → FitsState code s
  is_state s h = record { store = h.0.0; numbers = h.0.1; carried = values_cookies own code.variants s.carried code.cookies h.1 }

  table : Typing (signature code) V (IsStateOf (signature code) V kept) (λ x. V x ty.Xbody) (does (code_sql code))
  table = typing own (signature code) keeps_xml kept (code_sql code) keeps_tables

  -- the operations of code keep to their types
  pub typing_code : Typing (signature code) V (IsStateOf (signature code) V kept) (λ x. V x ty.Xbody) (does_code code)
  typing_code = record {
    int = table.int;
    text = table.text;
    bool = table.bool;
    as_bool = table.as_bool;
    as_items = table.as_items;
    binds = table.binds;
    covers = table.covers;
    joins = table.joins;
    deeds = λ o ts r xs s has vs f. comes_limited (λ x. V x r) (IsStateOf (signature code) V kept) (λ x. V x ty.Xbody) o (does (code_sql code) o xs s) (table.deeds o ts r xs s has vs f);
  }

  fewer_units : (n : ℕ) (s : State) → IsStateOf (signature code) V kept s → IsStateOf (signature code) V kept (record s { units = s.units - n })
  fewer_units n s f = (keeps_tables.fewer s.units (s.units - n) s.store (omega arith) f.0, f.1)

  pub never_stuck : (call : Call) (s : State) → IsRequestOf code.handlers call → FitsState code s → IsSound code (outcome code call s)
  never_stuck call s request h =
      let at = route_at call.route request.route request.is_route in
      let target = at.2 in
      let function : slice_get (map function_type code.functions) (at.0) ≡ Some (route_params request.route, ty.Page) =
      slice_get-map function_type code.functions (at.0) ∙ ap (option_map function_type) target.is_function ∙ ap₂ (λ a b. Some (a, b)) target.params target.page in
      subst (λ o. IsSound code (at_target code o call s)) (sym (at.1))
      (other_states (λ x. V x ty.Page) (IsStateOf (signature code) V kept) (FitsState code) (λ x. V x ty.Xbody)
      (outcome_of (does_code code) code.functions (at.0) call.args s)
      (typed_outcome (signature code) V (IsStateOf (signature code) V kept) (λ x. V x ty.Xbody) (does_code code) typing_code fewer_units code.functions refl
      (recursion_from_All (FitsFunction (signature code)) code.functions fit.functions)
      (at.0) (route_params request.route) ty.Page call.args s function (request_values own code.variants code.handlers call request) (state_is s h))
      is_state)
