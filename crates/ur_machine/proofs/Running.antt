-- What a machine under way comes to, and what it needs.
use Rattle.std.proofs.Common.{◌≡◌, ◌≢◌, inl, inr, ℕ, zero, suc, ◌-◌, ◌<◌, ◌≤◌, pos, ◌+ℤ◌, List, [], ◌∷◌, length, Option, Some, refl, sym, ap, subst, ◌∙◌, arith, Bor}
use Rattle.std.specs.Prelude.{map, slice_get}
use Rattle.std.specs.List.{AllZip, All}
use Rattle.std.proofs.lemmas.Int.{ints}
use Rattle.ur_values.specs.declared.types.ValueType.{ValueType}
use Rattle.ur_values.specs.declared.types.ValueType.TheVariants as ty
use Rattle.ur_values.specs.declared.value.Value.{Value}
use Rattle.ur_values.specs.declared.value.Value.TheVariants as v
use Rattle.ur_values.specs.declared.schema.TableShape.{TableShape}
use Rattle.ur_values.specs.declared.schema.Schema.{Schema}
use Rattle.ur_values.specs.Event.{Event}
use Rattle.ur_values.specs.Store.{Store, FitsShape, FitsSchema, empty_store}
use Rattle.ur_values.specs.Values.{IsInt}
use Rattle.ur_terms.specs.declared.term.Op.{Op}
use Rattle.ur_terms.specs.declared.term.Op.TheVariants as op
use Rattle.ur_terms.specs.declared.term.Function.{Function}
use Rattle.ur_terms.specs.State.{State, Outcome, Done, Error, Stuck}
use Rattle.ur_terms.specs.Sound.{Comes, NumbersLast}
use Rattle.ur_terms.specs.Values.{as_items, open_items}
use Rattle.ur_terms.specs.Ops.{given}
use Rattle.ur_terms.specs.Run.{Does, eval, outcome_of}
use Rattle.ur_terms.proofs.Inhabiting.{of-Many}
use Rattle.ur_machine_frames.specs.declared.frame.Frame.{Frame}
use Rattle.ur_machine_frames.specs.declared.frame.Frames as machines
use Rattle.ur_machine_frames.specs.declared.control.Control.{Control}
use Rattle.ur_machine_frames.specs.declared.control.Control.TheVariants as control
use Rattle.ur_machine_frames.specs.declared.control.Pause.{Pause}
use Rattle.ur_machine_frames.specs.declared.control.Pause.TheVariants as pause
use Rattle.ur_machine_frames.specs.Rest.{standing, outer, resume, state_of}
use Rattle.ur_machine_frames.specs.Steps.{Stands, Ends, IsStoreCall, IsSafe, ends}
use Rattle.ur_machine_frames.specs.Steps as steps
use Rattle.ur_machine_frames.specs.Plays.{IsLocal, until, no_store, held}
use Rattle.ur_machine_frames.proofs.Agreeing.{resume_agrees}
use Rattle.ur_machine_frames.proofs.Blind.{Blind, blind_resume}
use Rattle.ur_terms.proofs.Alike.{Both, both_done, both_error, both_spent, both_stuck}
use Rattle.ur_code.specs.declared.code.Code.{Code}
use Rattle.ur_code.specs.Links.{HasOwnCalls}
use Rattle.ur_code.specs.Sound.{FitsState, IsOf}
use Rattle.ur_machine.specs.declared.machine.Machine.{Machine}
use Rattle.ur_machine.specs.Left.{begun, left, IsControl, EndsAs}
use Rattle.ur_machine.specs.UnderWay.{KeepTypes, IsUnderWay, IsTypedStoreCall, IsAnswerTo, WaitsFor, Pauses, Shows, told}
use Rattle.ur_machine.proofs.MachineStoreCalls.{telling, tells, telling_keeps, until_keeps, answering, answers, agrees, answering_keeps}

-- ---- tables of the code

no_rows : (shapes : List TableShape) → AllZip (λ shape rows. All (FitsShape shape) rows) shapes (map (λ shape. []) shapes)
no_rows [] = tt
no_rows (shape ∷ shapes) = ((λ k x below. absurd (omega arith)), no_rows shapes)

first_numbers : {A : Type 0} (names : List A) → AllZip (λ name n. Unit {0}) names (map (λ n. pos 1) names)
first_numbers [] = tt
first_numbers (name ∷ names) = (tt, first_numbers names)

first_at : {A : Type 0} (names : List A) (q : ℕ) → q < length names → slice_get (map (λ n. pos 1) names) q ≡ Some (pos 1)
first_at [] q below = absurd (omega arith)
first_at (name ∷ names) zero below = refl
first_at (name ∷ names) (suc q) below = first_at names q (omega arith)

first_is_int : IsInt (pos 1)
first_is_int = (omega (arith, ints), omega (arith, ints))

first_lasts : (u : ℕ) → u ≤ 4294967295 → IsInt (pos 1 +ℤ pos u)
first_lasts u few = (omega (arith, ints), omega (arith, ints))

pub empty_fits : (schema : Schema) → FitsSchema schema (empty_store schema)
empty_fits schema = record { tables = no_rows schema.tables; sequences = first_numbers schema.sequences }

pub empty_lasts : (schema : Schema) (u : ℕ) → u ≤ 4294967295 → NumbersLast (length schema.sequences) u (empty_store schema)
empty_lasts schema u few q below = (pos 1, first_at schema.sequences q below, first_is_int, first_lasts u few)

-- ---- where a run goes on

pub left_is : (code : Code) (m : Machine) (c : Control) → IsControl code m c → (d : Does) (store : Store) (events : List Event)
    → left d code m store events ≡ steps.left d code.functions m.frames c store events
left_is code m (control.Give x) e d store events =
    ap (λ o. resume d code.functions m.frames.frames m.frames.values
    (begun d code.functions o (standing code.functions m.frames.frames) m.frames.values (state_of m.frames store events))) e
left_is code m (control.Enter a) (none, at) d store events =
    ap (λ o. resume d code.functions m.frames.frames m.frames.values
    (begun d code.functions o (standing code.functions m.frames.frames) m.frames.values (state_of m.frames store events))) none
    ∙ ap (λ place. resume d code.functions m.frames.frames m.frames.values
    (given place (λ b. eval d (outcome_of d code.functions) b m.frames.values (state_of m.frames store events)))) at

pub control_stands : (code : Code) (m : Machine) (c : Control) → IsControl code m c → Stands code.functions m.frames c
control_stands code m (control.Give x) e = tt
control_stands code m (control.Enter a) (none, at) = at

stays_error : (fs : List Function) (d : Does) (frames : List Frame) (env : List Value) (body : Value) (events : List Event) → resume d fs frames env (Error body events) ≡ Error body events
stays_error fs d [] env body events = refl
stays_error fs d (f ∷ frames) env body events = stays_error fs d frames (outer f env) body events

-- ---- over other tables

abbrev Elsewhere : State → State → Type 0
Elsewhere s t = t ≡ record s { store = no_store }

abbrev SameEvents : List Event → List Event → Type 0
SameEvents e f = e ≡ f

elsewhere : Blind Elsewhere SameEvents
elsewhere = record {
  carried = λ s t r. sym (ap (λ (x : State). x.carried) r);
  sent = λ s t r. sym (ap (λ (x : State). x.sent) r);
  units = λ s t r. sym (ap (λ (x : State). x.units) r);
  events = λ s t r. sym (ap (λ (x : State). x.events) r);
  charged = λ k s t r. ap (λ (x : State). record x { units = x.units - k }) r;
  cookied = λ xs s t r. ap (λ (x : State). record x { sent = xs }) r;
}

stuck_both : (w w' : Outcome Value) → Both Elsewhere SameEvents w w' → w' ≡ Stuck → w ≡ Stuck
stuck_both w w' (both_done x s t r) e = cc
stuck_both w w' (both_error body e' f r) e = cc
stuck_both w w' (both_spent e' f r) e = cc
stuck_both w w' both_stuck e = refl

-- a run up to the next operation on tables that is stuck over no tables is stuck over any
anywhere_stuck : (fs : List Function) (frames : List Frame) (env : List Value) (x : Value) (s : State) → resume until fs frames env (Done x (record s { store = no_store })) ≡ Stuck
    → resume until fs frames env (Done x s) ≡ Stuck
anywhere_stuck fs frames env x s stuck =
    stuck_both _ _ (blind_resume Elsewhere SameEvents elsewhere fs frames env (Done x s) (Done x (record s { store = no_store })) (both_done x s (record s { store = no_store }) refl)) stuck

-- ---- with what an operation came

items_of : (xs : List Value) → as_items (v.Many xs) ≡ Some xs
items_of xs = ap open_items (v.outs-Many xs)

many_same : (xs ys : List Value) → v.Many xs ≡ v.Many ys → xs ≡ ys
many_same xs ys e = let same : Some xs ≡ Some ys = sym (items_of xs) ∙ ap as_items e ∙ items_of ys in cc

two_same : (a b c d : Value) → a ∷ b ∷ [] ≡ c ∷ d ∷ [] → (a ≡ c) × (b ≡ d)
two_same a b c d e = (cc, cc)

told_same : (xs ys as' bs : List Value) → told xs as' ≡ told ys bs → (xs ≡ ys) × (as' ≡ bs)
told_same xs ys as' bs e =
    let parts = two_same _ _ _ _ (many_same _ _ e) in
    (many_same xs ys parts.0, many_same as' bs parts.1)

module _ (code : Code) where
  not_body : (xs : List Value) → IsOf code (v.Many xs) ty.Xbody → ⊥
  not_body xs h = apart _ (of-Many (HasOwnCalls code.handlers) code.variants xs ty.Xbody h).1
    where
      apart : (a : ValueType) → ty.Xbody ≡ ty.Many a → ⊥
      apart a e = cc

  told_typed : (o : Op) (xs carried : List Value) → Shows code o (told xs carried) → IsTypedStoreCall code o xs carried
  told_typed o xs carried (inl h) = absurd (not_body (v.Many xs ∷ v.Many carried ∷ []) h)
  told_typed o xs carried (inr (ys, bs, e, h)) =
      let same = told_same xs ys carried bs e in
      subst (λ zs. IsTypedStoreCall code o zs carried) (sym same.0) (subst (λ zs. IsTypedStoreCall code o ys zs) (sym same.1) h)

  module _ (m : Machine) (under : IsUnderWay code m) (few : m.frames.units ≤ 4294967295) (c : Control) (from : IsControl code m c) where
    -- what is left over no rows keeps to its types
    typed_left : (o : Op) (d : Does) → KeepTypes code o d
        → Comes (λ x. IsOf code x ty.Page) (FitsState code) (Shows code o) (steps.left d code.functions m.frames c (empty_store code.schema) [])
    typed_left o d keeps =
        subst (Comes (λ x. IsOf code x ty.Page) (FitsState code) (Shows code o)) (left_is code m c from d (empty_store code.schema) [])
        (under.sound o d keeps (empty_store code.schema) []
        (record { store = empty_fits code.schema; numbers = empty_lasts code.schema m.frames.units few; carried = under.cookies }))

    -- the run comes to an operation with arguments of its types
    pub store_call_typed : (m' : machines.Frames) (r : Bor Op) (xs : List Value) → Ends code.functions m.frames c m' (pause.Store r xs) → (IsLocal r.now → ⊥) → IsTypedStoreCall code r.now xs m'.carried
    store_call_typed m' r xs end store_call =
        let s = state_of m' (empty_store code.schema) [] in
        let keeps = telling_keeps code r.now in
        told_typed r.now xs m'.carried
        (subst (Comes (λ x. IsOf code x ty.Page) (FitsState code) (Shows code r.now))
        (end (telling r.now) keeps.plays (empty_store code.schema) []
        ∙ ap (resume (telling r.now) code.functions m'.frames m'.values) (tells r.now store_call xs s)
        ∙ stays_error code.functions (telling r.now) m'.frames m'.values (told xs m'.carried) [])
        (typed_left r.now (telling r.now) keeps))

    -- over no tables it is not stuck before its next operation on tables
    pub is_safe : IsSafe code.functions m.frames (steps.beginning code.functions c)
    is_safe stuck = under.safe (left_is code m c from until no_store [] ∙ stuck)

    module _ (m' : machines.Frames) (r : Bor Op) (xs : List Value) (end : Ends code.functions m.frames c m' (pause.Store r xs)) (store_call : IsLocal r.now → ⊥) (x : Value) (units : ℕ)
        (answer : IsAnswerTo code r.now x) (fewer : units < m'.units) where
      sound_after : (o : Op) (d : Does) → KeepTypes code o d → (store : Store) (events : List Event) → FitsState code (held m'.carried m'.sent store events units)
          → Comes (λ y. IsOf code y ty.Page) (FitsState code) (Shows code o) (resume d code.functions m'.frames m'.values (Done x (held m'.carried m'.sent store events units)))
      sound_after o d keeps store events fits =
          let all_keep : KeepTypes code o (answering r.now x units store events d) = answering_keeps r.now x units store events d code o keeps answer
          (λ carried sent h. record { store = fits.store; numbers = fits.numbers; carried = h }) in
          let s = state_of m' (empty_store code.schema) [] in
          subst (Comes (λ y. IsOf code y ty.Page) (FitsState code) (Shows code o))
          (end (answering r.now x units store events d) all_keep.plays (empty_store code.schema) []
          ∙ ap (resume (answering r.now x units store events d) code.functions m'.frames m'.values) (answers r.now x units store events d store_call xs s fewer)
          ∙ resume_agrees (answering r.now x units store events d) d all_keep.plays.units units (λ p ys t h. agrees r.now x units store events d p ys t h) code.functions m'.frames m'.values
          (Done x (held m'.carried m'.sent store events units)) (omega arith))
          (typed_left o (answering r.now x units store events d) all_keep)

      safe_after : m'.units ≤ 4294967295 → resume until code.functions m'.frames m'.values (Done x (held m'.carried m'.sent no_store [] units)) ≢ Stuck
      safe_after few' stuck =
          let typed = store_call_typed m' r xs end store_call in
          subst (Comes (λ y. IsOf code y ty.Page) (FitsState code) (Shows code op.Add))
          (anywhere_stuck code.functions m'.frames m'.values x (held m'.carried m'.sent (empty_store code.schema) [] units) stuck)
          (sound_after op.Add until (until_keeps code op.Add) (empty_store code.schema) []
          (record { store = empty_fits code.schema; numbers = empty_lasts code.schema units (omega arith); carried = typed.cookies }))

    -- with an answer of its type and fewer units it is under way
    pub waits : (m' : machines.Frames) (r : Bor Op) (xs : List Value) → Ends code.functions m.frames c m' (pause.Store r xs) → (IsLocal r.now → ⊥) → m'.units ≤ 4294967295 → (other : Option Value)
        → WaitsFor code r.now (record { frames = m'; given = other })
    waits m' r xs end store_call few' other x units answer fewer = record {
      cookies = (store_call_typed m' r xs end store_call).cookies;
      sound = sound_after m' r xs end store_call x units answer fewer;
      safe = safe_after m' r xs end store_call x units answer fewer few';
    }

    -- a page and an error's body have their types
    pub page_typed : (m' : machines.Frames) (x : Value) → Ends code.functions m.frames c m' (pause.Page x) → IsOf code x ty.Page
    page_typed m' x end =
        (subst (Comes (λ y. IsOf code y ty.Page) (FitsState code) (Shows code op.Add)) (end until (until_keeps code op.Add).plays (empty_store code.schema) [])
        (typed_left op.Add until (until_keeps code op.Add))).0

    no_number : (q : ℕ) (xs carried : List Value) → length code.schema.sequences ≤ q → IsTypedStoreCall code (op.Next q) xs carried → ⊥
    no_number q xs carried past h = let below : q < length code.schema.sequences = h.has.1 in omega arith

    body_typed_as : (x : Value) → Shows code (op.Next (length code.schema.sequences)) x → IsOf code x ty.Xbody
    body_typed_as x (inl h) = h
    body_typed_as x (inr (xs, carried, e, h)) = absurd (no_number (length code.schema.sequences) xs carried (omega arith) h)

    pub body_typed : (m' : machines.Frames) (x : Value) → Ends code.functions m.frames c m' (pause.Failed x) → IsOf code x ty.Xbody
    body_typed m' x end =
        let o = op.Next (length code.schema.sequences) in
        body_typed_as x (subst (Comes (λ y. IsOf code y ty.Page) (FitsState code) (Shows code o)) (end until (until_keeps code o).plays (empty_store code.schema) [])
        (typed_left o until (until_keeps code o)))

    pub pauses : (m' : machines.Frames) (other : Option Value) (p : Pause) → m'.units ≤ 4294967295 → Ends code.functions m.frames c m' p → IsStoreCall p → Pauses code (record { frames = m'; given = other }) p
    pauses m' other (pause.Page x) few' end store_call = page_typed m' x end
    pauses m' other (pause.Failed x) few' end store_call = body_typed m' x end
    pauses m' other pause.Spent few' end store_call = tt
    pauses m' other (pause.Store r xs) few' end store_call = (store_call, store_call_typed m' r xs end store_call, waits m' r xs end store_call few' other)
    pauses m' other pause.Memory few' end store_call = tt

    -- what is left of the machine is what is left from where it goes on
    pub ends_as : (m' : machines.Frames) (other : Option Value) (p : Pause) → Ends code.functions m.frames c m' p → EndsAs code m (record { frames = m'; given = other }) p
    ends_as m' other p end d plays store events =
        let e = left_is code m c from d store events in
        e ∙ subst (λ w. steps.left d code.functions m.frames c store events ≡ ends d code.functions m' p w store events) (sym e) (end d plays store events)
