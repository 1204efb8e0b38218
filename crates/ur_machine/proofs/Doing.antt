-- What changes and draws come to in the meaning of code.
use Rattle.std.proofs.Common.{◌≡◌, ℕ, ◌+◌, ◌-◌, ◌<◌, ◌≤◌, ℤ, pos, ◌+ℤ◌, ◌≤ℤ◌, ◌<ℤ◌, Bool, true, false, if◌then◌else◌, List, [], ◌∷◌, ◌++◌, length, map, Option, Some, None, slice_get, Result, Ok, Err, IfOk, OnOk, refl, sym, ap, ap₂, subst, ◌∙◌, arith}
use Rattle.std.specs.Prelude.{nat_le, option_map, IsErrAnd, FitsSigned}
use Rattle.std.specs.Int.{w64}
use Rattle.std.specs.List.{AllZip}
use Rattle.std.proofs.lemmas.Int.{ints}
use Rattle.std.proofs.lemmas.Bool.Decides.{nat_tests}
use Rattle.std.proofs.lemmas.List.{append-nil}
use Rattle.std.proofs.lemmas.List.Elements.{All-set, All-get_or}
use Rattle.std.proofs.lemmas.Option.{slice_get-get_or}
use Rattle.std.proofs.lemmas.Slice.Zip.{AllZip-long}
use Rattle.ur_base.specs.Told.{WhereTold}
use Rattle.ur_values.specs.declared.value.Value.{Value}
use Rattle.ur_values.specs.declared.value.Value.TheVariants as v
use Rattle.ur_values.specs.declared.schema.Schema.{Schema}
use Rattle.ur_values.specs.declared.schema.TableShape.{TableShape}
use Rattle.ur_values.specs.Event.{Event, Write}
use Rattle.ur_values.specs.Store.{FitKinds, kinds_of}
use Rattle.ur_values.specs.Values.{unit_value, IsInt}
use Rattle.ur_keeper.specs.Keeper.{IsWithin}
use Rattle.ur_keeper.specs.Tables.{Tables, KeptSchema, Keeps, AreTablesOf, NumbersUpTo, HasNextDraw, sequence_at, drawn, store_of}
use Rattle.ur_keeper.proofs.Keeping.{drawn-kept}
use Rattle.ur_sql.specs.declared.change.Change.{Change}
use Rattle.ur_sql.specs.Change.{change}
use Rattle.ur_sql.specs.Sql.{table_name, change_at}
use Rattle.ur_sql.specs.Typing.{ChangeFits}
use Rattle.ur_terms.specs.declared.term.Op.{Op}
use Rattle.ur_terms.specs.declared.term.Op.TheVariants as op
use Rattle.ur_terms.specs.State.{State, Outcome, Done, Spent}
use Rattle.ur_terms.specs.Ops.{does, changed, given}
use Rattle.ur_terms.specs.Ops as ops
use Rattle.ur_machine_frames.specs.Plays.{held}
use Rattle.ur_code.specs.declared.code.Code.{Code}
use Rattle.ur_code.specs.Fits.{Fits}
use Rattle.ur_code.specs.Links.{HasOwnCalls}
use Rattle.ur_code.specs.Meaning.{code_sql, are_storable, if_storable, does_code}
use Rattle.ur_code.specs.Sound.{IsOf}
use Rattle.ur_code.specs.RowType.{kind_type}
use Rattle.ur_code.proofs.KindTypes.{values_kinds}
use Rattle.ur_code.proofs.Links.{unit_is, at_mapped}
use Rattle.ur_code.proofs.TypedChanges.{at_all}
use Rattle.ur_machine.specs.UnderWay.{IsAnswerTo}
use Rattle.ur_machine.specs.declared.stop.TurnStop.{TurnStop}
use Rattle.ur_machine.specs.declared.stop.TurnStop.TheVariants as stop
use Rattle.ur_machine.specs.Changing.{Makes, Made}
use Rattle.ur_machine.specs.StoreCalls.{Takes, DoesStoreCall, StoreCall}
use Rattle.ur_machine.specs.Ready.{AreReady, RaisedBy}
use Rattle.ur_machine.specs.Stops.{Leaves, EndsCall, WhileUnderWay}
use Rattle.ur_machine.proofs.Told.{where_told, told_all, rows_more, ints_more, raised_more}

-- ---- units

pub enough : (n m : ℕ) → n ≤ m → nat_le n m ≡ true
enough n m h = grind (arith, nat_tests)

pub too_few : (n m : ℕ) → m < n → nat_le n m ≡ false
too_few n m h = grind (arith, nat_tests)

-- ---- stops

module _ (Did : List Event → Type 0) (code : Code) (o : Op) (args : List Value) (units units' : ℕ) (saved saved' current current' : Option Tables) (kept kept' : KeptSchema) (under_way' : Bool) (same : kept ≡ Keeps code.schema) where
  -- too few units: nothing was done
  pub store_call_spent : Did [] → (e : TurnStop) → e ≡ stop.Spent → saved' ≡ saved → current' ≡ current → kept' ≡ kept → under_way' ≡ true
      → ((t : Tables) (carried : List Value) (sent : List (ℕ × Value)) (earlier : List Event) → does_code code o args (held carried sent (store_of t) earlier units) ≡ Spent earlier)
      → StoreCall Did code o args units units' saved saved' current current' kept' under_way' (Err e)
  store_call_spent none e is a b c d spent = subst (λ z. StoreCall Did code o args units units' saved saved' current current' kept' under_way' (Err z)) (sym is) (record {
    does = told_all current _ (λ t f. ([], none, λ carried sent earlier. spent t carried sent earlier ∙ ap Spent (sym (append-nil earlier))));
    answer = tt;
    fewer = tt;
    ready = tt;
    raised = tt;
    leaves = record { same_saved = a; same_kept = c ∙ same; goes_on = d };
    stays = b;
    untold = tt;
  })

  -- the keeper failed, or memory was wanting
  pub store_call_stops : (A : Type 0) (e : TurnStop) → EndsCall {A = A} (Err e) saved saved' current' kept kept' under_way'
      → StoreCall Did code o args units units' saved saved' current current' kept' under_way' (Err e)
  store_call_stops A (stop.Failed body) l = absurd l
  store_call_stops A stop.Spent l = absurd l
  store_call_stops A stop.Keeper l = record { does = told_all current _ (λ t f. tt); answer = tt; fewer = tt; ready = tt; raised = tt; leaves = record { same_saved = l.same_saved; same_kept = l.same_kept ∙ same; at_rest = l.at_rest; ended = l.ended }; stays = tt; untold = tt }
  store_call_stops A stop.Undone l = record { does = told_all current _ (λ t f. tt); answer = tt; fewer = tt; ready = tt; raised = tt; leaves = record { same_saved = l.same_saved; same_kept = l.same_kept ∙ same; at_rest = l.at_rest; ended = l.ended }; stays = tt; untold = tt }
  store_call_stops A stop.Memory l = record { does = told_all current _ (λ t f. tt); answer = tt; fewer = tt; ready = tt; raised = tt; leaves = record { same_saved = l.same_saved; same_kept = l.same_kept ∙ same; goes_on = l.goes_on }; stays = tt; untold = tt }

-- what holds of the error holds behind a `?`
pub store_call_exit : {Did : List Event → Type 0} {code : Code} {o : Op} {args : List Value} {units units' : ℕ} {saved saved' current current' : Option Tables} {kept' : KeptSchema} {under_way' : Bool} (r : Result Value TurnStop) (e : TurnStop)
    → IsErrAnd r (λ y. y ≡ e) → StoreCall Did code o args units units' saved saved' current current' kept' under_way' (Err e) → StoreCall Did code o args units units' saved saved' current current' kept' under_way' r
store_call_exit (Ok x) e i h = absurd i
store_call_exit {Did = Did} {code = code} {o = o} {args = args} {units = units} {units' = units'} {saved = saved} {saved' = saved'} {current = current} {current' = current'} {kept' = kept'} {under_way' = under_way'} (Err y) e i h =
    subst (λ z. StoreCall Did code o args units units' saved saved' current current' kept' under_way' (Err z)) (sym i) h

-- a number of 64 bits is an int
pub is_int : (n : ℤ) → FitsSigned w64 n → IsInt n
is_int n f = (omega (arith, ints), omega (arith, ints))

-- ---- changes

module _ (Did : List Event → Type 0) (code : Code) (update : ℕ) (u : Change) (at : slice_get code.changes update ≡ Some u) (args : List Value) (units : ℕ) where
  -- without a unit
  pub write_spent : units < 1 → (t : Tables) (carried : List Value) (sent : List (ℕ × Value)) (earlier : List Event)
      → does_code code (op.Write update) args (held carried sent (store_of t) earlier units) ≡ Spent earlier
  write_spent few t carried sent earlier =
      let s : State = held carried sent (store_of t) earlier units in
      let after : State = held carried sent (store_of t) (earlier ++ Write update args ∷ []) (units - 1) in
      ap (λ b. if_storable (if b then changed ((code_sql code).table update) ((code_sql code).change update args (store_of t)) after else Spent earlier)) (too_few 1 units few)

  module _ (some : 1 ≤ units) (t : Tables) where
    abbrev then_state : List Value → List (ℕ × Value) → List Event → State
    then_state carried sent earlier = held carried sent (store_of t) (earlier ++ Write update args ∷ []) (units - 1)

    write_is : (carried : List Value) (sent : List (ℕ × Value)) (earlier : List Event)
        → does_code code (op.Write update) args (held carried sent (store_of t) earlier units)
        ≡ if_storable (changed (table_name code.schema (Some u)) (change code.schema u args (store_of t)) (then_state carried sent earlier))
    write_is carried sent earlier =
        ap (λ b. if_storable (if b then changed ((code_sql code).table update) ((code_sql code).change update args (store_of t)) (then_state carried sent earlier) else Spent earlier)) (enough 1 units some)
        ∙ ap (λ z. if_storable (changed (table_name code.schema z) (change_at code.schema z args (store_of t)) (then_state carried sent earlier))) at

    if_small : (b : Bool) (x : Value) (s : State) → b ≡ true → (if b then Done x s else Spent s.events) ≡ Done x s
    if_small true x s e = refl
    if_small false x s e = cc

    if_large : (b : Bool) (x : Value) (s : State) → b ≡ false → (if b then Done x s else Spent s.events) ≡ Spent s.events
    if_large true x s e = cc
    if_large false x s e = refl

    wrote_so : (after : Option Tables) (result : Result Value TurnStop) → WhileUnderWay result (Did (Write update args ∷ [])) → Makes code.schema u args (store_of t) after result
        → DoesStoreCall Did code (op.Write update) args units (store_of t) after (units - 1) result
    wrote_so after (Ok x) did (t', e, is, makes, small) = (
      t',
      Write update args ∷ [],
      did,
      e,
      λ carried sent earlier. write_is carried sent earlier
          ∙ ap (λ c. if_storable (changed (table_name code.schema (Some u)) c (then_state carried sent earlier))) makes
          ∙ if_small (are_storable (store_of t')) unit_value (held carried sent (store_of t') (earlier ++ Write update args ∷ []) (units - 1)) small
          ∙ ap (λ y. Done y (held carried sent (store_of t') (earlier ++ Write update args ∷ []) (units - 1))) (sym is),
    )
    wrote_so after (Err (stop.Failed body)) did shows = (
      Write update args ∷ [],
      did,
      λ carried sent earlier. write_is carried sent earlier ∙ ap if_storable (shows (then_state carried sent earlier)),
    )
    wrote_so after (Err stop.Spent) did (store, makes, large) = (
      Write update args ∷ [],
      did,
      λ carried sent earlier. write_is carried sent earlier
          ∙ ap (λ c. if_storable (changed (table_name code.schema (Some u)) c (then_state carried sent earlier))) makes
          ∙ if_large (are_storable store) unit_value (held carried sent store (earlier ++ Write update args ∷ []) (units - 1)) large,
    )
    wrote_so after (Err stop.Keeper) did m = tt
    wrote_so after (Err stop.Undone) did m = tt
    wrote_so after (Err stop.Memory) did m = tt

  unit_answers : (x : Value) → x ≡ unit_value → IsAnswerTo code (op.Write update) x
  unit_answers x e ts r has = subst (λ y. IsOf code y r) (sym e) (subst (λ z. IsOf code unit_value z) (sym has.1) (unit_is (HasOwnCalls code.handlers) code.variants))

  -- what was made is the store call
  pub write_store_call : (units' : ℕ) (saved saved' current current' : Option Tables) (kept kept' : KeptSchema) (under_way' : Bool) (result : Result Value TurnStop)
      → 1 ≤ units → units ≤ 9223372036854775806 → units' ≡ units - 1 → kept ≡ Keeps code.schema → WhereTold current (AreReady code.schema units)
      → WhileUnderWay result (Did (Write update args ∷ [])) → Made code.schema u args saved saved' current current' kept kept' under_way' result
      → StoreCall Did code (op.Write update) args units units' saved saved' current current' kept' under_way' result
  write_store_call units' saved saved' current current' kept kept' under_way' result some few e same ready did made = record {
    does = subst (λ n. WhereTold current (λ t. DoesStoreCall Did code (op.Write update) args units (store_of t) current' n result)) (sym e)
        (where_told current _ _ made.makes (λ t f m. wrote_so some t current' result did m));
    answer = if_ok result made.value;
    fewer = less result;
    ready = subst (λ n. OnOk result (WhereTold current' (AreReady code.schema n))) (sym e) (made.ready units some few ready);
    raised = by_units result made.raised;
    leaves = subst (λ k. Leaves result saved saved' current' k kept' under_way') same made.leaves;
    stays = made.stays;
    untold = made.untold;
  }
    where
      if_ok : (r : Result Value TurnStop) → IfOk r (λ x. x ≡ unit_value) → IfOk r (IsAnswerTo code (op.Write update))
      if_ok (Ok x) h = unit_answers x h
      if_ok (Err z) h = tt

      by_units : (r : Result Value TurnStop) → OnOk r (RaisedBy 1 current current') → OnOk r (RaisedBy (units - units') current current')
      by_units (Ok x) h = raised_more 1 (units - units') current current' (omega (arith, e, some)) h
      by_units (Err z) h = tt

      less : (r : Result Value TurnStop) → OnOk r (units' < units)
      less (Ok x) = omega (arith, e, some)
      less (Err z) = tt

-- ---- draws

one_more_int : (n : ℤ) (m : ℕ) → n ≤ℤ pos m → (n +ℤ pos 1) ≤ℤ pos (m + 1)
one_more_int n m h = omega (arith, ints)

one_unit : (units : ℕ) → 1 ≤ units → 1 ≡ units - (units - 1)
one_unit units h = omega arith

next_int : (n : ℤ) (u : ℕ) → 1 ≤ u → u ≤ 9223372036854775806 → n ≤ℤ pos (9223372036854775806 - u) → (n +ℤ pos 1) ≤ℤ pos (9223372036854775806 - (u - 1))
next_int n u some few h =
    let step : (9223372036854775806 - u) + 1 ≡ 9223372036854775806 - (u - 1) = omega arith in
    subst (λ m. (n +ℤ pos 1) ≤ℤ pos m) step (one_more n (9223372036854775806 - u) h)
  where
    one_more : (n : ℤ) (m : ℕ) → n ≤ℤ pos m → (n +ℤ pos 1) ≤ℤ pos (m + 1)
    one_more n m h = omega (arith, ints)

below_last : (n : ℤ) (m : ℕ) → m < 9223372036854775807 → n ≤ℤ pos m → n <ℤ pos 9223372036854775807
below_last n m below h = omega (arith, ints)

module _ (schema : Schema) (q : ℕ) (below : q < length schema.sequences) where
  within : (t : Tables) → AreTablesOf schema t → q < length t.sequences
  within t fits = let long = AllZip-long (λ name n. pos 1 ≤ℤ n) schema.sequences t.sequences fits.sequences in omega (arith, below, long)

  -- there is room for a draw
  pub draw_room : (units : ℕ) (t : Tables) → AreReady schema units t → HasNextDraw q t
  draw_room units t h =
      below_last (sequence_at t q) (9223372036854775806 - units) (omega arith)
      (All-get_or (λ n. n ≤ℤ pos (9223372036854775806 - units)) t.sequences q (pos 1) (within t h.fits) h.numbers.sequences)

  pub draw_raises : (m : ℕ) (t : Tables) → AreTablesOf schema t → NumbersUpTo m t → NumbersUpTo (m + 1) (drawn q t)
  draw_raises m t fits h =
      let low = All-get_or (λ n. n ≤ℤ pos m) t.sequences q (pos 1) (within t fits) h.sequences in
      record {
        rows = rows_more m (m + 1) t.tables (omega arith) h.rows;
        sequences = All-set (λ n. n ≤ℤ pos (m + 1)) t.sequences q (sequence_at t q +ℤ pos 1) (one_more_int (sequence_at t q) m low) (ints_more m (m + 1) t.sequences (omega arith) h.sequences);
      }

  draw_ready : (units : ℕ) (t : Tables) → 1 ≤ units → units ≤ 9223372036854775806 → AreReady schema units t → AreReady schema (units - 1) (drawn q t)
  draw_ready units t some few h =
      let low = All-get_or (λ n. n ≤ℤ pos (9223372036854775806 - units)) t.sequences q (pos 1) (within t h.fits) h.numbers.sequences in
      let le : 9223372036854775806 - units ≤ 9223372036854775806 - (units - 1) = omega arith in
      record {
        fits = drawn-kept (Some schema) t q h.fits below;
        commits = h.commits;
        numbers = record {
          rows = rows_more (9223372036854775806 - units) (9223372036854775806 - (units - 1)) t.tables le h.numbers.rows;
          sequences = All-set (λ n. n ≤ℤ pos (9223372036854775806 - (units - 1))) t.sequences q (sequence_at t q +ℤ pos 1) (next_int (sequence_at t q) units some few low)
              (ints_more (9223372036854775806 - units) (9223372036854775806 - (units - 1)) t.sequences le h.numbers.sequences);
        };
      }

module _ (Did : List Event → Type 0) (code : Code) (q : ℕ) (below : q < length code.schema.sequences) (units : ℕ) where
  abbrev drawn_from : Option ℤ → State → Outcome Value
  drawn_from o s = given o (ops.drawn q s)

  pub next_spent : (args : List Value) → args ≡ [] → units < 1 → (t : Tables) (carried : List Value) (sent : List (ℕ × Value)) (earlier : List Event)
      → does_code code (op.Next q) args (held carried sent (store_of t) earlier units) ≡ Spent earlier
  next_spent args none few t carried sent earlier =
      ap (λ xs. does_code code (op.Next q) xs (held carried sent (store_of t) earlier units)) none ∙ ap (λ b. if b then drawn_from (slice_get t.sequences q) (held carried sent (store_of t) earlier (units - 1)) else Spent earlier) (too_few 1 units few)

  next_is : 1 ≤ units → (t : Tables) → AreTablesOf code.schema t → (carried : List Value) (sent : List (ℕ × Value)) (earlier : List Event)
      → does_code code (op.Next q) [] (held carried sent (store_of t) earlier units)
      ≡ Done (v.Int (sequence_at t q)) (held carried sent (store_of (drawn q t)) earlier (units - 1))
  next_is some t fits carried sent earlier =
      ap (λ b. if b then drawn_from (slice_get t.sequences q) (held carried sent (store_of t) earlier (units - 1)) else Spent earlier) (enough 1 units some)
      ∙ ap (λ o. drawn_from o (held carried sent (store_of t) earlier (units - 1))) (slice_get-get_or t.sequences q (pos 1) (within code.schema q below t fits))

  -- a draw is the store call
  pub next_store_call : Did [] → (args : List Value) → args ≡ [] → (units' : ℕ) (saved saved' current current' : Option Tables) (kept kept' : KeptSchema) (under_way' : Bool) (n : ℤ)
      → 1 ≤ units → units ≤ 9223372036854775806 → units' ≡ units - 1 → kept ≡ Keeps code.schema → WhereTold current (AreReady code.schema units)
      → WhereTold current (λ t. n ≡ sequence_at t q) → current' ≡ option_map (drawn q) current → IsInt n → IsWithin saved saved' kept kept' under_way'
      → StoreCall Did code (op.Next q) args units units' saved saved' current current' kept' under_way' (Ok (v.Int n))
  next_store_call did args none units' saved saved' current current' kept kept' under_way' n some few e same ready number moved int goes =
      subst (λ xs. StoreCall Did code (op.Next q) xs units units' saved saved' current current' kept' under_way' (Ok (v.Int n))) (sym none)
      (subst (λ m. StoreCall Did code (op.Next q) [] units m saved saved' current current' kept' under_way' (Ok (v.Int n))) (sym e)
      (subst (λ c. StoreCall Did code (op.Next q) [] units (units - 1) saved saved' current c kept' under_way' (Ok (v.Int n))) (sym moved) (record {
        does = drew_so current ready number;
        answer = λ ts r has. subst (λ z. IsOf code (v.Int n) z) (sym has.2) (refl, int);
        fewer = omega (arith, some);
        ready = left current ready;
        raised = λ m h. raise current ready m h;
        leaves = record { same_saved = goes.same_saved; same_kept = goes.same_kept ∙ same; goes_on = goes.goes_on };
        stays = tt;
        untold = λ n. ap (option_map (drawn q)) n;
      })))
    where
      drew_so : (o : Option Tables) → WhereTold o (AreReady code.schema units) → WhereTold o (λ t. n ≡ sequence_at t q)
          → WhereTold o (λ t. DoesStoreCall Did code (op.Next q) [] units (store_of t) (option_map (drawn q) o) (units - 1) (Ok (v.Int n)))
      drew_so None h k = tt
      drew_so (Some t) h k = (
        drawn q t,
        [],
        did,
        refl,
        λ carried sent earlier. next_is some t h.fits carried sent earlier
            ∙ ap₂ (λ (m : ℤ) (es : List Event). Done (v.Int m) (held carried sent (store_of (drawn q t)) es (units - 1))) (sym k) (sym (append-nil earlier)),
      )

      raise : (o : Option Tables) → WhereTold o (AreReady code.schema units) → (m : ℕ) → WhereTold o (NumbersUpTo m) → WhereTold (option_map (drawn q) o) (NumbersUpTo (m + (units - (units - 1))))
      raise None a m h = tt
      raise (Some t) a m h = subst (λ k. NumbersUpTo (m + k) (drawn q t)) (one_unit units some) (draw_raises code.schema q below m t a.fits h)

      left : (o : Option Tables) → WhereTold o (AreReady code.schema units) → WhereTold (option_map (drawn q) o) (AreReady code.schema (units - 1))
      left None h = tt
      left (Some t) h = draw_ready code.schema q below units t some few h

-- ---- fewer units

-- tables that are ready are so for fewer units
pub fewer_ready : (schema : Schema) (units units' : ℕ) (t : Tables) → units' ≤ units → AreReady schema units t → AreReady schema units' t
fewer_ready schema units units' t less h =
    let le : 9223372036854775806 - units ≤ 9223372036854775806 - units' = omega (arith, less) in
    record {
      fits = h.fits;
      commits = h.commits;
      numbers = record {
        rows = rows_more (9223372036854775806 - units) (9223372036854775806 - units') t.tables le h.numbers.rows;
        sequences = ints_more (9223372036854775806 - units) (9223372036854775806 - units') t.sequences le h.numbers.sequences;
      };
    }

-- ---- what is there

not_there : {A : Type 0} (o : Option A) (x : A) → o ≡ None → o ≡ Some x → ⊥
not_there o x e f = differ (sym e ∙ f)
  where
    differ : None ≡ Some x → ⊥
    differ e = cc

same_some : {A : Type 0} (a b : A) → Some a ≡ Some b → a ≡ b
same_some a b e = cc

module _ (code : Code) (update : ℕ) (args : List Value) (takes : Takes code (op.Write update) args) where
  -- the change is there
  pub change_there : slice_get code.changes update ≡ None → ⊥
  change_there e =
      let m = at_mapped (λ (u : Change). map kind_type u.params) code.changes update takes.1.types (takes.1.has.0) in
      not_there (slice_get code.changes update) m.0 e m.1

  -- it gets arguments of its kinds
  pub change_args : (u : Change) → slice_get code.changes update ≡ Some u → FitKinds args u.params
  change_args u at =
      let m = at_mapped (λ (u : Change). map kind_type u.params) code.changes update takes.1.types (takes.1.has.0) in
      let same : m.0 ≡ u = same_some m.0 u (sym m.1 ∙ at) in
      values_kinds (HasOwnCalls code.handlers) code.variants args u.params
      (subst (AllZip (IsOf code) args) (sym (sym (ap (λ (w : Change). map kind_type w.params) same) ∙ m.2)) takes.1.args)

-- a change that fits is one of the code's
pub change_fits : (code : Code) → Fits code → (update : ℕ) (u : Change) → slice_get code.changes update ≡ Some u → ChangeFits code.schema u
change_fits code fits update u at = at_all (ChangeFits code.schema) code.changes update u fits.changes at

-- its table is there
pub table_there : (schema : Schema) (u : Change) → ChangeFits schema u → slice_get schema.tables u.table ≡ None → ⊥
table_there schema u fits e =
    let m = at_mapped kinds_of schema.tables u.table u.columns fits.table in
    not_there (slice_get schema.tables u.table) m.0 e m.1

-- of a shape whose kinds are those of its columns
pub shape_kinds : (schema : Schema) (u : Change) (shape : TableShape) → ChangeFits schema u → slice_get schema.tables u.table ≡ Some shape → kinds_of shape ≡ u.columns
shape_kinds schema u shape fits at =
    let m = at_mapped kinds_of schema.tables u.table u.columns fits.table in
    ap kinds_of (same_some shape m.0 (sym at ∙ m.1)) ∙ m.2

-- tables of so many units are tables of one
pub ready_one : (schema : Schema) (current : Option Tables) (units : ℕ) → 1 ≤ units → WhereTold current (AreReady schema units) → WhereTold current (AreReady schema 1)
ready_one schema current units some h = where_told current _ _ h (λ t e r. fewer_ready schema units 1 t some r)

-- a draw takes no arguments, and its sequence is there
pub no_args : (code : Code) (q : ℕ) (args : List Value) → Takes code (op.Next q) args → args ≡ []
no_args code q args takes = go args (subst (AllZip (IsOf code) args) takes.1.has.0 takes.1.args)
  where
    go : (xs : List Value) → AllZip (IsOf code) xs [] → xs ≡ []
    go [] h = refl
    go (x ∷ xs) h = absurd h

pub sequence_there : (code : Code) (q : ℕ) (args : List Value) → Takes code (op.Next q) args → q < length code.schema.sequences
sequence_there code q args takes = takes.1.has.1

-- without a unit no change is made
pub write_spent_there : (code : Code) (update : ℕ) (args : List Value) (units : ℕ) → Takes code (op.Write update) args → units < 1
    → (t : Tables) (carried : List Value) (sent : List (ℕ × Value)) (earlier : List Event) → does_code code (op.Write update) args (held carried sent (store_of t) earlier units) ≡ Spent earlier
write_spent_there code update args units takes few t carried sent earlier =
    let m = at_mapped (λ (u : Change). map kind_type u.params) code.changes update takes.1.types (takes.1.has.0) in
    write_spent (λ es. Unit {0}) code update m.0 m.1 args units few t carried sent earlier

-- the units by another name
pub store_call_at : {Did : List Event → Type 0} {code : Code} {o : Op} {args : List Value} {units' : ℕ} {saved saved' current current' : Option Tables} {kept' : KeptSchema} {under_way' : Bool} {r : Result Value TurnStop} (units n : ℕ) → units ≡ n
    → StoreCall Did code o args units units' saved saved' current current' kept' under_way' r → StoreCall Did code o args n units' saved saved' current current' kept' under_way' r
store_call_at {Did = Did} {code = code} {o = o} {args = args} {units' = units'} {saved = saved} {saved' = saved'} {current = current} {current' = current'} {kept' = kept'} {under_way' = under_way'} {r = r} units n e h =
    subst (λ u. StoreCall Did code o args u units' saved saved' current current' kept' under_way' r) e h

-- the arguments by another name
pub made_at : {schema : Schema} {u : Change} {saved saved' current current' : Option Tables} {kept kept' : KeptSchema} {under_way' : Bool} {r : Result Value TurnStop} (xs ys : List Value) → xs ≡ ys
    → Made schema u xs saved saved' current current' kept kept' under_way' r → Made schema u ys saved saved' current current' kept kept' under_way' r
made_at {schema = schema} {u = u} {saved = saved} {saved' = saved'} {current = current} {current' = current'} {kept = kept} {kept' = kept'} {under_way' = under_way'} {r = r} xs ys e h =
    subst (λ z. Made schema u z saved saved' current current' kept kept' under_way' r) e h
