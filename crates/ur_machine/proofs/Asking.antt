-- What queries come to in the meaning of code.
use Rattle.std.proofs.Common.{◌≡◌, ℕ, zero, suc, ◌+◌, ◌-◌, ◌<◌, ◌≤◌, Bool, true, false, if◌then◌else◌, List, [], ◌∷◌, ◌++◌, length, map, Option, Some, None, IfSome, slice_get, All, Result, Ok, Err, refl, sym, ap, ap₂, subst, ◌∙◌, arith}
use Rattle.std.specs.Prelude.{nat_le}
use Rattle.std.specs.List.{AllByRecursion, AllZip}
use Rattle.std.proofs.Math.ListN.{get_or-map}
use Rattle.std.proofs.lemmas.List.Elements.{All-map, recursion_from_All, All-from_recursion}
use Rattle.ur_base.specs.Told.{WhereTold}
use Rattle.ur_values.specs.declared.types.ValueType.{ValueType}
use Rattle.ur_values.specs.declared.types.ValueType.TheVariants as ty
use Rattle.ur_values.specs.declared.value.Value.{Value}
use Rattle.ur_values.specs.declared.value.Value.TheVariants as v
use Rattle.ur_values.specs.declared.schema.Numbered.{Numbered}
use Rattle.ur_values.specs.declared.schema.Schema.{Schema}
use Rattle.ur_values.specs.Event.{Event, Ask}
use Rattle.ur_values.specs.Size.{is_small}
use Rattle.ur_values.specs.Store.{Row, Store, FitKinds, FitsShape, kinds_of, rows_at, rows_of}
use Rattle.ur_keeper.specs.Keeper.{HasTable, OfShape, IsWithin}
use Rattle.ur_keeper.specs.Tables.{Tables, KeptSchema, Keeps, AreRowsOf, table_at, store_of}
use Rattle.ur_sql.specs.declared.query.Item.{Item}
use Rattle.ur_sql.specs.declared.query.Query.{Query}
use Rattle.ur_sql.specs.Answer.{answer_over, answer_if_any, site_answer}
use Rattle.ur_sql.specs.Typing.{QueryFits}
use Rattle.ur_terms.specs.declared.term.AnswerForm.{AnswerForm}
use Rattle.ur_terms.specs.declared.term.AnswerForm.TheVariants as form
use Rattle.ur_terms.specs.declared.term.Op.TheVariants as op
use Rattle.ur_terms.specs.State.{State, Outcome, Done, Spent}
use Rattle.ur_terms.specs.Ops.{answered}
use Rattle.ur_terms.specs.Inhabits.{Variants}
use Rattle.ur_terms.specs.Types.{answer_type}
use Rattle.ur_terms.proofs.Inhabiting.{Of, to-Many, to-Present}
use Rattle.ur_machine_frames.specs.Plays.{held}
use Rattle.ur_code.specs.declared.code.Code.{Code}
use Rattle.ur_code.specs.Fits.{Fits, signature}
use Rattle.ur_code.specs.Links.{HasOwnCalls}
use Rattle.ur_code.specs.Meaning.{code_sql}
use Rattle.ur_code.specs.RowType.{query_type}
use Rattle.ur_code.specs.Sound.{IsOf}
use Rattle.ur_code.proofs.KindTypes.{values_kinds}
use Rattle.ur_code.proofs.Links.{at_mapped}
use Rattle.ur_code.proofs.TypedAnswers.{ItemFits, answer_over_typed}
use Rattle.ur_code.proofs.TypedChanges.{at_all}
use Rattle.ur_machine.specs.UnderWay.{IsAnswerTo}
use Rattle.ur_machine.specs.declared.stop.TurnStop.{TurnStop}
use Rattle.ur_machine.specs.declared.stop.TurnStop.TheVariants as stop
use Rattle.ur_conditions.specs.declared.patterns.Patterns.{Patterns}
use Rattle.ur_cache.specs.Entries.{Cached}
use Rattle.ur_machine.specs.Answers.{sites_of}
use Rattle.ur_values.specs.declared.atom.Atom.{Atom}
use Rattle.ur_values.specs.Atom.{atom_values}
use Rattle.ur_machine.specs.declared.reached.Reached.{Reached}
use Rattle.ur_machine.specs.declared.reached.Reached.TheVariants as reached
use Rattle.ur_machine.specs.Reached.{HasReached}
use Rattle.ur_machine.specs.StoreCalls.{asked, Answers, OneStep, Takes, DoesStoreCall, StoreCall}
use Rattle.ur_machine.specs.Reading.{IsKeyOf, FindsRows}
use Rattle.ur_machine.specs.Ready.{AreReady}
use Rattle.ur_machine.proofs.Doing.{fewer_ready, store_call_stops}
use Rattle.ur_machine.proofs.Told.{where_told, raised_none}

same_some : {A : Type 0} (a b : A) → Some a ≡ Some b → a ≡ b
same_some a b e = cc

-- ---- the tables of FROM

-- the rows that a keeper gives are those of the store
pub rows_told : (t : Tables) (items : List Item) → map rows_of (map (λ item. table_at t item.table) items) ≡ map (λ item. rows_at (store_of t) item.table) items
rows_told t [] = refl
rows_told t (item ∷ items) = ap₂ (λ (rows : List Row) (more : List (List Row)). rows ∷ more) (sym (get_or-map rows_of t.tables item.table [])) (rows_told t items)

there_below : {A B : Type 0} (f : A → B) (xs : List A) (n : ℕ) (y : B) → slice_get (map f xs) n ≡ Some y → n < length xs
there_below f [] n y e = cc
there_below f (x ∷ xs) zero y e = omega arith
there_below f (x ∷ xs) (suc n) y e = let below = there_below f xs n y e in omega (arith, below)

abbrev Names : Schema → Item → Type 0
Names schema item = slice_get (map kinds_of schema.tables) item.table ≡ Some item.columns

tables_there : (schema : Schema) (items : List Item) → AllByRecursion (Names schema) items → AllByRecursion (λ item. HasTable (Keeps schema) item.table) items
tables_there schema [] h = tt
tables_there schema (item ∷ items) h = (there_below kinds_of schema.tables item.table item.columns h.0, tables_there schema items h.1)

-- the tables of a query's items are there
pub all_there : (schema : Schema) (kept : KeptSchema) (q : Query) → kept ≡ Keeps schema → QueryFits schema q → All (λ item. HasTable kept item.table) q.from
all_there schema kept q same fit =
    subst (λ k. All (λ (item : Item). HasTable k item.table) q.from) (sym same)
    (All-from_recursion (λ (item : Item). HasTable (Keeps schema) item.table) q.from (tables_there schema q.from (recursion_from_All (Names schema) q.from fit.tables)))

item_fits : (schema : Schema) (item : Item) (rows : List Numbered) → Names schema item → OfShape (Keeps schema) item.table (λ shape. AreRowsOf shape rows) → ItemFits item (rows_of rows)
item_fits schema item rows e h =
    let shape = at_mapped kinds_of schema.tables item.table item.columns e in
    let are : AreRowsOf shape.0 rows = subst (λ o. IfSome o (λ s. AreRowsOf s rows)) shape.1 h in
    subst (λ columns. All (λ row. FitKinds row columns) (rows_of rows)) shape.2 (All-map (FitsShape shape.0) (λ (r : Numbered). r.row) rows are.shaped)

items_fit : (schema : Schema) (items : List Item) (tables : List (List Numbered)) → AllByRecursion (Names schema) items
    → AllZip (λ item rows. OfShape (Keeps schema) item.table (λ shape. AreRowsOf shape rows)) items tables → AllZip ItemFits items (map rows_of tables)
items_fit schema [] [] e h = tt
items_fit schema [] (rows ∷ tables) e h = absurd h
items_fit schema (item ∷ items) [] e h = absurd h
items_fit schema (item ∷ items) (rows ∷ tables) e h = (item_fits schema item rows e.0 h.0, items_fit schema items tables e.1 h.1)

-- ---- answers have their types

is_built : (b : Bool) (y x : Value) (s s' : State) → (if b then Done y s else Spent s.events) ≡ Done x s' → y ≡ x
is_built true y x s s' e = cc
is_built false y x s s' e = cc

after_charge : (b : Bool) (w : Outcome Value) (events : List Event) (x : Value) (s' : State) → (if b then w else Spent events) ≡ Done x s' → w ≡ Done x s'
after_charge true w events x s' e = e
after_charge false w events x s' e = cc

module _ (own : Value → Type 0) (vs : Variants) where
  answered_typed : (how : AnswerForm) (r : ValueType) (rows : List Value) (x : Value) (s s' : State) → AllByRecursion (λ y. Of own vs y r) rows → answered how rows s ≡ Done x s'
      → Of own vs x (answer_type how r)
  answered_typed form.All r rows x s s' h e = subst (λ y. Of own vs y (ty.Many r)) (is_built (is_small (v.Many rows)) (v.Many rows) x s s' e) (to-Many own vs rows (ty.Many r) (r, refl, h))
  answered_typed form.One r [] x s s' h e = cc
  answered_typed form.One r (y ∷ []) x s s' h e = subst (λ z. Of own vs z r) (is_built (is_small y) y x s s' e) h.0
  answered_typed form.One r (y ∷ z ∷ rows) x s s' h e = cc
  answered_typed form.OneOrNone r [] x s s' h e = subst (λ z. Of own vs z (ty.Opt r)) (absent_is x s s' e) (r, refl)
    where
      absent_is : (x : Value) (s s' : State) → Done v.Absent s ≡ Done x s' → v.Absent ≡ x
      absent_is x s s' e = cc
  answered_typed form.OneOrNone r (y ∷ []) x s s' h e = subst (λ z. Of own vs z (ty.Opt r)) (is_built (is_small (v.Present y)) (v.Present y) x s s' e) (to-Present own vs y (ty.Opt r) (r, refl, h.0))
  answered_typed form.OneOrNone r (y ∷ z ∷ rows) x s s' h e = cc

-- ---- a query's rows as its answer

module _ (code : Code) (how : AnswerForm) (site : ℕ) (key : List Value) (units : ℕ) where
  abbrev found : Store → List Value
  found store = site_answer code.queries site key store

  asks : (Did : List Event → Type 0) (t : Tables) (current' : Option Tables) (units' : ℕ) (result : Result Value TurnStop) → Did (Ask site key (found (store_of t)) ∷ []) → current' ≡ Some t → Answers how (found (store_of t)) units units' result
      → DoesStoreCall Did code (op.Ask how site) key units (store_of t) current' units' result
  asks Did t current' units' (Ok x) did e a = (
    t,
    Ask site key (found (store_of t)) ∷ [],
    did,
    e,
    λ carried sent earlier. a.1 (held carried sent (store_of t) (earlier ++ Ask site key (found (store_of t)) ∷ []) units),
  )
  asks Did t current' units' (Err (stop.Failed body)) did e a = (
    Ask site key (found (store_of t)) ∷ [],
    did,
    λ carried sent earlier. a (held carried sent (store_of t) (earlier ++ Ask site key (found (store_of t)) ∷ []) units),
  )
  asks Did t current' units' (Err stop.Spent) did e a = (
    Ask site key (found (store_of t)) ∷ [],
    did,
    λ carried sent earlier. a (held carried sent (store_of t) (earlier ++ Ask site key (found (store_of t)) ∷ []) units),
  )
  asks Did t current' units' (Err stop.Keeper) did e a = absurd a
  asks Did t current' units' (Err stop.Undone) did e a = absurd a
  asks Did t current' units' (Err stop.Memory) did e a = tt

  answer_has_type : (rows : List Value) → ((q : Query) → slice_get code.queries site ≡ Some q → AllByRecursion (λ row. IsOf code row (query_type q).1) rows)
      → (units' : ℕ) (x : Value) → Answers how rows units units' (Ok x) → IsAnswerTo code (op.Ask how site) x
  answer_has_type rows typed units' x a ts r has =
      let s : State = held [] [] (record { tables = []; sequences = [] }) [] units in
      let m = at_mapped query_type code.queries site (ts, has.0) has.1 in
      let row_is : (query_type m.0).1 ≡ has.0 = ap (λ (p : List ValueType × ValueType). p.1) m.2 in
      subst (λ z. IsOf code x z) (sym has.2)
      (answered_typed (HasOwnCalls code.handlers) code.variants how has.0 rows x (record s { units = units - (1 + length rows) }) (record s { units = units' })
      (subst (λ z. AllByRecursion (λ y. IsOf code y z) rows) row_is (typed m.0 m.1))
      (after_charge (nat_le (1 + length rows) units) (answered how rows (record s { units = units - (1 + length rows) })) [] x (record s { units = units' }) (a.1 s)))

  module _ (patterns : Patterns) (c c' : Cached) (reads reads' : ℕ) (saved saved' current current' : Option Tables) (kept kept' : KeptSchema) (under_way' : Bool) (same : kept ≡ Keeps code.schema) where
    abbrev Its : Reached → (units' : ℕ) → Result Value TurnStop → Type 0
    Its reached units' result = StoreCall (OneStep code (sites_of code patterns) c c' reads reads' reached) code (op.Ask how site) key units units' saved saved' current current' kept' under_way' result

    -- no rows were had
    pub ask_stops : (reached : Reached) (e : TurnStop) → FindsRows code patterns site key saved saved' current current' kept kept' under_way' c c' reads reads' (Err e) → Its reached units (Err e)
    ask_stops reached e finds = store_call_stops (OneStep code (sites_of code patterns) c c' reads reads' reached) code (op.Ask how site) key units units saved saved' current current' kept kept' under_way' same (List Value) e finds.ends

    -- what was answered is the store call
    pub ask_store_call : (atoms : Option (List Atom)) → IfSome atoms (λ a. atom_values a ≡ key) → IsKeyOf code site key → (rows : List Value) → FindsRows code patterns site key saved saved' current current' kept kept' under_way' c c' reads reads' (Ok rows)
        → WhereTold current (AreReady code.schema units) → (units' : ℕ) (result : Result Value TurnStop) → Answers how rows units units' result → Its (reached.Query site atoms) units' result
    ask_store_call atoms same_key is rows finds ready units' result answers = subst (λ o. StoreCall Did code (op.Ask how site) key units units' saved saved' current o kept' under_way' result) (sym finds.stays) (go result answers)
      where
        Did : List Event → Type 0
        Did = OneStep code (sites_of code patterns) c c' reads reads' (reached.Query site atoms)

        has_query : (atoms : Option (List Atom)) → IfSome atoms (λ a. atom_values a ≡ key) → HasReached code (reached.Query site atoms) (Ask site key rows ∷ [])
        has_query None h = (key, rows, refl)
        has_query (Some a) h = (
          record { site = site; key = key; rows = rows },
          record { query = is.query; is_site = is.is_site; key = is.fits; rows = All-from_recursion (λ row. IsOf code row (query_type is.query).1) rows (finds.typed is.query is.is_site) },
          refl,
          sym h,
          refl,
        )

        within : IsWithin saved saved' (Keeps code.schema) kept' under_way'
        within = record { same_saved = finds.ends.same_saved; same_kept = finds.ends.same_kept ∙ same; goes_on = finds.ends.goes_on }

        its_event : (t : Tables) → rows ≡ found (store_of t) → Did (Ask site key (found (store_of t)) ∷ [])
        its_event t e = subst (λ rs. Did (Ask site key rs ∷ [])) e (asked site key rows, finds.steps, has_query atoms same_key)

        does_so : (r : Result Value TurnStop) → Answers how rows units units' r → WhereTold current (λ t. DoesStoreCall Did code (op.Ask how site) key units (store_of t) current units' r)
        does_so r a = where_told current _ _ finds.rows (λ t e f. asks Did t current units' r (its_event t f) e (subst (λ rs. Answers how rs units units' r) f a))

        below : units' < units → units' ≤ units
        below h = omega arith

        go : (r : Result Value TurnStop) → Answers how rows units units' r → StoreCall Did code (op.Ask how site) key units units' saved saved' current current kept' under_way' r
        go (Ok x) a = record { does = does_so (Ok x) a; answer = answer_has_type rows finds.typed units' x a; fewer = a.0; ready = where_told current _ _ ready (λ t e h. fewer_ready code.schema units units' t (below a.0) h); raised = raised_none (units - units') current; leaves = within; stays = tt; untold = λ n. n }
        go (Err (stop.Failed body)) a = record { does = does_so (Err (stop.Failed body)) a; answer = tt; fewer = tt; ready = tt; raised = tt; leaves = within; stays = refl; untold = tt }
        go (Err stop.Spent) a = record { does = does_so (Err stop.Spent) a; answer = tt; fewer = tt; ready = tt; raised = tt; leaves = within; stays = refl; untold = tt }
        go (Err stop.Keeper) a = absurd a
        go (Err stop.Undone) a = absurd a
        go (Err stop.Memory) a = record { does = does_so (Err stop.Memory) a; answer = tt; fewer = tt; ready = tt; raised = tt; leaves = within; stays = tt; untold = tt }

not_there : {A : Type 0} (o : Option A) (x : A) → o ≡ None → o ≡ Some x → ⊥
not_there o x e f = differ (sym e ∙ f)
  where
    differ : None ≡ Some x → ⊥
    differ e = cc

-- the query is there
pub query_there : (code : Code) (how : AnswerForm) (site : ℕ) (key : List Value) → Takes code (op.Ask how site) key → slice_get code.queries site ≡ None → ⊥
query_there code how site key takes e =
    let has = takes.1.has in
    let m = at_mapped query_type code.queries site (takes.1.types, has.0) has.1 in
    not_there (slice_get code.queries site) m.0 e m.1

-- the key of a query's store call
pub key_of : (code : Code) (how : AnswerForm) (site : ℕ) (key : List Value) → Takes code (op.Ask how site) key → IsKeyOf code site key
key_of code how site key takes =
    let has = takes.1.has in
    let m = at_mapped query_type code.queries site (takes.1.types, has.0) has.1 in
    record {
      query = m.0;
      is_site = m.1;
      fits = values_kinds (HasOwnCalls code.handlers) code.variants key (m.0).params
          (subst (AllZip (IsOf code) key) (sym (ap (λ (p : List ValueType × ValueType). p.0) m.2)) takes.1.args);
    }

-- a query of the code fits its tables
pub site_fits : (code : Code) → Fits code → (site : ℕ) (q : Query) → slice_get code.queries site ≡ Some q → QueryFits code.schema q
site_fits code fits site q at = at_all (QueryFits code.schema) code.queries site q fits.queries at

-- the rows that the tables give have the query's row type
pub rows_typed : (code : Code) → Fits code → (site : ℕ) (q : Query) → slice_get code.queries site ≡ Some q → (key : List Value) → FitKinds key q.params → (kept : KeptSchema) → kept ≡ Keeps code.schema
    → (tables : List (List Numbered)) → AllZip (λ item rows. OfShape kept item.table (λ shape. AreRowsOf shape rows)) q.from tables
    → AllByRecursion (λ y. IsOf code y (query_type q).1) (answer_over q key (map rows_of tables))
rows_typed code fits site q at key key_fits kept same tables forms =
    let fit = site_fits code fits site q at in
    answer_over_typed (HasOwnCalls code.handlers) code.variants q fit.typed key key_fits (map rows_of tables)
    (items_fit code.schema q.from tables (recursion_from_All (Names code.schema) q.from fit.tables)
    (subst (λ k. AllZip (λ (item : Item) (rows : List Numbered). OfShape k item.table (λ shape. AreRowsOf shape rows)) q.from tables) same forms))

-- and are the site's answer over the told ones
pub rows_answer : (code : Code) (site : ℕ) (q : Query) → slice_get code.queries site ≡ Some q → (key : List Value) (t : Tables) (tables : List (List Numbered))
    → tables ≡ map (λ item. table_at t item.table) q.from → answer_over q key (map rows_of tables) ≡ site_answer code.queries site key (store_of t)
rows_answer code site q at key t tables e =
    ap (λ z. answer_over q key (map rows_of z)) e ∙ ap (answer_over q key) (rows_told t q.from) ∙ ap (λ o. answer_if_any o key (store_of t)) (sym at)
