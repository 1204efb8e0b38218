-- What a planned change makes of tables.
use Rattle.std.proofs.Common.{◌≡◌, ℕ, zero, suc, ◌+◌, ◌-◌, ◌<◌, ◌≤◌, max, Bool, true, false, not, ◌&&◌, ◌==◌, cond, ℤ, pos, ◌≤ℤ◌, List, [], ◌∷◌, ◌++◌, length, map, filter, fold, get_or, set, Option, Some, None, IfSome, IsNone, slice_get, All, Result, Ok, Err, refl, sym, ap, ap₂, subst, ◌∙◌, arith}
use Rattle.std.specs.Prelude.{◌↔◌, IsTrue, codes, nat_le, option_map, unwrap_or, IsErrAnd}
use Rattle.std.specs.List.{AllByRecursion, AllZip, list_all}
use Rattle.std.proofs.Math.ListN.{get_or-map}
use Rattle.std.proofs.lemmas.Int.{ints}
use Rattle.std.proofs.lemmas.Bool.{cond_both}
use Rattle.std.proofs.lemmas.Bool.Decides.{nat_tests}
use Rattle.std.proofs.lemmas.List.{length-map, map-set}
use Rattle.std.proofs.lemmas.List.Elements.{All-push, All-map, All-weaker, All-filter, All-set, All-get_or, recursion_from_All}
use Rattle.std.proofs.lemmas.Slice.Zip.{AllZip-long}
use Rattle.ur_base.specs.Told.{WhereTold}
use Rattle.ur_values.specs.declared.value.Value.{Value}
use Rattle.ur_values.specs.declared.schema.Numbered.{Numbered}
use Rattle.ur_values.specs.declared.schema.Schema.{Schema}
use Rattle.ur_values.specs.declared.schema.TableShape.{TableShape}
use Rattle.ur_values.specs.Keys.{repeated_key, most_rows}
use Rattle.ur_values.specs.Numbered.{next_number, put_row, drop_row}
use Rattle.ur_values.specs.Sql.{Changed, After, DuplicateKey, TableFull, changed_map}
use Rattle.ur_values.specs.Store.{Row, Store, rows_at, rows_of, FitsShape, IsStorable}
use Rattle.ur_values.specs.Values.{unit_value}
use Rattle.ur_keeper.specs.Keeper.{HasTable, OfShape, IsRowOf, IsWithin}
use Rattle.ur_keeper.specs.Tables.{Tables, KeptSchema, Keeps, AreRowsOf, AreTablesOf, MayCommit, MayCommitTable, NumbersUpTo, table_at, with_table, store_of}
use Rattle.ur_keeper.proofs.Keeping.{zip-set, inserted-kept, replaced-kept, removed-kept}
use Rattle.ur_sql.specs.declared.change.Action.{Action}
use Rattle.ur_sql.specs.declared.change.Action.TheVariants as action
use Rattle.ur_sql.specs.declared.change.Change.{Change}
use Rattle.ur_sql.specs.declared.change.Planned.TheVariants as planned
use Rattle.ur_sql.specs.declared.change.RowChange.{RowChange}
use Rattle.ur_sql.specs.declared.change.RowChange.TheVariants as row
use Rattle.ur_sql.specs.Change.{chosen, inserted_row, updated_row, rows_after, is_insert, unless_repeated, change_rows, change}
use Rattle.ur_sql.specs.Plan.{OfNewRow, row_changes, rows_changed, planned_as, plan}
use Rattle.ur_sql.specs.Sql.{table_name}
use Rattle.ur_sql.proofs.Makes.{changed_after, can_change}
use Rattle.ur_sql.proofs.Outcome.{all_changes}
use Rattle.ur_terms.specs.State.{State, Outcome, Spent, error_text}
use Rattle.ur_terms.specs.Ops.{changed}
use Rattle.ur_code.specs.Meaning.{is_storable, are_storable}
use Rattle.ur_machine.specs.declared.stop.TurnStop.{TurnStop}
use Rattle.ur_machine.specs.declared.stop.TurnStop.TheVariants as stop
use Rattle.ur_machine.specs.Changing.{changed_in, all_changed, MayChangeAll, Makes, Made}
use Rattle.ur_machine.specs.StoreCalls.{Gives}
use Rattle.ur_machine.specs.Ready.{AreReady}
use Rattle.ur_machine.specs.Stops.{EndsCall}
use Rattle.ur_machine.proofs.Calling.{changes_at_once, planned_may}
use Rattle.ur_machine.proofs.Told.{where_told, told_all}
use Rattle.ur_machine.proofs.Storable.{tables_storable, at_set, new_storable}

-- ---- what a plan says

module _ (what : Action) (args : List Value) (keys : List (List ℕ)) (rows : List Numbered) where
  abbrev rows_then : List Row
  rows_then = rows_after what args (rows_of rows)

  abbrev full : Bool
  full = is_insert what && nat_le most_rows (length (rows_of rows))

  -- changes are planned where no key repeats and an INSERT finds room
  pub planned_changes : (changes : List RowChange) → planned.Changes changes ≡ plan what args keys rows
      → (changes ≡ row_changes what args rows) × (repeated_key keys rows_then ≡ None) × (full ≡ false) × (change_rows what args keys (rows_of rows) ≡ After rows_then)
  unfolding change_rows
  planned_changes changes e = go (repeated_key keys rows_then) full refl refl e
    where
      go : (key : Option ℕ) (b : Bool) → repeated_key keys rows_then ≡ key → full ≡ b → planned.Changes changes ≡ planned_as (unless_repeated key b rows_then) (row_changes what args rows)
          → (changes ≡ row_changes what args rows) × (repeated_key keys rows_then ≡ None) × (full ≡ false) × (change_rows what args keys (rows_of rows) ≡ After rows_then)
      go (Some k) b f g e = cc
      go None true f g e = cc
      go None false f g e = (cc, f, g, ap (λ k. unless_repeated k full rows_then) f ∙ ap (λ c. unless_repeated None c rows_then) g)

  pub planned_key : (k : ℕ) → planned.DuplicateKey k ≡ plan what args keys rows → (j : ℕ) × (change_rows what args keys (rows_of rows) ≡ DuplicateKey j)
  unfolding change_rows
  planned_key k e = go (repeated_key keys rows_then) full refl e
    where
      go : (key : Option ℕ) (b : Bool) → repeated_key keys rows_then ≡ key → planned.DuplicateKey k ≡ planned_as (unless_repeated key b rows_then) (row_changes what args rows)
          → (j : ℕ) × (change_rows what args keys (rows_of rows) ≡ DuplicateKey j)
      go (Some j) b f e = (j, ap (λ k. unless_repeated k full rows_then) f)
      go None true f e = cc
      go None false f e = cc

  pub planned_full : planned.TableFull ≡ plan what args keys rows → change_rows what args keys (rows_of rows) ≡ TableFull
  unfolding change_rows
  planned_full e = go (repeated_key keys rows_then) full refl refl e
    where
      go : (key : Option ℕ) (b : Bool) → repeated_key keys rows_then ≡ key → full ≡ b → planned.TableFull ≡ planned_as (unless_repeated key b rows_then) (row_changes what args rows)
          → change_rows what args keys (rows_of rows) ≡ TableFull
      go (Some j) b f g e = cc
      go None true f g e = ap (λ k. unless_repeated k full rows_then) f ∙ ap (λ c. unless_repeated None c rows_then) g
      go None false f g e = cc

-- ---- changes of a table, one after the other

-- they leave tables of the schema
pub tables_kept : (schema : Schema) (table : ℕ) (cs : List RowChange) (t : Tables) → AreTablesOf schema t → table < length schema.tables → AllByRecursion (OfNewRow (IsRowOf (Keeps schema) table)) cs
    → AreTablesOf schema (all_changed table cs t)
tables_kept schema table [] t h below rows = h
tables_kept schema table (row.Add new ∷ cs) t h below rows = tables_kept schema table cs (changed_in table (row.Add new) t) (inserted-kept (Some schema) t table new h below rows.0) below rows.1
tables_kept schema table (row.Put n new ∷ cs) t h below rows = tables_kept schema table cs (changed_in table (row.Put n new) t) (replaced-kept (Some schema) t table n new h below rows.0) below rows.1
tables_kept schema table (row.Drop n ∷ cs) t h below rows = tables_kept schema table cs (changed_in table (row.Drop n) t) (removed-kept (Some schema) t table n h below) below rows.1

-- ---- numbers

abbrev pub IsNoAdd : RowChange → Type 0
IsNoAdd (row.Add new) = ⊥
IsNoAdd (row.Put n new) = Unit {0}
IsNoAdd (row.Drop n) = Unit {0}

abbrev Low : ℕ → List Numbered → Type 0
Low m rows = All (λ r. r.number ≤ m) rows

low_put : (m n : ℕ) (new : Row) (rows : List Numbered) → Low m rows → Low m (put_row rows n new)
low_put m n new rows h =
    let there : Numbered → Numbered = λ r. cond (r.number == n) (record { number = n; row = new }) r in
    All-map (λ (r : Numbered). r.number ≤ m) there rows
    (All-weaker (λ (r : Numbered). r.number ≤ m) (λ (r : Numbered). (there r).number ≤ m)
    (λ r q. cond_both (r.number == n) (record { number = n; row = new }) r (λ (x : Numbered). x.number ≤ m) (λ e. grind (arith, nat_tests)) (λ _. q)) rows h)

low_changed : (m : ℕ) (rows : List Numbered) (cs : List RowChange) → AllByRecursion IsNoAdd cs → Low m rows → Low m (rows_changed rows cs)
low_changed m rows [] nn h = h
low_changed m rows (row.Add new ∷ cs) nn h = absurd nn.0
low_changed m rows (row.Put n new ∷ cs) nn h = low_changed m (put_row rows n new) cs nn.1 (low_put m n new rows h)
low_changed m rows (row.Drop n ∷ cs) nn h = low_changed m (drop_row rows n) cs nn.1 (All-filter (λ r. not (r.number == n)) (λ (r : Numbered). r.number ≤ m) rows h)

fold_low : (a b : ℕ) (rows : List Numbered) → a ≤ b + 1 → AllByRecursion (λ r. r.number ≤ b) rows → fold max a (map (λ r. r.number + 1) rows) ≤ b + 1
fold_low a b [] h k = h
fold_low a b (r ∷ rows) h k = let low : r.number ≤ b = k.0 in fold_low (max a (r.number + 1)) b rows (omega arith) k.1

pub next_low : (m : ℕ) (rows : List Numbered) → Low m rows → next_number rows ≤ m + 1
next_low m rows h = fold_low 0 m rows (omega arith) (recursion_from_All (λ (r : Numbered). r.number ≤ m) rows h)

pub no_adds : (what : Action) (args : List Value) (rows : List Numbered) → is_insert what ≡ false → AllByRecursion IsNoAdd (row_changes what args rows)
no_adds (action.Insert sets) args rows e = cc
no_adds (action.Update sets condition) args rows e =
    recursion_from_All IsNoAdd _ (all_changes (λ r. chosen args condition r.row) (λ r. row.Put r.number (updated_row args sets r.row)) IsNoAdd (λ r. Unit {0}) (λ r q. tt) rows (λ i d h. tt))
no_adds (action.Delete condition) args rows e =
    recursion_from_All IsNoAdd _ (all_changes (λ r. chosen args condition r.row) (λ r. row.Drop r.number) IsNoAdd (λ r. Unit {0}) (λ r q. tt) rows (λ i d h. tt))

-- a change raises the greatest number by one at most
low_after : (what : Action) (args : List Value) (m : ℕ) (rows : List Numbered) → Low m rows → Low (m + 1) (rows_changed rows (row_changes what args rows))
low_after (action.Insert sets) args m rows h =
    All-push (λ (r : Numbered). r.number ≤ m + 1) rows (record { number = next_number rows; row = inserted_row args sets })
    (All-weaker (λ (r : Numbered). r.number ≤ m) (λ (r : Numbered). r.number ≤ m + 1) (λ r q. omega arith) rows h) (next_low m rows h)
low_after (action.Update sets condition) args m rows h =
    All-weaker (λ (r : Numbered). r.number ≤ m) (λ (r : Numbered). r.number ≤ m + 1) (λ r q. omega arith) _
    (low_changed m rows (row_changes (action.Update sets condition) args rows) (no_adds (action.Update sets condition) args rows refl) h)
low_after (action.Delete condition) args m rows h =
    All-weaker (λ (r : Numbered). r.number ≤ m) (λ (r : Numbered). r.number ≤ m + 1) (λ r q. omega arith) _
    (low_changed m rows (row_changes (action.Delete condition) args rows) (no_adds (action.Delete condition) args rows refl) h)

-- ---- rows

length_last : (rows : List Row) (new : Row) → length (rows ++ new ∷ []) ≡ length rows + 1
length_last [] new = refl
length_last (r ∷ rows) new = omega (arith, length_last rows new)

filter_short : (p : Row → Bool) (rows : List Row) → length (filter p rows) ≤ length rows
filter_short p [] = omega arith
filter_short p (r ∷ rows) = go (p r) (filter_short p rows)
  where
    go : (b : Bool) → length (filter p rows) ≤ length rows → length (cond b (r ∷ filter p rows) (filter p rows)) ≤ suc (length rows)
    go true h = omega arith
    go false h = omega arith

after_short : (what : Action) (args : List Value) (rows : List Row) → length rows ≤ most_rows → (is_insert what && nat_le most_rows (length rows)) ≡ false → length (rows_after what args rows) ≤ most_rows
after_short (action.Insert sets) args rows h e = go (length rows) (length (rows ++ inserted_row args sets ∷ [])) e (length_last rows (inserted_row args sets))
  where
    go : (n m : ℕ) → nat_le 1000000 n ≡ false → m ≡ n + 1 → m ≤ 1000000
    go n m e f = grind (arith, nat_tests)
after_short (action.Update sets condition) args rows h e = subst (λ n. n ≤ most_rows) (sym (length-map rows _)) h
after_short (action.Delete condition) args rows h e = let short = filter_short (λ row. not (chosen args condition row)) rows in omega (arith, short, h)

if_mapped : {A : Type 0} (P Q : A → Type 0) (o : Option A) → IfSome o P → ((x : A) → o ≡ Some x → P x → Q x) → IfSome o Q
if_mapped P Q None p f = tt
if_mapped P Q (Some x) p f = f x refl p

zip_at : {A B : Type 0} (R : A → B → Type 0) (xs : List A) (ys : List B) (n : ℕ) (x : A) (d : B) → AllZip R xs ys → slice_get xs n ≡ Some x → R x (get_or ys n d)
zip_at R [] ys n x d h e = cc
zip_at R (z ∷ xs) [] n x d h e = absurd h
zip_at R (z ∷ xs) (y ∷ ys) zero x d h e = subst (λ a. R a y) (same z x e) h.0
  where
    same : {A : Type 0} (a b : A) → Some a ≡ Some b → a ≡ b
    same a b e = cc
zip_at R (z ∷ xs) (y ∷ ys) (suc n) x d h e = zip_at R xs ys n x d h.1 e

there_below : {A : Type 0} (xs : List A) (n : ℕ) (x : A) → slice_get xs n ≡ Some x → n < length xs
there_below [] n x e = cc
there_below (y ∷ xs) zero x e = omega arith
there_below (y ∷ xs) (suc n) x e = let below = there_below xs n x e in omega (arith, below)

low_ints : (n : ℤ) (m m' : ℕ) → m + 1 ≤ m' → n ≤ℤ pos m → n ≤ℤ pos m'
low_ints n m m' le h = omega (arith, ints, le)

not_true : (b : Bool) → (b ≡ true → ⊥) → b ≡ false
not_true true h = absurd (h refl)
not_true false h = refl

no_spent : (text : List ℕ) (s : State) → error_text {A = Value} text s ≡ Spent [] → ⊥
no_spent text s e = cc

-- ---- the change of a schema's table

module _ (schema : Schema) (u : Change) (shape : TableShape) (at : slice_get schema.tables u.table ≡ Some shape) (args : List Value) (t : Tables) where
  abbrev its : List Numbered
  its = table_at t u.table

  abbrev its_after : List Row
  its_after = rows_after u.action args (rows_of its)

  abbrev stored : List Row → Store
  stored rows = record { tables = set (map rows_of t.tables) u.table rows; sequences = t.sequences }

  its_change : change schema u args (store_of t) ≡ changed_map stored (change_rows u.action args shape.keys (rows_of its))
  its_change =
      ap (λ (o : Option TableShape). changed_map stored (change_rows u.action args (unwrap_or (option_map (λ (s : TableShape). s.keys) o) []) (rows_at (store_of t) u.table))) at
      ∙ ap (λ rows. changed_map stored (change_rows u.action args shape.keys rows)) (get_or-map rows_of t.tables u.table [])

  its_name : table_name schema (Some u) ≡ shape.name
  its_name = ap (λ (o : Option TableShape). unwrap_or (option_map (λ (s : TableShape). s.name) o) []) at

  abbrev state : State
  state = record { store = store_of t; carried = []; sent = []; units = 0; events = [] }

  -- an error that names the table
  named_error : (c : Changed Store) (before : List ℕ) (e : TurnStop) (after : Option Tables) → change schema u args (store_of t) ≡ c
      → ((name : List ℕ) (s : State) → changed name c s ≡ error_text (before ++ name) s)
      → Gives (error_text (before ++ shape.name)) (Err e) → Makes schema u args (store_of t) after (Err e)
  named_error c before (stop.Failed body) after f shows g = λ s. ap₂ (λ name d. changed name d s) its_name f ∙ shows shape.name s ∙ g s
  named_error c before stop.Spent after f shows g = absurd (no_spent (before ++ shape.name) state (g state))
  named_error c before stop.Keeper after f shows g = tt
  named_error c before stop.Undone after f shows g = tt
  named_error c before stop.Memory after f shows g = tt

  pub makes_key_error : (k : ℕ) (e : TurnStop) (after : Option Tables) → planned.DuplicateKey k ≡ plan u.action args shape.keys its
      → Gives (error_text (codes "duplicate key in " ++ shape.name)) (Err e) → Makes schema u args (store_of t) after (Err e)
  makes_key_error k e after f g =
      let key = planned_key u.action args shape.keys its k f in
      named_error (DuplicateKey key.0) (codes "duplicate key in ") e after (its_change ∙ ap (changed_map stored) key.1) (λ name s. refl) g

  pub makes_full_error : (e : TurnStop) (after : Option Tables) → planned.TableFull ≡ plan u.action args shape.keys its
      → Gives (error_text (codes "table full: " ++ shape.name)) (Err e) → Makes schema u args (store_of t) after (Err e)
  makes_full_error e after f g =
      named_error TableFull (codes "table full: ") e after (its_change ∙ ap (changed_map stored) (planned_full u.action args shape.keys its f)) (λ name s. refl) g

  module _ (fits : AreTablesOf schema t) (changes : List RowChange) (is_plan : planned.Changes changes ≡ plan u.action args shape.keys its) where
    below : u.table < length schema.tables
    below = there_below schema.tables u.table shape at

    within : u.table < length t.tables
    within = omega (arith, below, AllZip-long AreRowsOf schema.tables t.tables fits.tables)

    its_rows : AreRowsOf shape its
    its_rows = zip_at AreRowsOf schema.tables t.tables u.table shape [] fits.tables at

    says : (changes ≡ row_changes u.action args its) × (repeated_key shape.keys its_after ≡ None) × ((is_insert u.action && nat_le most_rows (length (rows_of its))) ≡ false)
        × (change_rows u.action args shape.keys (rows_of its) ≡ After its_after)
    says = planned_changes u.action args shape.keys its changes is_plan

    changed_to : change schema u args (store_of t) ≡ After (stored its_after)
    changed_to = its_change ∙ ap (changed_map stored) says.3

    -- more than may be stored
    pub makes_spent : (after : Option Tables) → (All (OfNewRow (All IsStorable)) changes → ⊥) → Makes schema u args (store_of t) after (Err stop.Spent)
    makes_spent after none = (
      stored its_after,
      changed_to,
      not_true (are_storable (stored its_after)) (λ e. none (subst (λ cs. All (OfNewRow (All IsStorable)) cs) (sym says.0)
          (new_storable u.action args its (at_set (list_all is_storable) (map rows_of t.tables) u.table its_after (subst (λ n. u.table < n) (sym (length-map t.tables rows_of)) within) e)))),
    )

    module _ (rows : All (OfNewRow (IsRowOf (Keeps schema) u.table)) changes) where
      abbrev done : Tables
      done = all_changed u.table changes t

      done_is : done ≡ with_table u.table (λ rows. rows_changed rows changes) t
      done_is = changes_at_once u.table changes t within

      rows_are : rows_of (rows_changed its changes) ≡ its_after
      rows_are = ap (λ cs. rows_of (rows_changed its cs)) says.0 ∙ changed_after u.action args its its_rows.numbers

      store_is : store_of done ≡ stored its_after
      store_is = ap store_of done_is ∙ ap (λ ts. record { tables = ts; sequences = t.sequences }) (map-set rows_of t.tables u.table (rows_changed its changes)) ∙ ap stored rows_are

      fits_done : AreTablesOf schema done
      fits_done = tables_kept schema u.table changes t fits below (recursion_from_All (OfNewRow (IsRowOf (Keeps schema) u.table)) changes rows)

      -- what the change makes
      pub makes_changed : (after : Option Tables) (x : Value) → after ≡ Some done → x ≡ unit_value → Makes schema u args (store_of t) after (Ok x)
      makes_changed after x e f = (done, e, f, changed_to ∙ ap After (sym store_is), tables_storable schema done fits_done)

      commits_done : MayCommit schema t → MayCommit schema done
      commits_done h =
          let old = zip_at MayCommitTable schema.tables t.tables u.table shape [] h at in
          let short = after_short u.action args (rows_of its) (subst (λ n. n ≤ most_rows) (sym (length-map its (λ (r : Numbered). r.row))) old.not_over) says.2 in
          let new : MayCommitTable shape (rows_changed its changes) = record {
            distinct = subst IsNone (sym (ap (repeated_key shape.keys) rows_are ∙ says.1)) refl;
            not_over = subst (λ n. n ≤ most_rows) (sym (ap length rows_are) ∙ length-map (rows_changed its changes) (λ (r : Numbered). r.row)) short;
          } in
          subst (λ z. AllZip MayCommitTable schema.tables z.tables) (sym done_is)
          (zip-set MayCommitTable schema.tables t.tables u.table (rows_changed its changes) h (subst (λ o. IfSome o (λ s. MayCommitTable s (rows_changed its changes))) (sym at) new))

      numbers_done : (m m' : ℕ) → m + 1 ≤ m' → NumbersUpTo m t → NumbersUpTo m' done
      numbers_done m m' le h =
          let low : Low m its = All-get_or (λ rows. Low m rows) t.tables u.table [] within h.rows in
          let up : (rows : List Numbered) → Low (m + 1) rows → Low m' rows = λ rows q. All-weaker (λ (r : Numbered). r.number ≤ m + 1) (λ (r : Numbered). r.number ≤ m') (λ r p. omega (arith, le)) rows q in
          let new : Low m' (rows_changed its changes) = up (rows_changed its changes) (subst (λ cs. Low (m + 1) (rows_changed its cs)) (sym says.0) (low_after u.action args m its low)) in
          let old : All (Low m') t.tables = All-weaker (λ rows. Low m rows) (λ rows. Low m' rows)
          (λ rows q. All-weaker (λ (r : Numbered). r.number ≤ m) (λ (r : Numbered). r.number ≤ m') (λ r p. omega (arith, le)) rows q) t.tables h.rows in
          subst (λ z. NumbersUpTo m' z) (sym done_is) (record {
            rows = All-set (λ rows. Low m' rows) t.tables u.table (rows_changed its changes) new old;
            sequences = All-weaker _ _ (λ n q. low_ints n m m' le q) t.sequences h.sequences;
          })

      -- the tables that it makes leave room for one unit less
      pub ready_done : (v : ℕ) → 1 ≤ v → v ≤ 9223372036854775806 → AreReady schema v t → AreReady schema (v - 1) done
      ready_done v some few h = record { fits = fits_done; commits = commits_done h.commits; numbers = numbers_done (9223372036854775806 - v) (9223372036854775806 - (v - 1)) (omega arith) h.numbers }

-- ---- over a keeper

ends_after : (A : Type 0) (e : TurnStop) (saved saved₁ saved' current' : Option Tables) (kept kept₁ kept' : KeptSchema) (under_way₁ under_way' : Bool) → IsWithin saved saved₁ kept kept₁ under_way₁
    → EndsCall {A = A} (Err e) saved₁ saved' current' kept₁ kept' under_way' → EndsCall {A = A} (Err e) saved saved' current' kept kept' under_way'
ends_after A (stop.Failed body) saved saved₁ saved' current' kept kept₁ kept' under_way₁ under_way' w h = absurd h
ends_after A stop.Spent saved saved₁ saved' current' kept kept₁ kept' under_way₁ under_way' w h = absurd h
ends_after A stop.Keeper saved saved₁ saved' current' kept kept₁ kept' under_way₁ under_way' w h = record { same_saved = h.same_saved ∙ w.same_saved; same_kept = h.same_kept ∙ w.same_kept; at_rest = h.at_rest ∙ w.same_saved; ended = h.ended }
ends_after A stop.Undone saved saved₁ saved' current' kept kept₁ kept' under_way₁ under_way' w h = record { same_saved = h.same_saved ∙ w.same_saved; same_kept = h.same_kept ∙ w.same_kept; at_rest = h.at_rest ∙ w.same_saved; ended = h.ended }
ends_after A stop.Memory saved saved₁ saved' current' kept kept₁ kept' under_way₁ under_way' w h = record { same_saved = h.same_saved ∙ w.same_saved; same_kept = h.same_kept ∙ w.same_kept; goes_on = h.goes_on }

pub within_after : (saved saved₁ saved' : Option Tables) (kept kept₁ kept' : KeptSchema) (under_way₁ under_way' : Bool) → IsWithin saved saved₁ kept kept₁ under_way₁
    → IsWithin saved₁ saved' kept₁ kept' under_way' → IsWithin saved saved' kept kept' under_way'
within_after saved saved₁ saved' kept kept₁ kept' under_way₁ under_way' w h = record { same_saved = h.same_saved ∙ w.same_saved; same_kept = h.same_kept ∙ w.same_kept; goes_on = h.goes_on }

module _ (schema : Schema) (u : Change) (args : List Value) (saved saved' current current' : Option Tables) (kept kept' : KeptSchema) (under_way' : Bool) where
  abbrev Its : Result Value TurnStop → Type 0
  Its = Made schema u args saved saved' current current' kept kept' under_way'

  -- a call of the keeper stopped
  pub made_stops : (A : Type 0) (e : TurnStop) → EndsCall {A = A} (Err e) saved saved' current' kept kept' under_way' → Its (Err e)
  made_stops A (stop.Failed body) h = absurd h
  made_stops A stop.Spent h = absurd h
  made_stops A stop.Keeper h = record { makes = told_all current _ (λ t f. tt); ready = λ w a b c. tt; raised = tt; value = tt; leaves = h; stays = tt; untold = tt }
  made_stops A stop.Undone h = record { makes = told_all current _ (λ t f. tt); ready = λ w a b c. tt; raised = tt; value = tt; leaves = h; stays = tt; untold = tt }
  made_stops A stop.Memory h = record { makes = told_all current _ (λ t f. tt); ready = λ w a b c. tt; raised = tt; value = tt; leaves = h; stays = tt; untold = tt }

  -- one after others
  pub made_stops_after : (A : Type 0) (e : TurnStop) (saved₁ : Option Tables) (kept₁ : KeptSchema) (under_way₁ : Bool) → IsWithin saved saved₁ kept kept₁ under_way₁
      → EndsCall {A = A} (Err e) saved₁ saved' current' kept₁ kept' under_way' → Its (Err e)
  made_stops_after A e saved₁ kept₁ under_way₁ w h = made_stops A e (ends_after A e saved saved₁ saved' current' kept kept₁ kept' under_way₁ under_way' w h)

  module _ (shape : TableShape) (at : slice_get schema.tables u.table ≡ Some shape) (rows : List Numbered) (told : WhereTold current (λ t. rows ≡ table_at t u.table))
      (ready : WhereTold current (AreReady schema 1)) where
    with_ready : WhereTold current (λ t. (rows ≡ table_at t u.table) × AreReady schema 1 t)
    with_ready = go current told ready
      where
        go : (o : Option Tables) → WhereTold o (λ t. rows ≡ table_at t u.table) → WhereTold o (AreReady schema 1) → WhereTold o (λ t. (rows ≡ table_at t u.table) × AreReady schema 1 t)
        go None a b = tt
        go (Some t) a b = (a, b)

    -- no two rows of the table agree on a key
    apart : (t : Tables) → rows ≡ table_at t u.table → MayCommit schema t → IsNone (repeated_key shape.keys (rows_of rows))
    apart t r commits =
        subst (λ rs. IsNone (repeated_key shape.keys (rows_of rs))) (sym r) (zip_at MayCommitTable schema.tables t.tables u.table shape [] commits at).distinct

    -- an error in place of the change
    made_error : (e : TurnStop) → IsWithin saved saved' kept kept' under_way' → current' ≡ current → ((t : Tables) → current ≡ Some t → (rows ≡ table_at t u.table) × AreReady schema 1 t → Makes schema u args (store_of t) current' (Err e))
        → (e ≡ stop.Keeper → ⊥) → (e ≡ stop.Undone → ⊥) → Its (Err e)
    made_error (stop.Failed body) w same h a b = record { makes = where_told current _ _ with_ready h; ready = λ w a b c. tt; raised = tt; value = tt; leaves = w; stays = same; untold = tt }
    made_error stop.Spent w same h a b = record { makes = where_told current _ _ with_ready h; ready = λ w a b c. tt; raised = tt; value = tt; leaves = w; stays = same; untold = tt }
    made_error stop.Keeper w same h a b = absurd (a refl)
    made_error stop.Undone w same h a b = absurd (b refl)
    made_error stop.Memory w same h a b = record { makes = where_told current _ _ with_ready h; ready = λ w a b c. tt; raised = tt; value = tt; leaves = w; stays = tt; untold = tt }

    no_keeper : (w : State → Outcome Value) (e : TurnStop) → Gives w (Err e) → (e ≡ stop.Keeper → ⊥) × (e ≡ stop.Undone → ⊥)
    no_keeper w e g = ((λ is. subst (λ z. Gives w (Err z)) is g), (λ is. subst (λ z. Gives w (Err z)) is g))

    pub made_key_error : (k : ℕ) (e : TurnStop) → (IsNone (repeated_key shape.keys (rows_of rows)) → planned.DuplicateKey k ≡ plan u.action args shape.keys rows) → Gives (error_text (codes "duplicate key in " ++ shape.name)) (Err e)
        → IsWithin saved saved' kept kept' under_way' → current' ≡ current → Its (Err e)
    made_key_error k e is g w same =
        let n = no_keeper (error_text (codes "duplicate key in " ++ shape.name)) e g in
        made_error e w same (λ t f r. makes_key_error schema u shape at args t k e current' (is (apart t r.0 r.1.commits) ∙ ap (plan u.action args shape.keys) r.0) g) n.0 n.1

    pub made_full_error : (e : TurnStop) → (IsNone (repeated_key shape.keys (rows_of rows)) → planned.TableFull ≡ plan u.action args shape.keys rows) → Gives (error_text (codes "table full: " ++ shape.name)) (Err e)
        → IsWithin saved saved' kept kept' under_way' → current' ≡ current → Its (Err e)
    made_full_error e is g w same =
        let n = no_keeper (error_text (codes "table full: " ++ shape.name)) e g in
        made_error e w same (λ t f r. makes_full_error schema u shape at args t e current' (is (apart t r.0 r.1.commits) ∙ ap (plan u.action args shape.keys) r.0) g) n.0 n.1

    module _ (changes : List RowChange) (is : IsNone (repeated_key shape.keys (rows_of rows)) → planned.Changes changes ≡ plan u.action args shape.keys rows) where
      is_plan : (t : Tables) → rows ≡ table_at t u.table → MayCommit schema t → planned.Changes changes ≡ plan u.action args shape.keys (table_at t u.table)
      is_plan t r commits = is (apart t r commits) ∙ ap (plan u.action args shape.keys) r

      -- more than may be stored
      pub made_spent : (All (OfNewRow (All IsStorable)) changes → ⊥) → IsWithin saved saved' kept kept' under_way' → current' ≡ current → Its (Err stop.Spent)
      made_spent none w same = record {
        makes = where_told current _ _ with_ready (λ t f r. makes_spent schema u shape at args t r.1.fits changes (is_plan t r.0 r.1.commits) current' none);
        ready = λ w a b c. tt;
        raised = tt;
        value = tt;
        leaves = w;
        stays = same;
        untold = tt;
      }

      -- the changes may be made
      pub made_may : WhereTold current (MayChangeAll u.table changes)
      made_may = where_told current _ _ with_ready (λ t f r. (
          let its = is_plan t r.0 r.1.commits in
          let says = planned_changes u.action args shape.keys (table_at t u.table) changes its in
          let there = within schema u shape at args t r.1.fits changes its in
          let are = its_rows schema u shape at args t r.1.fits changes its in
          let low = next_low 9223372036854775805 (table_at t u.table) (All-get_or (λ rows. Low 9223372036854775805 rows) t.tables u.table [] there r.1.numbers.rows) in
          subst (λ cs. MayChangeAll u.table cs t) (sym says.0)
          (planned_may u.action args u.table t there (omega (arith, low)) (can_change u.action args (table_at t u.table) are.numbers))))

      -- they were made
      pub made_ok : (x : Value) → All (OfNewRow (IsRowOf (Keeps schema) u.table)) changes → current' ≡ option_map (all_changed u.table changes) current → x ≡ unit_value
          → IsWithin saved saved' kept kept' under_way' → Its (Ok x)
      made_ok x fit made unit w = record {
        makes = where_told current _ _ with_ready (λ t f r.
            makes_changed schema u shape at args t r.1.fits changes (is_plan t r.0 r.1.commits) fit current' x (made ∙ ap (option_map (all_changed u.table changes)) f) unit);
        ready = λ n some few h. subst (λ o. WhereTold o (AreReady schema (n - 1))) (sym made) (go current told n some few h);
        raised = λ m h. subst (λ o. WhereTold o (NumbersUpTo (m + 1))) (sym made) (raise current with_ready m h);
        value = unit;
        leaves = w;
        stays = tt;
        untold = λ n. made ∙ ap (option_map (all_changed u.table changes)) n;
      }
        where
          raise : (o : Option Tables) → WhereTold o (λ t. (rows ≡ table_at t u.table) × AreReady schema 1 t) → (m : ℕ) → WhereTold o (NumbersUpTo m) → WhereTold (option_map (all_changed u.table changes) o) (NumbersUpTo (m + 1))
          raise None r m h = tt
          raise (Some t) r m h = numbers_done schema u shape at args t r.1.fits changes (is_plan t r.0 r.1.commits) fit m (m + 1) (omega arith) h

          go : (o : Option Tables) → WhereTold o (λ t. rows ≡ table_at t u.table) → (n : ℕ) → 1 ≤ n → n ≤ 9223372036854775806 → WhereTold o (AreReady schema n)
              → WhereTold (option_map (all_changed u.table changes) o) (AreReady schema (n - 1))
          go None r n some few h = tt
          go (Some t) r n some few h = ready_done schema u shape at args t h.fits changes (is_plan t r h.commits) fit n some few h

-- ---- rows that are added or put

-- of the shape of the table and of values that may be stored
pub are_rows : (schema : Schema) (kept : KeptSchema) (table : ℕ) (shape : TableShape) → kept ≡ Keeps schema → slice_get schema.tables table ≡ Some shape → (changes : List RowChange)
    → All (OfNewRow (FitsShape shape)) changes → All (OfNewRow (All IsStorable)) changes → All (OfNewRow (IsRowOf kept table)) changes
are_rows schema kept table shape same at changes fits sizes i d below = go (get_or changes i d) (fits i d below) (sizes i d below)
  where
    is_row : (new : Row) → FitsShape shape new → All IsStorable new → IsRowOf kept table new
    is_row new f s = subst (λ k. IsRowOf k table new) (sym same) (record { shaped = subst (λ o. IfSome o (λ shape. FitsShape shape new)) (sym at) f; sizes = s })

    go : (c : RowChange) → OfNewRow (FitsShape shape) c → OfNewRow (All IsStorable) c → OfNewRow (IsRowOf kept table) c
    go (row.Add new) f s = is_row new f s
    go (row.Put n new) f s = is_row new f s
    go (row.Drop n) f s = tt

-- ---- a table of the kept schema

pub table_known : (schema : Schema) (kept : KeptSchema) (n : ℕ) (shape : TableShape) → kept ≡ Keeps schema → slice_get schema.tables n ≡ Some shape → HasTable kept n
table_known schema kept n shape same at = subst (λ k. HasTable k n) (sym same) (there_below schema.tables n shape at)

pub rows_known : (schema : Schema) (kept : KeptSchema) (n : ℕ) (shape : TableShape) (rows : List Numbered) → kept ≡ Keeps schema → slice_get schema.tables n ≡ Some shape
    → OfShape kept n (λ shape. AreRowsOf shape rows) → AreRowsOf shape rows
rows_known schema kept n shape rows same at h = subst (λ o. IfSome o (λ s. AreRowsOf s rows)) at (subst (λ k. OfShape k n (λ s. AreRowsOf s rows)) same h)

-- ---- behind a `?`

pub made_exit : {schema : Schema} {u : Change} {args : List Value} {saved saved' current current' : Option Tables} {kept kept' : KeptSchema} {under_way' : Bool} (r : Result Value TurnStop) (e : TurnStop)
    → IsErrAnd r (λ y. y ≡ e) → Made schema u args saved saved' current current' kept kept' under_way' (Err e) → Made schema u args saved saved' current current' kept kept' under_way' r
made_exit (Ok x) e i h = absurd i
made_exit {schema = schema} {u = u} {args = args} {saved = saved} {saved' = saved'} {current = current} {current' = current'} {kept = kept} {kept' = kept'} {under_way' = under_way'} (Err y) e i h =
    subst (λ z. Made schema u args saved saved' current current' kept kept' under_way' (Err z)) (sym i) h

-- ---- the test of the new rows

pub none_fit : (b : Bool) (xs changes : List RowChange) → xs ≡ changes → b ≡ false → IsTrue b ↔ All (OfNewRow (All IsStorable)) xs → All (OfNewRow (All IsStorable)) changes → ⊥
none_fit b xs changes same e is h = differ b e (is.1 (subst (All (OfNewRow (All IsStorable))) (sym same) h))
  where
    differ : (b : Bool) → b ≡ false → IsTrue b → ⊥
    differ true e t = cc
    differ false e t = cc

pub all_fit : (b : Bool) (xs changes : List RowChange) → xs ≡ changes → b ≡ true → IsTrue b ↔ All (OfNewRow (All IsStorable)) xs → All (OfNewRow (All IsStorable)) changes
all_fit b xs changes same e is = subst (All (OfNewRow (All IsStorable))) same (is.0 e)
