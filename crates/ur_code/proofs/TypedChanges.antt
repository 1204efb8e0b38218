-- Changes that fit the tables keep the tables' shapes.
use Rattle.std.proofs.Common.{◌≡◌, ℕ, zero, suc, Bool, true, false, if◌then◌else◌, not, ◌&&◌, All, List, [], ◌∷◌, length, Option, Some, None, refl, sym, subst, ap, ◌∙◌, arith}
use Rattle.std.specs.Prelude.{map, slice_get, slice_set, slice_index_or, nat_le, unwrap_or, option_map, IsAscii}
use Rattle.std.specs.List.{AllByRecursion, AllZip}
use Rattle.std.specs.Str.{IsUtf8}
use Rattle.std.proofs.lemmas.Str.{IsUtf8-from_ascii}
use Rattle.std.proofs.lemmas.Option.{get_or_from_slice_get, none-some, same_Some, slice_get_within}
use Rattle.std.proofs.lemmas.List.Elements.{All-append, All-from_recursion, recursion_from_All, All-filter}
use Rattle.ur_values.specs.declared.value.Value.{Value}
use Rattle.ur_values.specs.declared.schema.ColumnKind.{ColumnKind}
use Rattle.ur_values.specs.declared.schema.Schema.{Schema}
use Rattle.ur_values.specs.declared.schema.TableShape.{TableShape}
use Rattle.ur_values.specs.Keys.{repeated_key, most_rows}
use Rattle.ur_values.specs.Store.{Row, Store, FitKinds, FitsShape, FitsSchema, kinds_of, rows_at}
use Rattle.ur_sql.specs.declared.scalar.Scalar.{Scalar}
use Rattle.ur_sql.specs.declared.change.Change.{Change}
use Rattle.ur_sql.specs.declared.change.Action.{Action}
use Rattle.ur_sql.specs.declared.change.Action.TheVariants as action
use Rattle.ur_sql.specs.Change.{Changed, After, DuplicateKey, TableFull, changed_map, chosen, inserted_row, updated_row, rows_after, is_insert, unless_repeated, change_rows, change, keys_at}
use Rattle.ur_sql.specs.Sql.{table_name}
use Rattle.ur_sql.specs.Typing.{SetsFit, ActionFits, ChangeFits}
use Rattle.ur_sql.proofs.NewRows.{inserted_fits, updated_fits}
use Rattle.ur_terms.specs.Sound.{IfAfter}
use Rattle.ur_code.proofs.Links.{at_mapped}

-- what holds of all holds of one that is got
pub at_all : {A : Type 0} (P : A → Type 0) (xs : List A) (i : ℕ) (x : A) → All P xs → slice_get xs i ≡ Some x → P x
at_all P xs i x h e = subst P (get_or_from_slice_get xs i x x e) (h i x (slice_get_within xs i x e))

abbrev pub TableFits : TableShape → List Row → Type 0
TableFits shape rows = All (FitsShape shape) rows

pub table_at : (shapes : List TableShape) (tables : List (List Row)) (t : ℕ) (shape : TableShape) → AllZip TableFits shapes tables → slice_get shapes t ≡ Some shape
    → TableFits shape (slice_index_or tables t [])
table_at [] tables t shape h e = absurd (none-some _ e)
table_at (s ∷ shapes) [] t shape h e = absurd h
table_at (s ∷ shapes) (rows ∷ tables) zero shape h e = subst (λ z. TableFits z rows) (same_Some _ _ e) h.0
table_at (s ∷ shapes) (rows ∷ tables) (suc t) shape h e = table_at shapes tables t shape h.1 e

table_set : (shapes : List TableShape) (tables : List (List Row)) (t : ℕ) (rows : List Row) → AllZip TableFits shapes tables
    → ((shape : TableShape) → slice_get shapes t ≡ Some shape → TableFits shape rows) → AllZip TableFits shapes (slice_set tables t rows)
table_set [] [] t rows h k = tt
table_set [] (r ∷ tables) t rows h k = absurd h
table_set (s ∷ shapes) [] t rows h k = absurd h
table_set (s ∷ shapes) (r ∷ tables) zero rows h k = (k s refl, h.1)
table_set (s ∷ shapes) (r ∷ tables) (suc t) rows h k = (h.0, table_set shapes tables t rows h.1 k)

-- ---- rows

module _ (params : List ColumnKind) (columns : List ColumnKind) (args : List Value) (args_fit : FitKinds args params) where
  abbrev RowFits : Row → Type 0
  RowFits row = FitKinds row columns

  updated_rows : (sets : List (ℕ × Scalar)) (condition : Option Scalar) → SetsFit (record { params = params; items = columns ∷ [] }) columns sets
      → (rows : List Row) → AllByRecursion RowFits rows
      → AllByRecursion RowFits (map (λ row. if chosen args condition row then updated_row args sets row else row) rows)
  updated_rows sets condition fit [] h = tt
  updated_rows sets condition fit (row ∷ rows) h = (either (chosen args condition row), updated_rows sets condition fit rows h.1)
    where
      either : (b : Bool) → RowFits (if b then updated_row args sets row else row)
      either true = updated_fits (record { params = params; items = columns ∷ [] }) columns args sets row args_fit (h.0, tt) h.0 fit
      either false = h.0

  all_after : (what : Action) → ActionFits params columns what → (rows : List Row) → All RowFits rows → All RowFits (rows_after what args rows)
  all_after (action.Insert sets) fit rows h =
      All-append RowFits rows (inserted_row args sets ∷ []) h
      (All-from_recursion RowFits (inserted_row args sets ∷ []) (inserted_fits (record { params = params; items = [] }) columns args sets args_fit tt fit.0 fit.1 fit.2, tt))
  all_after (action.Update sets condition) fit rows h =
      All-from_recursion RowFits (map (λ row. if chosen args condition row then updated_row args sets row else row) rows) (updated_rows sets condition fit.0 rows (recursion_from_All RowFits rows h))
  all_after (action.Delete condition) fit rows h = All-filter (λ row. not (chosen args condition row)) RowFits rows h

  abbrev RowsFit : Changed (List Row) → Type 0
  RowsFit (After rows) = All RowFits rows
  RowsFit (DuplicateKey k) = Unit {0}
  RowsFit TableFull = Unit {0}

  unless : (o : Option ℕ) (full : Bool) (rows : List Row) → All RowFits rows → RowsFit (unless_repeated o full rows)
  unless (Some k) full rows h = tt
  unless None true rows h = tt
  unless None false rows h = h

  pub changed_rows : (what : Action) (keys : List (List ℕ)) (rows : List Row) → ActionFits params columns what → All RowFits rows → RowsFit (change_rows what args keys rows)
  unfolding change_rows
  changed_rows what keys rows fit h =
      unless (repeated_key keys (rows_after what args rows)) (is_insert what && nat_le most_rows (length rows)) (rows_after what args rows) (all_after what fit rows h)

-- ---- tables

module _ (schema : Schema) (u : Change) (fit : ChangeFits schema u) (args : List Value) (args_fit : FitKinds args u.params) where
  abbrev pub StoreFits : Store → Store → Type 0
  StoreFits old store = FitsSchema schema store × (store.sequences ≡ old.sequences)

  pub changed_store : (store : Store) → FitsSchema schema store → IfAfter (StoreFits store) (change schema u args store)
  changed_store store h =
      let shape = at_mapped kinds_of schema.tables u.table u.columns fit.table in
      let old : All (λ row. FitKinds row u.columns) (rows_at store u.table) =
      subst (λ columns. All (λ row. FitKinds row columns) (rows_at store u.table)) shape.2 (table_at schema.tables store.tables u.table shape.0 h.tables shape.1) in
      go (change_rows u.action args (keys_at schema u.table) (rows_at store u.table))
      (changed_rows u.params u.columns args args_fit u.action (keys_at schema u.table) (rows_at store u.table) fit.action old)
    where
      at_shape : (rows : List Row) → All (λ row. FitKinds row u.columns) rows → (shape : TableShape) → slice_get schema.tables u.table ≡ Some shape → TableFits shape rows
      at_shape rows fits shape e = subst (λ columns. All (λ row. FitKinds row columns) rows) (same e) fits
        where
          same : slice_get schema.tables u.table ≡ Some shape → u.columns ≡ kinds_of shape
          same e =
              let known = at_mapped kinds_of schema.tables u.table u.columns fit.table in
              let one : known.0 ≡ shape = same_Some _ _ (sym known.1 ∙ e) in
              sym known.2 ∙ ap kinds_of one

      go : (c : Changed (List Row)) → RowsFit u.params u.columns args args_fit c → IfAfter (StoreFits store) (changed_map (λ rows. record store { tables = slice_set store.tables u.table rows }) c)
      go (After rows) fits = (record { tables = table_set schema.tables store.tables u.table rows h.tables (at_shape rows fits); sequences = h.sequences }, refl)
      go (DuplicateKey k) fits = tt
      go TableFull fits = tt

-- ---- names

empty_ascii : IsAscii []
empty_ascii = λ i. omega arith

named : (o : Option TableShape) → ((shape : TableShape) → o ≡ Some shape → IsUtf8 shape.name) → IsUtf8 (unwrap_or (option_map (λ shape. shape.name) o) [])
named None h = IsUtf8-from_ascii [] empty_ascii
named (Some shape) h = h shape refl

pub table_named : (schema : Schema) → All (λ shape. IsUtf8 shape.name) schema.tables → (o : Option Change) → IsUtf8 (table_name schema o)
table_named schema h None = IsUtf8-from_ascii [] empty_ascii
table_named schema h (Some u) = named (slice_get schema.tables u.table) (λ shape e. at_all (λ s. IsUtf8 s.name) schema.tables u.table shape h e)
