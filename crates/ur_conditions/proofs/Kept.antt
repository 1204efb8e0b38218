-- A change keeps the schema.
use Rattle.std.proofs.Common.{◌≡◌, ℕ, zero, suc, List, [], ◌∷◌, map, Some, All, slice_get, slice_set, subst}
use Rattle.std.specs.List.{AllZip, AllByRecursion}
use Rattle.std.proofs.lemmas.List.Elements.{All-from_recursion}
use Rattle.ur_values.specs.declared.value.Value.{Value}
use Rattle.ur_values.specs.declared.schema.ColumnKind.{ColumnKind}
use Rattle.ur_values.specs.declared.schema.TableShape.{TableShape}
use Rattle.ur_values.specs.declared.schema.Schema.{Schema}
use Rattle.ur_values.specs.Store.{Row, Store, rows_at, kinds_of, FitKinds, FitsShape, FitsSchema}
use Rattle.ur_sql.specs.declared.change.Change.{Change}
use Rattle.ur_sql.specs.Change.{After, change, rows_after}
use Rattle.ur_sql.specs.Typing.{ChangeFits}
use Rattle.ur_conditions.proofs.Matching.{fit_after}
use Rattle.ur_conditions.specs.Disjuncts.{change_cases}
use Rattle.ur_conditions.proofs.Edited.{MeetsCase, edits_of}
use Rattle.ur_conditions.proofs.Keeps.{table_fits, store_after}

zip_set : (shapes : List TableShape) (tables : List (List Row)) (n : ℕ) (columns : List ColumnKind) (rows : List Row)
    → AllZip (λ shape rs. All (FitsShape shape) rs) shapes tables → slice_get (map kinds_of shapes) n ≡ Some columns → AllByRecursion (λ row. FitKinds row columns) rows
    → AllZip (λ shape rs. All (FitsShape shape) rs) shapes (slice_set tables n rows)
zip_set [] tables n columns rows fit e all = cc
zip_set (s ∷ ss) [] n columns rows fit e all = absurd fit
zip_set (s ∷ ss) (r ∷ rs) zero columns rows fit e all =
    let same : columns ≡ kinds_of s = cc in
    (All-from_recursion (FitsShape s) rows (subst (λ ks. AllByRecursion (λ row. FitKinds row ks) rows) same all), fit.1)
zip_set (s ∷ ss) (r ∷ rs) (suc n) columns rows fit e all = (fit.0, zip_set ss rs n columns rows (fit.1) e all)

-- a store of the schema is one after a typed change
pub change_fits : (schema : Schema) (u : Change) (args : List Value) (before after : Store) → ChangeFits schema u → FitsSchema schema before → FitKinds args u.params
    → change schema u args before ≡ After after → FitsSchema schema after
change_fits schema u args before after u_fit fit args_fit changed =
    subst (FitsSchema schema) (Rattle.std.proofs.Common.sym (store_after schema u args before after changed))
    (record {
      tables = zip_set schema.tables before.tables u.table u.columns (rows_after u.action args (rows_at before u.table)) fit.tables u_fit.table
          (fit_after (λ (n : ℕ) row. FitKinds row u.columns) (λ n. MeetsCase (change_cases u) args) 0 (rows_at before u.table) (rows_after u.action args (rows_at before u.table))
          (edits_of u.params u.columns args args_fit u.action u_fit.action (rows_at before u.table) (table_fits schema.tables before.tables u.table u.columns fit.tables u_fit.table).1));
      sequences = fit.sequences;
    })
