-- A shape that the function gives of a table is the table's, and a kind of column that of its type.
use Rattle.std.proofs.Common.{◌≡◌, refl, sym, ap, subst, true, Option, Some, None, List, ℕ, map}
use Rattle.std.specs.Prelude.{nat_eq, bytes_eq, is_none, option_and_then}
use Rattle.std.specs.List.{list_all, IsDistinct}
use Rattle.ur_values.specs.declared.schema.ColumnKind.{ColumnKind}
use Rattle.ur_values.specs.declared.schema.TableShape.{TableShape}
use Rattle.ur_values.specs.Kinds.{inside}
use Rattle.ur_rows.specs.declared.normal.Normal.TheVariants as normal
use Rattle.ur_rows.specs.declared.normal.NormalType.{NormalType}
use Rattle.ur_rows.specs.declared.normal.NormalType.TheVariants as ty
use Rattle.ur_rows.specs.declared.normal.Part.{Part}
use Rattle.ur_tree.specs.Scalars.{kind_type}
use Rattle.ur_sqltype.specs.declared.keys.SqlKey.{SqlKey}
use Rattle.ur_sqltype.specs.Lists.{all_of, repeated}
use Rattle.ur_sqltype.specs.Table.{IsTable, IsTableOf, type_kind, record_row, column_from, key_of}
use Rattle.ur_sqltype.proofs.Once.{distinct}
use Rattle.ur_typed_rules.proofs.Lists.{all_of_test}
use Rattle.ur_typed_rules.proofs.Options.{some_of, opened, opened_if}
use Rattle.ur_typed.specs.Declaring.{shape_with, has_no_option, plain_shape, keyed_shape, columns_shape, shape_out}
use Rattle.ur_typed.proofs.Keyed.{plain_told}

none_there : {A : Type 0} (o : Option A) → is_none o ≡ true → o ≡ None
none_there None h = refl
none_there (Some a) h = cc

keyed_is : (name : List ℕ) (row : List Part) (keys : List SqlKey) (columns : List (List ℕ × ColumnKind)) (places : List (List ℕ)) (shape : TableShape) → all_of column_from row ≡ Some columns → IsDistinct bytes_eq (map (λ c. c.0) columns) → all_of (key_of columns) keys ≡ Some places →
    keyed_shape name keys columns places ≡ Some shape → IsTableOf name row keys shape
keyed_is name row keys columns places shape c d k h =
    let i : (list_all (λ k. is_none (repeated nat_eq k)) places ≡ true) × (plain_shape name keys columns places ≡ Some shape) = opened_if
    (list_all (λ k. is_none (repeated nat_eq k)) places) (plain_shape name keys columns places) shape h in
    let j : (list_all (has_no_option columns) places ≡ true) × (Some (shape_with name keys columns places) ≡ Some shape) = opened_if
    (list_all (has_no_option columns) places) (Some (shape_with name keys columns places)) shape i.1 in
    subst (IsTableOf name row keys) (some_of j.1) (record {
      named = refl;
      columns = c;
      distinct = d;
      are_keys = k;
      once = all_of_test (λ x. is_none (repeated nat_eq x)) (IsDistinct nat_eq) (λ x e. distinct nat_eq x (none_there (repeated nat_eq x) e)) places i.0;
      plain_keys = plain_told columns places j.0;
      primary = refl;
    })

columns_are : (name : List ℕ) (row : List Part) (keys : List SqlKey) (columns : List (List ℕ × ColumnKind)) (shape : TableShape) → all_of column_from row ≡ Some columns → columns_shape name keys columns ≡ Some shape → IsTableOf name row keys shape
columns_are name row keys columns shape c h =
    let i : (is_none (repeated bytes_eq (map (λ x. x.0) columns)) ≡ true) × (option_and_then (keyed_shape name keys columns) (all_of (key_of columns) keys) ≡ Some shape) = opened_if (is_none (repeated bytes_eq (map (λ x. x.0) columns))) (option_and_then (keyed_shape name keys columns) (all_of (key_of columns) keys)) shape h in
    let j : (places : List (List ℕ)) × (all_of (key_of columns) keys ≡ Some places) × (keyed_shape name keys columns places ≡ Some shape) = opened _ _ shape i.1 in
    keyed_is name row keys columns j.0 shape c (distinct bytes_eq (map (λ x. x.0) columns) (none_there (repeated bytes_eq (map (λ x. x.0) columns)) i.0)) j.1 j.2

pub shape_told : (name : List ℕ) (t : NormalType) (keys : List SqlKey) (shape : TableShape) → shape_out name keys t ≡ Some shape → IsTable name (normal.Type t) keys shape
shape_told name t keys shape h =
    let i : (row : List Part) × (record_row (normal.Type t) ≡ Some row) × (option_and_then (columns_shape name keys) (all_of column_from row) ≡ Some shape) = opened _ _ shape h in
    let j : (columns : List (List ℕ × ColumnKind)) × (all_of column_from i.0 ≡ Some columns) × (columns_shape name keys columns ≡ Some shape) = opened _ _ shape i.2 in
    record { row = i.0; is_record = i.1; table = columns_are name i.0 keys j.0 shape j.1 j.2 }

pub kind_told : (t : NormalType) (k : ColumnKind) → type_kind t ≡ Some k → t ≡ kind_type k
kind_told ty.Int k h = ap kind_type (some_of h)
kind_told ty.Str k h = ap kind_type (some_of h)
kind_told ty.Bool k h = ap kind_type (some_of h)
kind_told _ k h = cc

-- the type of a cookie is no option
pub basic_told : (t : NormalType) (k : ColumnKind) → type_kind t ≡ Some k → inside k ≡ None
basic_told ty.Int k h = ap inside (sym (some_of h))
basic_told ty.Str k h = ap inside (sym (some_of h))
basic_told ty.Bool k h = ap inside (sym (some_of h))
basic_told _ k h = cc
