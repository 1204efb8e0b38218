-- The shape of a table: its columns and its keys.
use Rattle.std.specs.Prelude.{◌≡◌, ℕ, nat_eq, Bool, false, List, [], ◌∷◌, map, All, Option, Some, None, option_map, option_and_then, bytes_eq, slice_index_or}
use Rattle.std.specs.List.{IsDistinct}
use Rattle.ur_values.specs.declared.schema.ColumnKind.{ColumnKind}
use Rattle.ur_values.specs.declared.schema.ColumnKind.TheVariants as kind
use Rattle.ur_values.specs.declared.schema.TableShape.{TableShape}
use Rattle.ur_values.specs.Kinds.{optional}
use Rattle.ur_rows.specs.declared.normal.Label.{Label}
use Rattle.ur_rows.specs.declared.normal.Label.TheVariants as label
use Rattle.ur_rows.specs.declared.normal.Normal.{Normal}
use Rattle.ur_rows.specs.declared.normal.Normal.TheVariants as normal
use Rattle.ur_rows.specs.declared.normal.NormalType.{NormalType, Row_of-NormalType, end_of-NormalType as alone, more_of-NormalType as its}
use Rattle.ur_rows.specs.declared.normal.NormalType.TheVariants as ty
use Rattle.ur_rows.specs.declared.normal.Part.{Part}
use Rattle.ur_rows.specs.declared.normal.Part.TheVariants as part
use Rattle.ur_rows.specs.Made.{parts}
use Rattle.ur_sqltype.specs.declared.keys.SqlKey.{SqlKey}
use Rattle.ur_sqltype.specs.Scope.{column_of}
use Rattle.ur_sqltype.specs.Expression.{is_optional}
use Rattle.ur_sqltype.specs.Lists.{all_of}

abbrev pub type_kind : NormalType → Option ColumnKind
type_kind ty.Int = Some kind.Int
type_kind ty.Str = Some kind.Str
type_kind ty.Bool = Some kind.Bool
type_kind _ = None

abbrev pub boxed_option : {n : _} → Row_of-NormalType n → Option ColumnKind
boxed_option alone = None
boxed_option (its t rest) = option_and_then optional (type_kind t)

-- the types of columns and of antiquotes: int, string, bool and options of these
abbrev pub column_type_kind : NormalType → Option ColumnKind
column_type_kind (ty.Opt' _ t) = boxed_option t
column_type_kind t = type_kind t

abbrev pub boxed_kind : {n : _} → Row_of-NormalType n → Option ColumnKind
boxed_kind alone = None
boxed_kind (its t rest) = column_type_kind t

abbrev pub label_name : Label → Option (List ℕ)
label_name (label.Literal a) = Some a
label_name (label.Variable v) = None

-- a field with a literal name and a type of columns, as a column
abbrev pub column_from : Part → Option (List ℕ × ColumnKind)
column_from (part.Field' l _ t) = option_and_then (λ a. option_map (λ k. (a, k)) (boxed_kind t)) (label_name l)
column_from _ = None

abbrev pub record_row : Normal → Option (List Part)
record_row (normal.Type (ty.Record' _ r)) = Some (parts r)
record_row _ = None

abbrev pub place_of : List (List ℕ × ColumnKind) → List ℕ → Option ℕ
place_of columns a = option_map (λ c. c.0) (column_of a columns)

-- the columns of a key by their places
abbrev pub key_of : List (List ℕ × ColumnKind) → SqlKey → Option (List ℕ)
key_of columns k = all_of (place_of columns) k.columns

-- the name of the column at a place
abbrev pub name_at : List (List ℕ × ColumnKind) → ℕ → List ℕ
name_at columns n = slice_index_or (map (λ c. c.0) columns) n []

-- the type of the column at a place
abbrev pub kind_at : List (List ℕ × ColumnKind) → ℕ → ColumnKind
kind_at columns n = slice_index_or (map (λ c. c.1) columns) n kind.Int

-- no column at these places is optional
abbrev pub HasNoOption : List (List ℕ × ColumnKind) → List ℕ → Type 0
HasNoOption columns places = All (λ n. is_optional (kind_at columns n) ≡ false) places

-- the first key is the PRIMARY KEY
abbrev pub has_primary : List SqlKey → Bool
has_primary [] = false
has_primary (k ∷ ks) = k.primary

-- no key but the first is one
abbrev pub PrimaryComesFirst : List SqlKey → Type 0
PrimaryComesFirst [] = Unit {0}
PrimaryComesFirst (k ∷ ks) = All (λ j. j.primary ≡ false) ks

-- The table with the columns of a row: they have literal names, no two alike, and a key has no column twice and no optional one.
pub record IsTableOf (name : List ℕ) (row : List Part) (keys : List SqlKey) (shape : TableShape) : Type 0 where
  pub named : shape.name ≡ name
  pub columns : all_of column_from row ≡ Some shape.columns
  pub distinct : IsDistinct bytes_eq (map (λ c. c.0) shape.columns)
  pub are_keys : all_of (key_of shape.columns) keys ≡ Some shape.keys
  pub once : All (IsDistinct nat_eq) shape.keys
  pub plain_keys : All (HasNoOption shape.columns) shape.keys
  pub primary : shape.primary ≡ has_primary keys

-- A table of that name, of this type, which is a record, and with these keys has this shape.
pub record IsTable (name : List ℕ) (of : Normal) (keys : List SqlKey) (shape : TableShape) : Type 0 where
  pub row : List Part
  pub is_record : record_row of ≡ Some row
  pub table : IsTableOf name row keys shape
