-- What a table's type or its keys break, as it is told.
use Rattle.std.specs.Prelude.{◌≡◌, ℕ, nat_eq, true, List, [], codes, map, Contains, Option, Some, None, bytes_eq}
use Rattle.ur_base.specs.Stopping.{Says}
use Rattle.ur_base.specs.declared.refusal.Refusal.{Refusal}
use Rattle.ur_values.specs.declared.schema.ColumnKind.{ColumnKind}
use Rattle.ur_values.specs.declared.schema.ColumnKind.TheVariants as kind
use Rattle.ur_values.specs.declared.schema.TableShape.{TableShape}
use Rattle.ur_rows.specs.declared.normal.Label.TheVariants as label
use Rattle.ur_rows.specs.declared.normal.Normal.{Normal}
use Rattle.ur_rows.specs.declared.normal.Normal.TheVariants as normal
use Rattle.ur_rows.specs.declared.normal.NormalType.{more_of-NormalType as its}
use Rattle.ur_rows.specs.declared.normal.Part.{Part}
use Rattle.ur_rows.specs.declared.normal.Part.TheVariants as part
use Rattle.ur_tree.specs.Text.{type_text}
use Rattle.ur_sqltype.specs.Scope.{column_of}
use Rattle.ur_sqltype.specs.Expression.{is_optional}
use Rattle.ur_sqltype.specs.Faults.{six_kinds, kind_text}
use Rattle.ur_sqltype.specs.declared.keys.SqlKey.{SqlKey}
use Rattle.ur_sqltype.specs.Lists.{all_of, repeated}
use Rattle.ur_sqltype.specs.Table.{record_row, column_from, place_of, name_at, kind_at, IsTable}

-- the names of datatypes, by number
abbrev pub Names : Type 0
Names = List (List ℕ)

-- how what stands in the place of a record's type is written
abbrev pub normal_text : Names → Normal → List ℕ
normal_text names (normal.Type t) = type_text names t
normal_text names (normal.Name l) = codes "name"
normal_text names (normal.Row r) = codes "row"
normal_text names (normal.Fn' k _ c) = codes "fn"

-- what stands where a column is wanted: the type of a field with a literal name, or more of a row
abbrev pub part_found : Names → Part → List ℕ
part_found names (part.Field' (label.Literal a) _ (its t rest)) = type_text names t
part_found names _ = codes "row"

pub record IsNoColumn (names : Names) (p : Part) (r : Refusal) : Type 0 where
  pub none : column_from p ≡ None
  pub told : Says r 12 (part_found names p) six_kinds

-- a part of the row is no column
pub record NoColumn (names : Names) (row : List Part) (r : Refusal) : Type 0 where
  pub place : Part
  pub stands : Contains row place
  pub fault : IsNoColumn names place r

pub record NoPlace (columns : List (List ℕ × ColumnKind)) (a : List ℕ) (r : Refusal) : Type 0 where
  pub none : place_of columns a ≡ None
  pub told : Says r 7 a []

-- the kind inside an optional one
abbrev pub plain_of : ColumnKind → ColumnKind
plain_of kind.OptInt = kind.Int
plain_of kind.OptStr = kind.Str
plain_of kind.OptBool = kind.Bool
plain_of k = k

-- a key has a column that is not there, one twice, or an optional one
pub data KeyBreaks (columns : List (List ℕ × ColumnKind)) (names : List (List ℕ)) (r : Refusal) : Type 0 where
  key_unknown : (a : List ℕ) → Contains names a → NoPlace columns a r → KeyBreaks columns names r
  key_twice : (places : List ℕ) (n : ℕ) → all_of (place_of columns) names ≡ Some places → repeated nat_eq places ≡ Some n → Says r 8 (name_at columns n) [] → KeyBreaks columns names r
  key_optional : (places : List ℕ) (n : ℕ) → all_of (place_of columns) names ≡ Some places → repeated nat_eq places ≡ None → Contains places n →
      is_optional (kind_at columns n) ≡ true → Says r 12 (kind_text (kind_at columns n)) (kind_text (plain_of (kind_at columns n))) →
      KeyBreaks columns names r

pub record KeysBreak (columns : List (List ℕ × ColumnKind)) (keys : List SqlKey) (r : Refusal) : Type 0 where
  pub key : SqlKey
  pub stands : Contains keys key
  pub fault : KeyBreaks columns key.columns r

pub data RowBreaks (names : Names) (row : List Part) (keys : List SqlKey) (r : Refusal) : Type 0 where
  no_column : NoColumn names row r → RowBreaks names row keys r
  column_twice : (columns : List (List ℕ × ColumnKind)) (a : List ℕ) → all_of column_from row ≡ Some columns → repeated bytes_eq (map (λ c. c.0) columns) ≡ Some a → Says r 8 a [] → RowBreaks names row keys r
  in_keys : (columns : List (List ℕ × ColumnKind)) → all_of column_from row ≡ Some columns → KeysBreak columns keys r → RowBreaks names row keys r

pub data TableBreaks (names : Names) (of : Normal) (keys : List SqlKey) (r : Refusal) : Type 0 where
  no_record : record_row of ≡ None → Says r 12 (normal_text names of) (codes "record") → TableBreaks names of keys r
  in_row : (row : List Part) → record_row of ≡ Some row → RowBreaks names row keys r → TableBreaks names of keys r

-- what breaks a rule has no shape
abbrev pub BrokenIsNone : Type 0
BrokenIsNone = (names : Names) (name : List ℕ) (of : Normal) (keys : List SqlKey) (r : Refusal) (shape : TableShape) → TableBreaks names of keys r → IsTable name of keys shape → ⊥
