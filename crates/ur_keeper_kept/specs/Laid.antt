-- How tables stand in a map of bodies.
use Rattle.std.specs.Prelude.{◌≡◌, ℕ, ◌+◌, ◌<◌, ℤ, pos, ◌≤ℤ◌, List, [], map, length, All, Option, Some, None, unwrap_or, unsigned_abs, slice_get}
use Rattle.std.specs.List.{range_with_len}
use Rattle.ur_values.specs.declared.schema.TableShape.{TableShape}
use Rattle.ur_values.specs.declared.schema.Schema.{Schema}
use Rattle.ur_values.specs.declared.schema.Numbered.{Numbered}
use Rattle.ur_values.specs.Store.{Row}
use Rattle.ur_keeper.specs.Tables.{Tables}
use Rattle.ur_keeper_bodies.specs.declared.stored.Layout.{Layout}
use Rattle.ur_keeper_bodies.specs.declared.stored.Layout.TheVariants as layouts
use Rattle.ur_keeper_bodies.specs.Rows.{number_of, kinds_in, MayStand}
use Rattle.ur_keeper_bodies.specs.Columns.{Column, IsShort}
use Rattle.ur_keeper_bodies.specs.Stored.{body_row}
use Rattle.ur_keeper_bodies.specs.Bodies.{BodyMap, body_at, bodies_of}

-- ---- places: the text stands at 0, 0; sequence i at 1, i; and table i's rows, by their numbers, at 2 + i

abbrev pub table_tab : ℕ → ℤ
table_tab i = pos (2 + i)

abbrev pub text_at : BodyMap → Option (List ℕ)
text_at m = body_at m (pos 0) (pos 0)

-- ---- what is read in a layout

-- a row with its number; no row where the body is that of none
abbrev pub row_by : Layout → List Column → ℤ × List ℕ → Numbered
row_by layout columns e = record { number = unsigned_abs e.0; row = unwrap_or (body_row layout columns e.1) [] }

abbrev pub rows_by : Layout → List Column → List (ℤ × List ℕ) → List Numbered
rows_by layout columns = map (row_by layout columns)

abbrev pub columns_of : Option TableShape → List Column
columns_of None = []
columns_of (Some shape) = shape.columns

-- the columns of table i
abbrev pub columns_at : Schema → ℕ → List Column
columns_at schema i = columns_of (slice_get schema.tables i)

-- the rows of table i
abbrev pub table_by : Layout → Schema → BodyMap → ℕ → List Numbered
table_by layout schema m i = rows_by layout (columns_at schema i) (bodies_of m (table_tab i))

-- the next number that a body has
abbrev pub number_of_body : Option (List ℕ) → ℤ
number_of_body None = pos 1
number_of_body (Some b) = unwrap_or (number_of b) (pos 1)

-- the next number of sequence i
abbrev pub number_in : BodyMap → ℕ → ℤ
number_in m i = number_of_body (body_at m (pos 1) (pos i))

-- the tables and sequences of the schema
abbrev pub tables_by : Layout → Schema → BodyMap → Tables
tables_by layout schema m = record {
  tables = map (table_by layout schema m) (range_with_len 0 (length schema.tables));
  sequences = map (number_in m) (range_with_len 0 (length schema.sequences));
}

-- a body of a row of these columns, with a number that is not below 0
pub record IsBodyBy (layout : Layout) (columns : List Column) (e : ℤ × List ℕ) : Type 0 where
  pub low : pos 0 ≤ℤ e.0
  pub body : (row : Row) × (body_row layout columns e.1 ≡ Some row) × MayStand (kinds_in columns) row

-- a body of a next number
abbrev pub IsNumberBody : Option (List ℕ) → Type 0
IsNumberBody body = (b : List ℕ) × (n : ℤ) × (body ≡ Some b) × (number_of b ≡ Some n) × (pos 1 ≤ℤ n)

-- each table and each sequence of the schema reads
pub record IsLaidBy (layout : Layout) (schema : Schema) (m : BodyMap) : Type 0 where
  pub tables : (i : ℕ) → i < length schema.tables → All (IsBodyBy layout (columns_at schema i)) (bodies_of m (table_tab i))
  pub sequences : (i : ℕ) → i < length schema.sequences → IsNumberBody (body_at m (pos 1) (pos i))

-- ---- the same in the second layout, which a store that is kept has

abbrev pub row_in : List Column → ℤ × List ℕ → Numbered
row_in = row_by layouts.Two

abbrev pub rows_in : List Column → List (ℤ × List ℕ) → List Numbered
rows_in = rows_by layouts.Two

abbrev pub table_in : Schema → BodyMap → ℕ → List Numbered
table_in = table_by layouts.Two

abbrev pub tables_in : Schema → BodyMap → Tables
tables_in = tables_by layouts.Two

abbrev pub IsRowBody : List Column → ℤ × List ℕ → Type 0
IsRowBody = IsBodyBy layouts.Two

abbrev pub IsLaid : Schema → BodyMap → Type 0
IsLaid = IsLaidBy layouts.Two

-- 4 bytes count the name of each column
abbrev pub HasShortNames : Schema → Type 0
HasShortNames schema = All (λ shape. All (λ c. IsShort c.0) shape.columns) schema.tables

-- a row that may stand in a table of these columns, whose names 4 bytes can count
pub record MayWrite (columns : List Column) (row : Row) : Type 0 where
  pub short : All (λ c. IsShort c.0) columns
  pub may : MayStand (kinds_in columns) row
