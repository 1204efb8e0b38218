-- The bytes of rows that name their columns.
use Rattle.std.specs.Prelude.{◌≡◌, ◌↔◌, ℕ, ◌≤◌, ◌<◌, Bool, true, false, List, [], ◌∷◌, ◌++◌, All, length, drop, Option, Some, None, option_map, is_some, if◌then◌else◌}
use Rattle.std.specs.Option.{option_and_then}
use Rattle.std.specs.Str.{bytes_eq}
use Rattle.std.specs.Int.{w32, from_be_bytes}
use Rattle.ur_values.specs.declared.value.Value.{Value}
use Rattle.ur_values.specs.declared.value.Value.TheVariants as v
use Rattle.ur_values.specs.declared.schema.ColumnKind.{ColumnKind}
use Rattle.ur_values.specs.Store.{Row, FitsKind, IsStorable}
use Rattle.ur_values.specs.Kinds.{inside}
pub use Rattle.ur_values.specs.Extends.{Column}
use Rattle.ur_values.specs.Extends.{columns_extend, grown}
use Rattle.ur_keeper_bodies.specs.Rows.{text_body, value_body, front, value_of, kinds_in, MayStand}

-- ---- written

-- each column, in order: the length of its name in 4 bytes, the name, and the value
abbrev pub columns_body : List Column → Row → List ℕ
columns_body [] row = []
columns_body (c ∷ columns) [] = []
columns_body (c ∷ columns) (x ∷ row) = text_body c.0 ++ (value_body x ++ columns_body columns row)

-- ---- read

-- the name at the front of the bytes, and the bytes behind it
abbrev pub name_front : List ℕ → Option (List ℕ × List ℕ)
name_front bytes = option_and_then (λ p. front (from_be_bytes w32 p.0) p.1) (front 4 bytes)

abbrev pub if_named : List ℕ → List ℕ × List ℕ → Option (List ℕ)
if_named name p = if bytes_eq p.0 name then Some p.1 else None

-- the bytes behind this name, where it stands at the front
abbrev pub behind : List ℕ → List ℕ → Option (List ℕ)
behind name bytes = option_and_then (if_named name) (name_front bytes)

-- a column whose name does not stand at the front is Absent, if it is optional
abbrev pub missing : ColumnKind → List ℕ → Option (Value × List ℕ)
missing k bytes = if is_some (inside k) then Some (v.Absent, bytes) else None

abbrev pub cell_behind : ColumnKind → List ℕ → Option (List ℕ) → Option (Value × List ℕ)
cell_behind k bytes None = missing k bytes
cell_behind k bytes (Some rest) = value_of k rest

-- the value of the column at the front of the bytes, and the bytes behind it
abbrev pub cell_of : Column → List ℕ → Option (Value × List ℕ)
cell_of c bytes = cell_behind c.1 bytes (behind c.0 bytes)

-- the row of these columns, where the bytes are those of one
abbrev pub columns_row : List Column → List ℕ → Option Row
columns_row [] [] = Some []
columns_row [] (b ∷ bytes) = None
columns_row (c ∷ columns) bytes = option_and_then (λ p. option_map (λ row. p.0 ∷ row) (columns_row columns p.1)) (cell_of c bytes)

-- ---- what the bytes of a row are

-- a name that 4 bytes can count
abbrev pub IsShort : List ℕ → Type 0
IsShort name = length name < 4294967296

-- The bytes of a row: each column in order with its name and its value; an optional one that is Absent may be left out.
pub data IsBodyOf : List Column → Row → List ℕ → Type 0 where
  no_more : IsBodyOf [] [] []
  there : (c : Column) (columns : List Column) (x : Value) (row : Row) (rest : List ℕ) → FitsKind x c.1 → IsStorable x → IsBodyOf columns row rest
      → IsBodyOf (c ∷ columns) (x ∷ row) (text_body c.0 ++ (value_body x ++ rest))
  left_out : (c : Column) (columns : List Column) (row : Row) (rest : List ℕ) → is_some (inside c.1) ≡ true → IsBodyOf columns row rest
      → IsBodyOf (c ∷ columns) (v.Absent ∷ row) rest

-- no two columns have one name, and 4 bytes count each
abbrev pub AreNamed : List Column → Type 0
AreNamed [] = Unit {0}
AreNamed (c ∷ columns) = IsShort c.0 × All (λ d. bytes_eq d.0 c.0 ≡ false) columns × AreNamed columns

abbrev pub ColumnsAreReadBack : Type 0
ColumnsAreReadBack = (columns : List Column) (row : Row) → All (λ c. IsShort c.0) columns → MayStand (kinds_in columns) row → columns_row columns (columns_body columns row) ≡ Some row

-- bytes, each below 256
abbrev pub AreBytes : List ℕ → Type 0
AreBytes = All (λ b. b < 256)

abbrev pub BodiesAreRead : Type 0
BodiesAreRead = (columns : List Column) → AreNamed columns → (row : Row) (bytes : List ℕ) → AreBytes bytes → (columns_row columns bytes ≡ Some row) ↔ IsBodyOf columns row bytes

abbrev pub GrownRowsAreRead : Type 0
GrownRowsAreRead = (columns kept : List Column) (bytes : List ℕ) (row : Row) → columns_extend columns kept ≡ true → columns_row kept bytes ≡ Some row → columns_row columns bytes ≡ Some (grown columns kept row)
