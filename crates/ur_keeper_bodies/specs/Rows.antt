-- The bytes of rows and of next numbers in a store.
use Rattle.std.specs.Prelude.{◌≡◌, ℕ, ◌+◌, ◌≤◌, ◌==◌, nat_le, ◌&&◌, ℤ, Bool, true, false, List, [], ◌∷◌, ◌++◌, length, take, drop, All, Option, Some, None, option_map, if◌then◌else◌}
use Rattle.std.specs.Option.{option_and_then}
use Rattle.std.specs.Str.{is_utf8}
use Rattle.std.specs.Int.{w64, w32, to_be_bytes, from_be_bytes, cast_unsigned, cast_signed}
use Rattle.ur_values.specs.declared.value.Value.{Value, end_of-Value, more_of-Value}
use Rattle.ur_values.specs.declared.value.Value.TheVariants as v
use Rattle.ur_values.specs.declared.schema.ColumnKind.{ColumnKind}
use Rattle.ur_values.specs.declared.schema.ColumnKind.TheVariants as kind
use Rattle.ur_values.specs.Size.{size, greatest_size}
use Rattle.ur_values.specs.Store.{Row, FitKinds, FitsBasic, FitsKind, FitsOption, IsStorable}

-- ---- written

-- an int as 8 bytes of two's complement, the highest first
abbrev pub int_body : ℤ → List ℕ
int_body z = to_be_bytes w64 (cast_unsigned w64 z)

-- a text as its length in 4 bytes, the highest first, and its bytes
abbrev pub text_body : List ℕ → List ℕ
text_body t = to_be_bytes w32 (length t) ++ t

-- a bool as one byte
abbrev pub bool_body : Bool → List ℕ
bool_body true = 1 ∷ []
bool_body false = 0 ∷ []

abbrev pub basic_body : Value → List ℕ
basic_body (v.Int n) = int_body n
basic_body (v.Str t) = text_body t
basic_body (v.Bool b) = bool_body b
basic_body _ = []

-- an option as one byte 0, or one byte 1 and the value
abbrev pub value_body : Value → List ℕ
value_body v.Absent = 0 ∷ []
value_body (v.Present' _ (more_of-Value x end_of-Value)) = 1 ∷ basic_body x
value_body x = basic_body x

-- a row as its columns, one after the other
abbrev pub row_body : Row → List ℕ
row_body [] = []
row_body (x ∷ row) = value_body x ++ row_body row

-- ---- read

-- the first n bytes and the others
abbrev pub front : ℕ → List ℕ → Option (List ℕ × List ℕ)
front n bytes = if nat_le n (length bytes) then Some (take n bytes, drop n bytes) else None

abbrev pub int_of : List ℕ → ℤ
int_of bytes = cast_signed w64 (from_be_bytes w64 bytes)

abbrev pub bool_of : List ℕ → Option (Value × List ℕ)
bool_of [] = None
bool_of (b ∷ rest) = if b == 0 then Some (v.Bool false, rest) else if b == 1 then Some (v.Bool true, rest) else None

-- a text that may stand in a table: UTF-8, and not over the greatest size
abbrev pub may_be_text : List ℕ → Bool
may_be_text t = is_utf8 t && nat_le (32 + length t) greatest_size

abbrev pub text_of : List ℕ × List ℕ → Option (Value × List ℕ)
text_of p = if may_be_text p.0 then Some (v.Str p.0, p.1) else None

-- an int at the front
abbrev pub int_front : List ℕ → Option (Value × List ℕ)
int_front bytes = option_map {U = Value × List ℕ} (λ p. (v.Int (int_of p.0), p.1)) (front 8 bytes)

-- an int, a text or a bool at the front
abbrev pub basic_of : ColumnKind → List ℕ → Option (Value × List ℕ)
basic_of kind.Int bytes = int_front bytes
basic_of kind.Str bytes = option_and_then (λ p. option_and_then text_of (front (from_be_bytes w32 p.0) p.1)) (front 4 bytes)
basic_of kind.Bool bytes = bool_of bytes
basic_of _ bytes = None

-- Present of what was read, if it is not over the greatest size
abbrev pub present_of : Value × List ℕ → Option (Value × List ℕ)
present_of p = if nat_le (32 + size p.0) greatest_size then Some (v.Present p.0, p.1) else None

-- an option at the front, of a value of this kind
abbrev pub option_of : ColumnKind → List ℕ → Option (Value × List ℕ)
option_of k [] = None
option_of k (b ∷ rest) = if b == 0 then Some (v.Absent, rest) else if b == 1 then option_and_then present_of (basic_of k rest) else None

-- the value of this kind at the front of the bytes, and the bytes behind it
abbrev pub value_of : ColumnKind → List ℕ → Option (Value × List ℕ)
value_of kind.Int bytes = basic_of kind.Int bytes
value_of kind.Str bytes = basic_of kind.Str bytes
value_of kind.Bool bytes = basic_of kind.Bool bytes
value_of kind.OptInt bytes = option_of kind.Int bytes
value_of kind.OptStr bytes = option_of kind.Str bytes
value_of kind.OptBool bytes = option_of kind.Bool bytes

-- the row of these kinds, where the bytes are those of one
abbrev pub row_of : List ColumnKind → List ℕ → Option Row
row_of [] [] = Some []
row_of [] (b ∷ bytes) = None
row_of (k ∷ kinds) bytes = option_and_then (λ p. option_map (λ row. p.0 ∷ row) (row_of kinds p.1)) (value_of k bytes)

-- the number of 8 bytes
abbrev pub number_of : List ℕ → Option ℤ
number_of bytes = if length bytes == 8 then Some (int_of bytes) else None

-- a row that may stand in a table of columns of these kinds
pub record MayStand (kinds : List ColumnKind) (row : Row) : Type 0 where
  pub fits : FitKinds row kinds
  pub sizes : All IsStorable row

abbrev pub kinds_in : List (List ℕ × ColumnKind) → List ColumnKind
kinds_in [] = []
kinds_in (c ∷ columns) = c.1 ∷ kinds_in columns

-- a value with the number of bytes that it takes, as what is read of the bytes
abbrev pub with_rest : List ℕ → Option (Value × ℕ) → Option (Value × List ℕ)
with_rest bytes = option_map {U = Value × List ℕ} (λ p. (p.0, drop p.1 bytes))

-- a value that may stand in a column of this kind, within the bytes
abbrev pub MayBeRead : ColumnKind → List ℕ → Value × ℕ → Type 0
MayBeRead kind bytes p = (p.1 ≤ length bytes) × FitsKind p.0 kind × IsStorable p.0

-- Present of a value that takes so many bytes behind the first one, with what it takes
abbrev pub present_at : Value → ℕ → Option (Value × ℕ)
present_at x n = if nat_le (32 + size x) greatest_size then Some (v.Present x, n + 1) else None

-- an int, a text or a bool, and an option of one, that may stand in a column, within the bytes
abbrev pub MayBeBasic : ColumnKind → List ℕ → Value × ℕ → Type 0
MayBeBasic kind bytes p = (p.1 ≤ length bytes) × FitsBasic p.0 kind × IsStorable p.0

abbrev pub MayBeOption : ColumnKind → List ℕ → Value × ℕ → Type 0
MayBeOption kind bytes p = (p.1 ≤ length bytes) × FitsOption kind p.0 × IsStorable p.0

abbrev pub RowsAreReadBack : Type 0
RowsAreReadBack = (kinds : List ColumnKind) (row : Row) → MayStand kinds row → row_of kinds (row_body row) ≡ Some row
