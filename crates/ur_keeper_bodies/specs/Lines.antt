-- A schema from the lines of a text, word by word.
use Rattle.std.specs.Prelude.{ℕ, Bool, true, false, List, [], ◌∷◌, ◌++◌, Option, Some, None, option_map, if◌then◌else◌, codes}
use Rattle.std.specs.Option.{option_and_then}
use Rattle.std.specs.Str.{bytes_eq}
use Rattle.ur_values.specs.declared.schema.ColumnKind.{ColumnKind}
use Rattle.ur_values.specs.declared.schema.ColumnKind.TheVariants as kind
use Rattle.ur_values.specs.declared.schema.TableShape.{TableShape}
use Rattle.ur_values.specs.declared.schema.Schema.{Schema}
use Rattle.ur_keeper_bodies.specs.declared.text.Line.{Line}
use Rattle.ur_values.specs.Named.{place_of}
use Rattle.ur_keeper_bodies.specs.Pieces.{pieces}

abbrev pub kind_of : List ℕ → Option ColumnKind
kind_of word =
    if bytes_eq word (codes "int") then Some kind.Int
    else if bytes_eq word (codes "string") then Some kind.Str
    else if bytes_eq word (codes "bool") then Some kind.Bool
    else if bytes_eq word (codes "int?") then Some kind.OptInt
    else if bytes_eq word (codes "string?") then Some kind.OptStr
    else if bytes_eq word (codes "bool?") then Some kind.OptBool
    else None

abbrev pub column_of_parts : List (List ℕ) → Option (List ℕ × ColumnKind)
column_of_parts (name ∷ word ∷ []) = option_map {U = List ℕ × ColumnKind} (λ k. (name, k)) (kind_of word)
column_of_parts _ = None

-- `Name:kind`
abbrev pub column_of : List ℕ → Option (List ℕ × ColumnKind)
column_of word = column_of_parts (pieces 58 word)

-- the shape with the key under way
abbrev pub closed : TableShape → Option (List ℕ) → TableShape
closed shape None = shape
closed shape (Some key) = record shape { keys = shape.keys ++ key ∷ [] }

-- a key begins
abbrev pub begun : Bool → Line → Line
begun primary line = record { shape = record (closed line.shape line.key) { primary = primary }; key = Some [] }

abbrev pub with_column : TableShape → List ℕ × ColumnKind → Line
with_column shape column = record { shape = record shape { columns = shape.columns ++ column ∷ [] }; key = None }

abbrev pub with_place : TableShape → List ℕ → ℕ → Line
with_place shape key place = record { shape = shape; key = Some (key ++ place ∷ []) }

-- a column, or one more column of the key under way
abbrev pub read_name : TableShape → Option (List ℕ) → List ℕ → Option Line
read_name shape None word = option_map (with_column shape) (column_of word)
read_name shape (Some key) word = option_map (with_place shape key) (place_of shape.columns word)

abbrev pub read_word : Line → List ℕ → Option Line
read_word line word =
    if bytes_eq word (codes "primary") then Some (begun true line)
    else if bytes_eq word (codes "unique") then Some (begun line.shape.primary line)
    else read_name line.shape line.key word

abbrev pub read_words : Line → List (List ℕ) → Option TableShape
read_words line [] = Some (closed line.shape line.key)
read_words line (word ∷ words) = option_and_then (λ next. read_words next words) (read_word line word)

abbrev pub new_line : List ℕ → Line
new_line name = record { shape = record { name = name; columns = []; keys = []; primary = false }; key = None }

-- the words behind `table`
abbrev pub read_table : List (List ℕ) → Option TableShape
read_table [] = None
read_table (name ∷ words) = read_words (new_line name) words

-- the words behind `sequence`
abbrev pub read_sequence : List (List ℕ) → Option (List ℕ)
read_sequence (name ∷ []) = Some name
read_sequence _ = None

abbrev pub is_no_text : List ℕ → Bool
is_no_text [] = true
is_no_text (b ∷ bytes) = false

-- the end of the text, behind the last line
abbrev pub is_end : List ℕ → List (List ℕ) → Bool
is_end first [] = is_no_text first
is_end first (word ∷ words) = false

abbrev pub with_table : Schema → TableShape → Schema
with_table schema shape = record schema { tables = schema.tables ++ shape ∷ [] }

abbrev pub with_sequence : Schema → List ℕ → Schema
with_sequence schema name = record schema { sequences = schema.sequences ++ name ∷ [] }

abbrev pub read_parts : Schema → List (List ℕ) → Option Schema
read_parts schema [] = None
read_parts schema (first ∷ words) =
    if bytes_eq first (codes "table") then option_map (with_table schema) (read_table words)
    else if bytes_eq first (codes "sequence") then option_map (with_sequence schema) (read_sequence words)
    else if is_end first words then Some schema
    else None

abbrev pub read_line : Schema → List ℕ → Option Schema
read_line schema line = read_parts schema (pieces 32 line)

abbrev pub read_lines : Schema → List (List ℕ) → Option Schema
read_lines schema [] = Some schema
read_lines schema (line ∷ lines) = option_and_then (λ next. read_lines next lines) (read_line schema line)

abbrev pub no_schema : Schema
no_schema = record { tables = []; sequences = [] }
