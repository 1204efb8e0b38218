-- A keeper in memory with one table of an int and a text, without keys.
use Rattle.std.specs.Prelude.{◌≡◌, ℕ, ◌≤◌, ◌<◌, true, false, IsTrue, List, [], ◌∷◌, length, Some, codes}
use Rattle.ur_values.specs.declared.schema.ColumnKind.TheVariants as kind
use Rattle.ur_values.specs.declared.schema.TableShape.{TableShape}
use Rattle.ur_values.specs.declared.schema.Schema.{Schema}
use Rattle.ur_values.specs.declared.schema.Numbered.{Numbered}
use Rattle.ur_values.specs.Numbered.{next_number, has_number}
use Rattle.ur_keeper.specs.Tables.{Tables}
use Rattle.ur_keeper.specs.Memory.{Memory}

abbrev pub rows_schema : Schema
rows_schema = record {
  tables = record { name = codes "Rows"; columns = (codes "Id", kind.Int) ∷ (codes "Text", kind.Str) ∷ []; keys = []; primary = false } ∷ [];
  sequences = [];
}

-- one table with these rows
abbrev pub table_of : List Numbered → Tables
table_of rows = record { tables = rows ∷ []; sequences = [] }

-- the numbers from low on and below high are there, and no number or count is over high
pub record Spans (low high : ℕ) (rows : List Numbered) : Type 0 where
  pub there : (n : ℕ) → low ≤ n → n < high → IsTrue (has_number rows n)
  pub next : next_number rows ≤ high
  pub few : length rows ≤ high

-- a transaction is under way over such rows
pub record HasRows (low high : ℕ) (m : Memory) : Type 0 where
  pub kept : m.kept ≡ Some rows_schema
  pub under_way : m.under_way ≡ true
  pub rows : (rows : List Numbered) × (m.current ≡ table_of rows) × Spans low high rows
