-- The tables of a store under a schema that extends its own.
use Rattle.std.specs.Prelude.{◌≡◌, ℕ, pos, ◌<◌, true, length, All}
use Rattle.ur_values.specs.declared.schema.Schema.{Schema}
use Rattle.ur_values.specs.Extends.{extends}
use Rattle.ur_keeper.specs.Growing.{grown_tables}
use Rattle.ur_keeper_bodies.specs.Columns.{IsShort}
use Rattle.ur_keeper_bodies.specs.Bodies.{BodyMap, body_at, bodies_of}
use Rattle.ur_keeper_kept.specs.Laid.{table_tab, columns_at, tables_in, IsLaid}

-- the same bodies of tables and sequences
pub record SameBodies (schema : Schema) (m m' : BodyMap) : Type 0 where
  pub tables : (i : ℕ) → i < length schema.tables → bodies_of m' (table_tab i) ≡ bodies_of m (table_tab i)
  pub sequences : (i : ℕ) → i < length schema.sequences → body_at m' (pos 1) (pos i) ≡ body_at m (pos 1) (pos i)

-- Where another text alone stands in a store, its tables are the grown ones and still read.
abbrev pub AnotherTextGrows : Type 0
AnotherTextGrows = (schema kept : Schema) (m m' : BodyMap) → extends schema kept ≡ true → IsLaid kept m → SameBodies kept m m'
    → (tables_in schema m' ≡ grown_tables schema kept (tables_in kept m)) × IsLaid schema m'
