-- How a store of the first layout, whose rows do not name their columns, is rewritten.
use Rattle.std.specs.Prelude.{◌≡◌, ℕ, true, List, [], unwrap_or, length}
use Rattle.ur_values.specs.declared.schema.Schema.{Schema}
use Rattle.ur_values.specs.Store.{Row}
use Rattle.ur_values.specs.Extends.{extends, grown}
use Rattle.ur_keeper.specs.Growing.{grown_tables}
use Rattle.ur_keeper_bodies.specs.declared.stored.Layout.TheVariants as layouts
use Rattle.ur_keeper_bodies.specs.Columns.{Column, columns_body}
use Rattle.ur_keeper_bodies.specs.Stored.{body_row}
use Rattle.ur_keeper_bodies.specs.Bodies.{BodyMap}
use Rattle.ur_keeper_kept.specs.Laid.{columns_at, tables_by, tables_in, IsLaidBy, IsLaid, HasShortNames}
use Rattle.ur_keeper_kept.specs.Rewriting.{Entry, IsRewritten}

abbrev pub first_row : List Column → List ℕ → Row
first_row columns body = unwrap_or (body_row layouts.One columns body) []

-- the new body of a row of the kept columns: grown, with the names of its columns
abbrev pub new_body : List Column → List Column → Entry → List ℕ
new_body columns kept e = columns_body columns (grown columns kept (first_row kept e.1))

-- of a row of table i
abbrev pub renewing : Schema → Schema → ℕ → Entry → List ℕ
renewing schema kept i = new_body (columns_at schema i) (columns_at kept i)

-- A store of the first layout whose bodies are all put anew has the grown tables in the second one.
abbrev pub FirstIsRewritten : Type 0
FirstIsRewritten = (schema kept : Schema) (m m' : BodyMap) → extends schema kept ≡ true → HasShortNames schema → IsLaidBy layouts.One kept m → IsRewritten (renewing schema kept) m m' (length kept.tables)
    → (tables_in schema m' ≡ grown_tables schema kept (tables_by layouts.One kept m)) × IsLaid schema m'
