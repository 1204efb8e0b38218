-- A schema for tests.
use Rattle.std.specs.Prelude.{◌≡◌, List, [], ◌∷◌}
use Rattle.ur_values.specs.declared.schema.TableShape.{TableShape}
use Rattle.ur_values.specs.declared.schema.Schema.{Schema}

-- one table, without keys
abbrev pub HasOneTable : Schema → Type 0
HasOneTable schema = (shape : TableShape) × (schema.tables ≡ shape ∷ []) × (shape.keys ≡ [])
