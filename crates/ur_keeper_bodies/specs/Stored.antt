-- The text of a store, which tells the layout of its rows.
use Rattle.std.specs.Prelude.{◌≡◌, ℕ, ◌==◌, List, [], ◌∷◌, ◌++◌, Option, Some, None, if◌then◌else◌, codes}
use Rattle.ur_values.specs.declared.schema.Schema.{Schema}
use Rattle.ur_values.specs.SchemaText.{schema_text}
use Rattle.ur_values.specs.Store.{Row}
use Rattle.ur_keeper_bodies.specs.declared.stored.Layout.{Layout}
use Rattle.ur_keeper_bodies.specs.declared.stored.Layout.TheVariants as layouts
use Rattle.ur_keeper_bodies.specs.Rows.{row_of, kinds_in}
use Rattle.ur_keeper_bodies.specs.Columns.{Column, columns_row}

abbrev pub layout_line : List ℕ
layout_line = codes "layout 2" ++ 10 ∷ []

-- the text of a store of the second layout
abbrev pub stored_text : Schema → List ℕ
stored_text schema = layout_line ++ schema_text schema

-- what stands behind a line at the front of the bytes
abbrev pub behind_line : List ℕ → List ℕ → Option (List ℕ)
behind_line [] bytes = Some bytes
behind_line (c ∷ line) [] = None
behind_line (c ∷ line) (b ∷ bytes) = if b == c then behind_line line bytes else None

abbrev pub parted_by : List ℕ → Option (List ℕ) → Layout × List ℕ
parted_by bytes None = (layouts.One, bytes)
parted_by bytes (Some rest) = (layouts.Two, rest)

-- the layout that the text of a store tells, and the text of its schema: a text without the line of the second layout is one of the first
abbrev pub parted : List ℕ → Layout × List ℕ
parted bytes = parted_by bytes (behind_line layout_line bytes)

-- the row that the bytes are those of, by the layout
abbrev pub body_row : Layout → List Column → List ℕ → Option Row
body_row layouts.One columns bytes = row_of (kinds_in columns) bytes
body_row layouts.Two columns bytes = columns_row columns bytes

-- a schema's own text is one of the first layout, and behind the line one of the second
abbrev pub TextsTellLayouts : Type 0
TextsTellLayouts = (schema : Schema) → (parted (stored_text schema) ≡ (layouts.Two, schema_text schema)) × (parted (schema_text schema) ≡ (layouts.One, schema_text schema))
