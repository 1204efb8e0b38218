-- Tables by their names, and the items of FROM.
use Rattle.std.specs.Prelude.{ℕ, if◌then◌else◌, List, Option, Some, None, option_map, bytes_eq}
use Rattle.ur_syntax.specs.declared.sql.DeclName.{DeclName}
use Rattle.ur_syntax.specs.declared.sql.FromItem.{FromItem}
use Rattle.ur_syntax.specs.Names.{name_text}
use Rattle.ur_tree.specs.FieldNames.{alias_of}
use Rattle.ur_values.specs.declared.schema.TableShape.{TableShape}
use Rattle.ur_values.specs.declared.schema.Schema.{Schema}
use Rattle.ur_sqltype.specs.declared.scope.Source.{Source}
use Rattle.ur_sqltype.specs.Scope.{named_at}
use Rattle.ur_sqltype.specs.Lists.{all_of}

abbrev pub shape_at : List ℕ → List ℕ → Schema → Option (ℕ × TableShape)
shape_at m x tables = named_at (λ s. s.name) (λ s. s) (name_text (Some m) x) tables.tables

-- the table that module `m` names so, with its number; the schema has each with its home, as `M.t`, and a module does
-- not name its own with its home
abbrev pub table_from : List ℕ → Schema → Option (List ℕ) → List ℕ → Option (ℕ × TableShape)
table_from m tables None x = shape_at m x tables
table_from m tables (Some n) x = if bytes_eq n m then None else shape_at n x tables

abbrev pub table_at : List ℕ → Schema → DeclName → Option (ℕ × TableShape)
table_at m tables x = table_from m tables x.«module» x.name

abbrev pub source_of : FromItem → ℕ × TableShape → Source
source_of i t = record { alias = alias_of i.alias i.table; table = t.0; columns = t.1.columns }

-- an item of FROM, whose table is there
abbrev pub source_at : List ℕ → Schema → FromItem → Option Source
source_at m tables i = option_map (source_of i) (table_at m tables i.table)

-- the items of FROM, in order
abbrev pub sources_of : List ℕ → Schema → List FromItem → Option (List Source)
sources_of m tables = all_of (source_at m tables)
