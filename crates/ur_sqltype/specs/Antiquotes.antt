-- The types of antiquotes.
use Rattle.std.specs.Prelude.{◌≡◌, List, Option, Some, None}
use Rattle.ur_values.specs.declared.schema.ColumnKind.{ColumnKind}
use Rattle.ur_rows.specs.declared.normal.Normal.{Normal}
use Rattle.ur_rows.specs.declared.normal.Normal.TheVariants as normal
use Rattle.ur_sqltype.specs.Lists.{all_of}
use Rattle.ur_sqltype.specs.Table.{column_type_kind}

-- what is found of an antiquote, as a type of SQL
abbrev pub found_kind : Normal → Option ColumnKind
found_kind (normal.Type t) = column_type_kind t
found_kind _ = None

-- the types found of the antiquotes are these, each int, string, bool or an option of these
abbrev pub AreKinds : List Normal → List ColumnKind → Type 0
AreKinds found kinds = all_of found_kind found ≡ Some kinds
