-- The row of a query's answer, whose fields have the names that their numbers stand for.
use Rattle.std.specs.Prelude.{ℕ, List, [], ◌∷◌, Option, Some, None, slice_index_or}
use Rattle.ur_base.specs.declared.names.Name.{Name}
use Rattle.ur_values.specs.declared.schema.ColumnKind.{ColumnKind}
use Rattle.ur_sql.specs.declared.query.Query.{Query}
use Rattle.ur_sql.specs.declared.query.ColumnAt.{ColumnAt}
use Rattle.ur_sql.specs.declared.query.Field.{Field}
use Rattle.ur_sql.specs.declared.query.Field.TheVariants as field
use Rattle.ur_sql.specs.declared.query.Aggregate.{Aggregate}
use Rattle.ur_sql.specs.declared.query.Aggregate.TheVariants as agg
use Rattle.ur_sql.specs.Kinds.{scalar_kind}
use Rattle.ur_sql.specs.Typing.{Kinds, column_kind, kinds_in}
use Rattle.ur_rows.specs.declared.normal.Label.TheVariants as label
use Rattle.ur_rows.specs.declared.normal.NormalType.{NormalType}
use Rattle.ur_rows.specs.declared.normal.NormalType.TheVariants as ty
use Rattle.ur_rows.specs.declared.normal.Part.{Part}
use Rattle.ur_rows.specs.Order.{with_part}
use Rattle.ur_rows.specs.Made as made
use Rattle.ur_tree.specs.Scalars.{kind_type}

-- the type of a kind; a query that fits its tables has a kind wherever it is asked for
abbrev pub kind_if_any : Option ColumnKind → NormalType
kind_if_any None = made.unit
kind_if_any (Some k) = kind_type k

-- the field that has the name with this number
abbrev pub named_part : List (List ℕ) → Name → NormalType → Part
named_part names n t = made.field (label.Literal (slice_index_or names n.0 [])) t

abbrev pub columns_row : List (List ℕ) → Kinds → List (Name × ColumnAt) → List Part
columns_row names ks [] = []
columns_row names ks (c ∷ cs) = with_part (named_part names c.0 (kind_if_any (column_kind ks c.1.item c.1.column))) (columns_row names ks cs)

abbrev pub aggregate_type : Kinds → Aggregate → NormalType
aggregate_type ks agg.Count = ty.Int
aggregate_type ks (agg.Sum by) = ty.Int
aggregate_type ks (agg.Min by) = made.option_of (kind_if_any (scalar_kind ks by))
aggregate_type ks (agg.Max by) = made.option_of (kind_if_any (scalar_kind ks by))

abbrev pub field_part : List (List ℕ) → Kinds → Field → Part
field_part names ks (field.Columns name columns) = named_part names name (made.record_of (columns_row names ks columns))
field_part names ks (field.Single name by) = named_part names name (kind_if_any (scalar_kind ks by))
field_part names ks (field.Over name aggregate) = named_part names name (aggregate_type ks aggregate)

abbrev pub fields_row : List (List ℕ) → Kinds → List Field → List Part
fields_row names ks [] = []
fields_row names ks (f ∷ fs) = with_part (field_part names ks f) (fields_row names ks fs)

-- the row of a query's answer
abbrev pub query_row : List (List ℕ) → Query → List Part
query_row names q = fields_row names (kinds_in q) q.fields
