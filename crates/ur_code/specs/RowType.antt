-- The first-order type of a query's answer rows.
use Rattle.std.specs.Prelude.{List, [], ◌∷◌, map, Option, Some, None, option_map, unwrap_or}
use Rattle.ur_base.specs.declared.names.Name.{Name}
use Rattle.ur_values.specs.declared.types.ValueType.{ValueType}
use Rattle.ur_values.specs.declared.types.ValueType.TheVariants as ty
use Rattle.ur_values.specs.declared.schema.ColumnKind.{ColumnKind}
use Rattle.ur_values.specs.declared.schema.ColumnKind.TheVariants as kind
use Rattle.ur_sql.specs.declared.query.Query.{Query}
use Rattle.ur_sql.specs.declared.query.ColumnAt.{ColumnAt}
use Rattle.ur_sql.specs.declared.query.Field.{Field}
use Rattle.ur_sql.specs.declared.query.Field.TheVariants as field
use Rattle.ur_sql.specs.declared.query.Aggregate.{Aggregate}
use Rattle.ur_sql.specs.declared.query.Aggregate.TheVariants as agg
use Rattle.ur_sql.specs.Typing.{Kinds, column_kind, kinds_in}
use Rattle.ur_sql.specs.Kinds.{scalar_kind}
use Rattle.ur_terms.specs.Types.{record_type, unit_type}

-- an optional kind has the option of the type of what is inside
abbrev pub kind_type : ColumnKind → ValueType
kind_type kind.Int = ty.Int
kind_type kind.Str = ty.Str
kind_type kind.Bool = ty.Bool
kind_type kind.OptInt = ty.Opt ty.Int
kind_type kind.OptStr = ty.Opt ty.Str
kind_type kind.OptBool = ty.Opt ty.Bool

abbrev pub both_there : {A : Type 0} → Option A → Option (List A) → Option (List A)
both_there (Some x) (Some xs) = Some (x ∷ xs)
both_there _ _ = None

abbrev pub all_there : {A : Type 0} → List (Option A) → Option (List A)
all_there [] = Some []
all_there (x ∷ xs) = both_there x (all_there xs)

abbrev pub column_type : Kinds → Name × ColumnAt → Option (Name × ValueType)
column_type ks c = option_map (λ k. (c.0, kind_type k)) (column_kind ks c.1.item c.1.column)

abbrev pub aggregate_type : Kinds → Aggregate → Option ValueType
aggregate_type ks agg.Count = Some ty.Int
aggregate_type ks (agg.Sum by) = Some ty.Int
aggregate_type ks (agg.Min by) = option_map (λ k. ty.Opt (kind_type k)) (scalar_kind ks by)
aggregate_type ks (agg.Max by) = option_map (λ k. ty.Opt (kind_type k)) (scalar_kind ks by)

abbrev pub field_type : Kinds → Field → Option (Name × ValueType)
field_type ks (field.Columns name columns) = option_map (λ fs. (name, record_type fs)) (all_there (map (column_type ks) columns))
field_type ks (field.Single name by) = option_map (λ k. (name, kind_type k)) (scalar_kind ks by)
field_type ks (field.Over name aggregate) = option_map (λ t. (name, t)) (aggregate_type ks aggregate)

-- the record of a query's fields
abbrev pub row_type : Query → Option ValueType
row_type q = option_map record_type (all_there (map (field_type (kinds_in q)) q.fields))

-- The types of a query's antiquotes and of its rows. A query that fits the tables has a row type.
abbrev pub query_type : Query → List ValueType × ValueType
query_type q = (map kind_type q.params, unwrap_or (row_type q) unit_type)
