-- What the core of a query is to what is written.
use Rattle.std.specs.Prelude.{◌≡◌, ℕ, nat_eq, List, ◌++◌, map, All, Some, bytes_eq}
use Rattle.std.specs.List.{IsDistinct}
use Rattle.ur_syntax.specs.declared.sql.SqlQuery.{SqlQuery}
use Rattle.ur_values.specs.declared.schema.ColumnKind.{ColumnKind}
use Rattle.ur_values.specs.declared.schema.ColumnKind.TheVariants as kind
use Rattle.ur_values.specs.declared.schema.Schema.{Schema}
use Rattle.ur_sql.specs.declared.query.Query.{Query}
use Rattle.ur_sql.specs.declared.query.Field.{Field}
use Rattle.ur_sql.specs.Typing.{IsGrouped, FieldReadsOnly, ReadsOnly}
use Rattle.ur_sqltype.specs.declared.scope.Source.{Source}
use Rattle.ur_sqltype.specs.Lists.{all_of, maybe}
use Rattle.ur_sqltype.specs.Tables.{sources_of}
use Rattle.ur_sqltype.specs.Query.{of_kind, ons_of, column_in, ordered, limited, Chosen, chosen_of, named_of, alias_fields, in_order, field_number, item_of, reads, query_of}

-- The query, in module `m`, over the tables and with these types of its antiquotes, stands for the core query: each part has its
-- types, no alias comes twice, no column is selected twice, no field of the answer comes twice, and with an aggregate or GROUP BY
-- the columns outside aggregates are GROUP BY columns. `names` are the names of fields in byte order.
pub record IsQuery (m : List ℕ) (tables : Schema) (names : List (List ℕ)) (antiquotes : List ColumnKind) (q : SqlQuery) (core : Query) : Type 0 where
  pub sources : List Source
  pub chosen : Chosen
  pub named : List Field
  pub items : sources_of m tables q.«from» ≡ Some sources
  pub aliases : IsDistinct bytes_eq (map (λ s. s.alias) sources)
  pub params : core.params ≡ antiquotes
  pub tables_read : core.«from» ≡ map item_of sources
  pub on : all_of (of_kind kind.Bool (reads sources antiquotes)) (ons_of q.«from») ≡ Some core.on
  pub filter : maybe (of_kind kind.Bool (reads sources antiquotes)) q.filter ≡ Some core.filter
  pub columns : chosen_of (reads sources antiquotes) q.selection ≡ Some chosen
  pub others : named_of names (reads sources antiquotes) q.selection ≡ Some named
  pub fields : core.fields ≡ in_order (alias_fields names chosen 0 sources ++ named)
  pub distinct : IsDistinct nat_eq (map field_number core.fields)
  pub group : all_of (column_in (reads sources antiquotes)) q.group ≡ Some core.group
  pub order : all_of (ordered (reads sources antiquotes)) q.order ≡ Some core.order
  pub limit : maybe (limited (reads sources antiquotes)) q.limit ≡ Some core.limit
  pub offset : maybe (limited (reads sources antiquotes)) q.offset ≡ Some core.offset
  pub grouped_fields : IsGrouped core → All (FieldReadsOnly core.group) core.fields
  pub grouped_order : IsGrouped core → All (λ k. ReadsOnly core.group k.by) core.order

-- what the function answers is the core
abbrev pub StatedIsQuery : Type 0
StatedIsQuery = (m : List ℕ) (tables : Schema) (names : List (List ℕ)) (antiquotes : List ColumnKind) (q : SqlQuery) (core : Query) → query_of m tables names antiquotes q ≡ Some core → IsQuery m tables names antiquotes q core
