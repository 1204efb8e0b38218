-- What a query, a change or a table without a type breaks, as it is told.
use Rattle.std.specs.Fmt.{decimal}
use Rattle.std.specs.Prelude.{◌≡◌, ◌≢◌, ◌≤◌, ◌^◌, ℕ, true, if◌then◌else◌, List, [], ◌∷◌, codes, map, length, Contains, Option, Some, None, nat_eq, bytes_eq, slice_get, slice_index_or}
use Rattle.std.specs.List.{list_any}
use Rattle.ur_base.specs.Stopping.{Says}
use Rattle.ur_base.specs.declared.refusal.Refusal.{Refusal}
use Rattle.ur_base.specs.declared.refusal.Span.{Span}
use Rattle.ur_syntax.specs.Names.{name_text}
use Rattle.ur_syntax.specs.declared.sql.DeclName.{DeclName}
use Rattle.ur_syntax.specs.declared.sql.SqlExp.{SqlExp}
use Rattle.ur_syntax.specs.declared.sql.Aggregate.{Aggregate as WrittenAggregate}
use Rattle.ur_syntax.specs.declared.sql.Aggregate.TheVariants as written
use Rattle.ur_syntax.specs.declared.sql.Selected.{Selected}
use Rattle.ur_syntax.specs.declared.sql.Selected.TheVariants as selected
use Rattle.ur_syntax.specs.declared.sql.Selection.TheVariants as selection
use Rattle.ur_syntax.specs.declared.sql.FromItem.{FromItem}
use Rattle.ur_syntax.specs.declared.sql.OrderKey.{OrderKey as WrittenKey}
use Rattle.ur_syntax.specs.declared.sql.Limit.{Limit}
use Rattle.ur_syntax.specs.declared.sql.Limit.TheVariants as limit
use Rattle.ur_syntax.specs.declared.sql.Assignment.{Assignment}
use Rattle.ur_syntax.specs.declared.sql.SqlQuery.{SqlQuery}
use Rattle.ur_syntax.specs.declared.sql.SqlChange.{SqlChange}
use Rattle.ur_syntax.specs.declared.sql.SqlChange.TheVariants as change
use Rattle.ur_values.specs.declared.schema.ColumnKind.{ColumnKind}
use Rattle.ur_values.specs.declared.schema.ColumnKind.TheVariants as kind
use Rattle.ur_values.specs.declared.schema.TableShape.{TableShape}
use Rattle.ur_values.specs.declared.schema.Schema.{Schema}
use Rattle.ur_sql.specs.declared.scalar.Scalar.{Scalar}
use Rattle.ur_sql.specs.declared.query.Query.{Query}
use Rattle.ur_sql.specs.declared.query.ColumnAt.{ColumnAt}
use Rattle.ur_sql.specs.declared.query.Field.{Field}
use Rattle.ur_rows.specs.declared.normal.Normal.{Normal}
use Rattle.ur_sqltype.specs.declared.scope.Source.{Source}
use Rattle.ur_sqltype.specs.declared.scope.Within.{Within}
use Rattle.ur_sqltype.specs.Scope.{column_of}
use Rattle.ur_sqltype.specs.Tables.{table_at, sources_of}
use Rattle.ur_sqltype.specs.Faults.{HasFault, Misfits, MisfitsColumn, kind_text, three_kinds, six_kinds}
use Rattle.ur_sqltype.specs.Expression.{kinded, is_optional}
use Rattle.ur_sqltype.specs.Lists.{all_of, repeated}
use Rattle.ur_sqltype.specs.Antiquotes.{found_kind}
use Rattle.ur_sqltype.specs.Query.{as_column, column_in, selected_columns, same_column, all_fields, field_number, items_of, reads, stated, outside, query_of}
use Rattle.ur_sqltype.specs.Change.{within_insert, within_row, set_at, set_number, paired, assigned, target_of, change_of}
use Rattle.ur_sqltype.specs.Table.{name_at}
use Rattle.ur_sqltype.specs.SqltableFaults.{Names, normal_text}

abbrev pub table_text : DeclName → List ℕ
table_text x = name_text x.«module» x.name

-- what is found of an antiquote is none of the six types
pub record IsOther (datatypes : Names) (n : Normal) (r : Refusal) : Type 0 where
  pub none : found_kind n ≡ None
  pub told : Says r 12 (normal_text datatypes n) six_kinds

pub record AntiquoteIsOther (datatypes : Names) (found : List Normal) (r : Refusal) : Type 0 where
  pub type : Normal
  pub stands : Contains found type
  pub fault : IsOther datatypes type r

-- nothing is the table of that name
abbrev pub NoTable : DeclName → Refusal → Type 0
NoTable x r = Says r 7 (table_text x) []

pub record NoSource (m : List ℕ) (tables : Schema) (i : FromItem) (r : Refusal) : Type 0 where
  pub none : table_at m tables i.table ≡ None
  pub told : NoTable i.table r

-- ---- queries

-- an expression stands in a query where a bool is wanted
pub data IsCondition (q : SqlQuery) : SqlExp → Type 0 where
  on : (i : FromItem) (e : SqlExp) → Contains q.«from» i → i.on ≡ Some e → IsCondition q e
  filter : (e : SqlExp) → q.filter ≡ Some e → IsCondition q e

pub record Selects (q : SqlQuery) (s : Selected) : Type 0 where
  pub items : List Selected
  pub selection : q.selection ≡ selection.Items items
  pub stands : Contains items s

-- an expression stands where a column is wanted
pub data IsColumn (q : SqlQuery) : SqlExp → Type 0 where
  selects : (e : SqlExp) → Selects q (selected.Column e) → IsColumn q e
  groups : (e : SqlExp) → Contains q.group e → IsColumn q e

pub data IsBound (q : SqlQuery) : Limit → Type 0 where
  limited : (l : Limit) → q.limit ≡ Some l → IsBound q l
  skipped : (l : Limit) → q.offset ≡ Some l → IsBound q l

-- how a column of an item is written
abbrev pub at_source : Option Source → ℕ → List ℕ
at_source None c = []
at_source (Some s) c = name_text (Some s.alias) (name_at s.columns c)

abbrev pub column_text : List Source → ColumnAt → List ℕ
column_text sources at = at_source (slice_get sources at.item) at.column

-- a number of a LIMIT or an OFFSET is too great, or of another type
pub data BoundBreaks (w : Within) (r : Refusal) : Limit → Type 0 where
  too_great : (n : ℕ) → 2 ^ 63 ≤ n → Says r 12 (decimal n) (codes "int") → BoundBreaks w r (limit.Int n)
  other_kind : (n : ℕ) (k : ColumnKind) → slice_get w.antiquotes n ≡ Some k → k ≢ kind.Int → Says r 12 (kind_text k) (codes "int") → BoundBreaks w r (limit.Anti n)
  missing : (n : ℕ) → slice_get w.antiquotes n ≡ None → Says r 12 (codes "no antiquote") (codes "int") → BoundBreaks w r (limit.Anti n)

-- what is selected without AS, or stands in GROUP BY, and is no column
pub record IsNoColumn (w : Within) (e : SqlExp) (r : Refusal) : Type 0 where
  pub scalar : Scalar
  pub of : ColumnKind
  pub is : kinded w e.form ≡ Some (scalar, of)
  pub none : as_column scalar ≡ None
  pub told : Says r 12 (codes "expression") (codes "column")

-- what stands where a column is wanted has a fault, or is no column
pub data ColumnBreaks (w : Within) (e : SqlExp) (r : Refusal) : Type 0 where
  column_faulty : HasFault w e.form r → ColumnBreaks w e r
  column_other : IsNoColumn w e r → ColumnBreaks w e r

-- what MIN or MAX is of has a fault, or is an option
pub data BasicBreaks (w : Within) (e : SqlExp) (r : Refusal) : Type 0 where
  basic_faulty : HasFault w e.form r → BasicBreaks w e r
  is_option : (x : Scalar) (k : ColumnKind) → kinded w e.form ≡ Some (x, k) → is_optional k ≡ true → Says r 12 (kind_text k) three_kinds → BasicBreaks w e r

-- what an aggregate is of has a fault, or another type
pub data AggregateBreaks (w : Within) (r : Refusal) : WrittenAggregate → Type 0 where
  no_sum : (e : SqlExp) → Misfits w e.form kind.Int r → AggregateBreaks w r (written.Sum e)
  least : (e : SqlExp) → BasicBreaks w e r → AggregateBreaks w r (written.Min e)
  greatest : (e : SqlExp) → BasicBreaks w e r → AggregateBreaks w r (written.Max e)

-- the same of what is selected with an AS name
pub data ItemBreaks (w : Within) (r : Refusal) : Selected → Type 0 where
  named : (e : SqlExp) (a : List ℕ) → HasFault w e.form r → ItemBreaks w r (selected.Named e a)
  over : (p : Span) (g : WrittenAggregate) (a : List ℕ) → AggregateBreaks w r g → ItemBreaks w r (selected.Aggregate p g a)

-- a column is selected twice
pub record ChosenTwice (w : Within) (items : List Selected) (r : Refusal) : Type 0 where
  pub ats : List ColumnAt
  pub at : ColumnAt
  pub chosen : all_of (column_in w) (selected_columns items) ≡ Some ats
  pub twice : repeated same_column ats ≡ Some at
  pub told : Says r 8 (column_text w.sources at) []

-- two fields of the answer have one name
pub record FieldsClash (names : List (List ℕ)) (w : Within) (q : SqlQuery) (r : Refusal) : Type 0 where
  pub fields : List Field
  pub number : ℕ
  pub all : all_fields names w q.selection ≡ Some fields
  pub twice : repeated nat_eq (map field_number fields) ≡ Some number
  pub told : Says r 8 (slice_index_or names number []) []

-- with an aggregate or GROUP BY a column stands outside
pub record Ungrouped (names : List (List ℕ)) (w : Within) (q : SqlQuery) (r : Refusal) : Type 0 where
  pub core : Query
  pub at : ColumnAt
  pub is : stated names w q ≡ Some core
  pub stands : outside core ≡ Some at
  pub told : Says r 12 (column_text w.sources at) (codes "GROUP BY")

-- A query over these items breaks a rule.
pub data Breaks (names : List (List ℕ)) (w : Within) (q : SqlQuery) (r : Refusal) : Type 0 where
  no_condition : (e : SqlExp) → IsCondition q e → Misfits w e.form kind.Bool r → Breaks names w q r
  no_column : (e : SqlExp) → IsColumn q e → ColumnBreaks w e r → Breaks names w q r
  no_item : (s : Selected) → Selects q s → ItemBreaks w r s → Breaks names w q r
  no_key : (k : WrittenKey) → Contains q.order k → HasFault w k.key.form r → Breaks names w q r
  chosen_twice : (items : List Selected) → q.selection ≡ selection.Items items → ChosenTwice w items r → Breaks names w q r
  clash : FieldsClash names w q r → Breaks names w q r
  no_bound : (l : Limit) → IsBound q l → BoundBreaks w r l → Breaks names w q r
  ungrouped : Ungrouped names w q r → Breaks names w q r

pub record AliasTwice (m : List ℕ) (tables : Schema) (q : SqlQuery) (r : Refusal) : Type 0 where
  pub sources : List Source
  pub alias : List ℕ
  pub items : sources_of m tables q.«from» ≡ Some sources
  pub twice : repeated bytes_eq (map (λ s. s.alias) sources) ≡ Some alias
  pub told : Says r 8 alias []

-- a table of FROM is not there
pub record NoItem (m : List ℕ) (tables : Schema) (items : List FromItem) (r : Refusal) : Type 0 where
  pub item : FromItem
  pub stands : Contains items item
  pub fault : NoSource m tables item r

-- A query with these types of its antiquotes has a fault, as it is told.
pub data QueryHasFault (m : List ℕ) (tables : Schema) (names : List (List ℕ)) (antiquotes : List ColumnKind) (q : SqlQuery) (r : Refusal) : Type 0 where
  no_table : NoItem m tables q.«from» r → QueryHasFault m tables names antiquotes q r
  alias_twice : AliasTwice m tables q r → QueryHasFault m tables names antiquotes q r
  within : (sources : List Source) → items_of m tables q.«from» ≡ Some sources → Breaks names (reads sources antiquotes) q r → QueryHasFault m tables names antiquotes q r

-- what has a fault has no core
abbrev pub FaultyQueryIsNone : Type 0
FaultyQueryIsNone = (m : List ℕ) (tables : Schema) (names : List (List ℕ)) (antiquotes : List ColumnKind) (q : SqlQuery) (r : Refusal) → QueryHasFault m tables names antiquotes q r → query_of m tables names antiquotes q ≡ None

-- A query breaks a rule, or the type found of an antiquote is another one.
pub data QueryBreaks (datatypes : Names) (m : List ℕ) (tables : Schema) (names : List (List ℕ)) (found : List Normal) (q : SqlQuery) (r : Refusal) : Type 0 where
  query_antiquote : AntiquoteIsOther datatypes found r → QueryBreaks datatypes m tables names found q r
  query_faulty : (kinds : List ColumnKind) → all_of found_kind found ≡ Some kinds → QueryHasFault m tables names kinds q r → QueryBreaks datatypes m tables names found q r

-- ---- changes

-- a change has these columns with their values, in this scope
pub data Sets (antiquotes : List ColumnKind) (t : ℕ × TableShape) : SqlChange → Within → List (List ℕ × SqlExp) → Type 0 where
  inserts : (p : Span) (x : DeclName) (columns : List (List ℕ)) (values : List SqlExp) → Sets antiquotes t (change.Insert p x columns values) (within_insert antiquotes) (paired columns values)
  updates : (p : Span) (x : DeclName) (assignments : List Assignment) (condition : Option SqlExp) → Sets antiquotes t (change.Update p x assignments condition) (within_row x t antiquotes) (map assigned assignments)

pub data ConditionOf (antiquotes : List ColumnKind) (t : ℕ × TableShape) : SqlChange → Within → SqlExp → Type 0 where
  of_update : (p : Span) (x : DeclName) (assignments : List Assignment) (e : SqlExp) → ConditionOf antiquotes t (change.Update p x assignments (Some e)) (within_row x t antiquotes) e
  of_delete : (p : Span) (x : DeclName) (e : SqlExp) → ConditionOf antiquotes t (change.Delete p x (Some e)) (within_row x t antiquotes) e

-- a column that is not there, or whose value is none of the column
pub data SetBreaks (w : Within) (columns : List (List ℕ × ColumnKind)) (p : List ℕ × SqlExp) (r : Refusal) : Type 0 where
  column_unknown : column_of p.0 columns ≡ None → Says r 7 p.0 [] → SetBreaks w columns p r
  value_misfits : (at : ℕ) (k : ColumnKind) → column_of p.0 columns ≡ Some (at, k) → MisfitsColumn w p.1.form k r → SetBreaks w columns p r

-- one of the columns that are set breaks its rule, or one is set twice
pub data SetsBreak (w : Within) (columns : List (List ℕ × ColumnKind)) (ps : List (List ℕ × SqlExp)) (r : Refusal) : Type 0 where
  in_set : (p : List ℕ × SqlExp) → Contains ps p → SetBreaks w columns p r → SetsBreak w columns ps r
  set_twice : (sets : List (ℕ × Scalar)) (n : ℕ) → all_of (set_at w columns) ps ≡ Some sets → repeated nat_eq (map set_number sets) ≡ Some n → Says r 8 (name_at columns n) [] → SetsBreak w columns ps r

-- the first column whose name is none of these
abbrev pub missing_name : List (List ℕ) → List (List ℕ × ColumnKind) → List ℕ
missing_name names [] = []
missing_name names (c ∷ rest) = if list_any (bytes_eq c.0) names then missing_name names rest else c.0

-- an INSERT has another number of values than of columns, or leaves a column out
pub data InsertBreaks (shape : TableShape) (columns : List (List ℕ)) (values : List SqlExp) (r : Refusal) : Type 0 where
  other_number : length columns ≢ length values → Says r 12 (decimal (length values)) (decimal (length columns)) → InsertBreaks shape columns values r
  column_missing : length columns ≢ length shape.columns → Says r 12 (codes "no value") (missing_name columns shape.columns) → InsertBreaks shape columns values r

-- A change of this table breaks a rule.
pub data ActBreaks (antiquotes : List ColumnKind) (t : ℕ × TableShape) (u : SqlChange) (r : Refusal) : Type 0 where
  in_sets : (w : Within) (ps : List (List ℕ × SqlExp)) → Sets antiquotes t u w ps → SetsBreak w t.1.columns ps r → ActBreaks antiquotes t u r
  in_insert : (p : Span) (x : DeclName) (columns : List (List ℕ)) (values : List SqlExp) → u ≡ change.Insert p x columns values → InsertBreaks t.1 columns values r → ActBreaks antiquotes t u r
  not_bool : (w : Within) (e : SqlExp) → ConditionOf antiquotes t u w e → Misfits w e.form kind.Bool r → ActBreaks antiquotes t u r

-- A change with these types of its antiquotes has a fault, as it is told.
pub data ChangeHasFault (m : List ℕ) (tables : Schema) (antiquotes : List ColumnKind) (u : SqlChange) (r : Refusal) : Type 0 where
  no_target : table_at m tables (target_of u) ≡ None → NoTable (target_of u) r → ChangeHasFault m tables antiquotes u r
  acts : (at : ℕ) (shape : TableShape) → table_at m tables (target_of u) ≡ Some (at, shape) → ActBreaks antiquotes (at, shape) u r → ChangeHasFault m tables antiquotes u r

-- what has a fault has no core
abbrev pub FaultyChangeIsNone : Type 0
FaultyChangeIsNone = (m : List ℕ) (tables : Schema) (antiquotes : List ColumnKind) (u : SqlChange) (r : Refusal) → ChangeHasFault m tables antiquotes u r → change_of m tables antiquotes u ≡ None

-- A change breaks a rule, or the type found of an antiquote is another one.
pub data ChangeBreaks (datatypes : Names) (m : List ℕ) (tables : Schema) (found : List Normal) (u : SqlChange) (r : Refusal) : Type 0 where
  change_antiquote : AntiquoteIsOther datatypes found r → ChangeBreaks datatypes m tables found u r
  change_faulty : (kinds : List ColumnKind) → all_of found_kind found ≡ Some kinds → ChangeHasFault m tables kinds u r → ChangeBreaks datatypes m tables found u r
