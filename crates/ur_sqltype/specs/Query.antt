-- The typing of a query.
use Rattle.std.specs.Prelude.{◌^◌, ◌&&◌, ◌||◌, not, ℕ, ◌+◌, pos, Bool, true, false, if◌then◌else◌, nat_lt, nat_eq, List, [], ◌∷◌, ◌++◌, map, Option, Some, None, option_map, option_and_then, unwrap_or, option_to_list, slice_get, bytes_eq}
use Rattle.std.specs.List.{list_any, flat_map}
use Rattle.ur_base.specs.declared.names.Name.{Name}
use Rattle.ur_syntax.specs.declared.sql.SqlExp.{SqlExp}
use Rattle.ur_syntax.specs.declared.sql.Aggregate.{Aggregate as WrittenAggregate}
use Rattle.ur_syntax.specs.declared.sql.Aggregate.TheVariants as written
use Rattle.ur_syntax.specs.declared.sql.Selected.{Selected}
use Rattle.ur_syntax.specs.declared.sql.Selected.TheVariants as selected
use Rattle.ur_syntax.specs.declared.sql.Selection.{Selection}
use Rattle.ur_syntax.specs.declared.sql.Selection.TheVariants as selection
use Rattle.ur_syntax.specs.declared.sql.Direction.{Direction}
use Rattle.ur_syntax.specs.declared.sql.Direction.TheVariants as direction
use Rattle.ur_syntax.specs.declared.sql.FromItem.{FromItem}
use Rattle.ur_syntax.specs.declared.sql.OrderKey.{OrderKey as WrittenKey}
use Rattle.ur_syntax.specs.declared.sql.Limit.{Limit}
use Rattle.ur_syntax.specs.declared.sql.Limit.TheVariants as limit
use Rattle.ur_syntax.specs.declared.sql.SqlQuery.{SqlQuery}
use Rattle.ur_values.specs.declared.schema.ColumnKind.{ColumnKind}
use Rattle.ur_values.specs.declared.schema.ColumnKind.TheVariants as kind
use Rattle.ur_values.specs.declared.schema.Schema.{Schema}
use Rattle.ur_sql.specs.declared.scalar.Scalar.{Scalar, more_of-Scalar as one, end_of-Scalar as end}
use Rattle.ur_sql.specs.declared.scalar.Scalar.TheVariants as scalar
use Rattle.ur_sql.specs.declared.query.Query.{Query}
use Rattle.ur_sql.specs.declared.query.Item.{Item}
use Rattle.ur_sql.specs.declared.query.ColumnAt.{ColumnAt}
use Rattle.ur_sql.specs.declared.query.Field.{Field}
use Rattle.ur_sql.specs.declared.query.Field.TheVariants as field
use Rattle.ur_sql.specs.declared.query.Aggregate.{Aggregate}
use Rattle.ur_sql.specs.declared.query.Aggregate.TheVariants as aggregate
use Rattle.ur_sql.specs.declared.query.OrderKey.{OrderKey}
use Rattle.ur_sql.specs.declared.query.Bound.{Bound}
use Rattle.ur_sql.specs.declared.query.Bound.TheVariants as bound
use Rattle.ur_sql.specs.Answer.{is_aggregate}
use Rattle.ur_sqltype.specs.declared.scope.Source.{Source}
use Rattle.ur_sqltype.specs.declared.scope.Within.{Within}
use Rattle.ur_sqltype.specs.Scope.{named_at}
use Rattle.ur_sqltype.specs.Tables.{sources_of}
use Rattle.ur_sqltype.specs.Choice.{if_none, or_else, first_in}
use Rattle.ur_sqltype.specs.Expression.{Kinded, kinded, as_kind, is_optional}
use Rattle.ur_sqltype.specs.Lists.{all_of, maybe, repeated}

-- ---- parts, each there exactly where it has types

-- an expression of that type, or of any
abbrev pub of_kind : ColumnKind → Within → SqlExp → Option Scalar
of_kind k w e = option_and_then (as_kind k) (kinded w e.form)

abbrev pub of_some_kind : Within → SqlExp → Option Scalar
of_some_kind w e = option_map (λ x. x.0) (kinded w e.form)

-- where it is no option
abbrev pub if_basic : Kinded → Option Scalar
if_basic x = if is_optional x.1 then None else Some x.0

-- an expression of type int, string or bool
abbrev pub of_basic_kind : Within → SqlExp → Option Scalar
of_basic_kind w e = option_and_then if_basic (kinded w e.form)

-- the conditions behind ON, in order
abbrev pub on_of : FromItem → List SqlExp
on_of i = option_to_list i.on

abbrev pub ons_of : List FromItem → List SqlExp
ons_of = flat_map on_of

abbrev pub as_column : Scalar → Option ColumnAt
as_column (scalar.Column i c) = Some (record { item = i; column = c })
as_column _ = None

-- a column of some item
abbrev pub column_in : Within → SqlExp → Option ColumnAt
column_in w e = option_and_then as_column (of_some_kind w e)

-- SUM is of ints, MIN and MAX are of ints, strings and bools
abbrev pub aggregated : Within → WrittenAggregate → Option Aggregate
aggregated w written.Count = Some aggregate.Count
aggregated w (written.Sum e) = option_map aggregate.Sum (of_kind kind.Int w e)
aggregated w (written.Min e) = option_map aggregate.Min (of_basic_kind w e)
aggregated w (written.Max e) = option_map aggregate.Max (of_basic_kind w e)

abbrev pub is_descending : Direction → Bool
is_descending direction.Ascending = false
is_descending direction.Descending = true

abbrev pub ordered : Within → WrittenKey → Option OrderKey
ordered w k = option_map (λ x. record { by = x; descending = is_descending k.direction }) (of_some_kind w k.key)

abbrev pub int_param : ℕ → ColumnKind → Option Bound
int_param n kind.Int = Some (bound.Param n)
int_param n _ = None

abbrev pub limited : Within → Limit → Option Bound
limited w (limit.Int n) = if nat_lt n (2 ^ 63) then Some (bound.Is (pos n)) else None
limited w (limit.Anti n) = option_and_then (int_param n) (slice_get w.antiquotes n)

-- ---- the fields of the answer

-- a name by its number
abbrev pub name_number : List (List ℕ) → List ℕ → ℕ
name_number names a = unwrap_or (option_map (λ p. p.0) (named_at (λ n. n) (λ n. n) a names)) 0

abbrev pub name_of : List (List ℕ) → List ℕ → Name
name_of names a = record { 0 = name_number names a }

abbrev pub column_form : Selected → List SqlExp
column_form (selected.Column e) = e ∷ []
column_form _ = []

-- the columns that are selected as they are, where they are not all
abbrev pub selected_columns : List Selected → List SqlExp
selected_columns = flat_map column_form

abbrev pub is_column : ℕ → ℕ → ColumnAt → Bool
is_column i c at = nat_eq at.item i && nat_eq at.column c

abbrev pub same_column : ColumnAt → ColumnAt → Bool
same_column a b = is_column a.item a.column b

-- which columns are selected: all, or these
abbrev pub Chosen : Type 0
Chosen = Option (List ColumnAt)

abbrev pub is_chosen : Chosen → ℕ → ℕ → Bool
is_chosen None i c = true
is_chosen (Some ats) i c = list_any (is_column i c) ats

-- the selected columns of item `i`, from number `c` on, with the numbers of their names
abbrev pub columns_from : List (List ℕ) → Chosen → ℕ → ℕ → List (List ℕ × ColumnKind) → List (Name × ColumnAt)
columns_from names chosen i c [] = []
columns_from names chosen i c (a ∷ rest) =
    if is_chosen chosen i c then (name_of names a.0, record { item = i; column = c }) ∷ columns_from names chosen i (c + 1) rest else columns_from names chosen i (c + 1) rest

-- an alias of which columns are selected gives their record
abbrev pub alias_field : Name → List (Name × ColumnAt) → List Field
alias_field n [] = []
alias_field n (c ∷ cs) = field.Columns n (c ∷ cs) ∷ []

abbrev pub alias_fields : List (List ℕ) → Chosen → ℕ → List Source → List Field
alias_fields names chosen i [] = []
alias_fields names chosen i (s ∷ rest) = alias_field (name_of names s.alias) (columns_from names chosen i 0 s.columns) ++ alias_fields names chosen (i + 1) rest

abbrev pub named_form : Selected → List Selected
named_form (selected.Column e) = []
named_form s = s ∷ []

-- what is selected with an AS name
abbrev pub named_items : List Selected → List Selected
named_items = flat_map named_form

abbrev pub named_field : List (List ℕ) → Within → Selected → Option Field
named_field names w (selected.Column e) = None
named_field names w (selected.Named e a) = option_map (field.Single (name_of names a)) (of_some_kind w e)
named_field names w (selected.Aggregate span g a) = option_map (field.Over (name_of names a)) (aggregated w g)

abbrev pub field_number : Field → ℕ
field_number (field.Columns n cs) = n.0
field_number (field.Single n x) = n.0
field_number (field.Over n x) = n.0

-- by the numbers of the names, which are in byte order
abbrev pub with_field : Field → List Field → List Field
with_field f [] = f ∷ []
with_field f (g ∷ rest) = if nat_lt (field_number g) (field_number f) then g ∷ with_field f rest else f ∷ g ∷ rest

-- fields put in one by one, from the last on
abbrev pub in_order_on : List Field → List Field → List Field
in_order_on [] done = done
in_order_on (f ∷ fs) done = with_field f (in_order_on fs done)

abbrev pub in_order : List Field → List Field
in_order fs = in_order_on fs []

-- the columns that are selected, none twice
abbrev pub once_chosen : List ColumnAt → Option Chosen
once_chosen ats = if_none (repeated same_column ats) (Some ats)

abbrev pub chosen_of : Within → Selection → Option Chosen
chosen_of w selection.All = Some None
chosen_of w (selection.Items items) = option_and_then once_chosen (all_of (column_in w) (selected_columns items))

-- the fields that have AS names
abbrev pub named_of : List (List ℕ) → Within → Selection → Option (List Field)
named_of names w selection.All = Some []
named_of names w (selection.Items items) = all_of (named_field names w) (named_items items)

abbrev pub fields_with : List (List ℕ) → Within → Selection → Chosen → Option (List Field)
fields_with names w s chosen = option_map (λ named. in_order (alias_fields names chosen 0 w.sources ++ named)) (named_of names w s)

-- the fields of the answer, before names are compared
abbrev pub all_fields : List (List ℕ) → Within → Selection → Option (List Field)
all_fields names w s = option_and_then (fields_with names w s) (chosen_of w s)

abbrev pub once_named : List Field → Option (List Field)
once_named fs = if_none (repeated nat_eq (map field_number fs)) fs

-- the fields of the answer, no name of which comes twice
abbrev pub fields_of : List (List ℕ) → Within → Selection → Option (List Field)
fields_of names w s = option_and_then once_named (all_fields names w s)

-- ---- columns outside of aggregates

abbrev pub at_outside : List ColumnAt → ColumnAt → Option ColumnAt
at_outside group at = if list_any (same_column at) group then None else Some at

-- the first column of an expression that is none of these
abbrev pub outside_in : List ColumnAt → Scalar → Option ColumnAt
outside_in group (scalar.Constant x) = None
outside_in group (scalar.Column i c) = at_outside group (record { item = i; column = c })
outside_in group (scalar.Param n) = None
outside_in group (scalar.Or' _ (one a end) _ (one b end)) = or_else (outside_in group a) (outside_in group b)
outside_in group (scalar.And' _ (one a end) _ (one b end)) = or_else (outside_in group a) (outside_in group b)
outside_in group (scalar.Not' _ (one a end)) = outside_in group a
outside_in group (scalar.Compare' c _ (one a end) _ (one b end)) = or_else (outside_in group a) (outside_in group b)
outside_in group (scalar.Add' _ (one a end) _ (one b end)) = or_else (outside_in group a) (outside_in group b)
outside_in group (scalar.Sub' _ (one a end) _ (one b end)) = or_else (outside_in group a) (outside_in group b)
outside_in group (scalar.Mul' _ (one a end) _ (one b end)) = or_else (outside_in group a) (outside_in group b)
outside_in group (scalar.Neg' _ (one a end)) = outside_in group a
outside_in group (scalar.Null k) = None
outside_in group (scalar.Present' _ (one a end)) = outside_in group a

-- the same of a field, outside of an aggregate
abbrev pub field_outside : List ColumnAt → Field → Option ColumnAt
field_outside group (field.Columns n cs) = first_in (λ c. at_outside group c.1) cs
field_outside group (field.Single n x) = outside_in group x
field_outside group (field.Over n x) = None

abbrev pub key_outside : List ColumnAt → OrderKey → Option ColumnAt
key_outside group k = outside_in group k.by

abbrev pub is_empty : {A : Type 0} → List A → Bool
is_empty [] = true
is_empty (x ∷ xs) = false

-- GROUP BY or an aggregate stands in the query
abbrev pub is_grouped : Query → Bool
is_grouped c = list_any is_aggregate c.fields || not (is_empty c.group)

-- the first column outside of aggregates that is no GROUP BY column, in SELECT or ORDER BY, where the query is grouped
abbrev pub outside : Query → Option ColumnAt
outside c = if is_grouped c then or_else (first_in (field_outside c.group) c.fields) (first_in (key_outside c.group) c.order) else None

-- ---- the whole

-- the items of FROM, no two of one alias
abbrev pub once_aliased : List Source → Option (List Source)
once_aliased ss = if_none (repeated bytes_eq (map (λ s. s.alias) ss)) ss

abbrev pub items_of : List ℕ → Schema → List FromItem → Option (List Source)
items_of m tables items = option_and_then once_aliased (sources_of m tables items)

abbrev pub item_of : Source → Item
item_of s = record { table = s.table; columns = map (λ c. c.1) s.columns }

-- what is in scope in a query
abbrev pub reads : List Source → List ColumnKind → Within
reads sources antiquotes = record { sources = sources; bare = []; antiquotes = antiquotes }

-- a query of these items alone, which is given its parts one after the other
abbrev pub begun : Within → Query
begun w = record { params = w.antiquotes; fields = []; «from» = map item_of w.sources; on = []; filter = None; group = []; order = []; limit = None; offset = None }

abbrev pub with_on : Within → SqlQuery → Query → Option Query
with_on w q c = option_map (λ x. record c { on = x }) (all_of (of_kind kind.Bool w) (ons_of q.«from»))

abbrev pub with_filter : Within → SqlQuery → Query → Option Query
with_filter w q c = option_map (λ x. record c { filter = x }) (maybe (of_kind kind.Bool w) q.filter)

abbrev pub with_fields : List (List ℕ) → Within → SqlQuery → Query → Option Query
with_fields names w q c = option_map (λ x. record c { fields = x }) (fields_of names w q.selection)

abbrev pub with_group : Within → SqlQuery → Query → Option Query
with_group w q c = option_map (λ x. record c { group = x }) (all_of (column_in w) q.group)

abbrev pub with_order : Within → SqlQuery → Query → Option Query
with_order w q c = option_map (λ x. record c { order = x }) (all_of (ordered w) q.order)

abbrev pub with_limit : Within → SqlQuery → Query → Option Query
with_limit w q c = option_map (λ x. record c { limit = x }) (maybe (limited w) q.limit)

abbrev pub with_offset : Within → SqlQuery → Query → Option Query
with_offset w q c = option_map (λ x. record c { offset = x }) (maybe (limited w) q.offset)

-- ---- up to a part

abbrev pub to_filter : Within → SqlQuery → Option Query
to_filter w q = option_and_then (with_filter w q) (with_on w q (begun w))

abbrev pub to_fields : List (List ℕ) → Within → SqlQuery → Option Query
to_fields names w q = option_and_then (with_fields names w q) (to_filter w q)

abbrev pub to_group : List (List ℕ) → Within → SqlQuery → Option Query
to_group names w q = option_and_then (with_group w q) (to_fields names w q)

abbrev pub to_order : List (List ℕ) → Within → SqlQuery → Option Query
to_order names w q = option_and_then (with_order w q) (to_group names w q)

abbrev pub to_limit : List (List ℕ) → Within → SqlQuery → Option Query
to_limit names w q = option_and_then (with_limit w q) (to_order names w q)

-- the query with all its parts
abbrev pub stated : List (List ℕ) → Within → SqlQuery → Option Query
stated names w q = option_and_then (with_offset w q) (to_limit names w q)

-- with an aggregate or GROUP BY the columns outside of aggregates are GROUP BY columns
abbrev pub well_grouped : Query → Option Query
well_grouped c = if_none (outside c) c

-- the core query over these items
abbrev pub query_over : List (List ℕ) → List ColumnKind → SqlQuery → List Source → Option Query
query_over names antiquotes q sources = option_and_then well_grouped (stated names (reads sources antiquotes) q)

-- The core query of what is written in module `m`, over the tables and with these types of its antiquotes; none where a rule is
-- broken. `names` are the names of fields in byte order.
unfoldable pub query_of : List ℕ → Schema → List (List ℕ) → List ColumnKind → SqlQuery → Option Query
query_of m tables names antiquotes q = option_and_then (query_over names antiquotes q) (items_of m tables q.«from»)
