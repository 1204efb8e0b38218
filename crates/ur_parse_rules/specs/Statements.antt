-- The rules of SQL's queries and changes.
use Rattle.std.specs.Prelude.{ℕ, true, false, List, [], ◌∷◌, codes, Option, Some, None}
use Rattle.ur_base.specs.declared.refusal.Span.{Span}
use Rattle.ur_lex.specs.declared.token.Symbol.TheVariants as symbol
use Rattle.ur_lex.specs.declared.token.TokenKind.TheVariants as token
use Rattle.ur_lex.specs.Spelling.{Text}
use Rattle.ur_syntax.specs.declared.sql.SqlExp.{SqlExp}
use Rattle.ur_syntax.specs.declared.sql.DeclName.{DeclName}
use Rattle.ur_syntax.specs.declared.sql.SqlQuery.{SqlQuery}
use Rattle.ur_syntax.specs.declared.sql.SqlChange.{SqlChange}
use Rattle.ur_syntax.specs.declared.sql.SqlChange.TheVariants as changes
use Rattle.ur_syntax.specs.declared.sql.Selection.{Selection}
use Rattle.ur_syntax.specs.declared.sql.Selection.TheVariants as selections
use Rattle.ur_syntax.specs.declared.sql.Selected.{Selected}
use Rattle.ur_syntax.specs.declared.sql.Selected.TheVariants as select
use Rattle.ur_syntax.specs.declared.sql.Aggregate.{Aggregate}
use Rattle.ur_syntax.specs.declared.sql.Aggregate.TheVariants as aggregates
use Rattle.ur_syntax.specs.declared.sql.FromItem.{FromItem}
use Rattle.ur_syntax.specs.declared.sql.OrderKey.{OrderKey}
use Rattle.ur_syntax.specs.declared.sql.Direction.{Direction}
use Rattle.ur_syntax.specs.declared.sql.Direction.TheVariants as directions
use Rattle.ur_syntax.specs.declared.sql.Limit.{Limit}
use Rattle.ur_syntax.specs.declared.sql.Limit.TheVariants as limits
use Rattle.ur_syntax.specs.declared.sql.Assignment.{Assignment}
use Rattle.ur_parse_rules.specs.Rules.{name as named, number, Rule}
use Rattle.ur_parse_rules.specs.Places.{any}
use Rattle.ur_parse_rules.specs.Words.{is_field}
use Rattle.ur_parse_rules.specs.Quoted.{Quoting, Code, Quoted, plain, antiquote, mapped, both, and_then, cons, some}
use Rattle.ur_parse_rules.specs.SqlParts.{SqlPart, sexp, left, operand, left_tail, left_step, negation, comparison, comparison_tail, is_rest, negative, atom, column, qualifier, anti, name, query, selection, selected, more_selected, aggregate, item, alias, more_items, filter, group, more_columns, order, order_key, direction, more_keys, limit, offset, amount, change, columns_end, values_end, assignment, more_assignments}
use Rattle.ur_parse_rules.specs.Parts.{Tree, SqlTree}
use Rattle.ur_parse_rules.specs.Forms.{rule, spanned, symbol_mark, capital, sql_slot}
use Rattle.ur_parse_rules.specs.SqlExpressions.{sexp_rules, left_rules, left_tail_rules, operands, steps, negation_rules, comparison_rules, comparison_tail_rules, is_rest_rules, negative_rules, atom_rules, column_rules, qualifier_rules, anti_rules}

abbrev pub decl_name : Span → Option Text → Text → DeclName
decl_name span m x = record { span = span; «module» = m; name = x }

-- an aggregate of an expression
abbrev pub aggregate_rule : (q : Quoting) → Text → (SqlExp → Aggregate) → Rule Tree (Quoted (Code q) Aggregate)
aggregate_rule q w f = rule (capital w ∷ symbol_mark symbol.LParen ∷ sql_slot q (sexp false) ∷ symbol_mark symbol.RParen ∷ []) (λ (a, _). mapped f a)

abbrev pub renamed : Text → SqlExp → Selected
renamed x a = select.Named a x

abbrev pub aggregated : Span → Text → Aggregate → Selected
aggregated span x a = select.Aggregate span a x

-- an item of FROM after JOIN
abbrev pub on_condition : FromItem → SqlExp → FromItem
on_condition i a = record { span = i.span; table = i.table; alias = i.alias; on = Some a }

abbrev pub key_of : Direction → SqlExp → OrderKey
key_of d a = record { key = a; direction = d }

-- the clauses of a query
pub record Clauses : Type 0 where
  pub filter : Option SqlExp
  pub order : List OrderKey
  pub limit : Option Limit
  pub offset : Option Limit

abbrev pub clauses : Option SqlExp → List OrderKey → Option Limit → Option Limit → Clauses
clauses a ks l o = record { filter = a; order = ks; limit = l; offset = o }

abbrev pub query_with : Span → FromItem → List SqlExp → Selection → List FromItem → Clauses → SqlQuery
query_with span first columns what others cs =
    record { span = span; selection = what; «from» = first ∷ others; filter = cs.filter; group = columns; order = cs.order; limit = cs.limit; offset = cs.offset }

abbrev pub query_of : {E : Type 0} → Span → Quoted E Selection → FromItem → Quoted E (List FromItem) → Quoted E (Option SqlExp) → List SqlExp → Quoted E (List OrderKey) → Quoted E (Option Limit) → Quoted E (Option Limit) → Quoted E SqlQuery
query_of span what first others a columns ks l o = and_then (both (query_with span first columns) what others) (and_then (and_then (both clauses a ks) l) o)

abbrev pub assigned : Text → SqlExp → Assignment
assigned x a = record { column = x; value = a }

abbrev pub inserted : Span → DeclName → List Text → List SqlExp → SqlChange
inserted span table columns values = changes.Insert span table columns values

abbrev pub updated : Span → DeclName → List Assignment → Option SqlExp → SqlChange
updated span table as_ a = changes.Update span table as_ a

abbrev pub deleted : Span → DeclName → Option SqlExp → SqlChange
deleted span table a = changes.Delete span table a

abbrev pub sql_rules : (q : Quoting) (p : SqlPart) → List (Rule Tree (SqlTree q p))
sql_rules q (sexp bare) = sexp_rules q bare
sql_rules q (left bare l) = left_rules q bare l
sql_rules q (left_tail bare l) = left_tail_rules q bare l
sql_rules q (operand bare l) = operands q bare l
sql_rules q (left_step bare l) = steps q bare l
sql_rules q (negation bare) = negation_rules q bare
sql_rules q (comparison bare) = comparison_rules q bare
sql_rules q (comparison_tail bare) = comparison_tail_rules q bare
sql_rules q is_rest = is_rest_rules q
sql_rules q (negative bare) = negative_rules q bare
sql_rules q (atom bare) = atom_rules q bare
sql_rules q (column bare) = column_rules q bare
sql_rules q qualifier = qualifier_rules q
sql_rules q anti = anti_rules q
sql_rules q name =
    spanned (named token.Lower any ∷ []) (λ span (x, _). decl_name span None x) ∷
    spanned (named token.Upper any ∷ symbol_mark symbol.Dot ∷ named token.Lower any ∷ []) (λ span (m, (x, _)). decl_name span (Some m) x) ∷ []
sql_rules q query =
    spanned (capital (codes "SELECT") ∷ sql_slot q selection ∷ capital (codes "FROM") ∷ sql_slot q item ∷ sql_slot q more_items ∷ sql_slot q (filter false) ∷ sql_slot q group ∷ sql_slot q order ∷ sql_slot q limit ∷ sql_slot q offset ∷ [])
    (λ span (what, (first, (others, (a, (g, (ks, (l, (o, _)))))))). query_of span what first others a g ks l o) ∷ []
sql_rules q selection =
    rule (symbol_mark symbol.Star ∷ []) (λ _. plain selections.All) ∷
    rule (sql_slot q selected ∷ sql_slot q more_selected ∷ []) (λ (a, (as_, _)). mapped (λ l. selections.Items l) (both cons a as_)) ∷ []
sql_rules q selected =
    rule (sql_slot q (column false) ∷ []) (λ (a, _). plain (select.Column a)) ∷
    rule (sql_slot q (sexp false) ∷ capital (codes "AS") ∷ named token.Upper is_field ∷ []) (λ (a, (x, _)). mapped (renamed x) a) ∷
    spanned (sql_slot q aggregate ∷ capital (codes "AS") ∷ named token.Upper is_field ∷ []) (λ span (a, (x, _)). mapped (aggregated span x) a) ∷ []
sql_rules q more_selected =
    rule [] (λ _. plain []) ∷
    rule (symbol_mark symbol.Comma ∷ sql_slot q selected ∷ sql_slot q more_selected ∷ []) (λ (a, (as_, _)). both cons a as_) ∷ []
sql_rules q aggregate =
    rule (capital (codes "COUNT") ∷ symbol_mark symbol.LParen ∷ symbol_mark symbol.Star ∷ symbol_mark symbol.RParen ∷ []) (λ _. plain aggregates.Count) ∷
    aggregate_rule q (codes "SUM") (λ a. aggregates.Sum a) ∷ aggregate_rule q (codes "MIN") (λ a. aggregates.Min a) ∷ aggregate_rule q (codes "MAX") (λ a. aggregates.Max a) ∷ []
sql_rules q item = spanned (sql_slot q name ∷ sql_slot q alias ∷ []) (λ span (x, (a, _)). record { span = span; table = x; alias = a; on = None }) ∷ []
sql_rules q alias =
    rule [] (λ _. None) ∷
    rule (capital (codes "AS") ∷ named token.Upper is_field ∷ []) (λ (a, _). Some a) ∷ []
sql_rules q more_items =
    rule [] (λ _. plain []) ∷
    rule (symbol_mark symbol.Comma ∷ sql_slot q item ∷ sql_slot q more_items ∷ []) (λ (i, (is, _)). mapped (cons i) is) ∷
    rule (capital (codes "JOIN") ∷ sql_slot q item ∷ capital (codes "ON") ∷ sql_slot q (sexp false) ∷ sql_slot q more_items ∷ []) (λ (i, (a, (is, _))). both cons (mapped (on_condition i) a) is) ∷ []
sql_rules q (filter bare) =
    rule [] (λ _. plain None) ∷
    rule (capital (codes "WHERE") ∷ sql_slot q (sexp bare) ∷ []) (λ (a, _). mapped some a) ∷ []
sql_rules q group =
    rule [] (λ _. []) ∷
    rule (capital (codes "GROUP") ∷ capital (codes "BY") ∷ sql_slot q (column false) ∷ sql_slot q more_columns ∷ []) (λ (a, (as_, _)). a ∷ as_) ∷ []
sql_rules q more_columns =
    rule [] (λ _. []) ∷
    rule (symbol_mark symbol.Comma ∷ sql_slot q (column false) ∷ sql_slot q more_columns ∷ []) (λ (a, (as_, _)). a ∷ as_) ∷ []
sql_rules q order =
    rule [] (λ _. plain []) ∷
    rule (capital (codes "ORDER") ∷ capital (codes "BY") ∷ sql_slot q order_key ∷ sql_slot q more_keys ∷ []) (λ (k, (ks, _)). both cons k ks) ∷ []
sql_rules q order_key = rule (sql_slot q (sexp false) ∷ sql_slot q direction ∷ []) (λ (a, (d, _)). mapped (key_of d) a) ∷ []
sql_rules q direction =
    rule [] (λ _. directions.Ascending) ∷
    rule (capital (codes "ASC") ∷ []) (λ _. directions.Ascending) ∷
    rule (capital (codes "DESC") ∷ []) (λ _. directions.Descending) ∷ []
sql_rules q more_keys =
    rule [] (λ _. plain []) ∷
    rule (symbol_mark symbol.Comma ∷ sql_slot q order_key ∷ sql_slot q more_keys ∷ []) (λ (k, (ks, _)). both cons k ks) ∷ []
sql_rules q limit =
    rule [] (λ _. plain None) ∷
    rule (capital (codes "LIMIT") ∷ sql_slot q amount ∷ []) (λ (a, _). mapped some a) ∷ []
sql_rules q offset =
    rule [] (λ _. plain None) ∷
    rule (capital (codes "OFFSET") ∷ sql_slot q amount ∷ []) (λ (a, _). mapped some a) ∷ []
sql_rules q amount =
    rule (number ∷ []) (λ (n, _). plain (limits.Int n)) ∷
    rule (sql_slot q anti ∷ []) (λ (e, _). mapped (λ n. limits.Anti n) (antiquote e)) ∷ []
sql_rules q change =
    spanned (capital (codes "INSERT") ∷ capital (codes "INTO") ∷ sql_slot q name ∷ symbol_mark symbol.LParen ∷ named token.Upper is_field ∷ sql_slot q columns_end ∷ capital (codes "VALUES")
    ∷ symbol_mark symbol.LParen ∷ sql_slot q (sexp false) ∷ sql_slot q values_end ∷ [])
    (λ span (t, (x, (xs, (a, (as_, _))))). mapped (inserted span t (x ∷ xs)) (both cons a as_)) ∷
    spanned (capital (codes "UPDATE") ∷ sql_slot q name ∷ capital (codes "SET") ∷ sql_slot q assignment ∷ sql_slot q more_assignments ∷ sql_slot q (filter true) ∷ [])
    (λ span (t, (a, (as_, (f, _)))). both (updated span t) (both cons a as_) f) ∷
    spanned (capital (codes "DELETE") ∷ capital (codes "FROM") ∷ sql_slot q name ∷ sql_slot q (filter true) ∷ []) (λ span (t, (f, _)). mapped (deleted span t) f) ∷ []
sql_rules q columns_end =
    rule (symbol_mark symbol.RParen ∷ []) (λ _. []) ∷
    rule (symbol_mark symbol.Comma ∷ named token.Upper is_field ∷ sql_slot q columns_end ∷ []) (λ (x, (xs, _)). x ∷ xs) ∷ []
sql_rules q values_end =
    rule (symbol_mark symbol.RParen ∷ []) (λ _. plain []) ∷
    rule (symbol_mark symbol.Comma ∷ sql_slot q (sexp false) ∷ sql_slot q values_end ∷ []) (λ (a, (as_, _)). both cons a as_) ∷ []
sql_rules q assignment = rule (named token.Upper is_field ∷ symbol_mark symbol.Eq ∷ sql_slot q (sexp true) ∷ []) (λ (x, (a, _)). mapped (assigned x) a) ∷ []
sql_rules q more_assignments =
    rule [] (λ _. plain []) ∷
    rule (symbol_mark symbol.Comma ∷ sql_slot q assignment ∷ sql_slot q more_assignments ∷ []) (λ (a, (as_, _)). both cons a as_) ∷ []

-- expressions count for nesting
abbrev pub sql_cost : SqlPart → ℕ
sql_cost (sexp bare) = 1
sql_cost _ = 0
