-- SQL is read in one way.
use Rattle.std.specs.Prelude.{Bool, true, false, refl}
use Rattle.ur_parse_rules.proofs.Once.{Decided}
use Rattle.ur_parse_rules.specs.SqlParts.{SqlLevel, disjunction, conjunction, sum, product, SqlPart, sexp, left, operand, left_tail, left_step, negation, comparison, comparison_tail, is_rest, negative, atom, column, qualifier, anti, name, query, selection, selected, more_selected, aggregate, item, alias, more_items, filter, group, more_columns, order, order_key, direction, more_keys, limit, offset, amount, change, columns_end, values_end, assignment, more_assignments}
use Rattle.ur_parse_rules.specs.Quoted.{Quoting}
use Rattle.ur_parse_rules.specs.Parts.{of_sql}
use Rattle.ur_parse_rules.specs.Language.{language}
use Rattle.ur_parse_rules.proofs.Table.{Told, by_table}
use Rattle.ur_parse_rules.proofs.Choice.{choice}
use Rattle.ur_parse_rules.proofs.Special.{selected_decided}

left_told : (q : Quoting) (bare : Bool) (l : SqlLevel) → Told (of_sql q (left bare l))
left_told q true disjunction = refl
left_told q true conjunction = refl
left_told q true sum = refl
left_told q true product = refl
left_told q false disjunction = refl
left_told q false conjunction = refl
left_told q false sum = refl
left_told q false product = refl

operand_told : (q : Quoting) (bare : Bool) (l : SqlLevel) → Told (of_sql q (operand bare l))
operand_told q true disjunction = refl
operand_told q true conjunction = refl
operand_told q true sum = refl
operand_told q true product = refl
operand_told q false disjunction = refl
operand_told q false conjunction = refl
operand_told q false sum = refl
operand_told q false product = refl

left_tail_told : (q : Quoting) (bare : Bool) (l : SqlLevel) → Told (of_sql q (left_tail bare l))
left_tail_told q true disjunction = refl
left_tail_told q true conjunction = refl
left_tail_told q true sum = refl
left_tail_told q true product = refl
left_tail_told q false disjunction = refl
left_tail_told q false conjunction = refl
left_tail_told q false sum = refl
left_tail_told q false product = refl

left_step_told : (q : Quoting) (bare : Bool) (l : SqlLevel) → Told (of_sql q (left_step bare l))
left_step_told q true disjunction = refl
left_step_told q true conjunction = refl
left_step_told q true sum = refl
left_step_told q true product = refl
left_step_told q false disjunction = refl
left_step_told q false conjunction = refl
left_step_told q false sum = refl
left_step_told q false product = refl

sexp_told : (q : Quoting) (bare : Bool) → Told (of_sql q (sexp bare))
sexp_told q true = refl
sexp_told q false = refl

negation_told : (q : Quoting) (bare : Bool) → Told (of_sql q (negation bare))
negation_told q true = refl
negation_told q false = refl

comparison_told : (q : Quoting) (bare : Bool) → Told (of_sql q (comparison bare))
comparison_told q true = refl
comparison_told q false = refl

comparison_tail_told : (q : Quoting) (bare : Bool) → Told (of_sql q (comparison_tail bare))
comparison_tail_told q true = refl
comparison_tail_told q false = refl

negative_told : (q : Quoting) (bare : Bool) → Told (of_sql q (negative bare))
negative_told q true = refl
negative_told q false = refl

atom_told : (q : Quoting) (bare : Bool) → Told (of_sql q (atom bare))
atom_told q true = refl
atom_told q false = refl

column_told : (q : Quoting) (bare : Bool) → Told (of_sql q (column bare))
column_told q true = refl
column_told q false = refl

filter_told : (q : Quoting) (bare : Bool) → Told (of_sql q (filter bare))
filter_told q true = refl
filter_told q false = refl

pub sql_decided : (q : Quoting) (p : SqlPart) → Decided language choice (of_sql q p)
sql_decided q (sexp bare) = by_table choice (of_sql q (sexp bare)) (λ a k w h. h) refl (sexp_told q bare)
sql_decided q (left bare l) = by_table choice (of_sql q (left bare l)) (λ a k w h. h) refl (left_told q bare l)
sql_decided q (operand bare l) = by_table choice (of_sql q (operand bare l)) (λ a k w h. h) refl (operand_told q bare l)
sql_decided q (left_tail bare l) = by_table choice (of_sql q (left_tail bare l)) (λ a k w h. h) refl (left_tail_told q bare l)
sql_decided q (left_step bare l) = by_table choice (of_sql q (left_step bare l)) (λ a k w h. h) refl (left_step_told q bare l)
sql_decided q (negation bare) = by_table choice (of_sql q (negation bare)) (λ a k w h. h) refl (negation_told q bare)
sql_decided q (comparison bare) = by_table choice (of_sql q (comparison bare)) (λ a k w h. h) refl (comparison_told q bare)
sql_decided q (comparison_tail bare) = by_table choice (of_sql q (comparison_tail bare)) (λ a k w h. h) refl (comparison_tail_told q bare)
sql_decided q is_rest = by_table choice (of_sql q is_rest) (λ a k w h. h) refl refl
sql_decided q (negative bare) = by_table choice (of_sql q (negative bare)) (λ a k w h. h) refl (negative_told q bare)
sql_decided q (atom bare) = by_table choice (of_sql q (atom bare)) (λ a k w h. h) refl (atom_told q bare)
sql_decided q (column bare) = by_table choice (of_sql q (column bare)) (λ a k w h. h) refl (column_told q bare)
sql_decided q qualifier = by_table choice (of_sql q qualifier) (λ a k w h. h) refl refl
sql_decided q anti = by_table choice (of_sql q anti) (λ a k w h. h) refl refl
sql_decided q name = by_table choice (of_sql q name) (λ a k w h. h) refl refl
sql_decided q query = by_table choice (of_sql q query) (λ a k w h. h) refl refl
sql_decided q selection = by_table choice (of_sql q selection) (λ a k w h. h) refl refl
sql_decided q selected = selected_decided q
sql_decided q more_selected = by_table choice (of_sql q more_selected) (λ a k w h. h) refl refl
sql_decided q aggregate = by_table choice (of_sql q aggregate) (λ a k w h. h) refl refl
sql_decided q item = by_table choice (of_sql q item) (λ a k w h. h) refl refl
sql_decided q alias = by_table choice (of_sql q alias) (λ a k w h. h) refl refl
sql_decided q more_items = by_table choice (of_sql q more_items) (λ a k w h. h) refl refl
sql_decided q (filter bare) = by_table choice (of_sql q (filter bare)) (λ a k w h. h) refl (filter_told q bare)
sql_decided q group = by_table choice (of_sql q group) (λ a k w h. h) refl refl
sql_decided q more_columns = by_table choice (of_sql q more_columns) (λ a k w h. h) refl refl
sql_decided q order = by_table choice (of_sql q order) (λ a k w h. h) refl refl
sql_decided q order_key = by_table choice (of_sql q order_key) (λ a k w h. h) refl refl
sql_decided q direction = by_table choice (of_sql q direction) (λ a k w h. h) refl refl
sql_decided q more_keys = by_table choice (of_sql q more_keys) (λ a k w h. h) refl refl
sql_decided q limit = by_table choice (of_sql q limit) (λ a k w h. h) refl refl
sql_decided q offset = by_table choice (of_sql q offset) (λ a k w h. h) refl refl
sql_decided q amount = by_table choice (of_sql q amount) (λ a k w h. h) refl refl
sql_decided q change = by_table choice (of_sql q change) (λ a k w h. h) refl refl
sql_decided q columns_end = by_table choice (of_sql q columns_end) (λ a k w h. h) refl refl
sql_decided q values_end = by_table choice (of_sql q values_end) (λ a k w h. h) refl refl
sql_decided q assignment = by_table choice (of_sql q assignment) (λ a k w h. h) refl refl
sql_decided q more_assignments = by_table choice (of_sql q more_assignments) (λ a k w h. h) refl refl
