use Rattle.std.proofs.Common.{sym, ◌∙◌}
use Rattle.ur_parse_rules.proofs.Steps.{passed}
use Rattle.ur_parse_rules.proofs.Places.{name_moves, mark_moves, moves_on}
use Rattle.ur_parse_embed.proofs.Statements.{into_missing, insert_table, columns_open, column_missing, columns_refused, values_missing, values_open, value_refused, values_refused, insert_more, insert_read}
use Rattle.ur_parse_embed.proofs.change.insert.Goals as goal

pub returns-in_err-table_at-clause-refused : goal.returns-in_err-table_at-clause-refused
returns-in_err-table_at-clause-refused c = passed _ _ c.from_residual.ensures.1 c.in_err-table_at.ensures.refused (λ r h. into_missing c.requires h)

pub returns-in_err-table-clause-refused : goal.returns-in_err-table-clause-refused
returns-in_err-table-clause-refused c = passed _ _ c.from_residual-in_err-table.ensures.1 c.in_err-table.ensures.refused (λ r h. insert_table c.requires c.in_ok-table_at.ensures.found (h _))

pub returns-in_err-column_at-clause-refused : goal.returns-in_err-column_at-clause-refused
returns-in_err-column_at-clause-refused c = passed _ _ c.from_residual-in_err-column_at.ensures.1 c.in_err-column_at.ensures.refused (λ r h. columns_open c.requires c.in_ok-table_at.ensures.found c.in_ok-table.open_at (c.in_ok-table.ensures.found _) h)

pub returns-in_err-column-clause-refused : goal.returns-in_err-column-clause-refused
returns-in_err-column-clause-refused c = passed _ _ c.from_residual-in_err-column.ensures.1 c.in_err-column.ensures.refused (λ r h. column_missing c.requires c.in_ok-table_at.ensures.found c.in_ok-table.open_at (c.in_ok-table.ensures.found _) c.in_ok-column_at.ensures.found h)

pub returns-in_err-word-clause-refused : goal.returns-in_err-word-clause-refused
returns-in_err-word-clause-refused c = passed _ _ c.from_residual-in_err-word.ensures.1 c.in_err-word.ensures.refused (λ r h. columns_refused c.requires c.in_ok-table_at.ensures.found c.in_ok-table.open_at (c.in_ok-table.ensures.found _) c.in_ok-column_at.ensures.found c.in_ok-column.ensures.found (h _))

pub returns-in_err-parenthesis-clause-refused : goal.returns-in_err-parenthesis-clause-refused
returns-in_err-parenthesis-clause-refused c = passed _ _ c.from_residual-in_err-parenthesis.ensures.1 c.in_err-parenthesis.ensures.refused (λ r h. values_missing c.requires c.in_ok-table_at.ensures.found c.in_ok-table.open_at (c.in_ok-table.ensures.found _) c.in_ok-column_at.ensures.found c.in_ok-column.ensures.found c.in_ok-word.word (c.in_ok-word.ensures.found _) h)

pub returns-in_err-value_at-clause-refused : goal.returns-in_err-value_at-clause-refused
returns-in_err-value_at-clause-refused c = passed _ _ c.from_residual-in_err-value_at.ensures.1 c.in_err-value_at.ensures.refused (λ r h. values_open c.requires c.in_ok-table_at.ensures.found c.in_ok-table.open_at (c.in_ok-table.ensures.found _) c.in_ok-column_at.ensures.found c.in_ok-column.ensures.found c.in_ok-word.word (c.in_ok-word.ensures.found _) c.in_ok-parenthesis.ensures.found h)

pub returns-in_err-value-clause-refused : goal.returns-in_err-value-clause-refused
returns-in_err-value-clause-refused c = passed _ _ c.from_residual-in_err-value.ensures.1 c.in_err-value.ensures.refused (λ r h. value_refused c.requires c.in_ok-table_at.ensures.found c.in_ok-table.open_at (c.in_ok-table.ensures.found _) c.in_ok-column_at.ensures.found c.in_ok-column.ensures.found c.in_ok-word.word (c.in_ok-word.ensures.found _) c.in_ok-parenthesis.ensures.found c.in_ok-value_at.ensures.found h)

pub returns-in_err-end-clause-refused : goal.returns-in_err-end-clause-refused
returns-in_err-end-clause-refused c = passed _ _ c.from_residual-in_err-end.ensures.1 c.in_err-end.ensures.refused (λ r h. values_refused c.requires c.in_ok-table_at.ensures.found c.in_ok-table.open_at (c.in_ok-table.ensures.found _) c.in_ok-column_at.ensures.found c.in_ok-column.ensures.found c.in_ok-word.word (c.in_ok-word.ensures.found _) c.in_ok-parenthesis.ensures.found c.in_ok-value_at.ensures.found c.in_ok-value.values_at c.in_ok-value.ensures.found h)

pub returns-in_err-finished-clause-refused : goal.returns-in_err-finished-clause-refused
returns-in_err-finished-clause-refused c = passed _ _ c.from_residual-in_err-finished.ensures.1 c.in_err-finished.ensures.refused (λ r h. insert_more c.requires c.in_ok-table_at.ensures.found c.in_ok-table.open_at (c.in_ok-table.ensures.found _) c.in_ok-column_at.ensures.found c.in_ok-column.ensures.found c.in_ok-word.word (c.in_ok-word.ensures.found _) c.in_ok-parenthesis.ensures.found c.in_ok-value_at.ensures.found c.in_ok-value.values_at c.in_ok-value.ensures.found c.in_ok-end.end c.in_ok-end.ensures.found h.0 (sym c.change_goes_on.ensures ∙ h.1))

pub returns-clause-found : goal.returns-clause-found
returns-clause-found c = let s = c.span-covered.ensures in rw s (insert_read c.requires c.in_ok-table_at.ensures.found c.in_ok-table.open_at (c.in_ok-table.ensures.found _) c.in_ok-column_at.ensures.found c.in_ok-column.ensures.found c.in_ok-word.word (c.in_ok-word.ensures.found _) c.in_ok-parenthesis.ensures.found c.in_ok-value_at.ensures.found c.in_ok-value.values_at c.in_ok-value.ensures.found c.in_ok-end.end c.in_ok-end.ensures.found c.in_ok-columns.ensures.found c.in_ok-values.ensures.found (moves_on (mark_moves c.requires) (moves_on (mark_moves c.in_ok-table_at.ensures.found) (moves_on c.in_ok-table.ensures.moves (moves_on (mark_moves c.in_ok-column_at.ensures.found) (moves_on (name_moves c.in_ok-column.ensures.found) (moves_on c.in_ok-word.ensures.moves (moves_on (mark_moves c.in_ok-parenthesis.ensures.found) (moves_on (mark_moves c.in_ok-value_at.ensures.found) (moves_on c.in_ok-value.ensures.moves c.in_ok-end.ensures.moves))))))))) (sym c.change_goes_on.ensures ∙ c.in_ok-finished.ensures.found))
