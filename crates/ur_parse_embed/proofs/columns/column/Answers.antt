use Rattle.ur_parse_rules.proofs.Steps.{passed}
use Rattle.ur_parse_rules.proofs.Places.{name_moves, mark_moves, moves_on}
use Rattle.ur_parse_embed.proofs.Columned.{table_missing, table_dot, table_field, table_dotted, table_read, no_column}
use Rattle.ur_parse_embed.proofs.columns.column.Goals as goal

pub returns-in_err-table-clause-refused : goal.returns-in_err-table-clause-refused
returns-in_err-table-clause-refused c = passed _ _ c.from_residual.ensures.1 c.in_err-table.ensures.refused (λ r h n. table_missing c.args.bare (c.sees.ensures.yes c.if-sees.true) h)

pub returns-in_err-begin-clause-refused : goal.returns-in_err-begin-clause-refused
returns-in_err-begin-clause-refused c = passed _ _ c.from_residual-in_err-begin.ensures.1 c.in_err-begin.ensures.refused (λ r h n. table_dot c.in_ok-table.ensures.found c.args.bare h)

pub returns-in_err-name-clause-refused : goal.returns-in_err-name-clause-refused
returns-in_err-name-clause-refused c = passed _ _ c.from_residual-in_err-name.ensures.1 c.in_err-name.ensures.refused (λ r h n. table_field c.in_ok-table.ensures.found c.in_ok-begin.ensures.found c.args.bare h)

pub returns-in_err-undotted-clause-refused : goal.returns-in_err-undotted-clause-refused
returns-in_err-undotted-clause-refused c = passed _ _ c.from_residual-in_err-undotted.ensures.1 c.in_err-undotted.ensures.refused (λ r h n. table_dotted c.in_ok-table.ensures.found c.in_ok-begin.ensures.found c.in_ok-name.ensures.found c.args.bare h.0 h.1)

pub returns-in_ok-undotted-clause-found : goal.returns-in_ok-undotted-clause-found
returns-in_ok-undotted-clause-found c = λ n. let e = c.named.ensures in let s = c.span-covered.ensures in rw (e, s) (table_read c.in_ok-table.ensures.found c.in_ok-begin.ensures.found c.in_ok-name.ensures.found c.args.bare
    (moves_on (name_moves c.in_ok-table.ensures.found) (moves_on (mark_moves c.in_ok-begin.ensures.found) (name_moves c.in_ok-name.ensures.found))) c.in_ok-undotted.ensures.found)

pub returns-in_err-first-clause-refused : goal.returns-in_err-first-clause-refused
returns-in_err-first-clause-refused c = passed _ _ c.from_residual-in_err-first.ensures.1 c.in_err-first.ensures.refused (λ r h n. no_column c.args.bare (c.sees.ensures.no c.if-sees.false) h)
