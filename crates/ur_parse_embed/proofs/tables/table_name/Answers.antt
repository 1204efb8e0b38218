use Rattle.ur_parse_rules.proofs.Steps.{passed}
use Rattle.ur_parse_rules.proofs.Places.{name_moves, mark_moves, moves_on}
use Rattle.ur_parse_embed.proofs.Naming.{name_read_plain, name_missing, module_missing, module_dot, member_missing, member_read}
use Rattle.ur_parse_embed.proofs.tables.table_name.Goals as goal

pub returns-in_err-name-clause-refused : goal.returns-in_err-name-clause-refused
returns-in_err-name-clause-refused c = passed _ _ c.from_residual.ensures.1 c.in_err-name.ensures.refused (λ r h n. name_missing (c.sees.ensures.yes c.if-sees.true) h)

pub returns-in_ok-name-clause-found : goal.returns-in_ok-name-clause-found
returns-in_ok-name-clause-found c = λ n. let s = c.span-covered.ensures in rw s (name_read_plain c.in_ok-name.ensures.found (name_moves c.in_ok-name.ensures.found))

pub returns-in_err-module-clause-refused : goal.returns-in_err-module-clause-refused
returns-in_err-module-clause-refused c = passed _ _ c.from_residual-in_err-module.ensures.1 c.in_err-module.ensures.refused (λ r h n. module_missing (c.sees.ensures.no c.if-sees.false) h)

pub returns-in_err-begin-clause-refused : goal.returns-in_err-begin-clause-refused
returns-in_err-begin-clause-refused c = passed _ _ c.from_residual-in_err-begin.ensures.1 c.in_err-begin.ensures.refused (λ r h n. module_dot c.in_ok-module.ensures.found h)

pub returns-in_err-name-2-clause-refused : goal.returns-in_err-name-2-clause-refused
returns-in_err-name-2-clause-refused c = passed _ _ c.from_residual-in_err-name-2.ensures.1 c.in_err-name-2.ensures.refused (λ r h n. member_missing c.in_ok-module.ensures.found c.in_ok-begin.ensures.found h)

pub returns-in_ok-name-2-clause-found : goal.returns-in_ok-name-2-clause-found
returns-in_ok-name-2-clause-found c = λ n. let s = c.span-covered-else-sees.ensures in rw s (member_read c.in_ok-module.ensures.found c.in_ok-begin.ensures.found c.in_ok-name-2.ensures.found
    (moves_on (name_moves c.in_ok-module.ensures.found) (moves_on (mark_moves c.in_ok-begin.ensures.found) (name_moves c.in_ok-name-2.ensures.found))))
