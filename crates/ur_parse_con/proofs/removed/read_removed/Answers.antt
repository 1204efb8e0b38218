use Rattle.ur_parse_rules.proofs.Steps.{passed}
use Rattle.ur_parse_rules.proofs.Places.{mark_moves, name_moves, moves_on}
use Rattle.ur_parse_con.proofs.Removals.{hash_refused, hash_read, variable_refused, variable_read, literal_read, nothing_removed}
use Rattle.ur_parse_con.proofs.removed.read_removed.Goals as goal

pub returns-in_err-name-clause-refused : goal.returns-in_err-name-clause-refused
returns-in_err-name-clause-refused c = passed _ _ c.from_residual.ensures.1 c.in_err-name.ensures.refused (λ r h n. hash_refused (c.sees.ensures.yes c.if-sees.true) h)

pub returns-in_ok-name-clause-found : goal.returns-in_ok-name-clause-found
returns-in_ok-name-clause-found c = λ n. let s = c.span-covered.ensures in rw s (hash_read (moves_on (mark_moves (c.sees.ensures.yes c.if-sees.true)) (name_moves c.in_ok-name.ensures.found)) (c.sees.ensures.yes c.if-sees.true) c.in_ok-name.ensures.found)

pub returns-in_err-name-2-clause-refused : goal.returns-in_err-name-2-clause-refused
returns-in_err-name-2-clause-refused c = passed _ _ c.from_residual-in_err-name-2.ensures.1 c.in_err-name-2.ensures.refused (λ r h n. variable_refused (c.sees-else-sees.ensures.yes c.if-sees-2.true) h)

pub returns-in_ok-name-2-clause-found : goal.returns-in_ok-name-2-clause-found
returns-in_ok-name-2-clause-found c = λ n. let s = c.span-covered-then-sees-2.ensures in rw s (variable_read (name_moves c.in_ok-name-2.ensures.found) c.in_ok-name-2.ensures.found)

pub returns-in_err-name-3-clause-refused : goal.returns-in_err-name-3-clause-refused
returns-in_err-name-3-clause-refused c = passed _ _ c.from_residual-in_err-name-3.ensures.1 c.in_err-name-3.ensures.refused (λ r h n. nothing_removed (c.sees.ensures.no c.if-sees.false) (c.sees-else-sees.ensures.no c.if-sees-2.false) h)

pub returns-in_ok-name-3-clause-found : goal.returns-in_ok-name-3-clause-found
returns-in_ok-name-3-clause-found c = λ n. let s = c.span-covered-else-sees-2.ensures in rw s (literal_read (name_moves c.in_ok-name-3.ensures.found) c.in_ok-name-3.ensures.found)
