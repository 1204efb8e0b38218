use Rattle.ur_parse_rules.proofs.Steps.{passed}
use Rattle.ur_parse_rules.proofs.Places.{mark_moves, moves_on}
use Rattle.ur_parse.proofs.Listed.{head_missing}
use Rattle.ur_parse.proofs.Constraints.{name_refused, no_unique, head_read}
use Rattle.ur_parse.proofs.keys.constraint_head.Goals as goal

pub returns-in_err-begin-clause-refused : goal.returns-in_err-begin-clause-refused
returns-in_err-begin-clause-refused c = passed _ _ c.from_residual.ensures.1 c.in_err-begin.ensures.refused (λ r h n. head_missing h)

pub returns-in_err-name-clause-refused : goal.returns-in_err-name-clause-refused
returns-in_err-name-clause-refused c = passed _ _ c.from_residual-in_err-name.ensures.1 c.in_err-name.ensures.refused (λ r h n. name_refused c.in_ok-begin.ensures.found (h n))

pub returns-in_err-end-clause-refused : goal.returns-in_err-end-clause-refused
returns-in_err-end-clause-refused c = passed _ _ c.from_residual-in_err-end.ensures.1 c.in_err-end.ensures.refused (λ r h n. no_unique c.in_ok-begin.ensures.found _ (c.in_ok-name.ensures.found n) h)

pub returns-clause-moves : goal.returns-clause-moves
returns-clause-moves c = moves_on (mark_moves c.in_ok-begin.ensures.found) (moves_on c.in_ok-name.ensures.moves (mark_moves c.in_ok-end.ensures.found))

pub returns-clause-found : goal.returns-clause-found
returns-clause-found c = λ n. head_read c.in_ok-begin.ensures.found _ (c.in_ok-name.ensures.found n) (moves_on (mark_moves c.in_ok-begin.ensures.found) (moves_on c.in_ok-name.ensures.moves (mark_moves c.in_ok-end.ensures.found))) c.in_ok-end.ensures.found
