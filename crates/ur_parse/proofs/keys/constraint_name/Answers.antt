use Rattle.ur_parse_rules.proofs.Steps.{passed}
use Rattle.ur_parse_rules.proofs.Places.{name_moves}
use Rattle.ur_parse.proofs.Constraints.{lower_name, upper_name, no_lower, nameless}
use Rattle.ur_parse.proofs.keys.constraint_name.Goals as goal

pub returns-in_err-name-clause-refused : goal.returns-in_err-name-clause-refused
returns-in_err-name-clause-refused c = passed _ _ c.from_residual.ensures.1 c.in_err-name.ensures.refused (λ r h n. no_lower (c.sees.ensures.yes c.if-sees.true) h)

pub returns-in_ok-name-clause-moves : goal.returns-in_ok-name-clause-moves
returns-in_ok-name-clause-moves c = name_moves c.in_ok-name.ensures.found

pub returns-in_ok-name-clause-found : goal.returns-in_ok-name-clause-found
returns-in_ok-name-clause-found c = λ n. lower_name c.in_ok-name.ensures.found

pub returns-in_err-name-2-clause-refused : goal.returns-in_err-name-2-clause-refused
returns-in_err-name-2-clause-refused c = passed _ _ c.from_residual-in_err-name-2.ensures.1 c.in_err-name-2.ensures.refused (λ r h n. nameless (c.sees.ensures.no c.if-sees.false) h)

pub returns-in_ok-name-2-clause-moves : goal.returns-in_ok-name-2-clause-moves
returns-in_ok-name-2-clause-moves c = name_moves c.in_ok-name-2.ensures.found

pub returns-in_ok-name-2-clause-found : goal.returns-in_ok-name-2-clause-found
returns-in_ok-name-2-clause-found c = λ n. upper_name c.in_ok-name-2.ensures.found
