use Rattle.ur_parse_rules.proofs.Steps.{passed}
use Rattle.ur_parse_rules.proofs.Places.{name_moves, mark_moves}
use Rattle.ur_parse_con.proofs.Binders.{ignored, variable, no_binder}
use Rattle.ur_parse_con.proofs.binder.read_binder.Goals as goal

pub returns-then-sees-clause-moves : goal.returns-then-sees-clause-moves
returns-then-sees-clause-moves c = mark_moves (c.sees.ensures.yes c.if-sees.true)

pub returns-then-sees-clause-found : goal.returns-then-sees-clause-found
returns-then-sees-clause-found c = λ n. ignored (c.sees.ensures.yes c.if-sees.true)

pub returns-in_err-name-clause-refused : goal.returns-in_err-name-clause-refused
returns-in_err-name-clause-refused c = passed _ _ c.from_residual.ensures.1 c.in_err-name.ensures.refused (λ r h n. no_binder (c.sees.ensures.no c.if-sees.false) h)

pub returns-in_ok-name-clause-moves : goal.returns-in_ok-name-clause-moves
returns-in_ok-name-clause-moves c = name_moves c.in_ok-name.ensures.found

pub returns-in_ok-name-clause-found : goal.returns-in_ok-name-clause-found
returns-in_ok-name-clause-found c = λ n. variable c.in_ok-name.ensures.found
