use Rattle.ur_parse_rules.proofs.Steps.{passed, made}
use Rattle.ur_parse_rules.proofs.Places.{mark_moves, name_moves, moves_on}
use Rattle.ur_parse_con.proofs.Binders.{stays_on}
use Rattle.ur_parse_con.proofs.Patterns.{wild_refused, wild_form, no_variable, variable_refused, variable_form, nil_refused, nil_form, minus_refused, negative_form}
use Rattle.ur_parse_con.proofs.pattern.form.Goals as goal

pub returns-in_err-second-clause-refused : goal.returns-in_err-second-clause-refused
returns-in_err-second-clause-refused c = passed _ _ c.from_residual.ensures.1 c.in_err-second.ensures.refused (λ r h n. wild_refused (c.sees.ensures.yes c.if-sees.true) (h n))

pub returns-in_ok-second-clause-moves : goal.returns-in_ok-second-clause-moves
returns-in_ok-second-clause-moves c = stays_on (mark_moves (c.sees.ensures.yes c.if-sees.true)) c.in_ok-second.ensures.stays

pub returns-in_ok-second-clause-found : goal.returns-in_ok-second-clause-found
returns-in_ok-second-clause-found c = let e = c.wild.ensures in rw e (wild_form (c.sees.ensures.yes c.if-sees.true) _ (stays_on (mark_moves (c.sees.ensures.yes c.if-sees.true)) c.in_ok-second.ensures.stays) c.in_ok-second.ensures.found)

pub returns-in_err-name-clause-refused : goal.returns-in_err-name-clause-refused
returns-in_err-name-clause-refused c = passed _ _ c.from_residual-in_err-name.ensures.1 c.in_err-name.ensures.refused (λ r h n. no_variable (c.sees-else-sees.ensures.yes c.if-sees-2.true) h)

pub returns-in_err-second-2-clause-refused : goal.returns-in_err-second-2-clause-refused
returns-in_err-second-2-clause-refused c = passed _ _ c.from_residual-in_err-second-2.ensures.1 c.in_err-second-2.ensures.refused (λ r h n. variable_refused c.in_ok-name.ensures.found (h n))

pub returns-in_ok-second-2-clause-moves : goal.returns-in_ok-second-2-clause-moves
returns-in_ok-second-2-clause-moves c = stays_on (name_moves c.in_ok-name.ensures.found) c.in_ok-second-2.ensures.stays

pub returns-in_ok-second-2-clause-found : goal.returns-in_ok-second-2-clause-found
returns-in_ok-second-2-clause-found c = let e = c.variable.ensures in rw e (variable_form c.in_ok-name.ensures.found _ (stays_on (name_moves c.in_ok-name.ensures.found) c.in_ok-second-2.ensures.stays) c.in_ok-second-2.ensures.found)

pub returns-in_err-end-clause-refused : goal.returns-in_err-end-clause-refused
returns-in_err-end-clause-refused c = passed _ _ c.from_residual-in_err-end.ensures.1 c.in_err-end.ensures.refused (λ r h n. nil_refused (c.sees-else-sees-2.ensures.yes c.if-sees-3.true) h)

pub returns-in_ok-end-clause-moves : goal.returns-in_ok-end-clause-moves
returns-in_ok-end-clause-moves c = moves_on (mark_moves (c.sees-else-sees-2.ensures.yes c.if-sees-3.true)) (mark_moves c.in_ok-end.ensures.found)

pub returns-in_ok-end-clause-found : goal.returns-in_ok-end-clause-found
returns-in_ok-end-clause-found c = nil_form (c.sees-else-sees-2.ensures.yes c.if-sees-3.true) (moves_on (mark_moves (c.sees-else-sees-2.ensures.yes c.if-sees-3.true)) (mark_moves c.in_ok-end.ensures.found)) c.in_ok-end.ensures.found

pub returns-in-Some-clause-moves : goal.returns-in-Some-clause-moves
returns-in-Some-clause-moves c = moves_on (mark_moves (c.sees-else-sees-3.ensures.yes c.if-sees-4.true)) (mark_moves c.in-Some.ensures)

pub returns-in-Some-clause-found : goal.returns-in-Some-clause-found
returns-in-Some-clause-found c = negative_form (c.sees-else-sees-3.ensures.yes c.if-sees-4.true) (moves_on (mark_moves (c.sees-else-sees-3.ensures.yes c.if-sees-4.true)) (mark_moves c.in-Some.ensures)) c.in-Some.ensures

pub returns-in-None-clause-refused : goal.returns-in-None-clause-refused
returns-in-None-clause-refused c = made _ c.unexpected.ensures (λ r s n. minus_refused (c.sees-else-sees-3.ensures.yes c.if-sees-4.true) s c.in-None.ensures)

pub returns-else-sees-4-clause-refused : goal.returns-else-sees-4-clause-refused
returns-else-sees-4-clause-refused c = c.literal.ensures.refused (record { underscore = c.sees.ensures.no c.if-sees.false; variable = c.sees-else-sees.ensures.no c.if-sees-2.false; bracket = c.sees-else-sees-2.ensures.no c.if-sees-3.false; minus = c.sees-else-sees-3.ensures.no c.if-sees-4.false })
