use Rattle.ur_parse_rules.proofs.Steps.{passed}
use Rattle.ur_parse_rules.proofs.Places.{mark_moves, name_moves}
use Rattle.ur_parse_con.proofs.Patterns.{no_string, string_form, int_form}
use Rattle.ur_parse_con.proofs.pattern.literal.Goals as goal

pub returns-in_err-text-clause-refused : goal.returns-in_err-text-clause-refused
returns-in_err-text-clause-refused c = λ o. passed _ _ c.from_residual.ensures.1 c.in_err-text.ensures.refused (λ r h n. no_string (c.sees.ensures.yes c.if-sees.true) h)

pub returns-in_ok-text-clause-moves : goal.returns-in_ok-text-clause-moves
returns-in_ok-text-clause-moves c = name_moves c.in_ok-text.ensures.found

pub returns-in_ok-text-clause-found : goal.returns-in_ok-text-clause-found
returns-in_ok-text-clause-found c = string_form (name_moves c.in_ok-text.ensures.found) c.in_ok-text.ensures.found

pub returns-in-Some-clause-moves : goal.returns-in-Some-clause-moves
returns-in-Some-clause-moves c = mark_moves c.in-Some.ensures

pub returns-in-Some-clause-found : goal.returns-in-Some-clause-found
returns-in-Some-clause-found c = int_form (mark_moves c.in-Some.ensures) c.in-Some.ensures

pub returns-in-None-clause-refused : goal.returns-in-None-clause-refused
returns-in-None-clause-refused c = λ o. c.word.ensures.refused o (record { string = c.sees.ensures.no c.if-sees.false; int = c.in-None.ensures })
