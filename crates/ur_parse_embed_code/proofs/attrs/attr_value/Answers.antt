use Rattle.ur_parse_rules.proofs.Steps.{passed}
use Rattle.ur_parse_rules.proofs.Places.{name_moves}
use Rattle.ur_parse_embed_code.proofs.Attributed.{text_value, text_refused, no_value, code_refused, code_open, code_value}
use Rattle.ur_parse_embed_code.proofs.attrs.attr_value.Goals as goal

pub returns-in_err-text-clause-refused : goal.returns-in_err-text-clause-refused
returns-in_err-text-clause-refused c = passed _ _ c.from_residual.ensures.1 c.in_err-text.ensures.refused (λ r h. text_refused (c.sees.ensures.yes c.if-sees.true) h)

pub returns-in_ok-text-clause-moves : goal.returns-in_ok-text-clause-moves
returns-in_ok-text-clause-moves c = name_moves c.in_ok-text.ensures.found

pub returns-in_ok-text-clause-found : goal.returns-in_ok-text-clause-found
returns-in_ok-text-clause-found c = text_value _ c.in_ok-text.ensures.found

pub returns-in_err-begin-clause-refused : goal.returns-in_err-begin-clause-refused
returns-in_err-begin-clause-refused c = passed _ _ c.from_residual-in_err-begin.ensures.1 c.in_err-begin.ensures.refused (λ r h. no_value (c.sees.ensures.no c.if-sees.false) h)

pub returns-in_err-number-clause-refused : goal.returns-in_err-number-clause-refused
returns-in_err-number-clause-refused c = passed _ _ c.from_residual-in_err-number.ensures.1 c.in_err-number.ensures.refused (λ r h. code_refused c.in_ok-begin.ensures.found (h _))

pub returns-in_err-end-clause-refused : goal.returns-in_err-end-clause-refused
returns-in_err-end-clause-refused c = passed _ _ c.from_residual-in_err-end.ensures.1 c.in_err-end.ensures.refused (λ r h. code_open c.in_ok-begin.ensures.found c.in_ok-number.brace (c.in_ok-number.ensures.found.read _) h)

pub returns-in_ok-end-clause-found : goal.returns-in_ok-end-clause-found
returns-in_ok-end-clause-found c = code_value c.in_ok-begin.ensures.found c.in_ok-number.ensures.found c.in_ok-end.ensures.found
