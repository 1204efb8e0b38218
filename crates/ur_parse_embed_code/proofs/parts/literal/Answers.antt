use Rattle.ur_parse_rules.proofs.Steps.{passed}
use Rattle.ur_parse_embed_code.proofs.Elements.{literal_empty, no_literal, literal_parts, literal_open, literal_read}
use Rattle.ur_parse_embed_code.proofs.parts.literal.Goals as goal

pub returns-then-sees-clause-found : goal.returns-then-sees-clause-found
returns-then-sees-clause-found c = let e = c.new.ensures in rw e (literal_empty _ (c.sees.ensures.yes c.if-sees.true))

pub returns-in_err-begin-clause-refused : goal.returns-in_err-begin-clause-refused
returns-in_err-begin-clause-refused c = passed _ _ c.from_residual.ensures.1 c.in_err-begin.ensures.refused (λ r h. no_literal (c.sees.ensures.no c.if-sees.false) h)

pub returns-in_err-list-clause-refused : goal.returns-in_err-list-clause-refused
returns-in_err-list-clause-refused c = passed _ _ c.from_residual-in_err-list.ensures.1 c.in_err-list.ensures.refused (λ r h. literal_parts c.in_ok-begin.ensures.found h)

pub returns-in_err-end-clause-refused : goal.returns-in_err-end-clause-refused
returns-in_err-end-clause-refused c = passed _ _ c.from_residual-in_err-end.ensures.1 c.in_err-end.ensures.refused (λ r h. literal_open c.in_ok-begin.ensures.found c.in_ok-list.close c.in_ok-list.ensures.found h)

pub returns-in_ok-end-clause-found : goal.returns-in_ok-end-clause-found
returns-in_ok-end-clause-found c = literal_read c.in_ok-begin.ensures.found c.in_ok-list.close c.in_ok-list.ensures.found c.in_ok-end.ensures.found
