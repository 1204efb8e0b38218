use Rattle.ur_parse_rules.proofs.Steps.{passed}
use Rattle.ur_parse_embed_code.proofs.Tagged.{field_none, name_refused, field_open, field_read, field_twice}
use Rattle.ur_parse_embed_code.proofs.tags.tag_field.Goals as goal

pub returns-in_err-field-clause-refused : goal.returns-in_err-field-clause-refused
returns-in_err-field-clause-refused c = passed _ _ c.from_residual.ensures.1 c.in_err-field.ensures.refused (λ r h n. name_refused (c.sees.ensures.yes c.if-sees.true) (h n))

pub returns-in_err-end-clause-refused : goal.returns-in_err-end-clause-refused
returns-in_err-end-clause-refused c = passed _ _ c.from_residual-in_err-end.ensures.1 c.in_err-end.ensures.refused (λ r h n. field_open (c.sees.ensures.yes c.if-sees.true) c.in_ok-field.brace (c.in_ok-field.ensures.found n) h)

pub returns-in_err-absent-clause-refused : goal.returns-in_err-absent-clause-refused
returns-in_err-absent-clause-refused c = passed _ _ c.from_residual-in_err-absent.ensures.1 c.in_err-absent.ensures.refused (λ r h n. field_twice (c.sees.ensures.yes c.if-sees.true) c.in_ok-field.brace (c.in_ok-field.ensures.found n) c.in_ok-end.ensures.found h)

pub returns-in_ok-absent-clause-found : goal.returns-in_ok-absent-clause-found
returns-in_ok-absent-clause-found c = λ n. field_read (c.sees.ensures.yes c.if-sees.true) c.in_ok-field.brace (c.in_ok-field.ensures.found n) c.in_ok-end.ensures.found c.in_ok-absent.ensures.found

pub returns-else-sees-clause-found : goal.returns-else-sees-clause-found
returns-else-sees-clause-found c = λ n. field_none (c.sees.ensures.no c.if-sees.false)
