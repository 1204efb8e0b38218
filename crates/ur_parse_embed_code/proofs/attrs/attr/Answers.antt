use Rattle.ur_parse_rules.proofs.Steps.{passed}
use Rattle.ur_parse_embed_code.proofs.Attributed.{attr_name, attr_equals, attr_refused, attr_read}
use Rattle.ur_parse_embed_code.proofs.attrs.attr.Goals as goal

pub returns-in_err-name-clause-refused : goal.returns-in_err-name-clause-refused
returns-in_err-name-clause-refused c = passed _ _ c.from_residual.ensures.1 c.in_err-name.ensures.refused (λ r h. attr_name c.args.tokens.now c.args.at h)

pub returns-in_err-begin-clause-refused : goal.returns-in_err-begin-clause-refused
returns-in_err-begin-clause-refused c = passed _ _ c.from_residual-in_err-begin.ensures.1 c.in_err-begin.ensures.refused (λ r h. attr_equals c.in_ok-name.ensures.found h)

pub returns-in_err-value-clause-refused : goal.returns-in_err-value-clause-refused
returns-in_err-value-clause-refused c = passed _ _ c.from_residual-in_err-value.ensures.1 c.in_err-value.ensures.refused (λ r h. attr_refused c.in_ok-name.ensures.found c.in_ok-begin.ensures.found h)

pub returns-clause-found : goal.returns-clause-found
returns-clause-found c = attr_read c.in_ok-name.ensures.found c.in_ok-begin.ensures.found c.in_ok-value.end c.in_ok-value.ensures.found
