use Rattle.ur_parse_rules.proofs.Steps.{passed}
use Rattle.ur_parse_exp_parts.proofs.Heads.{typed_refused, typed_read, con_refused, con_read, bare_refused, bare_read}
use Rattle.ur_parse_exp_parts.proofs.params.read_lambda_param.Goals as goal

pub returns-in_err-param-clause-refused : goal.returns-in_err-param-clause-refused
returns-in_err-param-clause-refused c = passed _ _ c.from_residual.ensures.1 c.in_err-param.ensures.refused (λ r h. typed_refused (c.sees.ensures.yes c.if-sees.true) h)

pub returns-in_ok-param-clause-found : goal.returns-in_ok-param-clause-found
returns-in_ok-param-clause-found c = typed_read c.args.tokens.now c.args.at c.in_ok-param.param.end c.in_ok-param.ensures.found

pub returns-in_err-param-2-clause-refused : goal.returns-in_err-param-2-clause-refused
returns-in_err-param-2-clause-refused c = passed _ _ c.from_residual-in_err-param-2.ensures.1 c.in_err-param-2.ensures.refused (λ r h. con_refused (c.sees-else-sees.ensures.yes c.if-sees-2.true) h)

pub returns-in_ok-param-2-clause-found : goal.returns-in_ok-param-2-clause-found
returns-in_ok-param-2-clause-found c = con_read c.args.tokens.now c.args.at c.in_ok-param-2.param.end c.in_ok-param-2.ensures.found

pub returns-in_err-binder-clause-refused : goal.returns-in_err-binder-clause-refused
returns-in_err-binder-clause-refused c = passed _ _ c.from_residual-in_err-binder.ensures.1 c.in_err-binder.ensures.refused (λ r h. bare_refused (c.sees.ensures.no c.if-sees.false) (c.sees-else-sees.ensures.no c.if-sees-2.false) (h _))

pub returns-in_ok-binder-clause-found : goal.returns-in_ok-binder-clause-found
returns-in_ok-binder-clause-found c = bare_read c.args.tokens.now c.args.at c.in_ok-binder.end (c.in_ok-binder.ensures.found _)
