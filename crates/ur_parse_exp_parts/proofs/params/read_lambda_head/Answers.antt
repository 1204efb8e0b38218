use Rattle.ur_parse_rules.proofs.Steps.{passed}
use Rattle.ur_parse_exp_parts.proofs.Heads.{fn_missing, head_params, head_arrow}
use Rattle.ur_parse_exp_parts.proofs.params.read_lambda_head.Goals as goal

pub returns-in_err-begin-clause-refused : goal.returns-in_err-begin-clause-refused
returns-in_err-begin-clause-refused c = passed _ _ c.from_residual.ensures.1 c.in_err-begin.ensures.refused (λ r h. fn_missing h)

pub returns-in_err-params-clause-refused : goal.returns-in_err-params-clause-refused
returns-in_err-params-clause-refused c = passed _ _ c.from_residual-in_err-params.ensures.1 c.in_err-params.ensures.refused (λ r h. head_params c.in_ok-begin.ensures.found h)

pub returns-in_err-behind-clause-refused : goal.returns-in_err-behind-clause-refused
returns-in_err-behind-clause-refused c = passed _ _ c.from_residual-in_err-behind.ensures.1 c.in_err-behind.ensures.refused (λ r h. head_arrow c.in_ok-begin.ensures.found c.in_ok-params.params.end c.in_ok-params.ensures.found h)

pub returns-clause-found : goal.returns-clause-found
returns-clause-found c = record {
  begin = c.in_ok-begin.begin;
  end = c.in_ok-params.params.end;
  lambda = c.in_ok-begin.ensures.found;
  params = c.in_ok-params.ensures.found;
  arrow = c.in_ok-behind.ensures.found;
}
