use Rattle.std.proofs.Common.{◌∙◌, sym}
use Rattle.ur_parse_rules.proofs.Steps.{passed}
use Rattle.ur_parse_rules.proofs.Places.{moves_on}
use Rattle.ur_parse_exp_parts.specs.Heads.{first}
use Rattle.ur_parse_exp_parts.proofs.Heads.{params_first, params_more, params_refused, params_done}
use Rattle.ur_parse_exp_parts.proofs.params.read_params.Goals as goal

pub returns-in_err-first-clause-refused : goal.returns-in_err-first-clause-refused
returns-in_err-first-clause-refused c = passed _ _ c.from_residual.ensures.1 c.in_err-first.ensures.refused (λ r h. first h)

pub params-init : goal.params-init
params-init c = let e = c.new-list.ensures in let p = c.in_ok-pushed.ensures.found in rw (p, e) (record { moves = c.in_ok-first.ensures.moves; params = params_first c.in_ok-first.first.end c.in_ok-first.ensures.found })

pub returns-in_err-next-clause-refused : goal.returns-in_err-next-clause-refused
returns-in_err-next-clause-refused c = passed _ _ c.from_residual-in_err-next.ensures.1 c.in_err-next.ensures.refused (λ r h. params_refused c.params.invariant.params (sym c.sees_param.ensures ∙ c.params-test.true) h)

pub params-preserved : goal.params-preserved
params-preserved c = let p = c.in_ok-pushed-2.ensures.found in rw p (record {
  moves = moves_on c.params.invariant.moves c.in_ok-next.ensures.moves;
  params = params_more c.params.invariant.params c.in_ok-next.next.end (sym c.sees_param.ensures ∙ c.params-test.true) c.in_ok-next.ensures.found;
})

pub returns-clause-found : goal.returns-clause-found
returns-clause-found c = params_done c.params.invariant.params (sym c.sees_param.ensures ∙ c.params-test.false)
