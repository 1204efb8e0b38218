use Rattle.std.proofs.Common.{map}
use Rattle.ur_check_scopes.specs.Params.{BreaksAt, BreaksParameters}
use Rattle.ur_check_scopes.specs.Views.{env_in, local_in, param_in}
use Rattle.ur_check_scopes.proofs.Exits.{refused-exit, refuses}
use Rattle.ur_check_scopes.proofs.ArgumentsJudging.{judged-start, judged-next, judged-broken, judged-end, are-right}
use Rattle.ur_check_scopes.proofs.params.are_params.Goals as goal

pub loop-i-init : goal.loop-i-init
loop-i-init c = judged-start (env_in c.args.around.now.scope.cons) c.args.params.now c.args.locals.now

pub loop-i-preserved : goal.loop-i-preserved
loop-i-preserved c =
    judged-next (env_in c.args.around.now.scope.cons) c.args.params.now c.args.locals.now c.loop-i.i c.index-params-i.result c.loop-i-test.true c.index-params-i.is c.in_ok-is_param_at.ensures.ok c.loop-i.invariant

pub returns-clause-ok : goal.returns-clause-ok
returns-clause-ok c = λ names e.
    are-right (env_in c.args.around.now.scope.cons) 65536 names c.args.params.now (map local_in c.args.locals.now) (map param_in c.args.locals.now) e
    (judged-end (env_in c.args.around.now.scope.cons) c.args.params.now c.args.locals.now c.loop-i.i c.loop-i-test.false c.loop-i.invariant)

pub returns-in_err-is_param_at-clause-refused : goal.returns-in_err-is_param_at-clause-refused
returns-in_err-is_param_at-clause-refused c =
    refused-exit c.from_residual.result c.in_err-is_param_at.field-0.0 c.from_residual.ensures.1
    (refuses c.args.around.now.world.now.datatype_names (BreaksAt (env_in c.args.around.now.scope.cons) c.index-params-i.result c.args.locals.now c.loop-i.i) (BreaksParameters (env_in c.args.around.now.scope.cons) c.args.params.now (map param_in c.args.locals.now))
    (judged-broken (env_in c.args.around.now.scope.cons) c.args.params.now c.args.locals.now c.loop-i.i c.index-params-i.result c.loop-i-test.true c.index-params-i.is c.loop-i.invariant))
    c.in_err-is_param_at.ensures.refused
