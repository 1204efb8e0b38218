use Rattle.ur_check_scopes.specs.Views.{env_in}
use Rattle.ur_check_scopes.proofs.Exits.{refused-exit, refuses}
use Rattle.ur_typed.specs.DeclFaults.{BreaksHeadParams}
use Rattle.ur_check_heads.proofs.Fitting.{BreaksAt, judged-next, judged-broken}
use Rattle.ur_check_heads.proofs.heads.params_fit.Goals as goal

pub loop-i-preserved : goal.loop-i-preserved
loop-i-preserved c =
    judged-next (env_in c.args.around.now.scope.cons) c.args.written.now c.args.params.now c.loop-i.i c.index-written-i.result c.loop-i-test.true c.index-written-i.is c.in_ok-param_fits.ensures.ok c.loop-i.invariant

pub returns-in_err-param_fits-clause-refused : goal.returns-in_err-param_fits-clause-refused
returns-in_err-param_fits-clause-refused c =
    let env = env_in c.args.around.now.scope.cons in
    refused-exit c.from_residual.result c.in_err-param_fits.field-0.0 c.from_residual.ensures.1
    (refuses c.args.around.now.world.now.datatype_names (BreaksAt env c.index-written-i.result c.args.params.now c.loop-i.i) (BreaksHeadParams env c.args.written.now c.args.params.now)
    (judged-broken env c.args.written.now c.args.params.now c.loop-i.i c.index-written-i.result c.loop-i-test.true c.index-written-i.is c.loop-i.invariant))
    c.in_err-param_fits.ensures.refused
