use Rattle.ur_check_scopes.specs.Views.{env_in}
use Rattle.ur_check_scopes.proofs.Exits.{refused-exit, refuses}
use Rattle.ur_sqltype.proofs.SqltableValues.{stands_there}
use Rattle.ur_check_heads.specs.Heading.{BreaksSides, BreaksCons, some_sides}
use Rattle.ur_check_heads.proofs.heads.cons_fit.Goals as goal

pub returns-in_err-sides_fit-clause-refused : goal.returns-in_err-sides_fit-clause-refused
returns-in_err-sides_fit-clause-refused c =
    let env = env_in c.args.around.now.scope.cons in
    refused-exit c.from_residual.result c.in_err-sides_fit.field-0.0 c.from_residual.ensures.1
    (refuses c.args.around.now.world.now.datatype_names (BreaksSides env c.index-cons-i.result) (BreaksCons env c.args.cons.now) (λ f b. some_sides (stands_there c.args.cons.now c.loop-i.i c.index-cons-i.result c.loop-i-test.true c.index-cons-i.is) b))
    c.in_err-sides_fit.ensures.refused
