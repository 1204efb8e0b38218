use Rattle.ur_check_scopes.proofs.Exits.{refused-exit}
use Rattle.ur_check_rules.proofs.CalleesCalled.{gives-past, told-past}
use Rattle.ur_check_rules.proofs.values.with_arguments.Goals as goal

pub loop-con-preserved : goal.loop-con-preserved
loop-con-preserved c =
    gives-past c.args.around.now c.args.number c.args.back c.loop-con.back c.pop.new.self c.loop-con.applied c.in_ok-applied.applied c.in-Some.con c.in-Some.ensures c.loop-con.invariant
    c.in_ok-applied.ensures.at c.in_ok-applied.ensures.given c.in_ok-applied.ensures.ordered

pub returns-in_err-applied-clause-refused : goal.returns-in_err-applied-clause-refused
returns-in_err-applied-clause-refused c =
    refused-exit c.from_residual.result c.in_err-applied.field-0.0 c.from_residual.ensures.1
    (λ r h w s k. told-past c.args.around.now c.args.number c.args.back c.loop-con.back c.pop.new.self c.loop-con.applied c.in-Some.con c.in-Some.ensures c.loop-con.invariant c.args.around.now.world.now.datatype_names r h w s k)
    c.in_err-applied.ensures.refused
