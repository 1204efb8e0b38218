use Rattle.ur_check_scopes.specs.Views.{env_in}
use Rattle.ur_check_scopes.proofs.Exits.{refused-exit, refuses}
use Rattle.ur_check_scopes.proofs.Loops.{drop-here, drop-none}
use Rattle.std.proofs.Common.{sym, subst, drop, ◌+◌, drop_of_length-le}
use Rattle.ur_check_scopes.specs.Arguments.{BreaksParam, BreaksHaving, Leads}
use Rattle.ur_check_scopes.proofs.Giving.{leads-start, leads-past, of-param}
use Rattle.ur_check_scopes.proofs.arguments.past_parameters.Goals as goal

pub loop-i-init : goal.loop-i-init
loop-i-init c = subst (Leads (env_in c.args.around.now.scope.cons) c.args.given c.args.cons.now c.args.given) (sym (drop-none c.args.cons.now)) (leads-start (env_in c.args.around.now.scope.cons) c.args.given c.args.cons.now)

pub loop-i-preserved : goal.loop-i-preserved
loop-i-preserved c =
    leads-past (env_in c.args.around.now.scope.cons) c.args.given c.loop-i.left c.in_ok-left.left c.args.cons.now c.index-cons-i.result (drop (c.loop-i.i + 1) c.args.cons.now)
    (subst (Leads (env_in c.args.around.now.scope.cons) c.args.given c.args.cons.now c.loop-i.left) (drop-here c.args.cons.now c.loop-i.i c.index-cons-i.result c.loop-i-test.true c.index-cons-i.is) c.loop-i.invariant)
    c.in_ok-left.ensures.ok

pub returns-clause-ok : goal.returns-clause-ok
returns-clause-ok c = subst (Leads (env_in c.args.around.now.scope.cons) c.args.given c.args.cons.now c.loop-i.left) (drop_of_length-le c.args.cons.now c.loop-i-test.false) c.loop-i.invariant

pub returns-in_err-left-clause-refused : goal.returns-in_err-left-clause-refused
returns-in_err-left-clause-refused c =
    refused-exit c.from_residual.result c.in_err-left.field-0.0 c.from_residual.ensures.1
    (refuses c.args.around.now.world.now.datatype_names (BreaksParam (env_in c.args.around.now.scope.cons) c.loop-i.left c.index-cons-i.result) (BreaksHaving (env_in c.args.around.now.scope.cons) c.args.given c.args.cons.now)
    (of-param (env_in c.args.around.now.scope.cons) c.args.given c.loop-i.left c.args.cons.now c.index-cons-i.result (drop (c.loop-i.i + 1) c.args.cons.now)
    (subst (Leads (env_in c.args.around.now.scope.cons) c.args.given c.args.cons.now c.loop-i.left) (drop-here c.args.cons.now c.loop-i.i c.index-cons-i.result c.loop-i-test.true c.index-cons-i.is) c.loop-i.invariant)))
    c.in_err-left.ensures.refused
