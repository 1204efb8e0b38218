use Rattle.std.proofs.Common.{sym, subst, drop, ◌+◌, drop_of_length-le}
use Rattle.ur_check_scopes.specs.Views.{env_in}
use Rattle.ur_check_scopes.proofs.Exits.{refused-exit, refuses}
use Rattle.ur_check_scopes.proofs.Loops.{drop-here, drop-none}
use Rattle.ur_check_scopes.specs.Arguments.{BreaksMet, BreaksObligations}
use Rattle.ur_check_scopes.proofs.Giving.{MeetsAlong, meets-start, meets-past, meets-end, of-met}
use Rattle.ur_check_scopes.proofs.arguments.obligations_met.Goals as goal

pub loop-i-init : goal.loop-i-init
loop-i-init c = subst (MeetsAlong (env_in c.args.around.now.scope.cons) c.args.args.now c.args.cons.now) (sym (drop-none c.args.cons.now)) (meets-start (env_in c.args.around.now.scope.cons) c.args.args.now c.args.cons.now)

pub loop-i-preserved : goal.loop-i-preserved
loop-i-preserved c =
    meets-past (env_in c.args.around.now.scope.cons) c.args.args.now c.args.cons.now c.index-cons-i.result (drop (c.loop-i.i + 1) c.args.cons.now)
    (subst (MeetsAlong (env_in c.args.around.now.scope.cons) c.args.args.now c.args.cons.now) (drop-here c.args.cons.now c.loop-i.i c.index-cons-i.result c.loop-i-test.true c.index-cons-i.is) c.loop-i.invariant)
    c.in_ok-is_met.ensures.ok

pub returns-clause-ok : goal.returns-clause-ok
returns-clause-ok c = meets-end (env_in c.args.around.now.scope.cons) c.args.args.now c.args.cons.now (subst (MeetsAlong (env_in c.args.around.now.scope.cons) c.args.args.now c.args.cons.now) (drop_of_length-le c.args.cons.now c.loop-i-test.false) c.loop-i.invariant)

pub returns-in_err-is_met-clause-refused : goal.returns-in_err-is_met-clause-refused
returns-in_err-is_met-clause-refused c =
    refused-exit c.from_residual.result c.in_err-is_met.field-0.0 c.from_residual.ensures.1
    (refuses c.args.around.now.world.now.datatype_names (BreaksMet (env_in c.args.around.now.scope.cons).known c.args.args.now c.index-cons-i.result) (BreaksObligations (env_in c.args.around.now.scope.cons).known c.args.args.now c.args.cons.now)
    (of-met (env_in c.args.around.now.scope.cons) c.args.args.now c.args.cons.now c.index-cons-i.result (drop (c.loop-i.i + 1) c.args.cons.now)
    (subst (MeetsAlong (env_in c.args.around.now.scope.cons) c.args.args.now c.args.cons.now) (drop-here c.args.cons.now c.loop-i.i c.index-cons-i.result c.loop-i-test.true c.index-cons-i.is) c.loop-i.invariant)))
    c.in_err-is_met.ensures.refused
