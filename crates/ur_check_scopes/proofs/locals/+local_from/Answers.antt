use Rattle.std.proofs.Common.{subst}
use Rattle.ur_check_scopes.specs.Searching.{SoughtIn}
use Rattle.ur_check_scopes.proofs.Exits.{ok-along}
use Rattle.ur_check_scopes.proofs.Finding.{bound-here, lambda-here, lambda-behind}
use Rattle.ur_check_scopes.proofs.Binders.{bound-is, lambda-is}
use Rattle.ur_check_scopes.proofs.locals.+local_from.Goals as goal

pub returns-in-Here : goal.returns-in-Here
returns-in-Here t c =
    let x = c.args.name.now in
    bound-here x c.args.before c.args.hidden c.in-Bound.own.now c.args.locals.now c.in-Bound.around.now c.in-Here.place (bound-is c.args.locals.now c.in-Bound.own c.in-Bound.around c.in-Bound.is)
    (subst (λ z. SoughtIn x c.args.before c.args.hidden c.in-Bound.own.now z) c.in-Here.is c.in_ok-sought-in-Bound.ensures)

pub returns-in-Here-parameter : goal.returns-in-Here-parameter
returns-in-Here-parameter t c =
    let x = c.args.name.now in
    lambda-here x c.args.before c.args.hidden c.in-Lambda.own.now c.args.locals.now c.in-Lambda.around.now c.in-Here-parameter.place (lambda-is c.args.locals.now c.in-Lambda.own c.in-Lambda.around c.in-Lambda.is)
    (subst (λ z. SoughtIn x c.args.before c.args.hidden c.in-Lambda.own.now z) c.in-Here-parameter.is c.in_ok-parameter-in-Lambda.ensures)

pub returns-in-Behind-parameter : goal.returns-in-Behind-parameter
returns-in-Behind-parameter t c =
    let x = c.args.name.now in
    ok-along c.local_from-in-Behind-parameter.result
    (λ found. lambda-behind x c.args.before c.in-Behind-parameter.counts c.args.hidden c.in-Lambda.own.now c.args.locals.now c.in-Lambda.around.now found (lambda-is c.args.locals.now c.in-Lambda.own c.in-Lambda.around c.in-Lambda.is)
    (subst (λ z. SoughtIn x c.args.before c.args.hidden c.in-Lambda.own.now z) c.in-Behind-parameter.is c.in_ok-parameter-in-Lambda.ensures))
    c.local_from-in-Behind-parameter.ensures
