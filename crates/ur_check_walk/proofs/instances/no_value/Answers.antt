use Rattle.std.proofs.Common.{IfOk, subst}
use Rattle.ur_check_scopes.specs.Views.{StandsFor, locals_in, values_in, fixed_in}
use Rattle.ur_check_rules.proofs.Naming.{free-there}
use Rattle.ur_check_walk.proofs.Passing.{local-named}
use Rattle.ur_check_walk.proofs.instances.no_value.Goals as goal

pub returns-in-Some : goal.returns-in-Some
returns-in-Some c =
    let a = c.args.around.now in
    local-named a c.args.x.now c.in-Ok.found c.in-Some._place c.not_named.result c.in-Some.is
    (subst (λ z. IfOk z (StandsFor c.args.x.now 0 0 (locals_in a.scope.locals) (values_in a.scope.locals) (fixed_in a.scope.locals))) c.in-Ok.is c.local_at-sought.ensures) c.not_named.ensures

pub returns-in-None : goal.returns-in-None
returns-in-None c =
    let a = c.args.around.now in
    let held = subst (λ z. IfOk z (StandsFor c.args.x.now 0 0 (locals_in a.scope.locals) (values_in a.scope.locals) (fixed_in a.scope.locals))) c.in-Ok.is c.local_at-sought.ensures in
    λ w s st. c.undeclared.ensures w s st (free-there a c.args.x.now c.in-Ok.found c.in-None.is held w s st)
