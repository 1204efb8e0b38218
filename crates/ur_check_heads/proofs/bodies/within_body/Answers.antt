use Rattle.std.proofs.Common.{refl, subst}
use Rattle.ur_check_scopes.specs.declared.locals.Locals.TheVariants as locals
use Rattle.ur_check_scopes.proofs.Finding.{Bound}
use Rattle.ur_check_scopes.proofs.Binders.{bound-is}
use Rattle.ur_check_heads.proofs.Entering.{body-stands}
use Rattle.ur_check_heads.proofs.bodies.within_body.Goals as goal

pub returns : goal.returns
returns c =
    body-stands c.args.project.now _ c.args.scope.now c.args.place.now refl c.over.ensures c.as_slice.ensures c.as_slice-2.ensures c.args.outside.now
    (subst (λ z. Bound (locals.Bound c.as_slice-3.result c.args.outside) z c.args.outside.now) c.as_slice-3.ensures (bound-is (locals.Bound c.as_slice-3.result c.args.outside) c.as_slice-3.result c.args.outside refl))
