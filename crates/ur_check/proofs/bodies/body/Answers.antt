use Rattle.std.proofs.Common.{refl}
use Rattle.ur_check_scopes.proofs.Exits.{refused-exit}
use Rattle.ur_check_rules.specs.Views.{sites_in}
use Rattle.ur_typed.specs.Project.{env_at}
use Rattle.ur_typed.specs.Declaring.{world_behind, body_scope}
use Rattle.ur_check_heads.proofs.Entering.{prepared-seen}
use Rattle.ur_check.proofs.Bodying.{wanted, wanted-fault}
use Rattle.ur_check.proofs.bodies.body.Goals as goal

pub typed-requires : goal.typed-requires
typed-requires c =
    let home = c.requires.0 in
    let z = c.requires.1 in
    let h = c.requires.2 in
    let s = c.requires.3 in (
      world_behind 65536 z,
      body_scope h,
      c.around_body-around.ensures.stands home z h s (c.in_ok-scope.ensures (env_at z.place) h (c.in_scope-place.ensures (env_at z.place) (prepared-seen c.args.project.now home z s)) c.requires.4 c.requires.5) refl,
    )

pub returns-clause-typed : goal.returns-clause-typed
returns-clause-typed c = λ home z h s out is.
    wanted (world_behind 65536 z) c.args.function.now.body.form (body_scope h) (sites_in c.args.sites.now) h.head c.args.head.now _ is
    (c.in_ok-out.ensures.typed (world_behind 65536 z) (body_scope h)
    (c.around_body-around.ensures.stands home z h s (c.in_ok-scope.ensures (env_at z.place) h (c.in_scope-place.ensures (env_at z.place) (prepared-seen c.args.project.now home z s)) out is) refl))

pub returns-in_err-out-clause-refused : goal.returns-in_err-out-clause-refused
returns-in_err-out-clause-refused c =
    refused-exit c.from_residual-in_err-out.result c.in_err-out.field-0.0 c.from_residual-in_err-out.ensures.1
    (λ r k home z h s out is.
    wanted-fault c.args.project.now home z c.around_body-around.result.world.now (world_behind 65536 z) c.args.function.now.body.form (body_scope h) (sites_in c.args.sites.now) h.head c.args.head.now r s c.around_body-around.ensures.world is
    (k (world_behind 65536 z) (body_scope h)
    (c.around_body-around.ensures.stands home z h s (c.in_ok-scope.ensures (env_at z.place) h (c.in_scope-place.ensures (env_at z.place) (prepared-seen c.args.project.now home z s)) out is) refl)))
    c.in_err-out.ensures.refused
