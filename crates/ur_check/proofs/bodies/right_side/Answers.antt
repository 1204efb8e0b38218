use Rattle.std.proofs.Common.{sym, ap, ◌∙◌}
use Rattle.ur_tree.specs.IsStatic.{is_static}
use Rattle.ur_check_scopes.proofs.Exits.{refused-exit}
use Rattle.ur_check_rules.specs.Views.{sites_in}
use Rattle.ur_typed_rules.specs.Scopes.{wants}
use Rattle.ur_typed.specs.Declaring.{world_behind, top_scope}
use Rattle.ur_check.specs.Views.{has_fault}
use Rattle.ur_check.proofs.Bodying.{named-fault, moves-told}
use Rattle.ur_check.proofs.bodies.right_side.Goals as goal

pub typed-requires : goal.typed-requires
typed-requires c = (world_behind 65536 c.requires.1, top_scope c.requires.1, c.top-around.ensures.stands c.requires.0 c.requires.1 c.requires.2)

pub returns-in_err-out-clause-refused : goal.returns-in_err-out-clause-refused
returns-in_err-out-clause-refused c =
    refused-exit c.from_residual.result c.in_err-out.field-0.0 c.from_residual.ensures.1
    (λ r k home z s.
    has_fault (named-fault c.args.project.now home z c.top-around.result.world.now (world_behind 65536 z) c.args.e.now.form (top_scope z) (sites_in c.args.sites.now) (wants c.args.of.now) r s c.top-around.ensures.world
    (k (world_behind 65536 z) (top_scope z) (c.top-around.ensures.stands home z s))))
    c.in_err-out.ensures.refused

pub returns-then-is_static-clause-typed : goal.returns-then-is_static-clause-typed
returns-then-is_static-clause-typed c = λ home z s. c.in_ok-out.ensures.typed (world_behind 65536 z) (top_scope z) (c.top-around.ensures.stands home z s)

pub returns-clause-refused : goal.returns-clause-refused
returns-clause-refused c =
    moves-told c.args.project.now c.not_so.result c.args.e.now c.args.of.now c.args.sites.now c.typed.new.sites c.in_ok-out.out c.not_so.ensures
    (λ home z s. c.in_ok-out.ensures.typed (world_behind 65536 z) (top_scope z) (c.top-around.ensures.stands home z s)) (sym (c.is_static.ensures ∙ ap is_static c.get.ensures) ∙ c.if-is_static.false)
