use Rattle.std.proofs.Common.{refl}
use Rattle.ur_check_scopes.proofs.Exits.{refused-exit}
use Rattle.ur_check_walk.specs.declared.begun.Way.TheVariants as ways
use Rattle.ur_check_walk.proofs.Leading as leading
use Rattle.ur_check_walk.proofs.closed.left_closed.Goals as goal

pub returns-clause-comes : goal.returns-clause-comes
returns-clause-comes c =
    leading.left-closes c.args.around.now c.args.whole c.args.sides c.args.left (record { e = c.args.sides.right; wanted = c.in_ok-wanted.wanted }) c.in_ok-may_stand.ensures.ok refl c.in_ok-wanted.ensures

pub returns-in_err-may_stand-clause-refused : goal.returns-in_err-may_stand-clause-refused
returns-in_err-may_stand-clause-refused c =
    refused-exit c.from_residual.result c.in_err-may_stand.field-0.0 c.from_residual.ensures.1 (λ r h. leading.tells-way c.args.around.now c.args.whole (ways.Left c.args.sides) c.args.left r (leading.left-not-so c.args.around.now c.args.sides c.args.left r h)) c.in_err-may_stand.ensures.refused
