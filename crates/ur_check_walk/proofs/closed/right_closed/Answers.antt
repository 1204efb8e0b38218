use Rattle.ur_check_scopes.proofs.Exits.{refused-exit}
use Rattle.ur_check_walk.specs.declared.begun.Way.TheVariants as ways
use Rattle.ur_check_walk.proofs.Leading as leading
use Rattle.ur_check_rules.specs.Views.{operation_in}
use Rattle.ur_check_walk.proofs.closed.right_closed.Goals as goal

pub returns-clause-comes : goal.returns-clause-comes
returns-clause-comes c =
    leading.closes-whole c.args.around.now c.args.whole (ways.Right c.args.sides c.args.left) c.args.right c.in_ok-made.made c.in_ok-whole.whole (leading.right-gives c.args.around.now c.args.sides c.args.left c.args.right c.in_ok-made.made c.operator_of-op.result (operation_in c.operation_of-asked.result) c.operator_of-op.ensures c.operation_of-asked.ensures c.in_ok-made.ensures.joined) c.in_ok-whole.ensures.accepted

pub returns-in_err-whole-clause-refused : goal.returns-in_err-whole-clause-refused
returns-in_err-whole-clause-refused c =
    refused-exit c.from_residual-in_err-whole.result c.in_err-whole.field-0.0 c.from_residual-in_err-whole.ensures.1 (λ r h. leading.tells-accepted c.args.around.now c.args.whole (ways.Right c.args.sides c.args.left) c.args.right c.in_ok-made.made r (leading.right-gives c.args.around.now c.args.sides c.args.left c.args.right c.in_ok-made.made c.operator_of-op.result (operation_in c.operation_of-asked.result) c.operator_of-op.ensures c.operation_of-asked.ensures c.in_ok-made.ensures.joined) h) c.in_err-whole.ensures.refused

pub returns-in_err-made-clause-refused : goal.returns-in_err-made-clause-refused
returns-in_err-made-clause-refused c =
    refused-exit c.from_residual.result c.in_err-made.field-0.0 c.from_residual.ensures.1 (λ r h. leading.tells-way c.args.around.now c.args.whole (ways.Right c.args.sides c.args.left) c.args.right r (leading.right-meets c.args.around.now c.args.sides c.args.left c.args.right r c.operator_of-op.result (operation_in c.operation_of-asked.result) c.operator_of-op.ensures c.operation_of-asked.ensures h)) c.in_err-made.ensures.refused
