use Rattle.ur_check_scopes.proofs.Exits.{refused-exit}
use Rattle.ur_check_walk.specs.declared.begun.Way.TheVariants as ways
use Rattle.ur_check_walk.proofs.Leading as leading
use Rattle.ur_check_walk.proofs.closed.negated.Goals as goal

pub returns-clause-comes : goal.returns-clause-comes
returns-clause-comes c =
    leading.closes-whole c.args.around.now c.args.whole (ways.Negated) c.args.out c.in_ok-made.made c.in_ok-whole.whole (leading.negated-gives c.args.around.now c.args.out c.in_ok-made.made c.in_ok-made.ensures) c.in_ok-whole.ensures.accepted

pub returns-in_err-whole-clause-refused : goal.returns-in_err-whole-clause-refused
returns-in_err-whole-clause-refused c =
    refused-exit c.from_residual-in_err-whole.result c.in_err-whole.field-0.0 c.from_residual-in_err-whole.ensures.1 (λ r h. leading.tells-accepted c.args.around.now c.args.whole (ways.Negated) c.args.out c.in_ok-made.made r (leading.negated-gives c.args.around.now c.args.out c.in_ok-made.made c.in_ok-made.ensures) h) c.in_err-whole.ensures.refused
