use Rattle.ur_check_scopes.proofs.Exits.{refused-exit}
use Rattle.ur_check_walk.specs.declared.begun.Way.TheVariants as ways
use Rattle.ur_check_walk.proofs.Leading as leading
use Rattle.ur_check_walk.proofs.closed.projected.Goals as goal

pub returns-clause-comes : goal.returns-clause-comes
returns-clause-comes c =
    leading.closes-whole c.args.around.now c.args.whole (ways.Projected c.args.name) c.args.out c.in_ok-made.made c.in_ok-whole.whole (leading.projected-gives c.args.around.now c.args.name c.in_ok-label.label c.args.out c.in_ok-made.made (λ w s z. c.in_ok-label.ensures s.names.cons z.cons) c.in_ok-made.ensures.projected) c.in_ok-whole.ensures.accepted

pub returns-in_err-whole-clause-refused : goal.returns-in_err-whole-clause-refused
returns-in_err-whole-clause-refused c =
    refused-exit c.from_residual-in_err-whole.result c.in_err-whole.field-0.0 c.from_residual-in_err-whole.ensures.1 (λ r h. leading.tells-accepted c.args.around.now c.args.whole (ways.Projected c.args.name) c.args.out c.in_ok-made.made r (leading.projected-gives c.args.around.now c.args.name c.in_ok-label.label c.args.out c.in_ok-made.made (λ w s z. c.in_ok-label.ensures s.names.cons z.cons) c.in_ok-made.ensures.projected) h) c.in_err-whole.ensures.refused

pub returns-in_err-made-clause-refused : goal.returns-in_err-made-clause-refused
returns-in_err-made-clause-refused c =
    refused-exit c.from_residual-in_err-made.result c.in_err-made.field-0.0 c.from_residual-in_err-made.ensures.1 (λ r h. leading.tells-way c.args.around.now c.args.whole (ways.Projected c.args.name) c.args.out r (leading.projected-tells c.args.around.now c.args.name c.in_ok-label.label c.args.out r (λ w s z. c.in_ok-label.ensures s.names.cons z.cons) h)) c.in_err-made.ensures.refused
