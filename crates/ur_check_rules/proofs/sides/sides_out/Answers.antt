use Rattle.std.proofs.Common.{refl}
use Rattle.ur_check_scopes.proofs.Exits.{refused-exit}
use Rattle.ur_check_rules.specs.Views.{operation_in}
use Rattle.ur_check_rules.proofs.Sided.{sides-made, sides-broken}
use Rattle.ur_check_rules.proofs.sides.sides_out.Goals as goal

pub returns-clause-joined : goal.returns-clause-joined
returns-clause-joined c =
    sides-made c.args.around.now c.args.op (operation_in c.args.operation.now) c.args.left c.args.right (record { of = c.in_ok-of.of; exp = c.in_ok-exp.exp }) c.in_ok-of.of c.in_ok-exp.exp c.in_ok-of.ensures.typed c.in_ok-exp.ensures refl refl

pub returns-in_err-of-clause-refused : goal.returns-in_err-of-clause-refused
returns-in_err-of-clause-refused c =
    refused-exit c.from_residual.result c.in_err-of.field-0.0 c.from_residual.ensures.1 (λ r h. sides-broken c.args.around.now c.args.op (operation_in c.args.operation.now) c.args.left c.args.right r h) c.in_err-of.ensures.refused
