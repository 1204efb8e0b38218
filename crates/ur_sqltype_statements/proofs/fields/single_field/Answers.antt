use Rattle.ur_sqltype.specs.SqltypeFaults.{named}
use Rattle.ur_sqltype.proofs.Exits.{refused-exit}
use Rattle.ur_sqltype_statements.proofs.fields.single_field.Goals as goal

pub returns-in_err-scalar-clause-refused : goal.returns-in_err-scalar-clause-refused
returns-in_err-scalar-clause-refused c = refused-exit c.from_residual-in_err-scalar.result c.in_err-scalar.field-0.0 c.from_residual-in_err-scalar.ensures.1 (λ r f. named c.args.e.now c.args.name.now f) c.in_err-scalar.ensures.refused
