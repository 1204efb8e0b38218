use Rattle.ur_sqltype.specs.SqltypeFaults.{over}
use Rattle.ur_sqltype.proofs.Exits.{refused-exit}
use Rattle.ur_sqltype_statements.proofs.fields.over_field.Goals as goal

pub returns-in_err-aggregate-clause-refused : goal.returns-in_err-aggregate-clause-refused
returns-in_err-aggregate-clause-refused c = refused-exit c.from_residual-in_err-aggregate.result c.in_err-aggregate.field-0.0 c.from_residual-in_err-aggregate.ensures.1 (λ r b. over c.args.span c.args.of.now c.args.name.now b) c.in_err-aggregate.ensures.refused
