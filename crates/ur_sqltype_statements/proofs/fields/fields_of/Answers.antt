use Rattle.ur_sqltype.proofs.Exits.{refused-exit}
use Rattle.ur_sqltype_statements.proofs.fields.fields_of.Goals as goal

pub returns-in_err-fields-clause-refused : goal.returns-in_err-fields-clause-refused
returns-in_err-fields-clause-refused c = refused-exit c.from_residual.result c.in_err-fields.field-0.0 c.from_residual.ensures.1 (λ r h. h c.args.names.now) c.in_err-fields.ensures.refused
