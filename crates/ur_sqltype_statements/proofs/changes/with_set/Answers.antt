use Rattle.ur_sqltype.specs.SqltypeFaults.{value_misfits}
use Rattle.ur_sqltype.proofs.Exits.{refused-exit}
use Rattle.ur_sqltype_statements.proofs.changes.with_set.Goals as goal

pub returns-in_err-scalar-in-Some-clause-refused : goal.returns-in_err-scalar-in-Some-clause-refused
returns-in_err-scalar-in-Some-clause-refused c = refused-exit c.from_residual-in_err-scalar-in-Some.result c.in_err-scalar-in-Some.field-0.0 c.from_residual-in_err-scalar-in-Some.ensures.1 (λ r m. value_misfits c.in-Some.at c.in-Some.kind (cc) m) c.in_err-scalar-in-Some.ensures.refused
