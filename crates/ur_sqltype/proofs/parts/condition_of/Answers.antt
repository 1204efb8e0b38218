use Rattle.ur_sqltype.proofs.Exits.{refused-exit}
use Rattle.ur_sqltype.proofs.parts.condition_of.Goals as goal

pub returns-in_err-scalar-in-Some-clause-refused : goal.returns-in_err-scalar-in-Some-clause-refused
returns-in_err-scalar-in-Some-clause-refused c = refused-exit c.from_residual.result c.in_err-scalar-in-Some.field-0.0 c.from_residual.ensures.1 (λ r m. (c.in-Some.e, c.in-Some.is, m)) c.in_err-scalar-in-Some.ensures.refused
