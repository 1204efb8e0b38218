use Rattle.ur_sqltype.proofs.Exits.{refused-exit}
use Rattle.ur_sqltype.specs.SqltypeFaults.{no_bound, limited}
use Rattle.ur_sqltype_statements.proofs.query.with_limit.Goals as goal

pub returns-in_err-limit-clause-refused : goal.returns-in_err-limit-clause-refused
returns-in_err-limit-clause-refused c = refused-exit c.from_residual.result c.in_err-limit.field-0.0 c.from_residual.ensures.1 (λ r h names. no_bound h.0 (limited h.0 h.1) h.2) c.in_err-limit.ensures.refused
