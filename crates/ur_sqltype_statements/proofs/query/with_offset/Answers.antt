use Rattle.ur_sqltype.proofs.Exits.{refused-exit}
use Rattle.ur_sqltype.specs.SqltypeFaults.{no_bound, skipped}
use Rattle.ur_sqltype_statements.proofs.query.with_offset.Goals as goal

pub returns-in_err-offset-clause-refused : goal.returns-in_err-offset-clause-refused
returns-in_err-offset-clause-refused c = refused-exit c.from_residual.result c.in_err-offset.field-0.0 c.from_residual.ensures.1 (λ r h names. no_bound h.0 (skipped h.0 h.1) h.2) c.in_err-offset.ensures.refused
