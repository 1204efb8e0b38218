use Rattle.std.proofs.Common.{subst}
use Rattle.std.specs.Prelude.{Contains}
use Rattle.ur_sqltype.proofs.Exits.{refused-exit}
use Rattle.ur_sqltype.specs.SqltypeFaults.{no_column, groups}
use Rattle.ur_sqltype_statements.proofs.query.with_group.Goals as goal

pub returns-in_err-group-clause-refused : goal.returns-in_err-group-clause-refused
returns-in_err-group-clause-refused c = refused-exit c.from_residual.result c.in_err-group.field-0.0 c.from_residual.ensures.1 (λ r h names. no_column h.0 (groups h.0 (subst (λ z. Contains z h.0) c.as_slice.ensures h.1)) h.2) c.in_err-group.ensures.refused
