use Rattle.std.proofs.Common.{subst}
use Rattle.std.specs.Prelude.{Contains}
use Rattle.ur_sqltype.proofs.Exits.{refused-exit}
use Rattle.ur_sqltype.specs.SqltypeFaults.{no_condition, on}
use Rattle.ur_sqltype_statements.proofs.query.with_on.Goals as goal

pub returns-in_err-on-clause-refused : goal.returns-in_err-on-clause-refused
returns-in_err-on-clause-refused c = refused-exit c.from_residual.result c.in_err-on.field-0.0 c.from_residual.ensures.1 (λ r h names. no_condition h.2.0 (on h.0 h.2.0 (subst (λ z. Contains z h.0) c.as_slice.ensures h.1) h.2.1) h.2.2) c.in_err-on.ensures.refused
