use Rattle.ur_sqltype.proofs.Exits.{refused-exit}
use Rattle.ur_sqltype.specs.SqltypeFaults.{no_condition, filter}
use Rattle.ur_sqltype_statements.proofs.query.with_filter.Goals as goal

pub returns-in_err-filter-clause-refused : goal.returns-in_err-filter-clause-refused
returns-in_err-filter-clause-refused c = refused-exit c.from_residual.result c.in_err-filter.field-0.0 c.from_residual.ensures.1 (λ r h names. no_condition h.0 (filter h.0 h.1) h.2) c.in_err-filter.ensures.refused
