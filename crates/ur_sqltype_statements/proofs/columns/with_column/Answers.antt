use Rattle.ur_sqltype.proofs.Exits.{refused-exit}
use Rattle.ur_sqltype_statements.proofs.columns.with_column.Goals as goal

pub returns-in_err-column-in-Column-clause-refused : goal.returns-in_err-column-in-Column-clause-refused
returns-in_err-column-in-Column-clause-refused c = refused-exit c.from_residual.result c.in_err-column-in-Column.field-0.0 c.from_residual.ensures.1 (λ r b. (c.in-Column.e, c.in-Column.is, b)) c.in_err-column-in-Column.ensures.refused
