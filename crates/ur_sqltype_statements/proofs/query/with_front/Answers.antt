use Rattle.ur_sqltype.proofs.Exits.{refused-exit}
use Rattle.ur_sqltype_statements.proofs.query.with_front.Goals as goal

pub returns-in_err-joined-clause-refused : goal.returns-in_err-joined-clause-refused
returns-in_err-joined-clause-refused c = refused-exit c.from_residual-in_err-joined.result c.in_err-joined.field-0.0 c.from_residual-in_err-joined.ensures.1 (λ r h. h c.args.names.now) c.in_err-joined.ensures.refused

pub returns-in_err-filtered-clause-refused : goal.returns-in_err-filtered-clause-refused
returns-in_err-filtered-clause-refused c = refused-exit c.from_residual-in_err-filtered.result c.in_err-filtered.field-0.0 c.from_residual-in_err-filtered.ensures.1 (λ r h. h c.args.names.now) c.in_err-filtered.ensures.refused
