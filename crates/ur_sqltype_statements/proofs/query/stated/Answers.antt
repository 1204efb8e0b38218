use Rattle.ur_sqltype.proofs.Exits.{refused-exit}
use Rattle.ur_sqltype_statements.proofs.query.stated.Goals as goal

pub returns-in_err-grouped-clause-refused : goal.returns-in_err-grouped-clause-refused
returns-in_err-grouped-clause-refused c = refused-exit c.from_residual-in_err-grouped.result c.in_err-grouped.field-0.0 c.from_residual-in_err-grouped.ensures.1 (λ r h. h c.args.names.now) c.in_err-grouped.ensures.refused

pub returns-in_err-ordered-clause-refused : goal.returns-in_err-ordered-clause-refused
returns-in_err-ordered-clause-refused c = refused-exit c.from_residual-in_err-ordered.result c.in_err-ordered.field-0.0 c.from_residual-in_err-ordered.ensures.1 (λ r h. h c.args.names.now) c.in_err-ordered.ensures.refused

pub returns-in_err-limited-clause-refused : goal.returns-in_err-limited-clause-refused
returns-in_err-limited-clause-refused c = refused-exit c.from_residual-in_err-limited.result c.in_err-limited.field-0.0 c.from_residual-in_err-limited.ensures.1 (λ r h. h c.args.names.now) c.in_err-limited.ensures.refused

pub returns-in_err-all-clause-refused : goal.returns-in_err-all-clause-refused
returns-in_err-all-clause-refused c = refused-exit c.from_residual-in_err-all.result c.in_err-all.field-0.0 c.from_residual-in_err-all.ensures.1 (λ r h. h c.args.names.now) c.in_err-all.ensures.refused
