use Rattle.ur_sqltype.proofs.Exits.{refused-exit}
use Rattle.ur_sqltype.proofs.SqltableValues.{stands_there}
use Rattle.ur_sqltype_statements.proofs.order.group_of.Goals as goal

pub returns-in_err-column-clause-refused : goal.returns-in_err-column-clause-refused
returns-in_err-column-clause-refused c = refused-exit c.from_residual.result c.in_err-column.field-0.0 c.from_residual.ensures.1 (λ r b. (c.index-columns-i.result, (stands_there c.args.columns.now c.loop-i.i c.index-columns-i.result c.loop-i-test.true c.index-columns-i.is), b)) c.in_err-column.ensures.refused
