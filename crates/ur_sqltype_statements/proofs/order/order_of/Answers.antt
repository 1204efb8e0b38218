use Rattle.ur_sqltype.proofs.Exits.{refused-exit}
use Rattle.ur_sqltype.proofs.SqltableValues.{stands_there}
use Rattle.ur_sqltype_statements.proofs.order.order_of.Goals as goal

pub returns-in_err-key-clause-refused : goal.returns-in_err-key-clause-refused
returns-in_err-key-clause-refused c = refused-exit c.from_residual.result c.in_err-key.field-0.0 c.from_residual.ensures.1 (λ r f. (c.index-written-i.result, (stands_there c.args.written.now c.loop-i.i c.index-written-i.result c.loop-i-test.true c.index-written-i.is), f)) c.in_err-key.ensures.refused
