use Rattle.std.proofs.Common.{subst}
use Rattle.std.specs.Prelude.{Contains}
use Rattle.ur_sqltype.proofs.Exits.{refused-exit}
use Rattle.ur_sqltype.proofs.SqltableValues.{stands_there}
use Rattle.ur_sqltype_statements.proofs.columns.columns_in.Goals as goal

pub returns-in_err-columns-clause-refused : goal.returns-in_err-columns-clause-refused
returns-in_err-columns-clause-refused c = refused-exit c.from_residual.result c.in_err-columns.field-0.0 c.from_residual.ensures.1 (λ r h. (h.0, subst (λ s. Contains c.args.items.now s) h.1 (stands_there c.args.items.now c.loop-i.i c.index-items-i.result c.loop-i-test.true c.index-items-i.is), h.2)) c.in_err-columns.ensures.refused
