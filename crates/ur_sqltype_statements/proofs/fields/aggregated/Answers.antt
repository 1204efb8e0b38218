use Rattle.ur_sqltype.specs.SqltypeFaults.{AggregateBreaks, no_sum, least, greatest}
use Rattle.std.proofs.Common.{sym, subst}
use Rattle.ur_sqltype.proofs.Exits.{refused-exit}
use Rattle.ur_sqltype_statements.proofs.fields.aggregated.Goals as goal

pub returns-in_err-scalar-in-Sum-clause-refused : goal.returns-in_err-scalar-in-Sum-clause-refused
returns-in_err-scalar-in-Sum-clause-refused c = refused-exit c.from_residual.result c.in_err-scalar-in-Sum.field-0.0 c.from_residual.ensures.1 (λ r m. subst (AggregateBreaks c.args.within.now r) (sym c.in-Sum.is) (no_sum c.in-Sum.e m)) c.in_err-scalar-in-Sum.ensures.refused

pub returns-in_err-scalar-in-Min-clause-refused : goal.returns-in_err-scalar-in-Min-clause-refused
returns-in_err-scalar-in-Min-clause-refused c = refused-exit c.from_residual-in_err-scalar-in-Min.result c.in_err-scalar-in-Min.field-0.0 c.from_residual-in_err-scalar-in-Min.ensures.1 (λ r f. subst (AggregateBreaks c.args.within.now r) (sym c.in-Min.is) (least c.in-Min.e f)) c.in_err-scalar-in-Min.ensures.refused

pub returns-in_err-scalar-in-Max-clause-refused : goal.returns-in_err-scalar-in-Max-clause-refused
returns-in_err-scalar-in-Max-clause-refused c = refused-exit c.from_residual-in_err-scalar-in-Max.result c.in_err-scalar-in-Max.field-0.0 c.from_residual-in_err-scalar-in-Max.ensures.1 (λ r f. subst (AggregateBreaks c.args.within.now r) (sym c.in-Max.is) (greatest c.in-Max.e f)) c.in_err-scalar-in-Max.ensures.refused
