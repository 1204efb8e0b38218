use Rattle.std.proofs.Common.{sym, subst}
use Rattle.ur_sql.specs.Typing.{QueryFits}
use Rattle.ur_sqltype_statements.specs.declared.typed.TypedQuery.{TypedQuery}
use Rattle.ur_sqltype.specs.SqltypeFaults.{query_faulty, QueryHasFault}
use Rattle.ur_sqltype.proofs.Exits.{refused-exit}
use Rattle.ur_sqltype_statements.proofs.query.type_query.Goals as goal

pub returns-in_err-core-clause-refused : goal.returns-in_err-core-clause-refused
returns-in_err-core-clause-refused c = refused-exit c.from_residual-in_err-core.result c.in_err-core.field-0.0 c.from_residual-in_err-core.ensures.1 (λ r h. query_faulty c.in_ok-kinds.kinds c.in_ok-kinds.ensures.kinds (subst (λ ks. QueryHasFault c.args.env.now.home c.args.tables.now c.args.env.now.fields ks c.args.query.now r) c.as_slice.ensures h)) c.in_err-core.ensures.refused

pub returns-clause-fits : goal.returns-clause-fits
returns-clause-fits c = subst (λ (t : TypedQuery). QueryFits c.args.tables.now t.core) (sym c.typed_query.ensures)
    (c.query_of_fits.ensures c.args.env.now.home c.args.tables.now c.args.env.now.fields c.as_slice.result.now c.args.query.now c.in_ok-core.core c.in_ok-core.ensures.typed)
