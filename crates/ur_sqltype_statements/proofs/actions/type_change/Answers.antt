use Rattle.std.proofs.Common.{sym, subst}
use Rattle.ur_sql.specs.Typing.{ChangeFits}
use Rattle.ur_sqltype_statements.specs.declared.sqlchange_typed.TypedChange.{TypedChange}
use Rattle.ur_sqltype.specs.SqltypeFaults.{change_faulty, ChangeHasFault}
use Rattle.ur_sqltype.proofs.Exits.{refused-exit}
use Rattle.ur_sqltype_statements.proofs.actions.type_change.Goals as goal

pub returns-in_err-core-clause-refused : goal.returns-in_err-core-clause-refused
returns-in_err-core-clause-refused c = refused-exit c.from_residual-in_err-core.result c.in_err-core.field-0.0 c.from_residual-in_err-core.ensures.1 (λ r h. change_faulty c.in_ok-kinds.kinds c.in_ok-kinds.ensures.kinds (subst (λ ks. ChangeHasFault c.args.env.now.home c.args.tables.now ks c.args.change.now r) c.as_slice.ensures h)) c.in_err-core.ensures.refused

pub returns-clause-fits : goal.returns-clause-fits
returns-clause-fits c = subst (λ (t : TypedChange). ChangeFits c.args.tables.now t.core) (sym c.typed_change.ensures)
    (c.change_of_fits.ensures c.args.env.now.home c.args.tables.now c.as_slice.result.now c.args.change.now c.in_ok-core.core c.in_ok-core.ensures.typed)
