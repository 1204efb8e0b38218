use Rattle.std.proofs.Common.{sym, subst, map}
use Rattle.ur_syntax.specs.declared.sql.SqlChange.TheVariants as written
use Rattle.ur_sqltype.specs.Change.{within_row, assigned}
use Rattle.ur_sqltype.specs.SqltypeFaults.{SetsBreak, ConditionOf, updates, of_update, in_sets, not_bool}
use Rattle.ur_sqltype.specs.Faults.{Misfits}
use Rattle.ur_values.specs.declared.schema.ColumnKind.TheVariants as kind
use Rattle.ur_sqltype.proofs.Exits.{refused-exit}
use Rattle.ur_sqltype_statements.proofs.actions.update_of.Goals as goal

pub returns-in_err-sets-clause-refused : goal.returns-in_err-sets-clause-refused
returns-in_err-sets-clause-refused c = refused-exit c.from_residual-in_err-sets.result c.in_err-sets.field-0.0 c.from_residual-in_err-sets.ensures.1 (λ r b. in_sets (within_row c.args.x.now (c.args.at, c.args.shape.now) c.args.kinds.now) (map assigned c.args.assignments.now) (updates c.args.span c.args.x.now c.args.assignments.now c.args.condition.now) (subst (λ w. SetsBreak w c.args.shape.now.columns (map assigned c.args.assignments.now) r) c.in_ok-within.ensures (subst (λ cs. SetsBreak c.in_ok-within.within cs (map assigned c.args.assignments.now) r) c.as_slice.ensures b))) c.in_err-sets.ensures.refused

pub returns-in_err-filter-clause-refused : goal.returns-in_err-filter-clause-refused
returns-in_err-filter-clause-refused c = refused-exit c.from_residual-in_err-filter.result c.in_err-filter.field-0.0 c.from_residual-in_err-filter.ensures.1 (λ r h. not_bool (within_row c.args.x.now (c.args.at, c.args.shape.now) c.args.kinds.now) h.0 (subst (λ o. ConditionOf c.args.kinds.now (c.args.at, c.args.shape.now) (written.Update c.args.span c.args.x.now c.args.assignments.now o) (within_row c.args.x.now (c.args.at, c.args.shape.now) c.args.kinds.now) h.0) (sym h.1) (of_update c.args.span c.args.x.now c.args.assignments.now h.0)) (subst (λ w. Misfits w h.0.form kind.Bool r) c.in_ok-within.ensures h.2)) c.in_err-filter.ensures.refused
