use Rattle.std.proofs.Common.{◌∙◌, refl, ap, subst}
use Rattle.std.specs.Prelude.{codes}
use Rattle.ur_base.specs.Stopping.{Says}
use Rattle.ur_sqltype.specs.Change.{within_insert, paired}
use Rattle.ur_sqltype.specs.SqltypeFaults.{SetsBreak, inserts, in_sets, in_insert, column_missing, missing_name}
use Rattle.ur_sqltype.proofs.Exits.{refused-exit}
use Rattle.ur_sqltype_statements.proofs.actions.complete.Goals as goal

pub returns-in_err-sets-clause-refused : goal.returns-in_err-sets-clause-refused
returns-in_err-sets-clause-refused c = refused-exit c.from_residual-in_err-sets.result c.in_err-sets.field-0.0 c.from_residual-in_err-sets.ensures.1 (λ r b at x. in_sets (within_insert c.args.kinds.now) (paired c.args.names.now c.args.values.now) (inserts c.args.span x c.args.names.now c.args.values.now) (subst (λ w. SetsBreak w c.args.shape.now.columns (paired c.args.names.now c.args.values.now) r) c.in_ok-within.ensures (subst (λ cs. SetsBreak c.in_ok-within.within cs (paired c.args.names.now c.args.values.now) r) c.as_slice.ensures b))) c.in_err-sets.ensures.refused

pub returns-clause-refused : goal.returns-clause-refused
returns-clause-refused c = λ at x. in_insert c.args.span x c.args.names.now c.args.values.now refl (column_missing (λ e. c.if-count-columns.false (cc)) (subst (λ z. Says c.in_ok-misfit.field-0 12 (codes "no value") z) (c.missing_name-name.ensures ∙ ap (missing_name c.args.names.now) c.as_slice-2.ensures) c.in_ok-misfit.ensures))
