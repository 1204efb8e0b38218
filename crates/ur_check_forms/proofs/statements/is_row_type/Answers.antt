use Rattle.std.proofs.Common.{sym, subst, ◌∙◌}
use Rattle.ur_typed_rules.specs.Faults as faults
use Rattle.ur_check_scopes.specs.Views.{StopIs}
use Rattle.ur_check_scopes.proofs.Exits.{refused-exit}
use Rattle.ur_check_forms.proofs.Stating.{row-type-large, row-type-differs}
use Rattle.ur_check_forms.proofs.statements.is_row_type.Goals as goal

pub returns-in_err-form-clause-refused : goal.returns-in_err-form-clause-refused
returns-in_err-form-clause-refused c =
    refused-exit c.from_residual.result c.in_err-form.field-0.0 c.from_residual.ensures.1 (λ r h. row-type-large c.args.around.now c.args.con.now c.args.whole.now r h.0 h.1) c.in_err-form.ensures.refused

pub returns-clause-refused : goal.returns-clause-refused
returns-clause-refused c =
    row-type-differs c.args.around.now c.args.con.now c.in_ok-form.form c.as_type-of.result c.args.whole.now c.types_differ.result c.in_ok-form.ensures.form c.as_type-of.ensures (sym c.same.ensures ∙ c.if-same.false)
    (subst (λ z. StopIs z (faults.types_differ z c.as_type-of.result c.args.whole.now) c.types_differ.result) c.as_slice-names.ensures c.types_differ.ensures)
