use Rattle.ur_check_scopes.proofs.Exits.{refused-exit}
use Rattle.ur_check_scopes.proofs.Standing.{row-written, row-large, row-misplaced}
use Rattle.ur_check_scopes.proofs.written.row_at.Goals as goal

pub returns-in_err-form-clause-refused : goal.returns-in_err-form-clause-refused
returns-in_err-form-clause-refused c =
    let a = c.args.around.now in
    refused-exit c.from_residual.result c.in_err-form.field-0.0 c.from_residual.ensures.1
    (λ r h. row-large a c.args.con.now a.world.now.datatype_names r h.0 h.1) c.in_err-form.ensures.refused

pub returns-in_err-is_row-clause-refused : goal.returns-in_err-is_row-clause-refused
returns-in_err-is_row-clause-refused c =
    let a = c.args.around.now in
    refused-exit c.from_residual-in_err-is_row.result c.in_err-is_row.field-0.0 c.from_residual-in_err-is_row.ensures.1
    (λ r h. row-misplaced a c.args.con.now c.in_ok-form.form c.as_row-row.result a.world.now.datatype_names r c.in_ok-form.ensures.form c.as_row-row.ensures h) c.in_err-is_row.ensures.refused

pub returns-clause-row : goal.returns-clause-row
returns-clause-row c = row-written c.args.around.now c.args.con.now c.in_ok-form.form c.as_row-row.result c.in_ok-form.ensures.form c.in_ok-form.ensures.small c.as_row-row.ensures c.in_ok-is_row.ensures.ok
