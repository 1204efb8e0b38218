use Rattle.ur_check_scopes.proofs.Exits.{refused-exit}
use Rattle.ur_check_scopes.proofs.Standing.{type-written, type-large, type-misplaced}
use Rattle.ur_check_scopes.proofs.written.type_at.Goals as goal

pub returns-in_err-form-clause-refused : goal.returns-in_err-form-clause-refused
returns-in_err-form-clause-refused c =
    let a = c.args.around.now in
    refused-exit c.from_residual.result c.in_err-form.field-0.0 c.from_residual.ensures.1
    (λ r h. type-large a c.args.con.now a.world.now.datatype_names r h.0 h.1) c.in_err-form.ensures.refused

pub returns-in_err-is_type-clause-refused : goal.returns-in_err-is_type-clause-refused
returns-in_err-is_type-clause-refused c =
    let a = c.args.around.now in
    refused-exit c.from_residual-in_err-is_type.result c.in_err-is_type.field-0.0 c.from_residual-in_err-is_type.ensures.1
    (λ r h. type-misplaced a c.args.con.now c.in_ok-form.form c.as_type-of.result a.world.now.datatype_names r c.in_ok-form.ensures.form c.as_type-of.ensures h) c.in_err-is_type.ensures.refused

pub returns-clause-typed : goal.returns-clause-typed
returns-clause-typed c = type-written c.args.around.now c.args.con.now c.in_ok-form.form c.as_type-of.result c.in_ok-form.ensures.form c.in_ok-form.ensures.small c.as_type-of.ensures c.in_ok-is_type.ensures.ok
