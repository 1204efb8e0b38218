use Rattle.std.proofs.Common.{◌∙◌, ap, ap₂}
use Rattle.ur_typed_rules.specs.Names.{local_of, param_of}
use Rattle.ur_check_scopes.proofs.Exits.{refused-exit}
use Rattle.ur_check_scopes.proofs.Writing.{value-out, value-large}
use Rattle.ur_check_scopes.proofs.params.value_out.Goals as goal

pub returns-clause-param : goal.returns-clause-param
returns-clause-param c = λ names reads.
    value-out names c.args.x.now c.args.con.now c.in_ok-form.form c.local_of.result (c.in_ok-form.ensures.form names.cons reads) (c.in_ok-form.ensures.small names.cons reads)
    (c.local_of.ensures.local ∙ ap₂ local_of c.in_ok-name.ensures c.as_type.ensures) (c.local_of.ensures.param ∙ ap param_of c.as_type.ensures)

pub returns-in_err-form-clause-refused : goal.returns-in_err-form-clause-refused
returns-in_err-form-clause-refused c =
    refused-exit c.from_residual.result c.in_err-form.field-0.0 c.from_residual.ensures.1
    (λ r h. (h.0, λ names reads. value-large names c.args.x.now c.args.con.now (h.1 names.cons reads))) c.in_err-form.ensures.refused
