use Rattle.std.proofs.Common.{sym, ap, subst, ◌∙◌}
use Rattle.std.specs.List.{list_all}
use Rattle.ur_rows.specs.Made.{record_of}
use Rattle.ur_typed_rules.specs.Tests.{same_type}
use Rattle.ur_check_scopes.specs.Views.{Refuses, env_in}
use Rattle.ur_check_scopes.proofs.Exits.{refused-exit}
use Rattle.ur_check_forms.specs.Views.{records_in}
use Rattle.ur_check_forms.specs.Marking.{BreaksForm}
use Rattle.ur_check_forms.proofs.Marking.{form-made, form-broken}
use Rattle.ur_check_forms.proofs.marked.form_out.Goals as goal

pub returns-in_err-form_fits-clause-refused : goal.returns-in_err-form_fits-clause-refused
returns-in_err-form_fits-clause-refused c =
    let names = c.args.around.now.world.now.datatype_names in
    let known = (env_in c.args.around.now.scope.cons).known in
    refused-exit c.from_residual.result c.in_err-form_fits.field-0.0 c.from_residual.ensures.1
    (λ r h. form-broken names known c.args.inner r (subst (λ z. Refuses names (BreaksForm names known c.args.inner.row (records_in z)) r) c.as_slice.ensures h)) c.in_err-form_fits.ensures.refused

pub returns-clause-form : goal.returns-clause-form
returns-clause-form c =
    form-made (env_in c.args.around.now.scope.cons).known c.args.inner c.in_ok-made.made c.in_ok-form_fits.ensures.apart
    (ap (λ z. list_all (same_type (record_of c.args.inner.row)) (records_in z)) (sym c.as_slice.ensures) ∙ c.in_ok-form_fits.ensures.taken) c.in_ok-made.ensures
