use Rattle.std.proofs.Common.{subst}
use Rattle.ur_typed_rules.specs.Arguments.{BreaksFields}
use Rattle.ur_check_scopes.specs.Views.{env_in}
use Rattle.ur_check_scopes.proofs.Exits.{refused-exit, refuses}
use Rattle.ur_check_forms.specs.Views.{records_in}
use Rattle.ur_check_forms.specs.Marking.{IsNotTaken, BreaksForm, form_meets}
use Rattle.ur_check_forms.proofs.Marking.{form-not-taken}
use Rattle.ur_check_forms.proofs.marked.form_fits.Goals as goal

pub returns-in_err-fields_apart-clause-refused : goal.returns-in_err-fields_apart-clause-refused
returns-in_err-fields_apart-clause-refused c =
    let names = c.args.around.now.world.now.datatype_names in
    let known = (env_in c.args.around.now.scope.cons).known in
    refused-exit c.from_residual.result c.in_err-fields_apart.field-0.0 c.from_residual.ensures.1
    (refuses names (BreaksFields known c.as_slice.result.now) (BreaksForm names known c.args.row.now (records_in c.args.waiting.now)) (λ f b. form_meets (subst (λ z. BreaksFields known z f) c.as_slice.ensures b)))
    c.in_err-fields_apart.ensures.refused

pub returns-in_err-are_taken-clause-refused : goal.returns-in_err-are_taken-clause-refused
returns-in_err-are_taken-clause-refused c =
    let names = c.args.around.now.world.now.datatype_names in
    let known = (env_in c.args.around.now.scope.cons).known in
    let wanted = records_in c.args.waiting.now in
    refused-exit c.from_residual-in_err-are_taken.result c.in_err-are_taken.field-0.0 c.from_residual-in_err-are_taken.ensures.1
    (refuses names (IsNotTaken names c.in_ok-whole.whole wanted) (BreaksForm names known c.args.row.now wanted) (λ f b. form-not-taken names known c.args.row.now c.in_ok-whole.whole wanted f c.in_ok-whole.ensures b))
    c.in_err-are_taken.ensures.refused
