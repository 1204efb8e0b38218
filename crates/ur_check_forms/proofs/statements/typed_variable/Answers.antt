use Rattle.std.proofs.Common.{ap, [], ◌∷◌}
use Rattle.ur_syntax.specs.declared.exp.LambdaParam.TheVariants as lambda_param
use Rattle.ur_typed.specs.Faults.{is_row_function}
use Rattle.ur_check_scopes.proofs.Exits.{refused-exit}
use Rattle.ur_check_forms.proofs.Stating.{variable-broken, function-told}
use Rattle.ur_check_forms.proofs.statements.typed_variable.Goals as goal

pub returns-in_err-is_row_type-in-Value-clause-refused : goal.returns-in_err-is_row_type-in-Value-clause-refused
returns-in_err-is_row_type-in-Value-clause-refused c =
    refused-exit c.from_residual.result c.in_err-is_row_type-in-Value.field-0.0 c.from_residual.ensures.1
    (λ r h. variable-broken c.args.around.now c.args.param.now c.in-Value.x c.in-Value.con c.args.whole.now r c.in-Value.is h) c.in_err-is_row_type-in-Value.ensures.refused

pub returns-in-Unit-clause-refused : goal.returns-in-Unit-clause-refused
returns-in-Unit-clause-refused c =
    function-told c.args.around.now c.args.whole.now (lambda_param.Typed c.args.param.now ∷ []) c.other_function.result (ap (λ z. is_row_function (lambda_param.Typed z ∷ [])) c.in-Unit.is) c.other_function.ensures
