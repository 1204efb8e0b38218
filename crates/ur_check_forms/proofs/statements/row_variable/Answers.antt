use Rattle.std.proofs.Common.{ap, sym, subst, [], ◌∷◌}
use Rattle.ur_syntax.specs.declared.exp.LambdaParam.TheVariants as lambda_param
use Rattle.ur_typed.specs.Faults.{BreaksRowFunction, is_row_function}
use Rattle.ur_check_scopes.proofs.Exits.{refused-along, refuses}
use Rattle.ur_check_forms.proofs.Stating.{function-told}
use Rattle.ur_check_forms.proofs.statements.row_variable.Goals as goal

pub returns-in-Typed-clause-refused : goal.returns-in-Typed-clause-refused
returns-in-Typed-clause-refused c =
    let names = c.args.around.now.world.now.datatype_names in
    refused-along c.typed_variable.result
    (λ r h w s row stands e. refuses names (BreaksRowFunction names w s row (lambda_param.Typed c.in-Typed.p ∷ [])) (BreaksRowFunction names w s row (c.args.param.now ∷ []))
    (λ f b. subst (λ z. BreaksRowFunction names w s row (z ∷ []) f) (sym c.in-Typed.is) b) r (h w s row stands e))
    c.typed_variable.ensures.refused

pub returns-in-Con-clause-refused : goal.returns-in-Con-clause-refused
returns-in-Con-clause-refused c = function-told c.args.around.now c.args.whole.now (c.args.param.now ∷ []) c.other_function.result (ap (λ z. is_row_function (z ∷ [])) c.in-Con.is) c.other_function.ensures
