use Rattle.std.proofs.Common.{ap, sym, subst, ◌∙◌, [], ◌∷◌}
use Rattle.std.specs.Option.{option_copied}
use Rattle.ur_typed.specs.Faults.{BreaksRowFunction}
use Rattle.ur_check_scopes.proofs.Exits.{refused-along, refuses}
use Rattle.ur_check_forms.proofs.Stating.{functions-told, only-is}
use Rattle.ur_check_forms.proofs.statements.row_param.Goals as goal

pub returns-in-Some-clause-refused : goal.returns-in-Some-clause-refused
returns-in-Some-clause-refused c =
    let names = c.args.around.now.world.now.datatype_names in
    let one = only-is c.args.params.now c.in-Some.param.now (sym (ap option_copied c.in-Some.is) ∙ c.only.ensures) in
    refused-along c.row_variable.result
    (λ r h w s row stands e. refuses names (BreaksRowFunction names w s row (c.in-Some.param.now ∷ [])) (BreaksRowFunction names w s row c.args.params.now) (λ f b. subst (λ z. BreaksRowFunction names w s row z f) (sym one) b) r (h w s row stands e))
    c.row_variable.ensures.refused

pub returns-in-None-clause-refused : goal.returns-in-None-clause-refused
returns-in-None-clause-refused c = functions-told c.args.around.now c.args.whole.now c.args.params.now c.other_function.result (sym (ap option_copied c.in-None.is) ∙ c.only.ensures) c.other_function.ensures
