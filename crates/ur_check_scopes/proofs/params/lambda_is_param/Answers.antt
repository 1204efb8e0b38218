use Rattle.std.proofs.Common.{sym, subst}
use Rattle.ur_typed_rules.specs.Arguments.{BreaksWritten, BreaksLambdaParam, breaks_typed}
use Rattle.ur_check_scopes.specs.Params.{IsLambdaType}
use Rattle.ur_check_scopes.specs.Views.{env_in}
use Rattle.ur_check_scopes.proofs.Exits.{ok-along, refused-along, refuses}
use Rattle.ur_check_scopes.proofs.params.lambda_is_param.Goals as goal

pub returns-in-Typed-clause-ok : goal.returns-in-Typed-clause-ok
returns-in-Typed-clause-ok c = ok-along c.written_is_param.result (λ u h w. h (subst (λ z. IsLambdaType z c.args.local.now.of) c.in-Typed.is w)) c.written_is_param.ensures.ok

pub returns-in-Typed-clause-refused : goal.returns-in-Typed-clause-refused
returns-in-Typed-clause-refused c =
    let env = env_in c.args.around.now.scope.cons in
    refused-along c.written_is_param.result
    (refuses c.args.around.now.world.now.datatype_names (BreaksWritten env c.in-Typed.p c.args.local.now.of) (BreaksLambdaParam env c.args.param.now c.args.local.now.of)
    (λ f b. subst (λ z. BreaksLambdaParam env z c.args.local.now.of f) (sym c.in-Typed.is) (breaks_typed b)))
    c.written_is_param.ensures.refused

pub returns-in-Con-clause-ok : goal.returns-in-Con-clause-ok
returns-in-Con-clause-ok c = λ w. absurd (subst (λ z. IsLambdaType z c.args.local.now.of) c.in-Con.is w)

pub returns-in-Bare-clause-ok : goal.returns-in-Bare-clause-ok
returns-in-Bare-clause-ok c = λ w. absurd (subst (λ z. IsLambdaType z c.args.local.now.of) c.in-Bare.is w)
