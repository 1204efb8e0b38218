use Rattle.ur_check_scopes.proofs.Exits.{refused-exit}
use Rattle.ur_check_rules.proofs.CalleesCalled.{applied-there, callee-tag, callee-other, given-told, head-told}
use Rattle.ur_check_rules.proofs.values.callee_of.Goals as goal

pub returns-in-Some-clause-callee : goal.returns-in-Some-clause-callee
returns-in-Some-clause-callee c = λ w s k. applied-there w s c.args.e.now.form c.in_ok-function.function c.in-Some.applied c.in-Some.is (c.in_ok-function.ensures.applied w s k)

pub returns-in_err-function-clause-refused : goal.returns-in_err-function-clause-refused
returns-in_err-function-clause-refused c =
    refused-exit c.from_residual.result c.in_err-function.field-0.0 c.from_residual.ensures.1 (λ r h w s k. given-told w s c.args.e.now.form c.args.around.now.world.now.datatype_names r (h w s k)) c.in_err-function.ensures.refused

pub returns-in_err-tag-in-None-clause-refused : goal.returns-in_err-tag-in-None-clause-refused
returns-in_err-tag-in-None-clause-refused c =
    refused-exit c.from_residual-in_err-tag-in-None.result c.in_err-tag-in-None.field-0.0 c.from_residual-in_err-tag-in-None.ensures.1
    (λ r h w s k. head-told w s c.args.e.now.form c.args.around.now.world.now.datatype_names r c.in_ok-function.function c.in-None.is (c.in_ok-function.ensures.applied w s k) (h w s k)) c.in_err-tag-in-None.ensures.refused

pub returns-in-Some-tag-clause-callee : goal.returns-in-Some-tag-clause-callee
returns-in-Some-tag-clause-callee c =
    λ w s k. callee-tag w s c.args.e.now.form c.in_ok-function.function c.in_ok-tag-in-None.tag c.in-Some-tag.number c.in-None.is (c.in_ok-function.ensures.applied w s k) c.in-Some-tag.is (c.in_ok-tag-in-None.ensures.tag w s k)

pub returns-in-None-tag-clause-callee : goal.returns-in-None-tag-clause-callee
returns-in-None-tag-clause-callee c =
    λ w s k. callee-other w s c.args.e.now.form c.in_ok-function.function c.in_ok-tag-in-None.tag c.in-None.is (c.in_ok-function.ensures.applied w s k) c.in-None-tag.is (c.in_ok-tag-in-None.ensures.tag w s k)
