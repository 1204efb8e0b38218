use Rattle.std.proofs.Common.{sym, ◌∙◌, map}
use Rattle.ur_check_scopes.proofs.Exits.{refused-exit}
use Rattle.ur_check_rules.proofs.CalleesCalled.{applied-made, none-made, applied-told}
use Rattle.ur_check_rules.proofs.values.applied_at.Goals as goal

pub returns-in-Some-clause-applied : goal.returns-in-Some-clause-applied
returns-in-Some-clause-applied c =
    λ w s k. applied-made w s c.args.e.now.form c.in_ok-head.head.now.form (map (λ c. c.now) c.in_ok-head.back) c.in-Some.number c.in_ok-applied-in-Some.applied c.in_ok-head.ensures.peels c.in_ok-head.ensures.head (sym (c.in_ok-named.ensures w s k) ∙ c.in-Some.is) (c.in_ok-applied-in-Some.ensures.at w s k) c.in_ok-applied-in-Some.ensures.given (c.in_ok-applied-in-Some.ensures.ordered w s k)

pub returns-clause-applied : goal.returns-clause-applied
returns-clause-applied c =
    λ w s k. none-made w s c.args.e.now.form c.in_ok-head.head.now.form (map (λ c. c.now) c.in_ok-head.back) c.in_ok-head.ensures.peels c.in_ok-head.ensures.head (sym (c.in_ok-named.ensures w s k) ∙ c.in-None.is)

pub returns-in_err-applied-in-Some-clause-refused : goal.returns-in_err-applied-in-Some-clause-refused
returns-in_err-applied-in-Some-clause-refused c =
    refused-exit c.from_residual-in_err-applied-in-Some.result c.in_err-applied-in-Some.field-0.0 c.from_residual-in_err-applied-in-Some.ensures.1
    (λ r h w s k. applied-told w s c.args.e.now.form c.in_ok-head.head.now.form (map (λ c. c.now) c.in_ok-head.back) c.in-Some.number c.args.around.now.world.now.datatype_names r c.in_ok-head.ensures.peels c.in_ok-head.ensures.head (sym (c.in_ok-named.ensures w s k) ∙ c.in-Some.is) (h w s k))
    c.in_err-applied-in-Some.ensures.refused
