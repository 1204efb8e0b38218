use Rattle.std.proofs.Common.{ap, sym, ◌∙◌}
use Rattle.std.specs.Option.{option_copied}
use Rattle.ur_check_scopes.proofs.Exits.{ok-along, refused-along}
use Rattle.ur_check_rules.proofs.Naming.{head-there}
use Rattle.ur_check_rules.proofs.values.passed_out.Goals as goal

pub returns-in-Some-clause-passed : goal.returns-in-Some-clause-passed
returns-in-Some-clause-passed c =
    ok-along c.passed.result (λ o h w s st k. h w s st k (head-there c.args.around.now c.args.applied.number c.in-Some.function.now (sym c.get.ensures.value ∙ ap option_copied c.in-Some.is) w s k)) c.passed.ensures.passed

pub returns-in-Some-clause-refused : goal.returns-in-Some-clause-refused
returns-in-Some-clause-refused c =
    refused-along c.passed.result (λ r h w s st x m k is. h w s st x m k (head-there c.args.around.now c.args.applied.number c.in-Some.function.now (sym c.get.ensures.value ∙ ap option_copied c.in-Some.is) w s k) is) c.passed.ensures.refused
