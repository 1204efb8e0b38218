use Rattle.std.proofs.Common.{ap, ap₂, sym, ◌∙◌, ℕ, List}
use Rattle.ur_rows.specs.declared.normal.Normal.{Normal}
use Rattle.ur_typed.specs.Rules.{declared_out, function_out}
use Rattle.ur_check_scopes.specs.Views.{means_in}
use Rattle.ur_check_scopes.proofs.Exits.{ok-along, refused-along}
use Rattle.ur_check_rules.proofs.Naming.{bare-applied}
use Rattle.ur_check_rules.proofs.values.meant_out.Goals as goal

pub returns-in-Function-clause-meant : goal.returns-in-Function-clause-meant
returns-in-Function-clause-meant c =
    ok-along c.passed_out.result (λ o h w s st k. ap (λ z. declared_out w s st (means_in z)) c.in-Function.is ∙ ap₂ (λ (n : ℕ) (z : List Normal). function_out w s st (n, z)) (sym c.without_arguments.ensures.number) (sym c.without_arguments.ensures.args) ∙ h w s st k) c.passed_out.ensures.passed

pub returns-in-Function-clause-refused : goal.returns-in-Function-clause-refused
returns-in-Function-clause-refused c =
    refused-along c.passed_out.result
    (λ r h. (c.in-Function.number, ap means_in c.in-Function.is, λ w s st x m k e g. h w s st x m k (bare-applied w s x c.without_arguments.result c.in-Function.number c.without_arguments.ensures.number c.without_arguments.ensures.given c.without_arguments.ensures.args e g))) c.passed_out.ensures.refused

pub returns-in_ok-made-in-Val-clause-meant : goal.returns-in_ok-made-in-Val-clause-meant
returns-in_ok-made-in-Val-clause-meant c = λ w s st k. ap (λ z. declared_out w s st (means_in z)) c.in-Val.is ∙ c.in_ok-made-in-Val.ensures w s st k
