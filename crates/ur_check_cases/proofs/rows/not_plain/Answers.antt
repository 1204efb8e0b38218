use Rattle.std.proofs.Common.{subst, ◌∙◌}
use Rattle.std.specs.Prelude.{codes}
use Rattle.ur_typed_rules.specs.Faults as faults
use Rattle.ur_check_scopes.specs.Views.{StopIs}
use Rattle.ur_check_cases.proofs.rows.not_plain.Goals as goal

pub returns-in-Ok : goal.returns-in-Ok
returns-in-Ok c =
    let names = c.args.names.now in
    subst (λ z. StopIs names (faults.not_so z (codes "a row without arrows and transactions")) c.not_so.result) (c.as_slice.ensures ∙ c.in-Ok.ensures) (c.not_so.ensures names)
