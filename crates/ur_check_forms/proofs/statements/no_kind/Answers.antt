use Rattle.std.proofs.Common.{subst, ◌∙◌}
use Rattle.ur_sqltype.specs.Faults.{six_kinds}
use Rattle.ur_typed_rules.specs.Faults as faults
use Rattle.ur_check_scopes.specs.Views.{StopIs}
use Rattle.ur_check_forms.proofs.statements.no_kind.Goals as goal

pub returns-in-Ok : goal.returns-in-Ok
returns-in-Ok c =
    let names = c.args.names.now in subst (λ z. StopIs names (faults.misfit z six_kinds) c.misfit.result) (c.as_slice.ensures ∙ c.in-Ok.ensures)
    (c.misfit.ensures names)
