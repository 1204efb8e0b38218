use Rattle.std.proofs.Common.{subst, ◌∙◌}
use Rattle.ur_typed_rules.specs.Faults.{unknown}
use Rattle.ur_check_scopes.specs.Views.{StopIs}
use Rattle.ur_check_walk.proofs.instances.no_declaration.Goals as goal

pub returns-in-Ok : goal.returns-in-Ok
returns-in-Ok c = λ names. subst (λ z. StopIs names (unknown z) c.unknown.result) (c.as_slice.ensures ∙ c.in-Ok.ensures) (c.unknown.ensures names)
