use Rattle.std.proofs.Common.{ap, subst, ◌∙◌}
use Rattle.ur_syntax.specs.Names.{name_text}
use Rattle.ur_typed_rules.specs.Faults as faults
use Rattle.ur_check_scopes.specs.Views.{StopIs}
use Rattle.ur_check_forms.proofs.runs.no_name.Goals as goal

pub returns-in-Ok : goal.returns-in-Ok
returns-in-Ok c = λ names. subst (λ z. StopIs names (faults.unknown z) c.unknown.result) (c.as_slice.ensures ∙ c.in-Ok.ensures ∙ ap (λ k. name_text k.home k.name) c.key_of-key.ensures) (c.unknown.ensures names)
