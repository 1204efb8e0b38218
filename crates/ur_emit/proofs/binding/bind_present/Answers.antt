use Rattle.std.proofs.Common.{[], ◌∷◌, refl, ap, ◌∙◌}
use Rattle.ur_terms.specs.declared.term.Pattern.TheVariants as p
use Rattle.ur_terms.specs.Run.{matched}
use Rattle.ur_machine_operations.proofs.Opened.{matched-Present, not_present}
use Rattle.ur_emit.proofs.Matching.{by_match}
use Rattle.ur_emit.proofs.binding.bind_present.Goals as goal

pub returns-in-Present : goal.returns-in-Present
returns-in-Present c =
    by_match p.Present p.Present c.args.value.now (c.get.result.now ∷ []) c.args.slots.now c.bind_value.new.slots c.bind_value.result refl
    (ap (matched p.Present) c.in-Present.is ∙ matched-Present _
    ∙ ap (λ x. Rattle.std.proofs.Common.Some (x ∷ [])) (Rattle.std.proofs.Common.sym c.get.ensures)) c.bind_value.ensures

pub returns-in_default : goal.returns-in_default
returns-in_default c = (not_present c.args.value.now c.in_default.not-Present, refl)
