use Rattle.std.proofs.Common.{◌∷◌, [], Some, sym, ap, ◌∙◌}
use Rattle.ur_terms.specs.Run.{held_by}
use Rattle.ur_emit.proofs.Matching.{bound_none, held_bound}
use Rattle.ur_emit.proofs.binding.bind_held.Goals as goal

pub returns-in-Some : goal.returns-in-Some
returns-in-Some c =
    held_bound c.bind_value.result (held_by c.args.held.now) (c.get.result.now ∷ []) c.args.slots.now c.bind_value.new.slots
    (ap held_by c.in-Some.is ∙ ap (λ x. x ∷ []) (sym c.get.ensures)) c.bind_value.ensures

pub returns-in-None : goal.returns-in-None
returns-in-None c = λ p x e. bound_none p x c.args.slots.now (e ∙ ap (λ held. Some (held_by held)) c.in-None.is)
