use Rattle.std.proofs.Common.{◌++◌, ◌∷◌, [], ap, ◌∙◌}
use Rattle.ur_values.specs.declared.value.Value.TheVariants as v
use Rattle.ur_machine_operations.proofs.Opened.{first_known, nothing_less}
use Rattle.ur_machine_operations.proofs.matching.first_and_rest.Goals as goal

pub remove-first-requires : goal.remove-first-requires
remove-first-requires c = nothing_less c.args.items c.requires

pub returns : goal.returns
returns c = first_known c.args.items c.remove-first.result c.remove-first.new.self _ c.remove-first.ensures.element c.remove-first.ensures.rest
    (c.in_ok-push.ensures.ok ∙ ap (λ l. l ++ v.Many c.remove-first.new.self ∷ []) c.in_ok-bound.ensures)
