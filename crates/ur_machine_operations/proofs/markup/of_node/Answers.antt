use Rattle.std.proofs.Common.{◌++◌, ◌∷◌, [], ap, sym, ◌∙◌}
use Rattle.ur_terms.specs.State.{built}
use Rattle.ur_values.specs.declared.value.Value.TheVariants as v
use Rattle.ur_machine_operations.proofs.Arguments.{comes_as}
use Rattle.ur_machine_operations.proofs.markup.of_node.Goals as goal

pub returns-in-Ok : goal.returns-in-Ok
returns-in-Ok c = comes_as c.built.result (λ s. ap (λ l. built (v.Markup l) s) (sym (c.list.ensures ∙ ap (λ r. r.items) c.push.ensures ∙ ap (λ l. l ++ c.args.node ∷ []) c.in-Ok.ensures.empty))) c.built.ensures
