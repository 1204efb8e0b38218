use Rattle.std.proofs.Common.{not, ◌==◌, rules, tests, ap, ◌∙◌}
use Rattle.std.specs.Prelude.{filter}
use Rattle.std.proofs.lemmas.Fn.{filter_same}
use Rattle.ur_base.specs.declared.names.Name.{Name}
use Rattle.ur_values.specs.declared.value.Value.{Value}
use Rattle.ur_machine_operations.proofs.records.without_field.Goals as goal

pub returns : goal.returns
returns c = c.from_vec.ensures ∙ filter_same _ (λ (f : Name × Value). not (f.0.0 == c.args.name.0)) _ (λ x b q k. search (rules, tests)) _ _ c.retain.ensures.filtered ∙ ap (filter (λ (f : Name × Value). not (f.0.0 == c.args.name.0))) c.into_vec-fields.ensures
