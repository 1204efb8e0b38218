use Rattle.std.proofs.Common.{nat_lt, rules, tests, sym, ◌∙◌}
use Rattle.std.proofs.lemmas.Iterator.{YieldsList-from_slice}
use Rattle.std.proofs.lemmas.Iterator.Search.{position_from_yields_List}
use Rattle.ur_base.specs.declared.names.Name.{Name}
use Rattle.ur_values.specs.declared.value.Value.{Value}
use Rattle.ur_machine_operations.proofs.Fields.{goes_at, goes_last}
use Rattle.ur_machine_operations.proofs.records.place_for.Goals as goal

pub returns-in-Some : goal.returns-in-Some
returns-in-Some c = goes_at _ c.args.fields.now c.in-Some.place (sym (position_from_yields_List (λ (f : Name × Value). nat_lt c.args.name.0 f.0.0) _ _ c.position.result c.position.ensures.ran (YieldsList-from_slice _ c.iter.ensures.rest) (λ x b q k. search (rules, tests))) ∙ c.in-Some.is)

pub returns-in-None : goal.returns-in-None
returns-in-None c = c.len.ensures ∙ goes_last _ c.args.fields.now (sym (position_from_yields_List (λ (f : Name × Value). nat_lt c.args.name.0 f.0.0) _ _ c.position.result c.position.ensures.ran (YieldsList-from_slice _ c.iter.ensures.rest) (λ x b q k. search (rules, tests))) ∙ c.in-None.is)
