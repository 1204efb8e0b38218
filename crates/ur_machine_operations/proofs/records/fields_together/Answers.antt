use Rattle.std.proofs.Common.{sym, ap, ◌∙◌}
use Rattle.ur_terms.specs.Values.{fields_together}
use Rattle.ur_machine_operations.proofs.Fields.{together_last}
use Rattle.ur_machine_operations.proofs.records.fields_together.Goals as goal

pub loop-name-preserved : goal.loop-name-preserved
loop-name-preserved c = ap (fields_together c.pop.new.self) c.in_ok-all.ensures ∙ sym (together_last c.pop.new.self _ c.loop-name.all) ∙ ap (λ l. fields_together l c.loop-name.all) (sym c.in-Some.ensures) ∙ c.loop-name.invariant

pub returns : goal.returns
returns c = sym (ap (λ l. fields_together l c.loop-name.all) c.in_default.ensures.0) ∙ c.loop-name.invariant
