use Rattle.std.proofs.Common.{sym, ap, ◌∙◌}
use Rattle.ur_sqltype.specs.Query.{in_order_on}
use Rattle.ur_sqltype_statements.proofs.Inserting.{in_order-last}
use Rattle.ur_sqltype_statements.proofs.fields.in_order.Goals as goal

pub loop-field-preserved : goal.loop-field-preserved
loop-field-preserved c = ap (in_order_on c.pop.new.self) c.in_ok-done.ensures ∙ sym (in_order-last c.pop.new.self c.loop-field.done c.in-Some.field) ∙ ap (λ z. in_order_on z c.loop-field.done) (sym c.in-Some.ensures) ∙ c.loop-field.invariant
