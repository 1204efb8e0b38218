use Rattle.std.proofs.Common.{sym, ap, ◌∙◌}
use Rattle.ur_rows.specs.Order.{joined}
use Rattle.ur_rows.specs.IsNormal.{is_row}
use Rattle.ur_rows.proofs.Order.{with_part-row}
use Rattle.ur_rows.proofs.Inserting.{joined-last}
use Rattle.ur_rows_reduce.proofs.place.insert_all.Goals as goal

pub loop-part-preserved : goal.loop-part-preserved
loop-part-preserved c = (
  ap (joined c.pop.new.self) c.in_ok-right.ensures ∙ sym (joined-last c.pop.new.self c.loop-part.right c.in-Some.part) ∙
      ap (λ z. joined z c.loop-part.right) (sym c.in-Some.ensures) ∙ c.loop-part.invariant.0,
  ap is_row c.in_ok-right.ensures ∙ with_part-row c.in-Some.part c.loop-part.right c.loop-part.invariant.1,
)
