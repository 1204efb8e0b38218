use Rattle.ur_rows_normal.proofs.Arrows.{field-placed, map-placed, placed-result, runs-result}
use Rattle.ur_rows_normal.proofs.standing.+places.Goals as goal

pub is_placed-returns-then-is_placed : goal.is_placed-returns-then-is_placed
is_placed-returns-then-is_placed t c = placed-result c.args.t.now c.in-Arrow.a c.in-Arrow.b c.get.result.now c.get-then-is_placed.result.now c.is_placed.result c.may_run.result
    c.in-Arrow.is c.get.ensures c.is_placed.ensures c.if-is_placed.true c.get-then-is_placed.ensures c.may_run.ensures

pub may_run-returns-then-is_placed : goal.may_run-returns-then-is_placed
may_run-returns-then-is_placed t c = runs-result c.args.t.now c.in-Arrow.a c.in-Arrow.b c.get-in-Arrow.result.now c.get-then-is_placed.result.now c.is_placed-in-Arrow.result c.may_run.result
    c.in-Arrow.is c.get-in-Arrow.ensures c.is_placed-in-Arrow.ensures c.if-is_placed.true c.get-then-is_placed.ensures c.may_run.ensures

pub part_is_placed-returns-in-Field : goal.part_is_placed-returns-in-Field
part_is_placed-returns-in-Field t c = field-placed c.args.p.now c.in-Field.field-0 c.in-Field.t c.get.result.now c.is_placed.result c.in-Field.is c.get.ensures c.is_placed.ensures

pub part_is_placed-returns-in-Mapped : goal.part_is_placed-returns-in-Mapped
part_is_placed-returns-in-Mapped t c = map-placed c.args.p.now c.in-Mapped.field-0 c.in-Mapped.f c.get-in-Mapped.result.now c.is_placed-in-Mapped.result c.in-Mapped.is c.get-in-Mapped.ensures c.is_placed-in-Mapped.ensures
