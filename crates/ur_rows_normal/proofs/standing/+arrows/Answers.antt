use Rattle.ur_rows_normal.proofs.Arrows.{field-arrow, map-arrow}
use Rattle.ur_rows_normal.proofs.standing.+arrows.Goals as goal

pub part_holds_arrow-returns-in-Field : goal.part_holds_arrow-returns-in-Field
part_holds_arrow-returns-in-Field t c = field-arrow c.args.p.now c.in-Field.field-0 c.in-Field.t c.get.result.now c.holds_arrow.result c.in-Field.is c.get.ensures c.holds_arrow.ensures

pub part_holds_arrow-returns-in-Mapped : goal.part_holds_arrow-returns-in-Mapped
part_holds_arrow-returns-in-Mapped t c = map-arrow c.args.p.now c.in-Mapped.field-0 c.in-Mapped.f c.get-in-Mapped.result.now c.holds_arrow-in-Mapped.result c.in-Mapped.is c.get-in-Mapped.ensures c.holds_arrow-in-Mapped.ensures
