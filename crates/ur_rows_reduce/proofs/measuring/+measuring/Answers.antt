use Rattle.std.proofs.Common.{arith}
use Rattle.std.proofs.lemmas.Bool.Decides.{nat_tests}
use Rattle.ur_rows_reduce.proofs.Heights.{one-higher, field-height, mapped-height, arrow-height}
use Rattle.ur_rows_reduce.proofs.measuring.+measuring.Goals as goal

pub part_height-returns-in_ok-inner-in-Field : goal.part_height-returns-in_ok-inner-in-Field
part_height-returns-in_ok-inner-in-Field t c = one-higher c.in_ok-inner-in-Field.inner c.in_ok-lower-in-Field.field-0 c.args.levels _ _ c.in_ok-lower-in-Field.ensures c.in_ok-inner-in-Field.ensures
    (field-height c.args.p.now c.in-Field.field-0 c.in-Field.t c.get.result.now c.in-Field.is c.get.ensures)

pub part_height-returns-in_ok-inner-in-Mapped : goal.part_height-returns-in_ok-inner-in-Mapped
part_height-returns-in_ok-inner-in-Mapped t c = one-higher c.in_ok-inner-in-Mapped.inner c.in_ok-lower-in-Mapped.field-0 c.args.levels _ _ c.in_ok-lower-in-Mapped.ensures c.in_ok-inner-in-Mapped.ensures
    (mapped-height c.args.p.now c.in-Mapped.field-0 c.in-Mapped.f c.get-in-Mapped.result.now c.in-Mapped.is c.get-in-Mapped.ensures)

pub type_height-returns-in_ok-right-in-Arrow : goal.type_height-returns-in_ok-right-in-Arrow
type_height-returns-in_ok-right-in-Arrow t c =
    let e = arrow-height c.args.t.now c.in-Arrow.a c.in-Arrow.b c.get-in-Arrow.result.now c.get-in-Arrow-2.result.now c.in-Arrow.is c.get-in-Arrow.ensures c.get-in-Arrow-2.ensures in
    let l = c.in_ok-left-in-Arrow.ensures.0 in
    let m = c.in_ok-left-in-Arrow.ensures.1 in
    let r = c.in_ok-right-in-Arrow.ensures.0 in
    let s = c.in_ok-right-in-Arrow.ensures.1 in
    (grind (arith, nat_tests, e, l, r), grind (arith, nat_tests, m, s))
