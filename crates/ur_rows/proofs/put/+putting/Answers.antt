use Rattle.std.proofs.Common.{rules, arith}
use Rattle.ur_rows.proofs.PutMade.{puts, ok-is, field-is, mapped-is, arrow-is}
use Rattle.ur_rows.proofs.put.+putting.Goals as goal

pub put_part-returns-in_ok-boxed-in-Field : goal.put_part-returns-in_ok-boxed-in-Field
put_part-returns-in_ok-boxed-in-Field g t c = ok-is c.one.result _ _
    (field-is (g.P.Puts.putting c.args.how.now) c.args.depth c.args.p.now c.in-Field.l c.in_ok-l-in-Field.l c.in-Field.t c.get.result.now c.in_ok-t-in-Field.t c.in_ok-boxed-in-Field.field-0
    c.in-Field.is c.in_ok-l-in-Field.ensures c.get.ensures c.in_ok-t-in-Field.ensures c.in_ok-boxed-in-Field.ensures) c.one.ensures

pub put_part-returns-in_ok-f-in-Mapped : goal.put_part-returns-in_ok-f-in-Mapped
put_part-returns-in_ok-f-in-Mapped g t c = ok-is c.map_at.result _ _
    (mapped-is (g.P.Puts.putting c.args.how.now) c.args.depth c.in_ok-deeper-in-Mapped.field-0 c.args.p.now c.in-Mapped.v c.in-Mapped.f c.get-in-Mapped.result.now c.in_ok-f-in-Mapped.f
    c.in-Mapped.is c.in_ok-deeper-in-Mapped.ensures c.get-in-Mapped.ensures c.in_ok-f-in-Mapped.ensures) c.map_at.ensures

pub put_type-returns-in_ok-boxed-in-Opt : goal.put_type-returns-in_ok-boxed-in-Opt
put_type-returns-in_ok-boxed-in-Opt g t c = search (rules, puts)

pub put_type-returns-in_ok-boxed-in-Many : goal.put_type-returns-in_ok-boxed-in-Many
put_type-returns-in_ok-boxed-in-Many g t c = search (rules, puts)

pub put_type-returns-in_ok-boxed-in-Transaction : goal.put_type-returns-in_ok-boxed-in-Transaction
put_type-returns-in_ok-boxed-in-Transaction g t c = search (rules, puts)

pub put_type-returns-in_ok-boxed-in-Arrow-2 : goal.put_type-returns-in_ok-boxed-in-Arrow-2
put_type-returns-in_ok-boxed-in-Arrow-2 g t c =
    arrow-is (g.P.Puts.putting c.args.how.now) c.args.depth c.args.t.now c.in-Arrow.a c.in-Arrow.b c.get-in-Arrow.result.now c.get-in-Arrow-2.result.now
    c.in_ok-x-in-Arrow.x c.in_ok-y-in-Arrow.y c.in_ok-boxed-in-Arrow.field-0 c.in_ok-boxed-in-Arrow-2.field-0
    c.in-Arrow.is c.get-in-Arrow.ensures c.get-in-Arrow-2.ensures c.in_ok-x-in-Arrow.ensures c.in_ok-y-in-Arrow.ensures c.in_ok-boxed-in-Arrow.ensures c.in_ok-boxed-in-Arrow-2.ensures

pub put_type-returns-in_ok-put_row-in-Record : goal.put_type-returns-in_ok-put_row-in-Record
put_type-returns-in_ok-put_row-in-Record g t c = search (rules, puts)

pub put_type-returns-in_ok-put_row-in-Form : goal.put_type-returns-in_ok-put_row-in-Form
put_type-returns-in_ok-put_row-in-Form g t c = search (rules, puts)
