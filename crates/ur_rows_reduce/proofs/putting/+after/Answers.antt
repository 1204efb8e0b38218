use Rattle.ur_rows.specs.declared.normal.NormalType.TheVariants as ty
use Rattle.ur_rows.specs.Put.{put_part, put_type}
use Rattle.ur_rows_reduce.specs.Height.{type_height, row_height}
use Rattle.ur_rows_reduce.specs.Lifts.{Within}
use Rattle.ur_rows_reduce.proofs.Lifting.{kept-up, arrow-up, field-up, map-up, map-within, rows-start, rows-step, rows-whole, after-opt, after-many, after-transaction}
use Rattle.ur_rows_reduce.proofs.putting.+after.Goals as goal

pub part_after-returns-in_ok-lower-in-Field : goal.part_after-returns-in_ok-lower-in-Field
part_after-returns-in_ok-lower-in-Field g t c = field-up c.type_after.result (Within (g.L.Lifts.levels c.args.how.now)) c.args.depth c.in_ok-lower-in-Field.field-0 c.args.levels
    c.args.p.now c.in-Field.field-0 c.get.result.now c.in-Field.t c.in-Field.is c.get.ensures c.in_ok-lower-in-Field.ensures c.type_after.ensures

pub part_after-returns-in_ok-deeper-in-Mapped : goal.part_after-returns-in_ok-deeper-in-Mapped
part_after-returns-in_ok-deeper-in-Mapped g t c = map-up c.type_after-in-Mapped.result (Within (g.L.Lifts.levels c.args.how.now)) c.in_ok-below-in-Mapped.below c.args.levels c.of_row-in-Mapped.result
    (λ σ. type_height (put_type σ c.in_ok-deeper-in-Mapped.field-0 c.get-in-Mapped.result.now)) (λ σ. row_height (put_part σ c.args.depth c.args.p.now)) c.in_ok-below-in-Mapped.ensures
    (λ σ w. map-within (g.L.Lifts.levels c.args.how.now) σ c.args.depth c.in_ok-deeper-in-Mapped.field-0 c.of_row-in-Mapped.result c.args.p.now c.in-Mapped.v c.in-Mapped.f c.get-in-Mapped.result.now
    c.in-Mapped.is c.in_ok-deeper-in-Mapped.ensures c.get-in-Mapped.ensures c.of_row-in-Mapped.ensures w) c.type_after-in-Mapped.ensures

pub row_after-loop-i-init : goal.row_after-loop-i-init
row_after-loop-i-init g t c = rows-start (Within (g.L.Lifts.levels c.args.how.now)) c.args.depth c.as_slice-parts.result.now c.args.levels

pub row_after-loop-i-preserved : goal.row_after-loop-i-preserved
row_after-loop-i-preserved g t c = rows-step (Within (g.L.Lifts.levels c.args.how.now)) c.args.depth c.as_slice-parts.result.now c.loop-i.i c.args.levels c.index-parts-i.result
    c.loop-i-test.true c.index-parts-i.is c.loop-i.invariant c.in_ok-part_after.ensures

pub row_after-returns : goal.row_after-returns
row_after-returns g t c = rows-whole (Within (g.L.Lifts.levels c.args.how.now)) c.args.depth c.as_slice-parts.result.now c.args.r.now c.loop-i.i c.args.levels c.as_slice-parts.ensures
    c.loop-i.invariant c.loop-i-test.false

pub type_after-returns-in_ok-lower-in-Opt : goal.type_after-returns-in_ok-lower-in-Opt
type_after-returns-in_ok-lower-in-Opt g t c = kept-up (λ z. ty.Opt z) after-opt c.type_after.result (Within (g.L.Lifts.levels c.args.how.now)) c.args.depth c.in_ok-lower-in-Opt.field-0 c.args.levels
    c.args.t.now c.get.result.now c.in-Opt.x c.in-Opt.is c.get.ensures c.in_ok-lower-in-Opt.ensures c.type_after.ensures

pub type_after-returns-in_ok-lower-in-Many : goal.type_after-returns-in_ok-lower-in-Many
type_after-returns-in_ok-lower-in-Many g t c = kept-up (λ z. ty.Many z) after-many c.type_after-in-Many.result (Within (g.L.Lifts.levels c.args.how.now)) c.args.depth c.in_ok-lower-in-Many.field-0 c.args.levels
    c.args.t.now c.get-in-Many.result.now c.in-Many.x c.in-Many.is c.get-in-Many.ensures c.in_ok-lower-in-Many.ensures c.type_after-in-Many.ensures

pub type_after-returns-in_ok-lower-in-Transaction : goal.type_after-returns-in_ok-lower-in-Transaction
type_after-returns-in_ok-lower-in-Transaction g t c = kept-up (λ z. ty.Transaction z) after-transaction c.type_after-in-Transaction.result (Within (g.L.Lifts.levels c.args.how.now)) c.args.depth c.in_ok-lower-in-Transaction.field-0 c.args.levels
    c.args.t.now c.get-in-Transaction.result.now c.in-Transaction.x c.in-Transaction.is c.get-in-Transaction.ensures c.in_ok-lower-in-Transaction.ensures c.type_after-in-Transaction.ensures

pub type_after-returns-in_ok-type_after-in-Arrow : goal.type_after-returns-in_ok-type_after-in-Arrow
type_after-returns-in_ok-type_after-in-Arrow g t c = arrow-up c.type_after-in-Arrow-2.result (Within (g.L.Lifts.levels c.args.how.now)) c.args.depth c.in_ok-below-in-Arrow.below c.args.levels
    c.args.t.now c.get-in-Arrow.result.now c.get-in-Arrow-2.result.now c.in-Arrow.a c.in-Arrow.b c.in-Arrow.is c.get-in-Arrow.ensures c.get-in-Arrow-2.ensures c.in_ok-below-in-Arrow.ensures
    c.in_ok-type_after-in-Arrow.ensures c.type_after-in-Arrow-2.ensures
