use Rattle.std.proofs.Common.{refl, ◌∙◌, arith}
use Rattle.std.proofs.lemmas.Grind.{common_steps}
use Rattle.ur_rows.proofs.PutMade.{field-is, mapped-is, arrow-is}
use Rattle.ur_rows_reduce.proofs.After.{mapped-whole, mapped-over, over-is}
use Rattle.ur_rows_reduce.proofs.Within.{row-made, row-left, row-over, pair-is, pair-fits, arrow-count, field-count}
use Rattle.ur_rows_reduce.proofs.count.+within.Goals as goal

pub put_type_within-returns-in_err-x-in-Arrow-clause-over : goal.put_type_within-returns-in_err-x-in-Arrow-clause-over
put_type_within-returns-in_err-x-in-Arrow-clause-over g t c =
    let e = arrow-count (g.P.Puts.putting c.args.how.now) c.args.depth c.args.t.now c.in-Arrow.a c.in-Arrow.b c.get-in-Arrow.result.now c.in-Arrow.b c.in-Arrow.is c.get-in-Arrow.ensures refl in
    grind (arith, common_steps)

pub put_type_within-returns-in_err-y-in-Arrow-clause-over : goal.put_type_within-returns-in_err-y-in-Arrow-clause-over
put_type_within-returns-in_err-y-in-Arrow-clause-over g t c =
    let e = arrow-count (g.P.Puts.putting c.args.how.now) c.args.depth c.args.t.now c.in-Arrow.a c.in-Arrow.b c.get-in-Arrow.result.now c.get-in-Arrow-2.result.now c.in-Arrow.is c.get-in-Arrow.ensures c.get-in-Arrow-2.ensures in
    grind (arith, common_steps)

pub put_type_within-returns-in_err-right-in-Arrow-clause-over : goal.put_type_within-returns-in_err-right-in-Arrow-clause-over
put_type_within-returns-in_err-right-in-Arrow-clause-over g t c =
    let e = arrow-count (g.P.Puts.putting c.args.how.now) c.args.depth c.args.t.now c.in-Arrow.a c.in-Arrow.b c.get-in-Arrow.result.now c.get-in-Arrow-2.result.now c.in-Arrow.is c.get-in-Arrow.ensures c.get-in-Arrow-2.ensures in
    grind (arith, common_steps)

pub put_type_within-returns-in_ok-left-in-Arrow-clause-form : goal.put_type_within-returns-in_ok-left-in-Arrow-clause-form
put_type_within-returns-in_ok-left-in-Arrow-clause-form g t c =
    arrow-is (g.P.Puts.putting c.args.how.now) c.args.depth c.args.t.now c.in-Arrow.a c.in-Arrow.b c.get-in-Arrow.result.now c.get-in-Arrow-2.result.now
    c.in_ok-x-in-Arrow.x.0 c.in_ok-y-in-Arrow.y.0 c.in_ok-left-in-Arrow.left c.in_ok-right-in-Arrow.right.0
    c.in-Arrow.is c.get-in-Arrow.ensures c.get-in-Arrow-2.ensures c.in_ok-x-in-Arrow.ensures.form c.in_ok-y-in-Arrow.ensures.form c.in_ok-left-in-Arrow.ensures c.in_ok-right-in-Arrow.ensures.form

pub put_type_within-returns-in_ok-left-in-Arrow-clause-fits : goal.put_type_within-returns-in_ok-left-in-Arrow-clause-fits
put_type_within-returns-in_ok-left-in-Arrow-clause-fits g t c =
    let e = arrow-count (g.P.Puts.putting c.args.how.now) c.args.depth c.args.t.now c.in-Arrow.a c.in-Arrow.b c.get-in-Arrow.result.now c.get-in-Arrow-2.result.now c.in-Arrow.is c.get-in-Arrow.ensures c.get-in-Arrow-2.ensures in
    grind (arith, common_steps)

pub put_part_within-returns-in_err-made-in-Field-clause-over : goal.put_part_within-returns-in_err-made-in-Field-clause-over
put_part_within-returns-in_err-made-in-Field-clause-over g t c =
    let e = field-count (g.P.Puts.putting c.args.how.now) c.args.depth c.args.p.now c.in-Field.l c.in-Field.t c.get.result.now c.in-Field.is c.get.ensures in
    grind (arith, common_steps)

pub put_part_within-returns-in_err-child-in-Field-clause-over : goal.put_part_within-returns-in_err-child-in-Field-clause-over
put_part_within-returns-in_err-child-in-Field-clause-over g t c =
    let e = field-count (g.P.Puts.putting c.args.how.now) c.args.depth c.args.p.now c.in-Field.l c.in-Field.t c.get.result.now c.in-Field.is c.get.ensures in
    grind (arith, common_steps)

pub put_part_within-returns-in_ok-row-in-Field-clause-form : goal.put_part_within-returns-in_ok-row-in-Field-clause-form
put_part_within-returns-in_ok-row-in-Field-clause-form g t c = c.in_ok-row-in-Field.ensures ∙
    field-is (g.P.Puts.putting c.args.how.now) c.args.depth c.args.p.now c.in-Field.l c.in_ok-l-in-Field.l c.in-Field.t c.get.result.now c.in_ok-made-in-Field.made.0 c.in_ok-child-in-Field.child.0
    c.in-Field.is c.in_ok-l-in-Field.ensures c.get.ensures c.in_ok-made-in-Field.ensures.form c.in_ok-child-in-Field.ensures.form

pub put_part_within-returns-in_ok-row-in-Field-clause-fits : goal.put_part_within-returns-in_ok-row-in-Field-clause-fits
put_part_within-returns-in_ok-row-in-Field-clause-fits g t c =
    let e = field-count (g.P.Puts.putting c.args.how.now) c.args.depth c.args.p.now c.in-Field.l c.in-Field.t c.get.result.now c.in-Field.is c.get.ensures in
    grind (arith, common_steps)

pub put_part_within-returns-in_err-f-in-Mapped-clause-over : goal.put_part_within-returns-in_err-f-in-Mapped-clause-over
put_part_within-returns-in_err-f-in-Mapped-clause-over g t c =
    let k = mapped-over (g.P.Puts.putting c.args.how.now) c.args.depth c.in_ok-within-in-Mapped.within c.args.p.now c.in-Mapped.v c.in-Mapped.f c.get-in-Mapped.result.now c.in_ok-drops-in-Mapped.field-0 c.args.nodes
    c.in-Mapped.is c.in_ok-within-in-Mapped.ensures c.get-in-Mapped.ensures c.in_ok-drops-in-Mapped.ensures c.if-branch.false in
    grind (arith, common_steps)

pub put_part_within-returns-in_ok-f-in-Mapped-clause-form : goal.put_part_within-returns-in_ok-f-in-Mapped-clause-form
put_part_within-returns-in_ok-f-in-Mapped-clause-form g t c = pair-is c.map_within.result _ _
    (mapped-is (g.P.Puts.putting c.args.how.now) c.args.depth c.in_ok-within-in-Mapped.within c.args.p.now c.in-Mapped.v c.in-Mapped.f c.get-in-Mapped.result.now c.in_ok-f-in-Mapped.f.0
    c.in-Mapped.is c.in_ok-within-in-Mapped.ensures c.get-in-Mapped.ensures c.in_ok-f-in-Mapped.ensures.form) c.map_within.ensures.form

pub put_part_within-returns-in_ok-f-in-Mapped-clause-fits : goal.put_part_within-returns-in_ok-f-in-Mapped-clause-fits
put_part_within-returns-in_ok-f-in-Mapped-clause-fits g t c = pair-fits c.map_within.result _ _ _
    (mapped-whole (g.P.Puts.putting c.args.how.now) c.args.depth c.in_ok-within-in-Mapped.within c.args.p.now c.in-Mapped.v c.in-Mapped.f c.get-in-Mapped.result.now c.in_ok-f-in-Mapped.f.0
    c.in-Mapped.is c.in_ok-within-in-Mapped.ensures c.get-in-Mapped.ensures c.in_ok-f-in-Mapped.ensures.form) c.map_within.ensures.fits

pub put_part_within-returns-in_ok-f-in-Mapped-clause-over : goal.put_part_within-returns-in_ok-f-in-Mapped-clause-over
put_part_within-returns-in_ok-f-in-Mapped-clause-over g t c = over-is _ _ _
    (mapped-whole (g.P.Puts.putting c.args.how.now) c.args.depth c.in_ok-within-in-Mapped.within c.args.p.now c.in-Mapped.v c.in-Mapped.f c.get-in-Mapped.result.now c.in_ok-f-in-Mapped.f.0
    c.in-Mapped.is c.in_ok-within-in-Mapped.ensures c.get-in-Mapped.ensures c.in_ok-f-in-Mapped.ensures.form) c.map_within.ensures.over

pub put_row_within-loop-i-preserved : goal.put_row_within-loop-i-preserved
put_row_within-loop-i-preserved g t c =
    let σ = g.P.Puts.putting c.args.how.now in (
      row-made σ c.args.depth c.as_slice-parts.result.now _ c.loop-i.i c.index-parts-count.result c.in_ok-made.made.0 c.loop-i.row c.in_ok-row.row
          c.loop-i-test.true c.loop-i.invariant.2 c.index-parts-count.is c.in_ok-made.ensures.form c.loop-i.invariant.0 c.in_ok-row.ensures,
      row-left σ c.args.depth c.as_slice-parts.result.now _ c.loop-i.i c.index-parts-count.result c.loop-i.left c.in_ok-made.made.1 c.args.nodes
          c.loop-i-test.true c.loop-i.invariant.2 c.index-parts-count.is c.in_ok-made.ensures.fits c.loop-i.invariant.1,
      c.loop-i.invariant.2,
    )

pub put_row_within-returns-in_err-made-clause-over : goal.put_row_within-returns-in_err-made-clause-over
put_row_within-returns-in_err-made-clause-over g t c =
    let k = row-over (g.P.Puts.putting c.args.how.now) c.args.depth c.as_slice-parts.result.now c.args.r.now _ c.loop-i.i c.index-parts-count.result c.loop-i.left c.args.nodes
    c.loop-i-test.true c.loop-i.invariant.2 c.index-parts-count.is c.as_slice-parts.ensures c.loop-i.invariant.1 in
    grind (arith, common_steps)
