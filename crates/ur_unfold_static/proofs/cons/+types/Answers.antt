use Rattle.std.proofs.Common.{sym, ◌∙◌}
use Rattle.ur_unfold_static.specs.Words.{row_names}
use Rattle.ur_unfold_static.proofs.Loops.{passed, found, nowhere}
use Rattle.ur_unfold_static.proofs.Words.{no-parts, parts-here}
use Rattle.ur_unfold_static.proofs.cons.+types.Goals as goal

pub in_row-returns-then-in_part : goal.in_row-returns-then-in_part
in_row-returns-then-in_part _ c = found (row_names c.args.of) c.args.r.now c.as_slice-parts.result.now c.loop-i.i _ _ c.as_slice-parts.ensures c.loop-i.invariant
    (parts-here c.args.of c.as_slice-parts.result.now c.loop-i.i c.index-parts-i.result c.loop-i-test.true c.index-parts-i.is) (sym c.in_part.ensures ∙ c.if-in_part.true)

pub in_row-loop-i-preserved : goal.in_row-loop-i-preserved
in_row-loop-i-preserved _ c = passed (row_names c.args.of) c.as_slice-parts.result.now c.loop-i.i _ _ c.loop-i.invariant
    (parts-here c.args.of c.as_slice-parts.result.now c.loop-i.i c.index-parts-i.result c.loop-i-test.true c.index-parts-i.is) (sym c.in_part.ensures ∙ c.if-in_part.false)

pub in_row-returns : goal.in_row-returns
in_row-returns _ c = nowhere (row_names c.args.of) c.args.r.now c.as_slice-parts.result.now c.loop-i.i (no-parts c.args.of) c.as_slice-parts.ensures c.loop-i.invariant c.loop-i-test.false c.loop-i.auto.i-end
