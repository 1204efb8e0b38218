use Rattle.std.proofs.Common.{sym, ◌∙◌}
use Rattle.ur_unfold_static.specs.Words.{cons_name}
use Rattle.ur_unfold_static.proofs.Loops.{passed, found, nowhere}
use Rattle.ur_unfold_static.proofs.Words.{cons-here, no-cons}
use Rattle.ur_unfold_static.proofs.cons.in_cons.Goals as goal

pub returns-then-in_con : goal.returns-then-in_con
returns-then-in_con c = found (cons_name c.args.of) c.args.cons.now c.as_slice-all.result.now c.loop-i.i _ _ c.as_slice-all.ensures c.loop-i.invariant
    (cons-here c.args.of c.as_slice-all.result.now c.loop-i.i c.index-all-i.result c.loop-i-test.true c.index-all-i.is) (sym c.in_con.ensures ∙ c.if-in_con.true)

pub loop-i-preserved : goal.loop-i-preserved
loop-i-preserved c = passed (cons_name c.args.of) c.as_slice-all.result.now c.loop-i.i _ _ c.loop-i.invariant
    (cons-here c.args.of c.as_slice-all.result.now c.loop-i.i c.index-all-i.result c.loop-i-test.true c.index-all-i.is) (sym c.in_con.ensures ∙ c.if-in_con.false)

pub returns : goal.returns
returns c = nowhere (cons_name c.args.of) c.args.cons.now c.as_slice-all.result.now c.loop-i.i (no-cons c.args.of) c.as_slice-all.ensures c.loop-i.invariant c.loop-i-test.false c.loop-i.auto.i-end
