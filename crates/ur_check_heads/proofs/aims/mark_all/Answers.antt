use Rattle.ur_check_heads.proofs.Marking.{linked-start, linked-past, linked-end}
use Rattle.ur_check_heads.proofs.aims.mark_all.Goals as goal

pub loop-i-init : goal.loop-i-init
loop-i-init c = linked-start c.args.numbers.now c.args.aims.now

pub loop-i-preserved : goal.loop-i-preserved
loop-i-preserved c = linked-past c.args.numbers.now c.loop-i.i _ c.args.aims.now c.loop-i.aims c.mark_get.new.aims c.loop-i-test.true c.mark_get.ensures c.loop-i.invariant

pub returns : goal.returns
returns c = linked-end c.args.numbers.now c.loop-i.i c.args.aims.now c.loop-i.aims c.loop-i-test.false c.loop-i.invariant
