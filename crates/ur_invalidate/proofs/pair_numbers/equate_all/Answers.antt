use Rattle.ur_invalidate.proofs.Stages.{stands_more}
use Rattle.ur_invalidate.proofs.pair_numbers.equate_all.Goals as goal

pub loop-equation-preserved : goal.loop-equation-preserved
loop-equation-preserved c =
    stands_more c.args.equations.now c.loop-equation.equation-index c.equation-item.result c.loop-equation.numbering c.equate.new.self c.loop-equation-test.true c.equation-item.is c.loop-equation.invariant c.in_ok-equate.ensures
