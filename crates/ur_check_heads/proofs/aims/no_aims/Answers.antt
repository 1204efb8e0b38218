use Rattle.ur_check_heads.specs.Aims.{no_method}
use Rattle.ur_check_heads.proofs.Marking.{const-next, const-end}
use Rattle.ur_check_heads.proofs.aims.no_aims.Goals as goal

pub loop-i-preserved : goal.loop-i-preserved
loop-i-preserved c = const-next no_method c.args.functions.now c.loop-i._i c.loop-i.of _ c.loop-i-test.true c.in_ok-push.ensures.ok c.loop-i.invariant

pub returns-clause-of : goal.returns-clause-of
returns-clause-of c = const-end no_method c.args.functions.now c.loop-i._i c.loop-i.of c.loop-i-test.false c.loop-i.invariant
