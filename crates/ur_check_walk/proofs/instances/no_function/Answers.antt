use Rattle.ur_check_rules.proofs.CalleesCalled.{given-less, not-con}
use Rattle.ur_check_walk.proofs.Passing.{within-next, within-told}
use Rattle.ur_check_walk.proofs.instances.no_function.Goals as goal

pub loop-head-preserved : goal.loop-head-preserved
loop-head-preserved c = within-next c.args.e.now.form c.loop-head.head.now.form c.in-ConApp.inner c.get-head.result.now _ c.in-ConApp.is c.get-head.ensures c.loop-head.invariant

pub loop-head-smaller : goal.loop-head-smaller
loop-head-smaller c = given-less c.loop-head.head.now.form c.in-ConApp.inner c.get-head.result.now _ c.in-ConApp.is c.get-head.ensures

pub returns : goal.returns
returns c = within-told c.args.around.now c.args.e.now.form c.loop-head.head.now.form c.no_name.result c.loop-head.invariant (c.no_name.ensures (not-con c.loop-head.head.now.form c.in_default.not-ConApp))
