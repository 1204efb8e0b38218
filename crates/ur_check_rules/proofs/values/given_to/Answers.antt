use Rattle.ur_check_rules.proofs.CalleesCalled.{peels-init, peels-past, given-less, not-con}
use Rattle.ur_check_rules.proofs.values.given_to.Goals as goal

pub loop-head-init : goal.loop-head-init
loop-head-init c = peels-init c.args.e.now.form c.new-given.result c.new-given.ensures

pub loop-head-preserved : goal.loop-head-preserved
loop-head-preserved c =
    peels-past c.args.e.now.form c.loop-head.head.now.form c.loop-head.given c.push.new.self c.in-ConApp.inner c.get-head.result.now _ c.in_ok-push.ensures.ok c.in-ConApp.is c.get-head.ensures c.loop-head.invariant

pub loop-head-smaller : goal.loop-head-smaller
loop-head-smaller c = given-less c.loop-head.head.now.form c.in-ConApp.inner c.get-head.result.now _ c.in-ConApp.is c.get-head.ensures

pub returns-clause-head : goal.returns-clause-head
returns-clause-head c = not-con c.loop-head.head.now.form c.in_default.not-ConApp
