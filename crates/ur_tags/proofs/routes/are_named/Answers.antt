use Rattle.ur_tags.proofs.Telling.{always, named_step, named_end}
use Rattle.ur_tags.proofs.routes.are_named.Goals as goal

pub loop-route-preserved : goal.loop-route-preserved
loop-route-preserved c =
    named_step c.args.routes.now c.loop-route.route-index c.route-item.result c.has_names.result c.loop-route-test.true c.route-item.is c.has_names.ensures c.if-not-has_names.false
    c.loop-route.invariant

pub returns : goal.returns
returns c = always (named_end c.args.routes.now c.loop-route.route-index c.loop-route-test.false c.loop-route.invariant)
