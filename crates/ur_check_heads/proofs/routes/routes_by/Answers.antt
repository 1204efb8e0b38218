use Rattle.ur_check_heads.proofs.Targeting.{routed-start, routed-past, routed-targets, routed-methods}
use Rattle.ur_check_heads.proofs.routes.routes_by.Goals as goal

pub loop-i-init : goal.loop-i-init
loop-i-init c = routed-start c.args.modules.now c.args.names.now c.args.functions.now c.args.aims.now c.no_routes-routes.result c.no_routes-routes.ensures

pub loop-i-preserved : goal.loop-i-preserved
loop-i-preserved c =
    routed-past c.args.modules.now c.args.names.now c.args.functions.now c.args.aims.now c.loop-i.routes c.add_route.new.routes c.loop-i.i _ c.loop-i-test.true c.in_ok-add_route.ensures.targets c.in_ok-add_route.ensures.methods c.in_ok-add_route.ensures.fit c.loop-i.invariant

pub returns-clause-targets : goal.returns-clause-targets
returns-clause-targets c = routed-targets c.args.modules.now c.args.names.now c.args.functions.now c.args.aims.now c.loop-i.routes c.loop-i.i c.loop-i-test.false c.loop-i.invariant

pub returns-clause-methods : goal.returns-clause-methods
returns-clause-methods c = routed-methods c.args.modules.now c.args.names.now c.args.functions.now c.args.aims.now c.loop-i.routes c.loop-i.i c.loop-i-test.false c.loop-i.invariant

pub returns-clause-fit : goal.returns-clause-fit
returns-clause-fit c = c.loop-i.invariant.fit
