use Rattle.ur_tags.proofs.Telling.{always, apart_step, apart_end}
use Rattle.ur_tags.proofs.routes.is_apart.Goals as goal

pub loop-other-preserved : goal.loop-other-preserved
loop-other-preserved c =
    apart_step c.args.others.now c.loop-other.other-index c.other-item.result c.args.route.now c.as_slice-module_name.result.now c.as_slice-function_name.result.now c.is_named.result
    c.loop-other-test.true c.other-item.is c.as_slice-module_name.ensures c.as_slice-function_name.ensures c.is_named.ensures c.if-is_named.false c.loop-other.invariant

pub returns : goal.returns
returns c = always (apart_end c.args.others.now c.loop-other.other-index c.args.route.now c.loop-other-test.false c.loop-other.invariant)
