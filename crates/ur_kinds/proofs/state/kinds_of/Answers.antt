use Rattle.ur_kinds.proofs.Values.{kinds-next}
use Rattle.ur_kinds.proofs.state.kinds_of.Goals as goal

pub loop-param-preserved : goal.loop-param-preserved
loop-param-preserved c = kinds-next c.args.params.now c.loop-param.param-index c.param-item.result _ _ c.loop-param-test.true c.param-item.is c.loop-param.invariant c.in_ok-add_kind.ensures
