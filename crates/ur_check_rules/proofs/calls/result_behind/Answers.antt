use Rattle.ur_tree.specs.Typing.{parameters}
use Rattle.ur_check_rules.proofs.Params.{result-past}
use Rattle.ur_check_rules.proofs.calls.result_behind.Goals as goal

pub loop-left-preserved : goal.loop-left-preserved
loop-left-preserved c = result-past c.loop-left.left.now c.in-Arrow.field-0 c.in-Arrow.b c.get-left.result.now (parameters c.args.of.now).1 c.in-Arrow.is c.get-left.ensures c.loop-left.invariant
