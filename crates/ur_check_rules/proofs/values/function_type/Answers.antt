use Rattle.ur_rows.specs.Types.{arrows_of}
use Rattle.ur_tree.specs.Typing.{types_of}
use Rattle.ur_check_rules.proofs.CalleesCalled.{arrow-past}
use Rattle.ur_check_rules.proofs.values.function_type.Goals as goal

pub loop-last-preserved : goal.loop-last-preserved
loop-last-preserved c = arrow-past c.loop-last.left.now c.in-Some.rest.now c.in-Some.last.now c.in_ok-from.from c.loop-last.of c.in_ok-made.made (arrows_of (types_of c.args.params.now) c.args.last_of.now) c.in-Some.ensures.cases.0 c.in_ok-from.ensures c.in_ok-made.ensures c.loop-last.invariant
