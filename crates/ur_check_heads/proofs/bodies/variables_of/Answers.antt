use Rattle.std.proofs.Common.{drop, ◌+◌}
use Rattle.ur_check_scopes.proofs.Loops.{drop-here}
use Rattle.ur_check_heads.proofs.Binding.{bound-past}
use Rattle.ur_check_heads.proofs.bodies.variables_of.Goals as goal

pub loop-i-preserved : goal.loop-i-preserved
loop-i-preserved c =
    bound-past c.args.place.now c.args.params.now (drop c.loop-i.i c.args.params.now) (drop (c.loop-i.i + 1) c.args.params.now) c.index-params-i.result c.loop-i.names c.bind_param.new.names
    (drop-here c.args.params.now c.loop-i.i c.index-params-i.result c.loop-i-test.true c.index-params-i.is) c.in_ok-bind_param.ensures c.loop-i.invariant
