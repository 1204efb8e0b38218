use Rattle.std.proofs.Common.{arith}
use Rattle.ur_http.proofs.Faults.{value_step}
use Rattle.ur_http.proofs.heads.value.Goals as goal

pub loop-digit-preserved : goal.loop-digit-preserved
loop-digit-preserved c = value_step c.args.digits.now c.loop-digit.digit-index c.loop-digit.value _ c.requires c.loop-digit-test.true c.loop-digit.invariant (grind arith)
