use Rattle.std.proofs.Common.{arith}
use Rattle.ur_rows_reduce.proofs.Halving.{order-broken, order-whole}
use Rattle.ur_rows_reduce.proofs.place.is_in_order.Goals as goal

pub returns-then-not-before : goal.returns-then-not-before
returns-then-not-before c = order-broken c.args.parts.now c.loop-i.i c.index-parts-i.result c.index-parts-i-in-loop-i.result c.before-in-loop-i.result c.loop-i.invariant (omega arith) c.loop-i-test.true c.index-parts-i.is c.index-parts-i-in-loop-i.is c.before-in-loop-i.ensures c.if-not-before.true

pub returns : goal.returns
returns c = order-whole c.args.parts.now c.loop-i.i c.loop-i.invariant c.loop-i-test.false
