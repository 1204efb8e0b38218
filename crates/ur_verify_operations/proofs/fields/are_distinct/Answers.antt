-- Names that stand once.
use Rattle.ur_verify_operations.proofs.Table.{distinct_more, distinct_end}
use Rattle.ur_verify_operations.proofs.fields.are_distinct.Goals as goal

pub loop-i-preserved : goal.loop-i-preserved
loop-i-preserved c = distinct_more c.args.names.now c.loop-i.i _ c.is_among.result c.loop-i-test.true c.is_among.ensures c.if-is_among.false c.loop-i.invariant

pub returns : goal.returns
returns c = distinct_end c.args.names.now c.loop-i.i c.loop-i-test.false c.loop-i.invariant
