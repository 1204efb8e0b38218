-- The names so far, and one more.
use Rattle.ur_verify_operations.proofs.Table.{named_more}
use Rattle.ur_verify_operations.proofs.fields.named.Goals as goal

pub loop-i-preserved : goal.loop-i-preserved
loop-i-preserved c =
    named_more c.args.names.now c.args.ts.now c.loop-i.i _ c.index-ts-i.result c.in_ok-of.of c.loop-i.made c.push.new.self c.loop-i-test.true c.requires c.index-ts-i.is c.in_ok-of.ensures
    c.loop-i.invariant c.in_ok-push.ensures.ok
