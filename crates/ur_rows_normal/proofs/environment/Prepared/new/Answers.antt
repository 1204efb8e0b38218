use Rattle.ur_rows_normal.proofs.Scopes.{first, none-prepared, one-prepared, all-prepared}
use Rattle.ur_rows_normal.proofs.environment.Prepared.new.Goals as goal

pub loop-i-init : goal.loop-i-init
loop-i-init c = none-prepared c.in_ok-made.made c.args.env.now c.in_ok-made.ensures

pub loop-i-preserved : goal.loop-i-preserved
loop-i-preserved c = one-prepared c.push.new.self c.args.env.now c.as_slice-entries.result.now c.loop-i.i c.index-entries-i.result c.as_slice-entries.ensures c.loop-i-test.true c.index-entries-i.is
    (c.in_ok-push.ensures.ok (first c.loop-i.i c.args.env.now) c.loop-i.invariant)

pub returns : goal.returns
returns c = all-prepared c.loop-i.made c.args.env.now c.as_slice-entries.result.now c.loop-i.i c.as_slice-entries.ensures c.loop-i-test.false c.loop-i.invariant
