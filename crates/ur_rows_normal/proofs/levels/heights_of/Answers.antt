use Rattle.ur_rows_normal.proofs.Measuring.{measured-none, measured-more, measured-all}
use Rattle.ur_rows_normal.proofs.levels.heights_of.Goals as goal

pub loop-i-init : goal.loop-i-init
loop-i-init c = measured-none c.args.args.now _ _ c.new-types.ensures c.new-rows.ensures

pub loop-i-preserved : goal.loop-i-preserved
loop-i-preserved c = measured-more c.args.args.now c.loop-i.types c.loop-i.rows _ _ c.loop-i.i c.in_ok-as_type.as_type c.in_ok-as_row.as_row c.index-args-i.result c.loop-i-test.true c.index-args-i.is
    c.in_ok-as_type.ensures c.in_ok-as_row.ensures c.in_ok-push.ensures.ok c.in_ok-push-2.ensures.ok c.loop-i.invariant

pub returns : goal.returns
returns c = measured-all c.args.args.now c.loop-i.types c.loop-i.rows c.loop-i.i c.loop-i-test.false c.loop-i.invariant
