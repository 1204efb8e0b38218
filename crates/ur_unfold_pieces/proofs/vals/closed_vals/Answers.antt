use Rattle.ur_unfold_pieces.proofs.Valued.{vals_from, vals_more}
use Rattle.ur_unfold_pieces.proofs.vals.closed_vals.Goals as goal

pub loop-i-init : goal.loop-i-init
loop-i-init c = vals_from c.args.typed.now.names c.as_slice-all.result.now c.args.closing.now c.new-vals.result c.new-vals.ensures

pub loop-i-preserved : goal.loop-i-preserved
loop-i-preserved c =
    vals_more c.args.typed.now.names c.as_slice-all.result.now c.args.closing.now c.loop-i.closing c.closed_val.new.closing c.loop-i.i c.index-all-i.result c.loop-i.vals c.push.new.self c.in_ok-number.number c.loop-i-test.true c.index-all-i.is c.loop-i.invariant
    c.in_ok-number.ensures.grows c.in_ok-number.ensures.number c.in_ok-push.ensures.ok
