use Rattle.std.proofs.Common.{Err, ap}
use Rattle.ur_unfold_pieces.proofs.Numbered.{numbered_from, numbered_more, numbered_end, one_large, over_exit}
use Rattle.ur_unfold_pieces.proofs.constructors.numbers_of.Goals as goal

pub loop-i-init : goal.loop-i-init
loop-i-init c = numbered_from c.args.closing.now c.args.args.now c.as_slice-all.result.now c.new-numbers.result c.new-numbers.ensures

pub loop-i-preserved : goal.loop-i-preserved
loop-i-preserved c =
    numbered_more c.args.closing.now c.loop-i.closing c.instance_number.new.closing c.args.args.now c.as_slice-all.result.now c.loop-i.i c.index-all-i.result c.loop-i.numbers c.push.new.self c.in_ok-number.number c.loop-i-test.true c.index-all-i.is c.loop-i.invariant
    c.in_ok-number.ensures.grows c.in_ok-number.ensures.number c.in_ok-push.ensures.ok

pub returns-clause-made : goal.returns-clause-made
returns-clause-made c = numbered_end c.args.closing.now c.loop-i.closing c.args.args.now c.args.cons.now c.as_slice-all.result.now c.loop-i.i c.loop-i.numbers c.as_slice-all.ensures c.loop-i-test.false c.loop-i.invariant

pub returns-in_err-number-clause-over : goal.returns-in_err-number-clause-over
returns-in_err-number-clause-over c =
    over_exit c.from_residual.result c.in_err-number.field-0.0 c.from_residual.ensures.1
    (λ e. one_large c.args.args.now c.args.cons.now c.as_slice-all.result.now c.loop-i.i c.index-all-i.result c.as_slice-all.ensures c.loop-i-test.true c.index-all-i.is (c.in_err-number.ensures.over (ap Err e)))
