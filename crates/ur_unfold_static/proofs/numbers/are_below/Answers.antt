use Rattle.std.proofs.Common.{◌<◌, ℕ, sym, ◌∙◌}
use Rattle.ur_unfold_static.specs.Held.{AreBelow}
use Rattle.ur_unfold_static.proofs.Below.{goes_on, stops, ends}
use Rattle.ur_unfold_static.proofs.numbers.are_below.Goals as goal

pub returns-then-not-is_below : goal.returns-then-not-is_below
returns-then-not-is_below c = stops (AreBelow c.args.most) (λ (j : ℕ). j < c.args.most) (λ y ys h. h) (λ y ys p r. (p, r)) tt c.args.numbers.now c.as_slice-all.result.now c.loop-i.i _
    c.as_slice-all.ensures c.loop-i-test.true (λ below. sym c.if-not-is_below.true ∙ c.is_below.ensures.1 below) c.loop-i.invariant

pub loop-i-preserved : goal.loop-i-preserved
loop-i-preserved c = goes_on (AreBelow c.args.most) (λ (j : ℕ). j < c.args.most) (λ y ys h. h) (λ y ys p r. (p, r)) tt c.as_slice-all.result.now c.loop-i.i _
    c.loop-i-test.true (c.is_below.ensures.0 c.if-not-is_below.false) c.loop-i.invariant

pub returns : goal.returns
returns c = ends (AreBelow c.args.most) (λ (j : ℕ). j < c.args.most) (λ y ys h. h) (λ y ys p r. (p, r)) tt c.args.numbers.now c.as_slice-all.result.now c.loop-i.i
    c.as_slice-all.ensures c.loop-i-test.false c.loop-i.invariant
