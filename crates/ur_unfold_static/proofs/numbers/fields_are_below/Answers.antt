use Rattle.std.proofs.Common.{◌<◌, List, map, sym, ◌∙◌}
use Rattle.ur_unfold_static.specs.Held.{AreBelow}
use Rattle.ur_unfold_static.specs.declared.node.Field.{Field}
use Rattle.ur_unfold_static.proofs.Below.{goes_on, stops, ends}
use Rattle.ur_unfold_static.proofs.numbers.fields_are_below.Goals as goal

pub returns-then-not-field_is_below : goal.returns-then-not-field_is_below
returns-then-not-field_is_below c = stops (λ (fs : List Field). AreBelow c.args.most (map (λ (f : Field). f.of) fs)) (λ (f : Field). f.of < c.args.most) (λ y ys h. h) (λ y ys p r. (p, r)) tt c.args.fields.now c.as_slice-all.result.now c.loop-i.i _
    c.as_slice-all.ensures c.loop-i-test.true (λ below. sym c.if-not-field_is_below.true ∙ c.field_is_below.ensures.1 below) c.loop-i.invariant

pub loop-i-preserved : goal.loop-i-preserved
loop-i-preserved c = goes_on (λ (fs : List Field). AreBelow c.args.most (map (λ (f : Field). f.of) fs)) (λ (f : Field). f.of < c.args.most) (λ y ys h. h) (λ y ys p r. (p, r)) tt c.as_slice-all.result.now c.loop-i.i _
    c.loop-i-test.true (c.field_is_below.ensures.0 c.if-not-field_is_below.false) c.loop-i.invariant

pub returns : goal.returns
returns c = ends (λ (fs : List Field). AreBelow c.args.most (map (λ (f : Field). f.of) fs)) (λ (f : Field). f.of < c.args.most) (λ y ys h. h) (λ y ys p r. (p, r)) tt c.args.fields.now c.as_slice-all.result.now c.loop-i.i
    c.as_slice-all.ensures c.loop-i-test.false c.loop-i.invariant
