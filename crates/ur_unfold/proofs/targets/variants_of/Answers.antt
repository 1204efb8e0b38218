use Rattle.ur_source.specs.Instances.{IsVariant}
use Rattle.ur_unfold.proofs.Zipped.{zipped_from, zipped_more, zipped_end}
use Rattle.ur_unfold.proofs.targets.variants_of.Goals as goal

pub loop-i-init : goal.loop-i-init
loop-i-init c = zipped_from (IsVariant c.args.typed.now.names) c.as_slice-all.result.now c.new-variants.result c.new-variants.ensures

pub loop-i-preserved : goal.loop-i-preserved
loop-i-preserved c =
    zipped_more (IsVariant c.args.typed.now.names) c.as_slice-all.result.now c.loop-i.i c.index-all-i.result c.loop-i.variants c.push.new.self c.in_ok-variant.variant c.loop-i-test.true c.index-all-i.is c.loop-i.invariant c.in_ok-variant.ensures
    c.in_ok-push.ensures.ok

pub returns : goal.returns
returns c = zipped_end (IsVariant c.args.typed.now.names) c.as_slice-all.result.now c.args.typed.now.variants c.loop-i.i c.loop-i.variants c.as_slice-all.ensures c.loop-i-test.false c.loop-i.invariant
