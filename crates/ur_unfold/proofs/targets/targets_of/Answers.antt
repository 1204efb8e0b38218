use Rattle.ur_source.specs.Instances.{IsTarget}
use Rattle.ur_unfold_pieces.specs.Standing.{instances_in}
use Rattle.ur_unfold.proofs.Zipped.{zipped_from, zipped_at, zipped_end}
use Rattle.ur_unfold.proofs.targets.targets_of.Goals as goal

pub loop-i-init : goal.loop-i-init
loop-i-init c = zipped_from (IsTarget (instances_in c.args.table.now)) c.as_slice-all.result.now c.new-targets.result c.new-targets.ensures

pub loop-i-preserved : goal.loop-i-preserved
loop-i-preserved c =
    zipped_at (IsTarget (instances_in c.args.table.now)) c.as_slice-all.result.now c.loop-i.i _ c.loop-i.targets c.push.new.self c.in_ok-target.target c.loop-i-test.true c.loop-i.invariant c.in_ok-target.ensures c.in_ok-push.ensures.ok

pub returns : goal.returns
returns c = zipped_end (IsTarget (instances_in c.args.table.now)) c.as_slice-all.result.now c.args.typed.now.targets c.loop-i.i c.loop-i.targets c.as_slice-all.ensures c.loop-i-test.false c.loop-i.invariant
