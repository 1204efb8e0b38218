use Rattle.std.proofs.Common.{[], ◌∙◌}
use Rattle.std.proofs.Math.Nat.{le_trans}
use Rattle.ur_machine_frames.specs.Plays.{until, no_store}
use Rattle.ur_machine_frames.proofs.Playing.{until_plays}
use Rattle.ur_machine_frames.proofs.frame.Frames.advance.Goals as goal

pub loop-next-smaller : goal.loop-next-smaller
loop-next-smaller g c = c.in-On.ensures.steps.less until until_plays no_store []

pub loop-next-preserved : goal.loop-next-preserved
loop-next-preserved g c = record {
  same = λ d p store events. c.loop-next.invariant.same d p store events ∙ c.in-On.ensures.steps.same d p store events;
  stands = c.in-On.ensures.steps.stands;
  units = le_trans c.in-On.ensures.units c.loop-next.invariant.units;
  safe = λ stuck. c.loop-next.invariant.safe (c.in-On.ensures.steps.same until until_plays no_store [] ∙ stuck);
  led = c.in-On.ensures.led;
}
