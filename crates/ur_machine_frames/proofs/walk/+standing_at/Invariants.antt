use Rattle.std.proofs.Common.{length}
use Rattle.ur_machine_frames.proofs.walk.+standing_at.Given as goal

abbrev pub decreases-standing_at : goal.decreases-standing_at
decreases-standing_at l = length l.frames.now
