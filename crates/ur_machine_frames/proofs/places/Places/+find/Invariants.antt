use Rattle.std.proofs.Common.{length}
use Rattle.ur_machine_frames.proofs.places.Places.+find.Given as goal

abbrev pub decreases-find : goal.decreases-find
decreases-find l = length l.frames.now
