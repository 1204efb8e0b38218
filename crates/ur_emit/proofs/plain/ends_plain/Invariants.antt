use Rattle.std.proofs.Common.{length}
use Rattle.ur_emit.proofs.plain.ends_plain.Given as goal

abbrev pub decreases-loop-frame : goal.decreases-loop-frame
decreases-loop-frame l = length l.left
