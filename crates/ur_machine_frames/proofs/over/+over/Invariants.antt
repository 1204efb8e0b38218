use Rattle.std.proofs.Common.{length, ◌+◌, ◌*◌}
use Rattle.ur_machine_frames.proofs.over.+over.Given as goal

abbrev pub decreases-is_over : goal.decreases-is_over
decreases-is_over l = 4 * length l.frames.now + 1

abbrev pub decreases-is_over_with : goal.decreases-is_over_with
decreases-is_over_with l = 4 * length l.under.now + 4

abbrev pub decreases-is_over_from : goal.decreases-is_over_from
decreases-is_over_from l = 4 * length l.under.now + 3

abbrev pub decreases-is_over_head : goal.decreases-is_over_head
decreases-is_over_head l = 4 * length l.under.now + 2

abbrev pub decreases-is_over_outside : goal.decreases-is_over_outside
decreases-is_over_outside l = 4 * length l.under.now + 2
