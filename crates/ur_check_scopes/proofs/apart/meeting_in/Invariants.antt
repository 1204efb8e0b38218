use Rattle.std.proofs.Common.{◌≡◌, length, map}
use Rattle.ur_disjoint.specs.Tests.{pair}
use Rattle.ur_check_scopes.specs.Meeting.{met_in_row}
use Rattle.ur_check_scopes.proofs.apart.meeting_in.Given as goal

abbrev pub invariant-loop-first : goal.invariant-loop-first
invariant-loop-first l = met_in_row (map pair l.assumed) l.left ≡ met_in_row (map pair l.assumed) l.row

abbrev pub decreases-loop-first : goal.decreases-loop-first
decreases-loop-first l = length l.left
