use Rattle.std.proofs.Common.{◌≡◌, drop, map}
use Rattle.ur_disjoint.specs.Tests.{pair}
use Rattle.ur_check_scopes.specs.Meeting.{met_within}
use Rattle.ur_check_scopes.proofs.apart.+meeting.Given as goal

abbrev pub invariant-met_within-loop-i : goal.invariant-met_within-loop-i
invariant-met_within-loop-i l = met_within (map pair l.assumed) (drop l.i l.parts) ≡ met_within (map pair l.assumed) l.parts
