use Rattle.std.proofs.Common.{length, map}
use Rattle.ur_disjoint.specs.Tests.{pair}
use Rattle.ur_xmltype.proofs.Meeting.{SoFar}
use Rattle.ur_xmltype.proofs.rows.row_apart.Given as goal

abbrev pub invariant-parts : goal.invariant-parts
invariant-parts l = SoFar (map pair l.assumed) l.row l.left

abbrev pub decreases-parts : goal.decreases-parts
decreases-parts l = length l.left
