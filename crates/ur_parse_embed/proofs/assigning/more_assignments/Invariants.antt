use Rattle.std.proofs.Common.{◌≤◌, ◌-◌, length}
use Rattle.ur_parse_embed.proofs.Growing.{GrownFrom}
use Rattle.ur_parse_embed.proofs.Changing.{MoreAssignments, NoMoreAssignments}
use Rattle.ur_parse_embed.proofs.assigning.more_assignments.Given as goal

abbrev pub invariant-assignments : goal.invariant-assignments
invariant-assignments l = record { start : l.at ≤ l.end; within : l.at ≤ length l.tokens → l.end ≤ length l.tokens; from : GrownFrom (MoreAssignments l.depth) (NoMoreAssignments l.depth) l.tokens l.depth l.at l.end l.fn.quotes l.quotes l.fn.list l.list }

abbrev pub decreases-assignments : goal.decreases-assignments
decreases-assignments l = length l.tokens - l.end
