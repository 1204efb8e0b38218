use Rattle.std.proofs.Common.{◌≤◌, ◌-◌, length}
use Rattle.ur_parse_embed_code.proofs.Attributed.{SoFar}
use Rattle.ur_parse_embed_code.proofs.attrs.attrs.Given as goal

abbrev pub invariant-attrs : goal.invariant-attrs
invariant-attrs l = record { start : l.at ≤ l.end; within : l.at ≤ length l.tokens → l.end ≤ length l.tokens; so_far : SoFar l.depth l.tokens l.at l.end l.fn.quotes l.quotes l.list }

abbrev pub decreases-attrs : goal.decreases-attrs
decreases-attrs l = length l.tokens - l.end
