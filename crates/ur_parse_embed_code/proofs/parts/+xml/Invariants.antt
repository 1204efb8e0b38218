use Rattle.std.proofs.Common.{◌≤◌, ◌+◌, ◌-◌, ◌*◌, length}
use Rattle.ur_parse_embed_code.proofs.Elements.{SoFar}
use Rattle.ur_parse_embed_code.proofs.parts.+xml.Given as goal

abbrev pub decreases-parts : goal.decreases-parts
decreases-parts l = 4 * (length l.tokens.now - l.at) + 3

abbrev pub decreases-part : goal.decreases-part
decreases-part l = 4 * (length l.tokens.now - l.at) + 2

abbrev pub decreases-element : goal.decreases-element
decreases-element l = 4 * (length l.tokens.now - l.at) + 1

abbrev pub decreases-between : goal.decreases-between
decreases-between l = 4 * (length l.tokens.now - l.at) + 4

abbrev pub invariant-parts-parts : goal.invariant-parts-parts
invariant-parts-parts l = record { start : l.at ≤ l.end; within : l.at ≤ length l.tokens → l.end ≤ length l.tokens; so_far : SoFar l.depth l.tokens l.at l.end l.fn.quotes l.quotes l.list }

abbrev pub decreases-parts-parts : goal.decreases-parts-parts
decreases-parts-parts l = length l.tokens - l.end
