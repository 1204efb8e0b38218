use Rattle.std.proofs.Common.{◌≤◌, ◌-◌, length}
use Rattle.ur_parse_embed.proofs.Growing.{GrownFrom}
use Rattle.ur_parse_embed.proofs.Joining.{MoreItems, NoMoreItems}
use Rattle.ur_parse_embed.proofs.from.more_items.Given as goal

abbrev pub invariant-items : goal.invariant-items
invariant-items l = record { start : l.at ≤ l.end; within : l.at ≤ length l.tokens → l.end ≤ length l.tokens; from : GrownFrom (MoreItems l.depth) (NoMoreItems l.depth) l.tokens l.depth l.at l.end l.fn.quotes l.quotes l.fn.list l.list }

abbrev pub decreases-items : goal.decreases-items
decreases-items l = length l.tokens - l.end
