use Rattle.std.proofs.Common.{◌≤◌, ◌-◌, length}
use Rattle.ur_parse_embed.proofs.Growing.{GrownFrom}
use Rattle.ur_parse_embed.proofs.Ordering.{MoreKeys, NoMoreKeys}
use Rattle.ur_parse_embed.proofs.clauses.more_keys.Given as goal

abbrev pub invariant-keys : goal.invariant-keys
invariant-keys l = record { start : l.at ≤ l.end; within : l.at ≤ length l.tokens → l.end ≤ length l.tokens; from : GrownFrom (MoreKeys l.depth) (NoMoreKeys l.depth) l.tokens l.depth l.at l.end l.fn.quotes l.quotes l.fn.list l.list }

abbrev pub decreases-keys : goal.decreases-keys
decreases-keys l = length l.tokens - l.end
