use Rattle.std.proofs.Common.{◌≤◌, ◌-◌, length}
use Rattle.ur_parse_embed.proofs.Growing.{AddedFrom}
use Rattle.ur_parse_embed.proofs.Changing.{ColumnsEnd, NoColumnsEnd}
use Rattle.ur_parse_embed.proofs.insert.columns_end.Given as goal

abbrev pub invariant-columns : goal.invariant-columns
invariant-columns l = record { start : l.at ≤ l.end; within : l.at ≤ length l.tokens → l.end ≤ length l.tokens; from : AddedFrom ColumnsEnd NoColumnsEnd l.tokens l.at l.end l.fn.list l.list }

abbrev pub decreases-columns : goal.decreases-columns
decreases-columns l = length l.tokens - l.end
