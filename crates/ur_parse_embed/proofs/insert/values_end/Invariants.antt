use Rattle.std.proofs.Common.{◌≤◌, ◌-◌, length}
use Rattle.ur_parse_embed.proofs.Growing.{GrownFrom}
use Rattle.ur_parse_embed.proofs.Changing.{ValuesEnd, NoValuesEnd}
use Rattle.ur_parse_embed.proofs.insert.values_end.Given as goal

abbrev pub invariant-values : goal.invariant-values
invariant-values l = record { start : l.at ≤ l.end; within : l.at ≤ length l.tokens → l.end ≤ length l.tokens; from : GrownFrom (ValuesEnd l.depth) (NoValuesEnd l.depth) l.tokens l.depth l.at l.end l.fn.quotes l.quotes l.fn.list l.list }

abbrev pub decreases-values : goal.decreases-values
decreases-values l = length l.tokens - l.end
