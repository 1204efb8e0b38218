use Rattle.std.proofs.Common.{◌≡◌, ◌+◌, ◌-◌, length, drop}
use Rattle.ur_rows.specs.Nodes.{row_nodes}
use Rattle.ur_rows.specs.Put.{put_row}
use Rattle.ur_rows_reduce.proofs.count.+within.Given as goal

abbrev pub invariant-put_row_within-loop-i : goal.invariant-put_row_within-loop-i
invariant-put_row_within-loop-i g l =
    (l.row ≡ put_row (g.P.Puts.putting l.how) l.depth (drop (l.count - l.i) l.parts)) ×
    (l.left + row_nodes (put_row (g.P.Puts.putting l.how) l.depth (drop (l.count - l.i) l.parts)) ≡ l.nodes) ×
    (l.count ≡ length l.parts)
