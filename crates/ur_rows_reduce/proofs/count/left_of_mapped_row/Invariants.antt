use Rattle.std.proofs.Common.{◌≡◌, ◌+◌, drop}
use Rattle.ur_rows.specs.Nodes.{row_nodes}
use Rattle.ur_rows.specs.Put.{mapped_row}
use Rattle.ur_rows_reduce.proofs.count.left_of_mapped_row.Given as goal

abbrev pub invariant-loop-i : goal.invariant-loop-i
invariant-loop-i l = l.left + row_nodes (mapped_row l.f l.parts) ≡ l.nodes + row_nodes (mapped_row l.f (drop l.i l.parts))
