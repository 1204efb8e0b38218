use Rattle.std.proofs.Common.{◌≡◌, ◌++◌, drop}
use Rattle.ur_keeper_bodies.specs.Rows.{row_body}
use Rattle.ur_keeper_bodies.proofs.row.row_bytes.Given as goal

abbrev pub invariant-loop-value : goal.invariant-loop-value
invariant-loop-value l = l.bytes ++ row_body (drop l.value-index l.value-items) ≡ row_body l.value-items
