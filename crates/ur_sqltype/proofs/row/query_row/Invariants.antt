use Rattle.std.proofs.Common.{◌≡◌, ◌≤◌, drop, length}
use Rattle.ur_sql.specs.Typing.{kinds_in}
use Rattle.ur_tree.specs.QueryRow.{fields_row}
use Rattle.ur_sqltype.proofs.row.query_row.Given as goal

abbrev pub invariant-loop-i : goal.invariant-loop-i
invariant-loop-i l = record { within : l.i ≤ length l.fields; so_far : l.row ≡ fields_row l.names (kinds_in l.core) (drop l.i l.fields) }

abbrev pub decreases-loop-i : goal.decreases-loop-i
decreases-loop-i l = l.i
