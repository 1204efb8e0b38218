use Rattle.std.proofs.Common.{◌≡◌, ◌≤◌, drop, length}
use Rattle.ur_sql.specs.Typing.{kinds_in}
use Rattle.ur_tree.specs.QueryRow.{columns_row}
use Rattle.ur_sqltype.proofs.row.columns_row.Given as goal

abbrev pub invariant-loop-i : goal.invariant-loop-i
invariant-loop-i l = record { within : l.i ≤ length l.columns; so_far : l.row ≡ columns_row l.names (kinds_in l.core) (drop l.i l.columns) }

abbrev pub decreases-loop-i : goal.decreases-loop-i
decreases-loop-i l = l.i
