use Rattle.std.proofs.Common.{◌≡◌, ◌++◌, ◌≤◌, drop, take, length, option_map}
use Rattle.ur_keeper_bodies.specs.Rows.{kinds_in, MayStand}
use Rattle.ur_keeper_bodies.specs.Columns.{columns_row}
use Rattle.ur_keeper_bodies.proofs.columns.read_columns.Given as goal

-- what is read so far, and what is left
abbrev pub invariant-loop-column : goal.invariant-loop-column
invariant-loop-column l =
    (l.at ≤ length l.bytes) × (option_map (λ r. l.row ++ r) (columns_row (drop l.column-index l.columns) (drop l.at l.bytes)) ≡ columns_row l.columns l.bytes) × MayStand (kinds_in (take l.column-index l.columns)) l.row
