use Rattle.std.proofs.Common.{◌≤◌, All, take}
use Rattle.ur_keeper.proofs.table.Table.has_low_numbers.Given as goal

abbrev pub invariant-loop-row : goal.invariant-loop-row
invariant-loop-row l = All (λ r. r.number ≤ 4611686018427387904) (take l.row-index l.row-items)
