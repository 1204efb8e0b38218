use Rattle.std.proofs.Common.{◌≤◌, All, take}
use Rattle.ur_keeper.proofs.held.have_low_numbers.Given as goal

abbrev pub invariant-loop-table : goal.invariant-loop-table
invariant-loop-table l = All (λ t. All (λ r. r.number ≤ 4611686018427387904) t.saved) (take l.table-index l.table-items)
