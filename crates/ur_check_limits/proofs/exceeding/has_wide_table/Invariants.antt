-- None so far.
use Rattle.std.proofs.Common.{◌≡◌, take, false, length}
use Rattle.std.specs.Prelude.{nat_lt}
use Rattle.std.specs.List.{list_any}
use Rattle.ur_check_limits.proofs.exceeding.has_wide_table.Given as goal

abbrev pub invariant-loop-table : goal.invariant-loop-table
invariant-loop-table l = list_any (λ t. nat_lt 64 (length t.columns)) (take l.table-index l.table-items) ≡ false
