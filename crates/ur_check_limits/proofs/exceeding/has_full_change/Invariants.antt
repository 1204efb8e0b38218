-- None so far.
use Rattle.std.proofs.Common.{◌≡◌, take, false, length}
use Rattle.std.specs.Prelude.{nat_lt}
use Rattle.std.specs.List.{list_any}
use Rattle.ur_check_limits.proofs.exceeding.has_full_change.Given as goal

abbrev pub invariant-loop-change : goal.invariant-loop-change
invariant-loop-change l = list_any (λ u. nat_lt 16 (length u.params)) (take l.change-index l.change-items) ≡ false
