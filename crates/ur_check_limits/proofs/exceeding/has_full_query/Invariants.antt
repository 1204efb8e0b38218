-- None so far.
use Rattle.std.proofs.Common.{◌≡◌, take, false, length}
use Rattle.std.specs.Prelude.{nat_lt}
use Rattle.std.specs.List.{list_any}
use Rattle.ur_check_limits.proofs.exceeding.has_full_query.Given as goal

abbrev pub invariant-loop-query : goal.invariant-loop-query
invariant-loop-query l = list_any (λ q. nat_lt 16 (length q.params)) (take l.query-index l.query-items) ≡ false
