-- None so far.
use Rattle.std.proofs.Common.{◌≡◌, take, false, length}
use Rattle.std.specs.Prelude.{nat_lt}
use Rattle.std.specs.List.{list_any}
use Rattle.ur_check_limits.proofs.exceeding.has_long_function.Given as goal

abbrev pub invariant-loop-function : goal.invariant-loop-function
invariant-loop-function l = list_any (λ f. nat_lt 16 (length f.params)) (take l.function-index l.function-items) ≡ false
