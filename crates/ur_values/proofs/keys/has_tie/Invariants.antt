-- No two rows side by side so far agree.
use Rattle.std.proofs.Common.{◌≡◌, ℕ, ◌+◌, ◌<◌, false, get_or}
use Rattle.std.specs.Borrow.{Bor}
use Rattle.ur_values.specs.Store.{Row}
use Rattle.ur_values.specs.KeyOrder.{agree}
use Rattle.ur_values.proofs.keys.has_tie.Given as goal

abbrev pub invariant-loop-i : goal.invariant-loop-i
invariant-loop-i l = (k : ℕ) → k + 1 < l.i → (d : Bor Row) → agree l.key (get_or l.rows k d) (get_or l.rows (k + 1) d) ≡ false
