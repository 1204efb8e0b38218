-- The number stands between the two places.
use Rattle.std.proofs.Common.{◌≡◌, ◌≤◌, ◌<◌, ◌-◌, ℕ, length, slice_index}
use Rattle.ur_values.specs.Numbered.{numbers_of}
use Rattle.ur_keeper.proofs.draft.find.Given as goal

abbrev pub invariant-loop-low : goal.invariant-loop-low
invariant-loop-low l =
    (l.high ≤ length l.rows) × ((k : ℕ) × (l.low ≤ k) × (k < l.high) × (slice_index (numbers_of l.rows) k ≡ l.number))

abbrev pub decreases-loop-low : goal.decreases-loop-low
decreases-loop-low l = l.high - l.low
