-- What the calls of a wire do to its count of faults.
use Rattle.std.specs.Prelude.{◌≡◌, ◌≤◌, ℕ, zero, suc, Result, MatchResult}
use Rattle.ur_base.specs.Counts.{next_count}

-- A call that answers Ok leaves the count as it was, and one that answers an error makes it the next.
abbrev pub CountsCall : {T E : Type 0} → ℕ → ℕ → Result T E → Type 0
CountsCall old new result = (old ≤ new) × MatchResult result (λ _. new ≡ old) (λ _. new ≡ next_count old)

-- the count after so many calls that failed
abbrev pub count_after : ℕ → ℕ → ℕ
count_after zero old = old
count_after (suc n) old = next_count (count_after n old)
