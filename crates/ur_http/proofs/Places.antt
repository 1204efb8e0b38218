-- The first place of a byte.
use Rattle.std.proofs.Common.{◌≡◌, ℕ, ◌<◌, ◌≤◌, ◌==◌, not, nat_lt, arith, cond, List, length, Option, Some, None, MatchOption}
use Rattle.std.specs.List.{position_or_len}
use Rattle.std.proofs.lemmas.List.Sums.{prefix_len-le-length}
use Rattle.std.proofs.lemmas.Bool.Decides.{nat_tests}

-- a place within the bytes, or their end
pub place_or_end : (n end : ℕ) (r : Option ℕ) → n ≤ end → r ≡ cond (nat_lt n end) (Some n) None → MatchOption r (n ≡ end) (λ i. (n ≡ i) × (i < end))
place_or_end n end (Some i) within is = grind (arith, nat_tests)
place_or_end n end None within is = grind (arith, nat_tests)

pub place_within : (byte : ℕ) (bytes : List ℕ) → position_or_len (λ b. b == byte) bytes ≤ length bytes
place_within byte bytes = prefix_len-le-length (λ b. not (b == byte)) bytes
