-- What a walk has left of its levels, for the end of the recursion.
use Rattle.std.proofs.Common.{◌≡◌, ℕ, ◌+◌, ◌*◌, ◌<◌, ◌≤◌, arith}

-- a part in the same levels, of a lower rank
pub falls : (a b x y t : ℕ) → y ≡ x → a < b → 60 * x + b ≡ t → 60 * y + a < t
falls a b x y t e l h = omega (arith, e, l, h)

pub falls-whole : (b x y t : ℕ) → y ≡ x → 0 < b → 60 * x + b ≡ t → 60 * y < t
falls-whole b x y t e l h = omega (arith, e, l, h)

-- a part that takes a level
pub falls-deeper : (a b x y t : ℕ) → x ≡ y + 1 → a < 60 → 60 * x + b ≡ t → 60 * y + a < t
falls-deeper a b x y t e l h = omega (arith, e, l, h)
