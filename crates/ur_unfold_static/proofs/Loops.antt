-- A loop that looks for the first element of which something is so.
use Rattle.std.proofs.Common.{◌≡◌, ◌≤◌, ℕ, Bool, true, false, ◌||◌, List, [], length, drop, ap, sym, ◌∙◌, arith}
use Rattle.std.proofs.Math.Seq.{drop-length}

pub passed : {A : Type 0} (some : List A → Bool) (xs : List A) (i : ℕ) (b r : Bool) → some xs ≡ some (drop i xs) → some (drop i xs) ≡ (b || r) → b ≡ false → some xs ≡ r
passed some xs i b r k e f = k ∙ e ∙ ap (λ c. c || r) f

pub found : {A : Type 0} (some : List A → Bool) (ys xs : List A) (i : ℕ) (b r : Bool) → xs ≡ ys → some xs ≡ some (drop i xs) → some (drop i xs) ≡ (b || r) → b ≡ true → true ≡ some ys
found some ys xs i b r s k e f = sym (ap some (sym s) ∙ k ∙ e ∙ ap (λ c. c || r) f)

meet : (i n : ℕ) → n ≤ i → i ≤ n → i ≡ n
meet i n h k = omega arith

pub nowhere : {A : Type 0} (some : List A → Bool) (ys xs : List A) (i : ℕ) → some [] ≡ false → xs ≡ ys → some xs ≡ some (drop i xs) → length xs ≤ i → i ≤ length xs → false ≡ some ys
nowhere some ys xs i z s k h l =
    sym (ap some (sym s) ∙ k ∙ ap (λ j. some (drop j xs)) (meet i (length xs) h l) ∙ ap some (drop-length xs) ∙ z)
