-- Numbers of sequences that stay ints while units are left.
use Rattle.std.proofs.Common.{◌≡◌, ◌≢◌, ◌⊎◌, inl, inr, ℕ, zero, suc, ◌<◌, ◌≤◌, ℤ, pos, ◌+ℤ◌, List, [], ◌∷◌, Some, refl, subst, ap, ◌∙◌, arith}
use Rattle.std.specs.Prelude.{slice_get, slice_set}
use Rattle.std.proofs.lemmas.Bool.{cases_eq}
use Rattle.std.proofs.lemmas.Int.{ints}
use Rattle.ur_values.specs.Store.{Store}
use Rattle.ur_values.specs.Values.{IsInt}
use Rattle.ur_terms.specs.Sound.{NumbersLast}

at_same : {A : Type 0} (xs : List A) (i : ℕ) (x y : A) → slice_get xs i ≡ Some x → slice_get (slice_set xs i y) i ≡ Some y
at_same [] i x y e = cc
at_same (z ∷ xs) zero x y e = refl
at_same (z ∷ xs) (suc i) x y e = at_same xs i x y e

at_other : {A : Type 0} (xs : List A) (i j : ℕ) (y : A) → i ≢ j → slice_get (slice_set xs i y) j ≡ slice_get xs j
at_other [] i j y h = refl
at_other (z ∷ xs) zero zero y h = absurd (h refl)
at_other (z ∷ xs) zero (suc j) y h = refl
at_other (z ∷ xs) (suc i) zero y h = refl
at_other (z ∷ xs) (suc i) (suc j) y h = at_other xs i j y (λ e. h (ap suc e))

int_below : (n : ℤ) (u w : ℕ) → w ≤ u → IsInt n → IsInt (n +ℤ pos u) → IsInt (n +ℤ pos w)
int_below n u w le h k = (omega (arith, ints), omega (arith, ints))

int_after : (n : ℤ) (u : ℕ) → IsInt n → IsInt (n +ℤ pos (suc u)) → IsInt (n +ℤ pos 1) × IsInt ((n +ℤ pos 1) +ℤ pos u)
int_after n u h k = ((omega (arith, ints), omega (arith, ints)), (omega (arith, ints), omega (arith, ints)))

pub fewer_last : (count u w : ℕ) (store : Store) → w ≤ u → NumbersLast count u store → NumbersLast count w store
fewer_last count u w store le h q below = let k = h q below in (k.0, k.1, k.2, int_below k.0 u w le k.2 k.3)

-- a draw raises one of them, which lasts by one unit less
pub drawn_last : (count q u : ℕ) (store : Store) → q < count → NumbersLast count (suc u) store
    → (n : ℤ) × (slice_get store.sequences q ≡ Some n) × IsInt n × NumbersLast count u (record store { sequences = slice_set store.sequences q (n +ℤ pos 1) })
drawn_last count q u store below h =
    let mine = h q below in
    (mine.0, mine.1, mine.2, each mine.0 mine.1 (int_after mine.0 u mine.2 mine.3))
  where
    each : (n : ℤ) → slice_get store.sequences q ≡ Some n → IsInt (n +ℤ pos 1) × IsInt ((n +ℤ pos 1) +ℤ pos u)
        → NumbersLast count u (record store { sequences = slice_set store.sequences q (n +ℤ pos 1) })
    each n e ints_are p small = go (cases_eq q p)
      where
        go : (q ≡ p) ⊎ (q ≡ p → ⊥) → (m : ℤ) × (slice_get (slice_set store.sequences q (n +ℤ pos 1)) p ≡ Some m) × IsInt m × IsInt (m +ℤ pos u)
        go (inl same) = (n +ℤ pos 1, subst (λ i. slice_get (slice_set store.sequences q (n +ℤ pos 1)) i ≡ Some (n +ℤ pos 1)) same (at_same store.sequences q n (n +ℤ pos 1) e), ints_are.0, ints_are.1)
        go (inr other) =
            let k = h p small in
            (k.0, at_other store.sequences q p (n +ℤ pos 1) other ∙ k.1, k.2, int_below k.0 (suc u) u (omega arith) k.2 k.3)
