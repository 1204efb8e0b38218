-- Tables that `attach` leaves last for a run.
use Rattle.std.proofs.Common.{◌≡◌, ℕ, zero, suc, ◌*◌, ◌≤◌, ◌<◌, ℤ, pos, ◌+ℤ◌, ◌≤ℤ◌, List, [], ◌∷◌, length, Some, refl, arith}
use Rattle.std.specs.Prelude.{slice_get}
use Rattle.std.specs.List.{AllZip, AllByRecursion}
use Rattle.std.proofs.lemmas.Int.{ints}
use Rattle.std.proofs.lemmas.List.Elements.{recursion_from_All}
use Rattle.ur_values.specs.Values.{IsInt}
use Rattle.ur_keeper.specs.Tables.{Tables, AreSound, store_of}
use Rattle.ur_code.specs.declared.code.Code.{Code}
use Rattle.ur_machine.proofs.Kept.{store_fits}
use Rattle.ur_headline.specs.Laws.{LastsFor}

-- a next number between 1 and this bound
abbrev IsLow : ℤ → Type 0
IsLow n = (pos 1 ≤ℤ n) × (n ≤ℤ pos 4611686018427387904)

low_at : (names : List (List ℕ)) (ns : List ℤ) (q : ℕ) → AllZip (λ name n. pos 1 ≤ℤ n) names ns → AllByRecursion (λ n. n ≤ℤ pos 4611686018427387904) ns →
    q < length names
    → (n : ℤ) × (slice_get ns q ≡ Some n) × IsLow n
low_at [] ns q h k below = absurd (omega (arith, below))
low_at (x ∷ names) [] q h k below = absurd h
low_at (x ∷ names) (n ∷ ns) zero h k below = (n, refl, (h.0, k.0))
low_at (x ∷ names) (n ∷ ns) (suc q) h k below = low_at names ns q h.1 k.1 (omega (arith, below))

stays_int : (n : ℤ) (k : ℕ) → IsLow n → k ≤ 72057594037927936 → IsInt n × IsInt (n +ℤ pos k)
stays_int n k low le = let a = low.0 in let b = low.1 in ((omega (arith, ints, a, b), omega (arith, ints, a, b)), (omega (arith, ints, a, b, le), omega (arith, ints, a, b, le)))

pub tables_last : (code : Code) (steps : ℕ) (t : Tables) → steps ≤ 4294967295 → AreSound code.schema t → LastsFor code steps 16777216 (store_of t)
tables_last code steps t few sound = record {
  fits = store_fits code t sound.fits;
  numbers = λ q below. (
      let at = low_at code.schema.sequences t.sequences q sound.fits.sequences (recursion_from_All (λ n. n ≤ℤ pos 4611686018427387904) t.sequences sound.numbers.sequences) below in
      let int = stays_int at.0 (steps * 16777216) at.2 (omega (arith, few)) in
      (at.0, at.1, int.0, int.1));
}
