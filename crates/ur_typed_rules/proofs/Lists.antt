-- Tests over lists.
use Rattle.std.proofs.Common.{◌≡◌, refl, ap, ap₂, sym, ◌∙◌, ℕ, zero, suc, ◌<◌, Bool, true, false, not, ◌&&◌, ◌↔◌, IsTrue, List, [], ◌∷◌, length, slice_index_or, true≢false, arith}
use Rattle.std.proofs.lemmas.List.Kept.{AllPairs-cons}
use Rattle.std.specs.List.{All, AllPairs, list_all}
use Rattle.ur_typed_rules.specs.Tests.{all_pairs}

pub both_of : (a b : Bool) → (a && b) ≡ true → (a ≡ true) × (b ≡ true)
both_of true b e = (refl, e)
both_of false b e = absurd (true≢false (sym e))

pub of_both : (a b : Bool) → a ≡ true → b ≡ true → (a && b) ≡ true
of_both a b e f = ap₂ (λ x y. x && y) e f

pub all_of_test : {A : Type 0} (p : A → Bool) (P : A → Type 0) → ((x : A) → p x ≡ true → P x) → (xs : List A) → list_all p xs ≡ true → All P xs
all_of_test p P h [] e k d lt = absurd (omega (arith, lt))
all_of_test p P h (x ∷ xs) e zero d lt = h x (both_of (p x) (list_all p xs) e).0
all_of_test p P h (x ∷ xs) e (suc k) d lt = all_of_test p P h xs (both_of (p x) (list_all p xs) e).1 k d (omega (arith, lt))

pub test_of_all : {A : Type 0} (p : A → Bool) (P : A → Type 0) → ((x : A) → P x → p x ≡ true) → (xs : List A) → All P xs → list_all p xs ≡ true
test_of_all p P h [] a = refl
test_of_all p P h (x ∷ xs) a = of_both (p x) (list_all p xs) (h x (a 0 x (omega arith))) (test_of_all p P h xs (λ k d lt. a (suc k) d (omega (arith, lt))))

pub pairs_of_test : {A : Type 0} (p : A → A → Bool) (R : A → A → Type 0) → ((x y : A) → p x y ≡ true → R x y) → (xs : List A) → all_pairs p xs ≡ true → AllPairs R xs
pairs_of_test p R h [] e = λ i j d below within. absurd (omega (arith, within))
pairs_of_test p R h (x ∷ xs) e = let b : (list_all (p x) xs ≡ true) × (all_pairs p xs ≡ true) = both_of (list_all (p x) xs) (all_pairs p xs) e in
    AllPairs-cons R x xs (all_of_test (p x) (R x) (h x) xs b.0) (pairs_of_test p R h xs b.1)

pub test_of_pairs : {A : Type 0} (p : A → A → Bool) (R : A → A → Type 0) → ((x y : A) → R x y → p x y ≡ true) → (xs : List A) → AllPairs R xs → all_pairs p xs ≡ true
test_of_pairs p R h [] a = refl
test_of_pairs p R h (x ∷ xs) a = of_both (list_all (p x) xs) (all_pairs p xs)
    (test_of_all (p x) (R x) (h x) xs (λ k d lt. a 0 (suc k) d (omega arith) (omega (arith, lt))))
    (test_of_pairs p R h xs (λ i j d below within. a (suc i) (suc j) d (omega (arith, below)) (omega (arith, within))))
