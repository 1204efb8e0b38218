-- Lists in which nothing stands twice, and what stands at their places.
use Rattle.std.proofs.Common.{arith, inl, inr, ◌⊎◌, ◌≡◌, refl, sym, ap, subst, Some, List, [], ◌∷◌, ◌++◌, ℕ, zero, suc, ◌+◌, ◌<◌, length, map, take, get_or}
use Rattle.std.specs.Prelude.{slice_get}
use Rattle.std.specs.List.{AllZip}
use Rattle.ur_disjoint.proofs.Members.{In, map-in}
use Rattle.ur_typed_rules.proofs.Options.{some_of}

-- no element stands twice
abbrev pub Distinct : {A : Type 0} → List A → Type 0
Distinct [] = Unit {0}
Distinct (x ∷ xs) = (In x xs → ⊥) × Distinct xs

pub in_left : {A : Type 0} (x : A) (xs ys : List A) → In x xs → In x (xs ++ ys)
in_left x [] ys h = absurd h
in_left x (z ∷ xs) ys (inl e) = inl e
in_left x (z ∷ xs) ys (inr h) = inr (in_left x xs ys h)

pub in_right : {A : Type 0} (x : A) (xs ys : List A) → In x ys → In x (xs ++ ys)
in_right x [] ys h = h
in_right x (z ∷ xs) ys h = inr (in_right x xs ys h)

pub in_either : {A : Type 0} (x : A) (xs ys : List A) → In x (xs ++ ys) → In x xs ⊎ In x ys
in_either x [] ys h = inr h
in_either x (z ∷ xs) ys (inl e) = inl (inl e)
in_either x (z ∷ xs) ys (inr h) = further (in_either x xs ys h) where
  further : In x xs ⊎ In x ys → In x (z ∷ xs) ⊎ In x ys
  further (inl i) = inl (inr i)
  further (inr i) = inr i

pub got_in : {A : Type 0} (xs : List A) (n : ℕ) (x : A) → slice_get xs n ≡ Some x → In x xs
got_in [] n x h = cc
got_in (y ∷ ys) zero x h = inl (some_of h)
got_in (y ∷ ys) (suc n) x h = inr (got_in ys n x h)

-- an element of such a list stands at one place
pub one_place : {A : Type 0} (xs : List A) → Distinct xs → (i j : ℕ) (x : A) → slice_get xs i ≡ Some x → slice_get xs j ≡ Some x → i ≡ j
one_place [] d i j x h g = cc
one_place (y ∷ ys) d zero zero x h g = refl
one_place (y ∷ ys) d zero (suc j) x h g = absurd (d.0 (subst (λ z. In z ys) (sym (some_of h)) (got_in ys j x g)))
one_place (y ∷ ys) d (suc i) zero x h g = absurd (d.0 (subst (λ z. In z ys) (sym (some_of g)) (got_in ys i x h)))
one_place (y ∷ ys) d (suc i) (suc j) x h g = ap (λ z. suc z) (one_place ys d.1 i j x h g)

pub distinct_both : {A : Type 0} (xs ys : List A) → Distinct xs → Distinct ys → ((x : A) → In x xs → In x ys → ⊥) → Distinct (xs ++ ys)
distinct_both [] ys d e k = e
distinct_both {A} (x ∷ xs) ys d e k = (λ i. fresh (in_either x xs ys i), distinct_both xs ys d.1 e (λ z i j. k z (inr i) j)) where
  fresh : In x xs ⊎ In x ys → ⊥
  fresh (inl i) = d.0 i
  fresh (inr i) = k x (inl refl) i

-- a function that tells the elements apart keeps this
pub distinct_map : {A B : Type 0} (f : A → B) (xs : List A) → ((x y : A) → In x xs → In y xs → f x ≡ f y → x ≡ y) → Distinct xs → Distinct (map f xs)
distinct_map f [] k d = tt
distinct_map f (x ∷ xs) k d = (λ i. d.0 (there (map-in f (f x) xs i)), distinct_map f xs (λ y z h g. k y z (inr h) (inr g)) d.1) where
  there : (y : _) × In y xs × (f y ≡ f x) → In x xs
  there (y, i, e) = subst (λ z. In z xs) (k y x (inr i) (inl refl) e) i

-- what holds place by place of two lists
pub zip_at : {A B : Type 0} (Q : A → B → Type 0) (xs : List A) (ys : List B) → AllZip Q xs ys → (k : ℕ) (d : A) (e : B) → k < length xs → Q (get_or xs k d) (get_or ys k e)
zip_at Q [] ys h k d e below = absurd (omega (arith, below))
zip_at Q (x ∷ xs) [] h k d e below = absurd h
zip_at Q (x ∷ xs) (y ∷ ys) h zero d e below = h.0
zip_at Q (x ∷ xs) (y ∷ ys) h (suc k) d e below = zip_at Q xs ys h.1 k d e (omega (arith, below))

pub zip_long : {A B : Type 0} (Q : A → B → Type 0) (xs : List A) (ys : List B) → AllZip Q xs ys → length ys ≡ length xs
zip_long Q [] [] h = refl
zip_long Q [] (y ∷ ys) h = absurd h
zip_long Q (x ∷ xs) [] h = absurd h
zip_long Q (x ∷ xs) (y ∷ ys) h = ap (λ n. suc n) (zip_long Q xs ys h.1)

-- one element more of the beginning
pub take_next : {A : Type 0} (xs : List A) (k : ℕ) (x : A) → slice_get xs k ≡ Some x → take (k + 1) xs ≡ take k xs ++ x ∷ []
take_next xs k x h = let e : suc k ≡ k + 1 = omega arith in subst (λ n. take n xs ≡ take k xs ++ x ∷ []) e (go xs k h) where
  go : {A : Type 0} (xs : List A) (k : ℕ) {x : A} → slice_get xs k ≡ Some x → take (suc k) xs ≡ take k xs ++ x ∷ []
  go [] k h = cc
  go (y ∷ ys) zero h = ap (λ z. z ∷ []) (some_of h)
  go (y ∷ ys) (suc k) h = ap (λ z. y ∷ z) (go ys k h)
