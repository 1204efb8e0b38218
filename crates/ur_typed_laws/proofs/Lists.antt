-- Lists that are determined: by their elements where they rise, by their beginnings, by what fills their places, place by place.
use Rattle.std.proofs.Common.{arith, inl, inr, ◌⊎◌, ◌≡◌, ◌∙◌, refl, sym, ap, ap₂, subst, Option, Some, None, List, [], ◌∷◌, ℕ, zero, suc, ◌+◌, length, map, take}
use Rattle.std.proofs.Math.Seq.{take-length}
use Rattle.std.proofs.lemmas.List.Elements.{All-get_or}
use Rattle.std.proofs.lemmas.Option.{slice_get_within, get_or_from_slice_get}
use Rattle.std.specs.Prelude.{All, AllPairs, Contains, slice_get}
use Rattle.std.specs.List.{AllZip}
use Rattle.ur_disjoint.proofs.Members.{In, contains-in}
use Rattle.ur_typed_rules.proofs.Options.{some_of}
use Rattle.ur_typed_laws.specs.Judged.{AreFilled}

-- ---- strictly rising lists

abbrev pub Before : {A : Type 0} → (A → A → Type 0) → A → List A → Type 0
Before {A} R x ys = (y : A) → In y ys → R x y

abbrev pub Rises : {A : Type 0} → (A → A → Type 0) → List A → Type 0
Rises R [] = Unit {0}
Rises R (x ∷ xs) = Before R x xs × Rises R xs

first_before : {A : Type 0} (R : A → A → Type 0) (x : A) (xs : List A) → AllPairs R (x ∷ xs) → Before R x xs
first_before R x xs a y i = let c : Contains xs y = contains-in y xs i in subst (R x) c.2 (a 0 (suc c.0) y (omega arith) (omega (arith, c.1)))

later_pairs : {A : Type 0} (R : A → A → Type 0) (x : A) (xs : List A) → AllPairs R (x ∷ xs) → AllPairs R xs
later_pairs R x xs a i j d h k = a (suc i) (suc j) d (omega (arith, h)) (omega (arith, k))

pub rises : {A : Type 0} (R : A → A → Type 0) (xs : List A) → AllPairs R xs → Rises R xs
rises R [] a = tt
rises R (x ∷ xs) a = (first_before R x xs a, rises R xs (later_pairs R x xs a))

-- Two strictly rising lists with the same elements are equal.
pub same_rising : {A : Type 0} (R : A → A → Type 0) → ((x y : A) → R x y → R y x → ⊥) → (xs ys : List A) → Rises R xs → Rises R ys → ((x : A) → In x xs → In x ys) → ((x : A) → In x ys → In x xs) → xs ≡ ys
same_rising R k [] [] a b h i = refl
same_rising R k [] (y ∷ ys) a b h i = absurd (i y (inl refl))
same_rising R k (x ∷ xs) [] a b h i = absurd (h x (inl refl))
same_rising {A} R k (x ∷ xs) (y ∷ ys) a b h i = ap₂ (λ u v. u ∷ v) heads (same_rising R k xs ys a.1 b.1 forth back) where
  heads_by : (y ≡ x) ⊎ In x ys → (x ≡ y) ⊎ In y xs → x ≡ y
  heads_by (inl e) j = sym e
  heads_by (inr m) (inl e) = e
  heads_by (inr m) (inr n) = absurd (k x y (a.0 y n) (b.0 x m))

  heads : x ≡ y
  heads = heads_by (h x (inl refl)) (i y (inl refl))

  not_again : (z : A) (zs : List A) (u : A) → Before R u zs → In z zs → (u ≡ z) → ⊥
  not_again z zs u before m e = k z z (subst (λ v. R v z) e (before z m)) (subst (λ v. R v z) e (before z m))

  forth_by : (z : A) → In z xs → (y ≡ z) ⊎ In z ys → In z ys
  forth_by z m (inl e) = absurd (not_again z xs x a.0 m (heads ∙ e))
  forth_by z m (inr n) = n

  forth : (z : A) → In z xs → In z ys
  forth z m = forth_by z m (h z (inr m))

  back_by : (z : A) → In z ys → (x ≡ z) ⊎ In z xs → In z xs
  back_by z m (inl e) = absurd (not_again z ys y b.0 m (sym heads ∙ e))
  back_by z m (inr n) = n

  back : (z : A) → In z ys → In z xs
  back z m = back_by z m (i z (inr m))

pub got_in : {A : Type 0} (xs : List A) (n : ℕ) (x : A) → slice_get xs n ≡ Some x → In x xs
got_in [] n x h = cc
got_in (y ∷ ys) zero x h = inl (some_of h)
got_in (y ∷ ys) (suc n) x h = inr (got_in ys n x h)

-- an element of a strictly rising list stands at one place
pub one_place : {A : Type 0} (R : A → A → Type 0) → ((x y : A) → R x y → R y x → ⊥) → (xs : List A) → Rises R xs → (i j : ℕ) (x : A) → slice_get xs i ≡ Some x → slice_get xs j ≡ Some x → i ≡ j
one_place R k [] a i j x h g = cc
one_place R k (y ∷ ys) a zero zero x h g = refl
one_place R k (y ∷ ys) a zero (suc j) x h g = let r : R x x = subst (λ z. R z x) (some_of h) (a.0 x (got_in ys j x g)) in absurd (k x x r r)
one_place R k (y ∷ ys) a (suc i) zero x h g = let r : R x x = subst (λ z. R z x) (some_of g) (a.0 x (got_in ys i x h)) in absurd (k x x r r)
one_place R k (y ∷ ys) a (suc i) (suc j) x h g = ap (λ z. suc z) (one_place R k ys a.1 i j x h g)

-- ---- beginnings

-- the same beginning of k elements
abbrev pub Agree : {A : Type 0} → ℕ → List A → List A → Type 0
Agree k xs ys = take k xs ≡ take k ys

head_is : {A : Type 0} {x y : A} {xs ys : List A} → x ∷ xs ≡ y ∷ ys → x ≡ y
head_is e = cc

tail_is : {A : Type 0} {x y : A} {xs ys : List A} → x ∷ xs ≡ y ∷ ys → xs ≡ ys
tail_is e = cc

pub agree_next : {A : Type 0} (k : ℕ) (xs ys : List A) (x : A) → Agree k xs ys → slice_get xs k ≡ Some x → slice_get ys k ≡ Some x → Agree (suc k) xs ys
agree_next k [] ys x a h i = cc
agree_next k (u ∷ xs) [] x a h i = cc
agree_next zero (u ∷ xs) (v ∷ ys) x a h i = ap (λ z. z ∷ []) (some_of (h ∙ sym i))
agree_next (suc k) (u ∷ xs) (v ∷ ys) x a h i = ap₂ (λ y zs. y ∷ zs) (head_is a) (agree_next k xs ys x (tail_is a) h i)

pub agree_more : {A : Type 0} (k : ℕ) (xs ys : List A) (x : A) → Agree k xs ys → slice_get xs k ≡ Some x → slice_get ys k ≡ Some x → Agree (k + 1) xs ys
agree_more k xs ys x a h i = let e : suc k ≡ k + 1 = omega arith in subst (λ n. Agree n xs ys) e (agree_next k xs ys x a h i)

whole : {A : Type 0} (k : ℕ) (xs : List A) → length xs ≡ k → take k xs ≡ xs
whole k xs e = ap (λ n. take n xs) (sym e) ∙ take-length xs

-- lists of that many elements
pub agree_whole : {A : Type 0} (k : ℕ) (xs ys : List A) → Agree k xs ys → length xs ≡ k → length ys ≡ k → xs ≡ ys
agree_whole k xs ys a h i = sym (whole k xs h) ∙ (a ∙ whole k ys i)

-- ---- places that are filled

filled_is : {A : Type 0} (o : Option A) (os : List (Option A)) → AreFilled (o ∷ os) → (a : A) × (o ≡ Some a)
filled_is None os f = absurd f
filled_is (Some a) os f = (a, refl)

filled_behind : {A : Type 0} (o : Option A) (os : List (Option A)) → AreFilled (o ∷ os) → AreFilled os
filled_behind None os f = absurd f
filled_behind (Some a) os f = f

-- A list that has what stands in the filled places, and is as long, is determined.
pub same_filled : {A : Type 0} (os : List (Option A)) (xs ys : List A) → AreFilled os → ((n : ℕ) (a : A) → slice_get os n ≡ Some (Some a) → slice_get xs n ≡ Some a) → ((n : ℕ) (a : A) → slice_get os n ≡ Some (Some a) → slice_get ys n ≡ Some a) → length os ≡ length xs → length os ≡ length ys → xs ≡ ys
same_filled [] [] [] f h i l m = refl
same_filled [] (x ∷ xs) ys f h i l m = cc
same_filled [] [] (y ∷ ys) f h i l m = cc
same_filled (o ∷ os) [] ys f h i l m = cc
same_filled (o ∷ os) (x ∷ xs) [] f h i l m = cc
same_filled {A} (o ∷ os) (x ∷ xs) (y ∷ ys) f h i l m =
    let z : (a : A) × (o ≡ Some a) = filled_is o os f in
    ap₂ (λ u v. u ∷ v) (some_of (h 0 z.0 (ap (λ p. Some p) z.1) ∙ sym (i 0 z.0 (ap (λ p. Some p) z.1)))) (same_filled os xs ys (filled_behind o os f) (λ n a e. h (suc n) a e) (λ n a e. i (suc n) a e) (omega (arith, l)) (omega (arith, m)))

-- ---- place by place

pub all_at : {A : Type 0} (P : A → Type 0) (xs : List A) (n : ℕ) (x : A) → All P xs → slice_get xs n ≡ Some x → P x
all_at P xs n x a h = subst P (get_or_from_slice_get xs n x x h) (All-get_or P xs n x (slice_get_within xs n x h) a)

pub zip_three : {A B : Type 0} (P Q R S : A → B → Type 0) → ((x : A) (y : B) → P x y → Q x y → R x y → S x y) → (xs : List A) (ys : List B) → AllZip P xs ys → AllZip Q xs ys → AllZip R xs ys → AllZip S xs ys
zip_three P Q R S f [] [] a b c = tt
zip_three P Q R S f [] (y ∷ ys) a b c = absurd a
zip_three P Q R S f (x ∷ xs) [] a b c = absurd a
zip_three P Q R S f (x ∷ xs) (y ∷ ys) a b c = (f x y a.0 b.0 c.0, zip_three P Q R S f xs ys a.1 b.1 c.1)

pub same_zipped : {A B : Type 0} (P Q : A → B → Type 0) → ((x y : A) (k : B) → P x k → Q y k → x ≡ y) → (xs ys : List A) (ks : List B) → AllZip P xs ks → AllZip Q ys ks → xs ≡ ys
same_zipped P Q f [] [] [] a b = refl
same_zipped P Q f [] (y ∷ ys) [] a b = absurd b
same_zipped P Q f (x ∷ xs) ys [] a b = absurd a
same_zipped P Q f [] ys (k ∷ ks) a b = absurd a
same_zipped P Q f (x ∷ xs) [] (k ∷ ks) a b = absurd b
same_zipped P Q f (x ∷ xs) (y ∷ ys) (k ∷ ks) a b = ap₂ (λ u v. u ∷ v) (f x y k a.0 b.0) (same_zipped P Q f xs ys ks a.1 b.1)

-- lists of two parts each, which tell the element
pub same_parts : {A B C : Type 0} (f : A → B) (g : A → C) → ((x y : A) → f x ≡ f y → g x ≡ g y → x ≡ y) → (xs ys : List A) → map f xs ≡ map f ys → map g xs ≡ map g ys → xs ≡ ys
same_parts f g k [] [] h i = refl
same_parts f g k [] (y ∷ ys) h i = cc
same_parts f g k (x ∷ xs) [] h i = cc
same_parts f g k (x ∷ xs) (y ∷ ys) h i = ap₂ (λ u v. u ∷ v) (k x y (head_is h) (head_is i)) (same_parts f g k xs ys (tail_is h) (tail_is i))
