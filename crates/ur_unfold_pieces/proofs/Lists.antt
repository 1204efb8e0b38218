-- Lists whose elements have numbers.
use Rattle.std.proofs.Common.{◌≡◌, ◌≢◌, ◌<◌, ℕ, zero, suc, ◌⊎◌, inl, inr, List, [], ◌∷◌, ◌++◌, map, length, get_or, None, Some, refl, sym, ap, ap₂, subst, arith}
use Rattle.std.specs.Prelude.{slice_get}
use Rattle.std.specs.List.{AllByRecursion}
use Rattle.std.proofs.lemmas.Option.{slice_get-get_or}
use Rattle.ur_meaning.specs.Instances.{Different, IsNumbered}
use Rattle.ur_unfold_static.specs.Lists.{IsAbsent}
use Rattle.ur_unfold_static.specs.Held.{AreBelow}
use Rattle.ur_unfold_static.specs.Scopes.{AreAt}
use Rattle.ur_unfold_static.proofs.Once.{once_at}

pub the_same : {A : Type 0} (x y : A) → Some x ≡ Some y → x ≡ y
the_same x y e = cc

-- ---- what is there, and what is not

pub absent_of : {A : Type 0} (xs : List A) (y : A) → ¬ (IsNumbered xs y) → IsAbsent xs y
absent_of [] y h = tt
absent_of (x ∷ xs) y h = (λ e. h (zero, ap Some e), absent_of xs y (λ at. h (suc at.0, at.1)))

pub all_at : {A : Type 0} (P : A → Type 0) (xs : List A) (j : ℕ) (x : A) → AllByRecursion P xs → slice_get xs j ≡ Some x → P x
all_at P [] j x h e = absurd (cc)
all_at P (y ∷ xs) zero x h e = subst P (the_same y x e) h.0
all_at P (y ∷ xs) (suc j) x h e = all_at P xs j x h.1 e

pub not_numbered : {A : Type 0} (xs : List A) (y : A) → IsAbsent xs y → ¬ (IsNumbered xs y)
not_numbered xs y h at = all_at (λ x. x ≢ y) xs at.0 y h at.1 refl

pub all_by : {A : Type 0} (P : A → Type 0) (xs : List A) → ((x : A) → IsNumbered xs x → P x) → AllByRecursion P xs
all_by P [] go = tt
all_by P (x ∷ xs) go = (go x (zero, refl), all_by P xs (λ y at. go y (suc at.0, at.1)))

pub all_so : {A : Type 0} (P Q : A → Type 0) (xs : List A) → ((x : A) → P x → Q x) → AllByRecursion P xs → AllByRecursion Q xs
all_so P Q [] go h = tt
all_so P Q (x ∷ xs) go h = (go x h.0, all_so P Q xs go h.1)

pub all_last : {A : Type 0} (P : A → Type 0) (xs : List A) (y : A) → AllByRecursion P xs → P y → AllByRecursion P (xs ++ y ∷ [])
all_last P [] y h g = (g, tt)
all_last P (x ∷ xs) y h g = (h.0, all_last P xs y h.1 g)

pub before_last : {A : Type 0} (xs : List A) (y z : A) → IsNumbered xs z → IsNumbered (xs ++ y ∷ []) z
before_last [] y z at = absurd (cc)
before_last (x ∷ xs) y z (zero, e) = (zero, e)
before_last (x ∷ xs) y z (suc j, e) = let more = before_last xs y z (j, e) in (suc more.0, more.1)

pub at_last : {A : Type 0} (xs : List A) (y : A) → IsNumbered (xs ++ y ∷ []) y
at_last [] y = (zero, refl)
at_last (x ∷ xs) y = let more = at_last xs y in (suc more.0, more.1)

pub of_last : {A : Type 0} (xs : List A) (y z : A) → IsNumbered (xs ++ y ∷ []) z → IsNumbered xs z ⊎ (y ≡ z)
of_last [] y z (zero, e) = inr (the_same y z e)
of_last [] y z (suc j, e) = absurd (cc)
of_last (x ∷ xs) y z (zero, e) = inl (zero, e)
of_last (x ∷ xs) y z (suc j, e) = elim (of_last xs y z (j, e)) [
  | inl at ↦ inl (suc at.0, at.1)
  | inr same ↦ inr same
]

-- ---- numbers

pub below_at : {A : Type 0} (d : A) (xs : List A) (js : List ℕ) → AreBelow (length xs) js → AreAt xs js (map (λ j. get_or xs j d) js)
below_at d xs [] h = tt
below_at d xs (j ∷ js) h = (slice_get-get_or xs j d h.0, below_at d xs js h.1)

parts : {A : Type 0} (a b : A) (xs ys : List A) → a ∷ xs ≡ b ∷ ys → (a ≡ b) × (xs ≡ ys)
parts a b xs ys e = (cc, cc)

pub numbers_once : {A : Type 0} (d : A) (xs : List A) → Different xs → (js ks : List ℕ) → AreBelow (length xs) js → AreBelow (length xs) ks
    → map (λ j. get_or xs j d) js ≡ map (λ j. get_or xs j d) ks → js ≡ ks
numbers_once d xs u [] [] h g e = refl
numbers_once d xs u [] (k ∷ ks) h g e = absurd (cc)
numbers_once d xs u (j ∷ js) [] h g e = absurd (cc)
numbers_once d xs u (j ∷ js) (k ∷ ks) h g e =
    let both = parts (get_or xs j d) (get_or xs k d) (map (λ j. get_or xs j d) js) (map (λ j. get_or xs j d) ks) e in
    ap₂ (λ a b. a ∷ b) (once_at d xs u j k h.0 g.0 both.0) (numbers_once d xs u js ks h.1 g.1 both.1)

-- ---- under a function that tells elements apart

module _ {A B : Type 0} (f : A → B) (P : A → Type 0) (once : (a b : A) → P a → P b → f a ≡ f b → a ≡ b) where
  pub absent_map : (x : A) (xs : List A) → P x → AllByRecursion P xs → AllByRecursion (λ y. x ≢ y) xs → AllByRecursion (λ y. f x ≢ y) (map f xs)
  absent_map x [] p h d = tt
  absent_map x (y ∷ xs) p h d = (λ e. d.0 (once x y p h.0 e), absent_map x xs p h.1 d.1)

  pub different_map : (xs : List A) → AllByRecursion P xs → Different xs → Different (map f xs)
  different_map [] h d = tt
  different_map (x ∷ xs) h d = (absent_map x xs h.0 h.1 d.0, different_map xs h.1 d.1)

  pub numbered_back : (xs : List A) (k : A) → AllByRecursion P xs → P k → IsNumbered (map f xs) (f k) → IsNumbered xs k
  numbered_back [] k h p at = absurd (cc)
  numbered_back (x ∷ xs) k h p (zero, e) = (zero, ap Some (once x k h.0 p (the_same (f x) (f k) e)))
  numbered_back (x ∷ xs) k h p (suc j, e) = let back = numbered_back xs k h.1 p (j, e) in (suc back.0, back.1)

pub numbered_map : {A B : Type 0} (f : A → B) (xs : List A) (j : ℕ) (k : A) → slice_get xs j ≡ Some k → slice_get (map f xs) j ≡ Some (f k)
numbered_map f [] j k e = absurd (cc)
numbered_map f (x ∷ xs) zero k e = ap Some (ap f (the_same x k e))
numbered_map f (x ∷ xs) (suc j) k e = numbered_map f xs j k e

pub of_map : {A B : Type 0} (f : A → B) (xs : List A) (j : ℕ) (b : B) → slice_get (map f xs) j ≡ Some b → (k : A) × (slice_get xs j ≡ Some k) × (b ≡ f k)
of_map f [] j b e = absurd (cc)
of_map f (x ∷ xs) zero b e = (x, refl, sym (the_same (f x) b e))
of_map f (x ∷ xs) (suc j) b e = of_map f xs j b e

pub not_past : {A : Type 0} (xs : List A) (j : ℕ) → slice_get xs j ≡ None → ¬ (j < length xs)
not_past [] j e h = absurd (omega (arith, h))
not_past (x ∷ xs) zero e h = cc
not_past (x ∷ xs) (suc j) e h = not_past xs j e (omega (arith, h))
