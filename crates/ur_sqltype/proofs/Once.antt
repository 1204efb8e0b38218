-- Lists in which nothing stands twice.
use Rattle.std.proofs.Common.{◌≡◌, Bool, true, false, List, [], ◌∷◌, Option, Some, None, refl, sym, ap, ◌∙◌, true≢false}
use Rattle.std.specs.Prelude.{if◌then◌else◌, ◌||◌}
use Rattle.std.specs.List.{IsDistinct, AllByRecursion, list_any}
use Rattle.std.proofs.lemmas.Map.Keys.{IsDistinct-head, IsDistinct-tail, IsDistinct-cons}
use Rattle.ur_sqltype.specs.Lists.{repeated}

module _ {A : Type 0} (eq : A → A → Bool) where
  apart_all : (x : A) (xs : List A) → list_any (eq x) xs ≡ false → AllByRecursion (λ y. eq x y ≡ false) xs
  apart_all x [] e = tt
  apart_all x (y ∷ xs) e = let h = neither (eq x y) (list_any (eq x) xs) e in (h.0, apart_all x xs h.1)
    where
      neither : (a b : Bool) → (a || b) ≡ false → (a ≡ false) × (b ≡ false)
      neither true b e = absurd (true≢false e)
      neither false b e = (refl, e)

  all_apart : (x : A) (xs : List A) → AllByRecursion (λ y. eq x y ≡ false) xs → list_any (eq x) xs ≡ false
  all_apart x [] h = refl
  all_apart x (y ∷ xs) h = nor (eq x y) (list_any (eq x) xs) h.0 (all_apart x xs h.1)
    where
      nor : (a b : Bool) → a ≡ false → b ≡ false → (a || b) ≡ false
      nor true b e f = absurd (true≢false e)
      nor false b e f = f

  by_test : (b : Bool) (x : A) (rest : Option A) → (if b then Some x else rest) ≡ None → (b ≡ false) × (rest ≡ None)
  by_test true x rest e = absurd (cc)
  by_test false x rest e = (refl, e)

  pub distinct : (xs : List A) → repeated eq xs ≡ None → IsDistinct eq xs
  unfolding IsDistinct
  distinct [] e = tt
  distinct (x ∷ xs) e = let h = by_test (list_any (eq x) xs) x (repeated eq xs) e in (apart_all x xs h.0, distinct xs h.1)

  pub none_twice : (xs : List A) → IsDistinct eq xs → repeated eq xs ≡ None
  none_twice [] d = refl
  none_twice (x ∷ xs) d = ap (λ b. if b then Some x else repeated eq xs) (all_apart x xs (IsDistinct-head eq x xs d)) ∙ none_twice xs (IsDistinct-tail eq x xs d)

  -- one step of the search
  pub further : (all left rest : List A) (x : A) (b : Bool) → left ≡ x ∷ rest → b ≡ list_any (eq x) rest → b ≡ false → repeated eq all ≡ repeated eq left → repeated eq all ≡ repeated eq rest
  further all left rest x b is e none so_far = so_far ∙ ap (repeated eq) is ∙ ap (λ z. if z then Some x else repeated eq rest) (sym e ∙ none)

  pub here : (all left rest : List A) (x : A) (b : Bool) → left ≡ x ∷ rest → b ≡ list_any (eq x) rest → b ≡ true → repeated eq all ≡ repeated eq left → repeated eq all ≡ Some x
  here all left rest x b is e some so_far = so_far ∙ ap (repeated eq) is ∙ ap (λ z. if z then Some x else repeated eq rest) (sym e ∙ some)
