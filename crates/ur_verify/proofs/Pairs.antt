-- Lists whose elements are related in pairs.
use Rattle.std.proofs.Common.{◌≡◌, ◌<◌, ◌≤◌, ◌+◌, ℕ, zero, suc, List, [], ◌∷◌, take, length, get_or, refl, sym, ap, ◌∙◌, subst, arith}
use Rattle.std.specs.Prelude.{All}
use Rattle.std.specs.List.{AllZip}
use Rattle.std.proofs.lemmas.List.{take_all}
use Rattle.std.proofs.lemmas.List.Elements.{All-get_or}

module _ {X Y : Type 0} (P : X → Y → Type 0) where
  step : (xs : List X) (ys : List Y) (i : ℕ) (x : X) (y d : Y) → i < length xs → length xs ≡ length ys → x ≡ get_or xs i x → y ≡ get_or ys i d → P x y
      → AllZip P (take i xs) (take i ys) → AllZip P (take (suc i) xs) (take (suc i) ys)
  step [] ys i x y d h n e f p all = absurd (omega (arith, h))
  step (a ∷ xs) [] i x y d h n e f p all = absurd (omega (arith, n))
  step (a ∷ xs) (b ∷ ys) zero x y d h n e f p all = (subst (λ z. P z b) e (subst (P x) f p), tt)
  step (a ∷ xs) (b ∷ ys) (suc i) x y d h n e f p all = (all.0, step xs ys i x y d (omega (arith, h)) (omega (arith, n)) e f p all.1)

  pub pair_step : (xs : List X) (ys : List Y) (i : ℕ) (x : X) (y d : Y) → i < length xs → length xs ≡ length ys → x ≡ get_or xs i x → y ≡ get_or ys i d → P x y
      → AllZip P (take i xs) (take i ys) → AllZip P (take (i + 1) xs) (take (i + 1) ys)
  pair_step xs ys i x y d h n e f p all =
      let next : suc i ≡ i + 1 = omega arith in subst (λ k. AllZip P (take k xs) (take k ys)) next (step xs ys i x y d h n e f p all)

  pub pair_at : (xs : List X) (ys : List Y) (i : ℕ) (x : X) (y d : Y) → i < length xs → x ≡ get_or xs i x → y ≡ get_or ys i d → AllZip P xs ys → P x y
  pair_at [] ys i x y d h e f all = absurd (omega (arith, h))
  pair_at (a ∷ xs) [] i x y d h e f all = absurd all
  pair_at (a ∷ xs) (b ∷ ys) zero x y d h e f all = subst (λ z. P z y) (sym e) (subst (P a) (sym f) all.0)
  pair_at (a ∷ xs) (b ∷ ys) (suc i) x y d h e f all = pair_at xs ys i x y d (omega (arith, h)) e f all.1

  pub pair_long : (xs : List X) (ys : List Y) → AllZip P xs ys → length xs ≡ length ys
  pair_long [] [] all = refl
  pair_long [] (b ∷ ys) all = absurd all
  pair_long (a ∷ xs) [] all = absurd all
  pair_long (a ∷ xs) (b ∷ ys) all = ap suc (pair_long xs ys all.1)

  pub pair_end : (xs : List X) (ys : List Y) (i : ℕ) → length xs ≤ i → length xs ≡ length ys → AllZip P (take i xs) (take i ys) → AllZip P xs ys
  pair_end xs ys i h n all =
      subst (λ zs. AllZip P zs ys) (take_all i xs h) (subst (λ zs. AllZip P (take i xs) zs) (take_all i ys (omega (arith, h, n))) all)

  pub pair_given : (xs xs' : List X) (ys ys' : List Y) (i : ℕ) (x : X) (y d : Y) → xs ≡ xs' → ys ≡ ys' → i < length xs → x ≡ get_or xs i x → y ≡ get_or ys i d
      → (u : Unit {0}) × AllZip P xs' ys' → (u : Unit {0}) × P x y
  pair_given xs xs' ys ys' i x y d is js h e f k =
      (tt, pair_at xs ys i x y d h e f (subst (λ zs. AllZip P xs zs) (sym js) (subst (λ zs. AllZip P zs ys') (sym is) k.1)))

  pub pair_of : (xs xs' : List X) (ys ys' : List Y) → xs ≡ xs' → ys ≡ ys' → AllZip P xs' ys' → length xs ≡ length ys
  pair_of xs xs' ys ys' is js all = ap length is ∙ pair_long xs' ys' all ∙ sym (ap length js)

-- ---- one list

module _ {X : Type 0} (P : X → Type 0) where
  pub all_given : (xs ys : List X) (i : ℕ) (x : X) → xs ≡ ys → i < length xs → x ≡ get_or xs i x → (u : Unit {0}) × All P ys → (u : Unit {0}) × P x
  all_given xs ys i x is h e k = (tt, subst P (sym e) (All-get_or P xs i x h (subst (All P) (sym is) k.1)))

  pub all_of : (xs ys : List X) (i : ℕ) → xs ≡ ys → length xs ≤ i → All P (take i xs) → All P ys
  all_of xs ys i is h all = subst (All P) is (subst (All P) (take_all i xs h) all)
