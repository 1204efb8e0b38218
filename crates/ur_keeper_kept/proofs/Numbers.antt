-- Numbers by their place, with 0 for what is not there.
use Rattle.std.proofs.Common.{◌≡◌, ◌≢◌, ℕ, zero, suc, ◌<◌, ◌==◌, ℤ, pos, true, false, cond, List, [], ◌∷◌, ◌++◌, length, set, get_or, refl, ap, sym, subst, ◌∙◌, inl, inr, arith}
use Rattle.std.proofs.lemmas.Bool.{cases_eq}
use Rattle.std.proofs.lemmas.Bool.Decides.{nat_tests}
use Rattle.std.proofs.lemmas.List.{get_or-set_same, get_or-set_other}

pub none-pushed : (xs : List ℤ) (q : ℕ) → get_or (xs ++ pos 0 ∷ []) q (pos 0) ≡ get_or xs q (pos 0)
none-pushed [] zero = refl
none-pushed [] (suc q) = refl
none-pushed (x ∷ xs) zero = refl
none-pushed (x ∷ xs) (suc q) = none-pushed xs q

pub number-set : (xs : List ℤ) (place q : ℕ) (n : ℤ) → place < length xs → get_or (set xs place n) q (pos 0) ≡ cond (q == place) n (get_or xs q (pos 0))
number-set xs place q n there = elim (cases_eq q place) [
  | inl e ↦ subst (λ (k : ℕ). get_or (set xs place n) k (pos 0) ≡ cond (k == place) n (get_or xs k (pos 0))) (sym e) (get_or-set_same xs place n (pos 0) there ∙ ap (λ b. cond b n (get_or xs place (pos 0))) (sym (same place)))
  | inr other ↦ get_or-set_other xs place q n (pos 0) other ∙ ap (λ b. cond b n (get_or xs q (pos 0))) (sym (differs q place other))
]
  where
    same : (k : ℕ) → (k == k) ≡ true
    same k = grind (arith, nat_tests)

    differs : (k p : ℕ) → k ≢ p → (k == p) ≡ false
    differs k p other = grind (arith, nat_tests)
