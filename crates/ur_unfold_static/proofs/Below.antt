-- Whether all numbers of a list are below one, from a place on.
use Rattle.std.proofs.Common.{◌≡◌, ◌<◌, ◌≤◌, ℕ, ◌+◌, true, false, ◌↔◌, List, [], ◌∷◌, length, drop, get_or, refl, sym, ap, subst, ◌∙◌, drop-cons, add-one}
use Rattle.std.specs.Prelude.{IsTrue}
use Rattle.std.proofs.lemmas.Bool.{false≢true}
use Rattle.std.proofs.lemmas.List.{drop_all}

from-here : {A : Type 0} (xs : List A) (i : ℕ) (d : A) → i < length xs → drop i xs ≡ get_or xs i d ∷ drop (i + 1) xs
from-here xs i d h = rw (add-one) (drop-cons xs i d h)

pub at-here : {A : Type 0} (xs : List A) (i : ℕ) (y : A) → i < length xs → y ≡ get_or xs i y → drop i xs ≡ y ∷ drop (i + 1) xs
at-here xs i y h e = from-here xs i y h ∙ ap (λ z. z ∷ drop (i + 1) xs) (sym e)

module _ {A : Type 0} (Below : List A → Type 0) (P : A → Type 0)
    (first : (y : A) (ys : List A) → Below (y ∷ ys) → P y × Below ys) (both : (y : A) (ys : List A) → P y → Below ys → Below (y ∷ ys)) (none : Below []) where
  pub goes_on : (xs : List A) (i : ℕ) (d : A) → i < length xs → P (get_or xs i d) → (Below xs ↔ Below (drop i xs)) → Below xs ↔ Below (drop (i + 1) xs)
  goes_on xs i d h b k =
      let here = from-here xs i d h in
      (λ all. (first (get_or xs i d) (drop (i + 1) xs) (subst Below here (k.0 all))).1, λ rest. k.1 (subst Below (sym here) (both (get_or xs i d) (drop (i + 1) xs) b rest)))

  pub stops : (ys xs : List A) (i : ℕ) (d : A) → xs ≡ ys → i < length xs → (P (get_or xs i d) → IsTrue false) → (Below xs ↔ Below (drop i xs)) → IsTrue false ↔ Below ys
  stops ys xs i d s h above k =
      (λ wrong. absurd (false≢true wrong), λ all. above ((first (get_or xs i d) (drop (i + 1) xs) (subst Below (from-here xs i d h) (k.0 (subst Below (sym s) all)))).0))

  pub ends : (ys xs : List A) (i : ℕ) → xs ≡ ys → length xs ≤ i → (Below xs ↔ Below (drop i xs)) → IsTrue true ↔ Below ys
  ends ys xs i s h k = (λ yes. subst Below s (k.1 (subst Below (sym (drop_all i xs h)) none)), λ all. refl)
