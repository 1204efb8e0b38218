-- Lists that a loop makes from the elements at its places.
use Rattle.std.proofs.Common.{◌≡◌, ◌<◌, ℕ, ◌+◌, List, [], ◌∷◌, ◌++◌, map, length, drop, get_or, sym, ap, ◌∙◌, append_assoc, drop-cons, add-one}

here : {A : Type 0} (xs : List A) (i : ℕ) (d : A) → i < length xs → drop i xs ≡ get_or xs i d ∷ drop (i + 1) xs
here xs i d h = rw (add-one) (drop-cons xs i d h)

pub told_at : {A B : Type 0} (f : A → B) (xs : List A) (i : ℕ) (d : A) (made new all : List B) → i < length xs → made ++ map f (drop i xs) ≡ all → new ≡ made ++ f (get_or xs i d) ∷ []
    → new ++ map f (drop (i + 1) xs) ≡ all
told_at f xs i d made new all h so n =
    ap (λ l. l ++ map f (drop (i + 1) xs)) n ∙ append_assoc made (f (get_or xs i d) ∷ []) (map f (drop (i + 1) xs)) ∙ ap (λ l. made ++ map f l) (sym (here xs i d h)) ∙ so
