-- A search for an entry, and a new entry at the end.
use Rattle.std.proofs.Common.{◌≡◌, ◌≢◌, ◌<◌, ◌≤◌, ℕ, ◌+◌, List, [], ◌∷◌, ◌++◌, map, length, drop, get_or, Some, option_map, refl, sym, ap, subst, ◌∙◌}
use Rattle.std.specs.Prelude.{slice_get}
use Rattle.std.proofs.lemmas.List.{drop_all, map-append}
use Rattle.std.proofs.lemmas.Option.{slice_get-get_or, slice_get-map}
use Rattle.ur_meaning.specs.Instances.{Different}
use Rattle.ur_unfold_static.specs.Lists.{IsAbsent}
use Rattle.ur_unfold_static.proofs.Below.{at-here}
use Rattle.ur_unfold_static.proofs.Differ.{last_differs}

pub found : {A B : Type 0} (f : A → B) (ys xs : List A) (i : ℕ) (y : A) (b : B) → xs ≡ ys → i < length xs → y ≡ get_or xs i y → f y ≡ b
    → (i < length ys) × (slice_get (map f ys) i ≡ Some b)
found f ys xs i y b s h e p =
    subst (λ zs. (i < length zs) × (slice_get (map f zs) i ≡ Some b)) s
    (h, slice_get-map f xs i ∙ ap (option_map f) (slice_get-get_or xs i y h ∙ ap Some (sym e)) ∙ ap Some p)

pub passed : {A B : Type 0} (f : A → B) (xs : List A) (i : ℕ) (y : A) (b : B) → i < length xs → y ≡ get_or xs i y → f y ≢ b
    → (IsAbsent (map f (drop i xs)) b → IsAbsent (map f xs) b) → IsAbsent (map f (drop (i + 1) xs)) b → IsAbsent (map f xs) b
passed f xs i y b h e n k rest = k (subst (λ zs. IsAbsent (map f zs) b) (sym (at-here xs i y h e)) (n, rest))

pub nowhere : {A B : Type 0} (f : A → B) (ys xs : List A) (i : ℕ) (b : B) → xs ≡ ys → length xs ≤ i
    → (IsAbsent (map f (drop i xs)) b → IsAbsent (map f xs) b) → IsAbsent (map f ys) b
nowhere f ys xs i b s h k = subst (λ zs. IsAbsent (map f zs) b) s (k (subst (λ zs. IsAbsent (map f zs) b) (sym (drop_all i xs h)) tt))

pub last_is : {A B : Type 0} (f : A → B) (xs : List A) (y : A) → slice_get (map f (xs ++ y ∷ [])) (length xs) ≡ Some (f y)
last_is f [] y = refl
last_is f (x ∷ xs) y = last_is f xs y

pub last_once : {A B : Type 0} (f : A → B) (xs : List A) (y : A) → IsAbsent (map f xs) (f y) → Different (map f xs) → Different (map f (xs ++ y ∷ []))
last_once f xs y a d = subst Different (sym (map-append f xs (y ∷ []))) (last_differs (map f xs) (f y) d a)

pub grown_by : {A B : Type 0} (f : A → B) (xs ys : List A) (y : A) → ys ≡ xs ++ y ∷ [] → (more : List B) × (map f ys ≡ map f xs ++ more)
grown_by f xs ys y e = (f y ∷ [], ap (map f) e ∙ map-append f xs (y ∷ []))
