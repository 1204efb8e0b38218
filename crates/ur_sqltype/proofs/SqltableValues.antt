-- The values of a list's elements, one after the other.
use Rattle.std.proofs.Common.{◌≡◌, ℕ, ◌+◌, ◌<◌, ◌≤◌, suc, List, [], ◌∷◌, ◌++◌, length, drop, get_or, Option, Some, None, refl, sym, ap, ap₂, subst, ◌∙◌, append_assoc, append-nil, arith}
use Rattle.std.specs.Prelude.{Contains, option_map}
use Rattle.std.proofs.Math.ListN.{drop_of_length-le}
use Rattle.std.proofs.Math.Seq.{drop-cons}
use Rattle.std.proofs.lemmas.List.Elements.{Contains-get_or}
use Rattle.ur_sqltype.specs.Lists.{and_then, all_of, behind}

pub split : {X : Type 0} (xs : List X) (i : ℕ) (x : X) → i < length xs → x ≡ get_or xs i x → drop i xs ≡ x ∷ drop (i + 1) xs
split xs i x h e = let next : suc i ≡ i + 1 = omega arith in drop-cons xs i x h ∙ ap₂ (λ a b. a ∷ b) (sym e) (ap (λ n. drop n xs) next)

pub behind_nothing : {B : Type 0} (o : Option (List B)) → o ≡ behind [] o
behind_nothing None = refl
behind_nothing (Some rest) = refl

pub behind_more : {B : Type 0} (front : List B) (b : B) (o : Option (List B)) → behind front (and_then (Some b) o) ≡ behind (front ++ b ∷ []) o
behind_more front b None = refl
behind_more front b (Some rest) = ap Some (sym (append_assoc front (b ∷ []) rest))

-- one value more
pub one_more : {A B : Type 0} (f : A → Option B) (xs : List A) (i : ℕ) (x : A) (b : B) (found : List B) → i < length xs → x ≡ get_or xs i x → f x ≡ Some b
    → all_of f xs ≡ behind found (all_of f (drop i xs)) → all_of f xs ≡ behind (found ++ b ∷ []) (all_of f (drop (i + 1) xs))
one_more f xs i x b found below at is so_far = so_far ∙ ap (λ z. behind found (all_of f z)) (split xs i x below at)
    ∙ ap (λ o. behind found (and_then o (all_of f (drop (i + 1) xs)))) is ∙ behind_more found b (all_of f (drop (i + 1) xs))

-- no element is left
pub at_end : {A B : Type 0} (f : A → Option B) (xs : List A) (i : ℕ) (found : List B) → length xs ≤ i
    → all_of f xs ≡ behind found (all_of f (drop i xs)) → all_of f xs ≡ Some found
at_end f xs i found past so_far = so_far ∙ ap (λ z. behind found (all_of f z)) (drop_of_length-le xs past) ∙ ap Some (append-nil found)

pub stands_there : {A : Type 0} (xs : List A) (i : ℕ) (x : A) → i < length xs → x ≡ get_or xs i x → Contains xs x
stands_there xs i x below at = subst (Contains xs) (sym at) (Contains-get_or xs i x below)

-- an element without a value
and_none : {B : Type 0} (o : Option B) → and_then o None ≡ None
and_none None = refl
and_none (Some b) = refl
