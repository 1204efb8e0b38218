-- Lists whose items have numbers.
use Rattle.std.proofs.Common.{◌≡◌, ℕ, ◌+◌, ◌<◌, List, [], ◌∷◌, ◌++◌, All, Option, flat_map, length, get_or, take, refl, sym, ap, ◌∙◌, subst, arith, append-nil}
use Rattle.std.specs.Prelude.{option_to_list}
use Rattle.std.specs.List.{AllZip, enumerate_from}
use Rattle.std.proofs.lemmas.Grind.{flat_map-append}
use Rattle.std.proofs.lemmas.List.{take_more, length-take-le}
use Rattle.ur_sql.specs.declared.pattern.Pattern.{Pattern}
use Rattle.ur_sql.specs.Answer.{first_ones}
use Rattle.ur_conditions.specs.declared.pair.Pair.{Pair}
use Rattle.ur_conditions.specs.Patterns.{pattern_eq, IsPatternOf, AreRead}
use Rattle.ur_invalidate.proofs.FirstOnes.{zip_push, one_read}

enumerate_push : {X : Type 0} (n : ℕ) (xs : List X) (x : X) (k : ℕ) → n + length xs ≡ k → enumerate_from n (xs ++ x ∷ []) ≡ enumerate_from n xs ++ (k, x) ∷ []
enumerate_push {X} n [] x k at = let same : n ≡ k = omega (arith, at) in ap (λ (m : ℕ). (m, x) ∷ []) same
enumerate_push {X} n (y ∷ xs) x k at = let far : (n + 1) + length xs ≡ k = omega (arith, at) in ap (λ (l : List (ℕ × X)). (n, y) ∷ l) (enumerate_push (n + 1) xs x k far)

-- what is so of each item
pub at_place : {X : Type 0} (P : X → Type 0) (xs : List X) (i : ℕ) (x : X) → i < length xs → x ≡ get_or xs i x → All P xs → P x
at_place P xs i x small is all = subst P (sym is) (all i x small)

next_item : {X : Type 0} (xs : List X) (i : ℕ) (d x : X) → i < length xs → x ≡ get_or xs i d → take (i + 1) xs ≡ take i xs ++ x ∷ []
next_item {X} xs i d x small is = take_more xs i d small ∙ ap (λ (y : X). take i xs ++ y ∷ []) (sym is)

enumerate_more : {X : Type 0} (xs : List X) (i : ℕ) (d x : X) → i < length xs → x ≡ get_or xs i d → enumerate_from 0 (take (i + 1) xs) ≡ enumerate_from 0 (take i xs) ++ (i, x) ∷ []
enumerate_more {X} xs i d x small is =
    let taken : length (take i xs) ≡ i = length-take-le i xs (omega (arith, small)) in
    let all : 0 + length (take i xs) ≡ i = omega (arith, taken) in
    ap (enumerate_from 0) (next_item xs i d x small is) ∙ enumerate_push 0 (take i xs) x i all

-- one item more, with its number
pub numbered_zip : {X Y : Type 0} (R : ℕ × X → Y → Type 0) (xs : List X) (ys new : List Y) (i : ℕ) (d x : X) (y : Y) → i < length xs → x ≡ get_or xs i d → AllZip R (enumerate_from 0 (take i xs)) ys → R (i, x) y
    → new ≡ ys ++ y ∷ [] → AllZip R (enumerate_from 0 (take (i + 1) xs)) new
numbered_zip {X} {Y} R xs ys new i d x y small is all one pushed =
    subst (λ (l : List (ℕ × X)). AllZip R l new) (sym (enumerate_more xs i d x small is))
    (subst (λ (l : List Y). AllZip R (enumerate_from 0 (take i xs) ++ (i, x) ∷ []) l) (sym pushed) (zip_push R (enumerate_from 0 (take i xs)) ys (i, x) y all one))

pub numbered_flat : {X Y : Type 0} (f : ℕ × X → List Y) (xs : List X) (all new more : List Y) (i : ℕ) (d x : X) → i < length xs → x ≡ get_or xs i d → all ≡ flat_map f (enumerate_from 0 (take i xs))
    → more ≡ f (i, x) → new ≡ all ++ more → new ≡ flat_map f (enumerate_from 0 (take (i + 1) xs))
numbered_flat {X} {Y} f xs all new more i d x small is before one pushed =
    pushed ∙ ap (λ (l : List Y). l ++ more) before ∙ ap (λ (l : List Y). flat_map f (enumerate_from 0 (take i xs)) ++ l) (one ∙ sym (append-nil (f (i, x))))
    ∙ sym (flat_map-append f (enumerate_from 0 (take i xs)) ((i, x) ∷ [])) ∙ ap (flat_map f) (sym (enumerate_more xs i d x small is))

-- one item more
pub zip_more : {X Y : Type 0} (R : X → Y → Type 0) (xs : List X) (ys new : List Y) (i : ℕ) (x : X) (y : Y) → i < length xs → x ≡ get_or xs i x → AllZip R (take i xs) ys → R x y → new ≡ ys ++ y ∷ []
    → AllZip R (take (i + 1) xs) new
zip_more {X} {Y} R xs ys new i x y small is all one pushed =
    subst (λ (l : List X). AllZip R l new) (sym (next_item xs i x x small is))
    (subst (λ (l : List Y). AllZip R (take i xs ++ x ∷ []) l) (sym pushed) (zip_push R (take i xs) ys x y all one))

-- one pair more is read
pub pair_read : (site : ℕ) (pairs : List Pair) (i : ℕ) (p : Pair) (kept all : List Pattern) (o : Option Pattern) → i < length pairs → p ≡ get_or pairs i p → AreRead site (take i pairs) kept → IsPatternOf site p o
    → ((from : List Pattern) → kept ≡ first_ones pattern_eq from → all ≡ first_ones pattern_eq (from ++ option_to_list o)) → AreRead site (take (i + 1) pairs) all
pair_read site pairs i p kept all o small is before pattern keeps =
    subst (λ (l : List Pair). AreRead site l all) (sym (next_item pairs i p p small is)) (one_read site (take i pairs) p kept all o before pattern keeps)
