-- Lists compared place by place, and the loops that read classes.
use Rattle.std.proofs.Common.{◌≡◌, ◌≢◌, ℕ, zero, suc, ◌+◌, ◌<◌, ◌≤◌, Bool, true, false, ◌&&◌, ◌==◌, cond, List, [], ◌∷◌, ◌++◌, map, length, get_or, drop, take, min, refl, sym, ap, ap₂, ◌∙◌, arith, drop-cons}
use Rattle.std.specs.Cmp.Lexicographic.{pointwise}
use Rattle.std.proofs.lemmas.List.{take_more, at_drop_all, length-take-le}
use Rattle.std.proofs.lemmas.List.{map-append}
use Rattle.ur_sql.specs.declared.pattern.KeyAt.{KeyAt}
use Rattle.ur_sql.specs.declared.pattern.KeyAt.TheVariants as key
use Rattle.ur_invalidate.specs.Reading.{members}

pub point_step : {X : Type 0} (eq : X → X → Bool) (xs ys : List X) (i : ℕ) (d e : X) → length xs ≡ length ys → i < length xs
    → pointwise eq (drop i xs) (drop i ys) ≡ (eq (get_or xs i d) (get_or ys i e) && pointwise eq (drop (i + 1) xs) (drop (i + 1) ys))
point_step {X} eq xs ys i d e same small =
    let other : i < length ys = omega (arith, same, small) in
    let next : suc i ≡ i + 1 = omega arith in
    ap₂ (λ (us ws : List X). pointwise eq us ws) (drop-cons xs i d small ∙ ap (λ n. get_or xs i d ∷ drop n xs) next) (drop-cons ys i e other ∙ ap (λ n. get_or ys i e ∷ drop n ys) next)

pub point_end : {X : Type 0} (eq : X → X → Bool) (xs ys : List X) (i : ℕ) → length xs ≡ length ys → length xs ≤ i → pointwise eq (drop i xs) (drop i ys) ≡ true
point_end {X} eq xs ys i same far =
    let other : length ys ≤ i = omega (arith, same, far) in
    at_drop_all (λ (us : List X). pointwise eq us (drop i ys)) xs i far ∙ at_drop_all (λ (ws : List X). pointwise eq [] ws) ys i other

pub point_lengths : {X : Type 0} (eq : X → X → Bool) (xs ys : List X) → length xs ≢ length ys → pointwise eq xs ys ≡ false
point_lengths eq [] [] other = absurd (other refl)
point_lengths eq [] (y ∷ ys) other = refl
point_lengths eq (x ∷ xs) [] other = refl
point_lengths eq (x ∷ xs) (y ∷ ys) other = go (eq x y) (point_lengths eq xs ys (λ e. other (ap suc e)))
  where
    go : (b : Bool) → pointwise eq xs ys ≡ false → (b && pointwise eq xs ys) ≡ false
    go true e = e
    go false e = refl

-- where the items at a place differ, the lists do
pub point_differs : (b rest whole : Bool) → b ≡ false → whole ≡ (b && rest) → whole ≡ false
point_differs b rest whole e is = is ∙ ap (λ (c : Bool). c && rest) e

pub point_agrees : (b rest whole : Bool) → b ≡ true → whole ≡ (b && rest) → rest ≡ whole
point_agrees b rest whole e is = sym (is ∙ ap (λ (c : Bool). c && rest) e)

pub and_false : (b : Bool) → (b && false) ≡ false
and_false true = refl
and_false false = refl

pub and_true : (b : Bool) → (b && true) ≡ b
and_true true = refl
and_true false = refl

-- a count that stops at 65
pub few_pairs : (n counted : ℕ) → counted ≡ min 65 n → counted ≤ 64 → n ≤ 64
few_pairs n counted is few = omega (arith, is, few)

-- ---- one position more

pub any_more : {X : Type 0} (d : X) (xs : List X) (i : ℕ) (all new : List KeyAt) → i < length xs → all ≡ map (λ k. key.Any) (take i xs) → new ≡ all ++ key.Any ∷ [] → new ≡ map (λ k. key.Any) (take (i + 1) xs)
any_more {X} d xs i all new small is pushed =
    pushed ∙ ap (λ (l : List KeyAt). l ++ key.Any ∷ []) is ∙ sym (map-append (λ (k : X). key.Any) (take i xs) (get_or xs i d ∷ [])) ∙ ap (map (λ (k : X). key.Any)) (sym (take_more xs i d small))

-- ---- arguments of a class

pub members_push : (class n : ℕ) (xs : List ℕ) (x k : ℕ) → n + length xs ≡ k → members class n (xs ++ x ∷ []) ≡ members class n xs ++ cond (class == x) (k ∷ []) []
members_push class n [] x k at = let same : n ≡ k = omega (arith, at) in ap (λ m. cond (class == x) (m ∷ []) []) same
members_push class n (y ∷ xs) x k at = go (class == y) (members_push class (n + 1) xs x k (omega (arith, at)))
  where
    go : (b : Bool) → members class (n + 1) (xs ++ x ∷ []) ≡ members class (n + 1) xs ++ cond (class == x) (k ∷ []) []
        → cond b (n ∷ members class (n + 1) (xs ++ x ∷ [])) (members class (n + 1) (xs ++ x ∷ []))
        ≡ cond b (n ∷ members class (n + 1) xs) (members class (n + 1) xs) ++ cond (class == x) (k ∷ []) []
    go true e = ap (λ ms. n ∷ ms) e
    go false e = e

pub members_more : (class : ℕ) (xs : List ℕ) (i : ℕ) → i < length xs → members class 0 (take (i + 1) xs) ≡ members class 0 (take i xs) ++ cond (class == get_or xs i 0) (i ∷ []) []
members_more class xs i small =
    let taken : length (take i xs) ≡ i = length-take-le i xs (omega (arith, small)) in
    let all : 0 + length (take i xs) ≡ i = omega (arith, taken) in
    ap (members class 0) (take_more xs i 0 small) ∙ members_push class 0 (take i xs) (get_or xs i 0) i all
