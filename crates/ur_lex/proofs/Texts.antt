-- Tests and fronts of texts.
use Rattle.std.proofs.Common.{◌≡◌, ℕ, ◌+◌, ◌<◌, ◌≤◌, zero, suc, Bool, true, false, ◌&&◌, ◌==◌, List, [], ◌∷◌, ◌++◌, length, take, drop, get_or, reverse, refl, sym, ap, subst, ◌∙◌, arith}
use Rattle.std.specs.List.{list_all}
use Rattle.std.specs.Cmp.Lexicographic.{pointwise}
use Rattle.std.specs.Prelude.{slice_index}
use Rattle.std.proofs.lemmas.Bool.Decides.{Decides-eqb}
use Rattle.std.proofs.lemmas.List.{take_at, drop_at, take-append-drop, take_more, reverse-append}
use Rattle.ur_lex.specs.Spelling.{Text}
use Rattle.ur_lex.specs.Scanning.{is_front}

pub and_left : (x y : Bool) → (x && y) ≡ true → x ≡ true
and_left true y h = refl
and_left false y h = h

pub and_right : (x y : Bool) → (x && y) ≡ true → y ≡ true
and_right true y h = h
and_right false y h = absurd (cc)

pub and_both : (x y : Bool) → x ≡ true → y ≡ true → (x && y) ≡ true
and_both x y e h = rw (e, h) refl

pub eqb_refl : (b : ℕ) → (b == b) ≡ true
eqb_refl b = (Decides-eqb b b).1 refl

pub eqb_eq : (b c : ℕ) → (b == c) ≡ true → b ≡ c
eqb_eq b c h = (Decides-eqb b c).0 h

-- two splits of one text, where the fronts are equally long
pub split_same : (s x t y : Text) → length s ≡ length t → s ++ x ≡ t ++ y → (s ≡ t) × (x ≡ y)
split_same s x t y l e = (
  sym (take_at s x (length s) refl) ∙ ap (λ z. take (length s) z) e ∙ take_at t y (length s) (sym l),
  sym (drop_at s x (length s) refl) ∙ ap (λ z. drop (length s) z) e ∙ drop_at t y (length s) (sym l),
)

-- ---- fronts

pub front_of_append : (f x : Text) → is_front f (f ++ x) ≡ true
front_of_append [] x = refl
front_of_append (b ∷ f) x = and_both _ _ (eqb_refl b) (front_of_append f x)

pub front_of_take : (f bytes : Text) (n : ℕ) → take n bytes ≡ f → is_front f bytes ≡ true
front_of_take f bytes n e =
    subst (λ z. is_front f z ≡ true) (ap (λ z. z ++ drop n bytes) (sym e) ∙ take-append-drop n bytes) (front_of_append f (drop n bytes))

pub take_of_front : (f bytes : Text) → is_front f bytes ≡ true → take (length f) bytes ≡ f
take_of_front [] bytes h = refl
take_of_front (f ∷ fs) [] h = absurd (cc)
take_of_front (f ∷ fs) (b ∷ bytes) h =
    let e : f ≡ b = eqb_eq f b (and_left _ _ h) in
    let i = take_of_front fs bytes (and_right (f == b) _ h) in
    rw (i, e) refl

pub front_within : (f bytes : Text) → is_front f bytes ≡ true → length f ≤ length bytes
front_within [] bytes h = omega arith
front_within (f ∷ fs) [] h = absurd (cc)
front_within (f ∷ fs) (b ∷ bytes) h = let i = front_within fs bytes (and_right (f == b) _ h) in omega arith

-- a front as std tells it
pub front_is : (f bytes : Text) → pointwise ◌==◌ f (take (length f) bytes) ≡ is_front f bytes
front_is [] bytes = refl
front_is (f ∷ fs) [] = refl
front_is (f ∷ fs) (b ∷ bytes) = ap (λ z. f == b && z) (front_is fs bytes)

-- ---- runs

-- a byte within the front
pub list_all_at : (p : ℕ → Bool) (xs : Text) (n m : ℕ) → list_all p (take m xs) ≡ true → n < m → n < length xs → p (slice_index xs n) ≡ true
list_all_at p [] n m h l k = absurd (omega (arith, k))
list_all_at p (x ∷ xs) n zero h l k = absurd (omega (arith, l))
list_all_at p (x ∷ xs) zero (suc m) h l k = and_left _ _ h
list_all_at p (x ∷ xs) (suc n) (suc m) h l k = list_all_at p xs n m (and_right (p x) _ h) (omega (arith, l)) (omega (arith, k))

pub list_all_push : {X : Type 0} (p : X → Bool) (xs : List X) (x : X) → list_all p xs ≡ true → p x ≡ true → list_all p (xs ++ x ∷ []) ≡ true
list_all_push p [] x h e = and_both (p x) true e refl
list_all_push p (y ∷ xs) x h e = and_both (p y) _ (and_left (p y) _ h) (list_all_push p xs x (and_right (p y) _ h) e)

-- a run, one byte on
pub run_more : (p : ℕ → Bool) (xs : Text) (i : ℕ) → i < length xs → list_all p (take i xs) ≡ true → p (slice_index xs i) ≡ true → list_all p (take (i + 1) xs) ≡ true
run_more p xs i l h e = rw (take_more xs i 0 l) (list_all_push p (take i xs) (slice_index xs i) h e)

pub list_all_of : {X : Type 0} (p : X → Bool) (xs : List X) (d : X) (n : ℕ) → list_all p xs ≡ true → n < length xs → p (get_or xs n d) ≡ true
list_all_of p [] d n h l = absurd (omega (arith, l))
list_all_of p (x ∷ xs) d zero h l = and_left _ _ h
list_all_of p (x ∷ xs) d (suc n) h l = list_all_of p xs d n (and_right (p x) _ h) (omega (arith, l))

and_swap3 : (x y z : Bool) → (x && (y && z)) ≡ (y && (x && z))
and_swap3 true y z = refl
and_swap3 false true z = refl
and_swap3 false false z = refl

list_all_snoc : {X : Type 0} (p : X → Bool) (xs : List X) (x : X) → list_all p (xs ++ x ∷ []) ≡ (p x && list_all p xs)
list_all_snoc p [] x = refl
list_all_snoc p (y ∷ xs) x = ap (λ z. p y && z) (list_all_snoc p xs x) ∙ and_swap3 (p y) (p x) (list_all p xs)

pub list_all_reverse : {X : Type 0} (p : X → Bool) (xs : List X) → list_all p (reverse xs) ≡ list_all p xs
list_all_reverse p [] = refl
list_all_reverse p (x ∷ xs) = ap (list_all p) (reverse-append (x ∷ []) xs) ∙ list_all_snoc p (reverse xs) x ∙ ap (λ z. p x && z) (list_all_reverse p xs)
