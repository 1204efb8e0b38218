-- Comments, two bytes at a time.
use Rattle.std.proofs.Common.{◌≡◌, ℕ, ◌+◌, ◌-◌, ◌<◌, ◌≤◌, zero, suc, Bool, true, false, ◌&&◌, ◌==◌, [], ◌∷◌, length, drop, None, refl, ap, ◌∙◌, arith}
use Rattle.std.specs.Prelude.{slice_index, if◌then◌else◌}
use Rattle.std.proofs.lemmas.List.{drop_more, length-drop}
use Rattle.ur_lex.specs.Spelling.{Text}
use Rattle.ur_lex.specs.Lexing.{after_comments}

short : (n : ℕ) (xs : Text) → 0 < n → length xs < 2 → after_comments n xs ≡ None
short zero xs p l = absurd (omega (arith, p))
short (suc n) [] p l = refl
short (suc n) (a ∷ []) p l = refl
short (suc n) (a ∷ b ∷ xs) p l = absurd (omega (arith, l))

-- fewer than two bytes close nothing
pub comment_short : (n : ℕ) (xs : Text) (i : ℕ) → 0 < n → i ≤ length xs → length xs - i < 2 → after_comments n (drop i xs) ≡ None
comment_short n xs i p l h = short n (drop i xs) p (omega (arith, h, length-drop i xs))

two_more : (xs : Text) (i : ℕ) → i + 2 ≤ length xs → drop i xs ≡ slice_index xs i ∷ slice_index xs (i + 1) ∷ drop (i + 2) xs
two_more xs i l =
    let e : (i + 1) + 1 ≡ i + 2 = omega arith in
    drop_more xs i 0 (omega (arith, l)) ∙ ap (λ z. slice_index xs i ∷ z) (drop_more xs (i + 1) 0 (omega (arith, l)) ∙ ap (λ z. slice_index xs (i + 1) ∷ drop z xs) e)

step : (n : ℕ) (xs : Text) (i : ℕ) → i + 2 ≤ length xs → after_comments (suc n) (drop i xs) ≡
    (if slice_index xs i == 40 && slice_index xs (i + 1) == 42 then after_comments (suc (suc n)) (drop (i + 2) xs) else (if slice_index xs i == 42 && slice_index xs (i + 1) == 41 then after_comments n (drop (i + 2) xs) else after_comments (suc n) (drop (i + 1) xs)))
step n xs i l =
    let one : drop (i + 1) xs ≡ slice_index xs (i + 1) ∷ drop (i + 2) xs = drop_more xs (i + 1) 0 (omega (arith, l)) ∙ ap (λ z. slice_index xs (i + 1) ∷ drop z xs) (omega arith) in
    rw one (ap (after_comments (suc n)) (two_more xs i l))

choose_first : {A : Type 0} (p q : Bool) (x y z : A) → p ≡ true → (if p then x else (if q then y else z)) ≡ x
choose_first p q x y z h = rw h refl

choose_second : {A : Type 0} (p q : Bool) (x y z : A) → p ≡ false → q ≡ true → (if p then x else (if q then y else z)) ≡ y
choose_second p q x y z h e = rw (h, e) refl

choose_third : {A : Type 0} (p q : Bool) (x y z : A) → p ≡ false → q ≡ false → (if p then x else (if q then y else z)) ≡ z
choose_third p q x y z h e = rw (h, e) refl

pub comment_opens : (n : ℕ) (xs : Text) (i : ℕ) → 0 < n → i + 2 ≤ length xs → (slice_index xs i == 40 && slice_index xs (i + 1) == 42) ≡ true → after_comments n (drop i xs) ≡ after_comments (n + 1) (drop (i + 2) xs)
comment_opens zero xs i p l h = absurd (omega (arith, p))
comment_opens (suc n) xs i p l h = let e : suc (suc n) ≡ suc n + 1 = omega arith in step n xs i l ∙ choose_first _ (slice_index xs i == 42 && slice_index xs (i + 1) == 41) _ (after_comments n (drop (i + 2) xs)) (after_comments (suc n) (drop (i + 1) xs)) h ∙ ap (λ z. after_comments z (drop (i + 2) xs)) e

pub comment_closes : (n : ℕ) (xs : Text) (i : ℕ) → 0 < n → i + 2 ≤ length xs → (slice_index xs i == 40 && slice_index xs (i + 1) == 42) ≡ false → (slice_index xs i == 42 && slice_index xs (i + 1) == 41) ≡ true →
    after_comments n (drop i xs) ≡ after_comments (n - 1) (drop (i + 2) xs)
comment_closes zero xs i p l h e = absurd (omega (arith, p))
comment_closes (suc n) xs i p l h e = let q : n ≡ suc n - 1 = omega arith in step n xs i l ∙ choose_second _ _ (after_comments (suc (suc n)) (drop (i + 2) xs)) _ (after_comments (suc n) (drop (i + 1) xs)) h e ∙ ap (λ z. after_comments z (drop (i + 2) xs)) q

pub comment_goes_on : (n : ℕ) (xs : Text) (i : ℕ) → 0 < n → i + 2 ≤ length xs → (slice_index xs i == 40 && slice_index xs (i + 1) == 42) ≡ false → (slice_index xs i == 42 && slice_index xs (i + 1) == 41) ≡ false →
    after_comments n (drop i xs) ≡ after_comments n (drop (i + 1) xs)
comment_goes_on zero xs i p l h e = absurd (omega (arith, p))
comment_goes_on (suc n) xs i p l h e = step n xs i l ∙ choose_third _ _ (after_comments (suc (suc n)) (drop (i + 2) xs)) (after_comments n (drop (i + 2) xs)) _ h e
