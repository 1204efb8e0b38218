-- Where keys stand last.
use Rattle.std.proofs.Common.{◌≡◌, refl, ap, ap₂, sym, ◌∙◌, ℕ, zero, suc, Bool, true, false, ◌||◌, nat_lt, cond, List, [], ◌∷◌, ◌++◌, length, drop, arith}
use Rattle.std.specs.List.{list_any}
use Rattle.ur_names.specs.Indexed.{further, reach}

pub reach_more : {A : Type 0} (p : A → Bool) (xs : List A) (x : A) → reach p (xs ++ x ∷ []) ≡ cond (p x) (suc (length xs)) (reach p xs)
reach_more p [] x = lone (p x) where
  lone : (b : Bool) → further b 0 ≡ cond b 1 0
  lone true = refl
  lone false = refl
reach_more p (y ∷ xs) x = ap (further (p y)) (reach_more p xs x) ∙ past (p y) (p x) (length xs) (reach p xs) where
  past : (c b : Bool) (n m : ℕ) → further c (cond b (suc n) m) ≡ cond b (suc (suc n)) (further c m)
  past true true n m = refl
  past false true n m = refl
  past true false n m = refl
  past false false n m = refl

below-none : (n : ℕ) → nat_lt n 0 ≡ false
below-none n = grind arith

below-more : (n r : ℕ) → nat_lt (suc n) (suc r) ≡ nat_lt n r
below-more n r = grind arith

none-below : (r : ℕ) → nat_lt 0 (suc r) ≡ true
none-below r = grind arith

here : (b : Bool) (r : ℕ) → (b || nat_lt 0 r) ≡ nat_lt 0 (further b r)
here true zero = sym (none-below 0)
here false zero = refl
here true (suc r) = sym (none-below (suc r))
here false (suc r) = none-below r ∙ sym (none-below (suc r))

behind : (b : Bool) (n r : ℕ) → nat_lt n r ≡ nat_lt (suc n) (further b r)
behind true n zero = sym (below-more n 0)
behind false n zero = below-none n ∙ sym (below-none (suc n))
behind true n (suc r) = sym (below-more n (suc r))
behind false n (suc r) = sym (below-more n (suc r))

pub any_there : {A : Type 0} (p : A → Bool) (xs : List A) → list_any p xs ≡ nat_lt 0 (reach p xs)
any_there p [] = sym (below-none 0)
any_there p (x ∷ xs) = ap (λ b. p x || b) (any_there p xs) ∙ here (p x) (reach p xs)

pub any_behind : {A : Type 0} (p : A → Bool) (xs : List A) (n : ℕ) → list_any p (drop n xs) ≡ nat_lt n (reach p xs)
any_behind p [] zero = sym (below-none zero)
any_behind p [] (suc n) = sym (below-none (suc n))
any_behind p (x ∷ xs) zero = any_there p (x ∷ xs)
any_behind p (x ∷ xs) (suc n) = any_behind p xs n ∙ behind (p x) n (reach p xs)

-- tests that agree reach as far
pub reach_alike : {A : Type 0} (p q : A → Bool) (xs : List A) → ((x : A) → p x ≡ q x) → reach p xs ≡ reach q xs
reach_alike p q [] h = refl
reach_alike p q (x ∷ xs) h = ap₂ further (h x) (reach_alike p q xs h)

pub any_alike : {A : Type 0} (p q : A → Bool) (xs : List A) → ((x : A) → p x ≡ q x) → list_any p xs ≡ list_any q xs
any_alike p q [] h = refl
any_alike p q (x ∷ xs) h = ap₂ (λ b c. b || c) (h x) (any_alike p q xs h)
