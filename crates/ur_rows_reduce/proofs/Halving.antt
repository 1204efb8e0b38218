-- The place of a part in a row that is in order, found by halving.
use Rattle.std.proofs.Common.{◌≡◌, refl, ap, sym, ◌∙◌, subst, ℕ, zero, suc, ◌+◌, ◌-◌, ◌/◌, ◌<◌, ◌≤◌, arith, Bool, true, false, ◌&&◌, ◌⊎◌, inl, inr, List, [], ◌∷◌, ◌++◌, length, take, drop, get_or, insert, drop_of_length-le}
use Rattle.std.proofs.lemmas.Bool.{cases_Bool}
use Rattle.ur_rows.specs.declared.normal.Part.{Part}
use Rattle.ur_rows.specs.Order.{stands_before, with_part}
use Rattle.ur_rows.specs.IsNormal.{is_row}
use Rattle.ur_rows.proofs.Order.{with_part-yes, with_part-no, before-chain, is_row-head, and-right}
use Rattle.ur_rows.proofs.Telling.{drop-here}
use Rattle.ur_rows.proofs.Inserting.{Passed}

after-all : (q : Part) (r : List Part) (k : ℕ) (d : Part) → is_row (q ∷ r) ≡ true → k < length r → stands_before q (get_or r k d) ≡ true
after-all q [] k d e h = absurd (omega arith)
after-all q (x ∷ r) zero d e h = is_row-head q (x ∷ r) e
after-all q (x ∷ r) (suc k) d e h = before-chain q x (get_or r k d) (is_row-head q (x ∷ r) e) (after-all x r k d (and-right _ (is_row (x ∷ r)) e) (omega arith))

not-before : (p q x : Part) → stands_before p x ≡ false → stands_before q x ≡ true → stands_before p q ≡ false
not-before p q x f t = go (cases_Bool (stands_before p q)) where
  apart : true ≡ false → stands_before p q ≡ false
  apart e = absurd (cc)

  go : (stands_before p q ≡ true) ⊎ (stands_before p q ≡ false) → stands_before p q ≡ false
  go (inl y) = apart (sym (before-chain p q x y t) ∙ f)
  go (inr n) = n

passed-to : (p : Part) (r : List Part) (k : ℕ) (d : Part) → is_row r ≡ true → k < length r → stands_before p (get_or r k d) ≡ false → Passed p r (suc k)
passed-to p [] k d e h f = absurd (omega arith)
passed-to p (q ∷ r) zero d e h f = with_part-no p q r f
passed-to p (q ∷ r) (suc k) d e h f = with_part-no p q r (not-before p q (get_or r k d) f (after-all q r k d e (omega arith))) ∙
    ap (λ z. q ∷ z) (passed-to p r k d (and-right _ (is_row r) e) (omega arith) f)

-- what is known of the place: it is not before low, and not after high
abbrev pub Between : Part → List Part → ℕ → ℕ → Type 0
Between p r low high = Passed p r low × (with_part p (drop high r) ≡ p ∷ drop high r) × (low ≤ high) × (high ≤ length r)

pub between-all : (p : Part) (r : List Part) → Between p r 0 (length r)
between-all p r = (refl, ap (with_part p) (drop_of_length-le r (omega arith)) ∙ ap (λ z. p ∷ z) (sym (drop_of_length-le r (omega arith))), omega arith, omega arith)

pub between-lower : (p : Part) (r : List Part) (low high m : ℕ) (x : Part) (b : Bool) → Between p r low high → low ≤ m → m < high → x ≡ get_or r m x → b ≡ stands_before p x → b ≡ true → Between p r low m
between-lower p r low high m x b w g h e f t = (w.0, ap (with_part p) here ∙ with_part-yes p x (drop (m + 1) r) (sym f ∙ t) ∙ ap (λ z. p ∷ z) (sym here), g, less m high (length r) h w.3) where
  less : (m h n : ℕ) → m < h → h ≤ n → m ≤ n
  less m h n e f = omega arith

  within : (m h n : ℕ) → m < h → h ≤ n → m < n
  within m h n e f = omega arith

  here : drop m r ≡ x ∷ drop (m + 1) r
  here = drop-here r m x (within m high (length r) h w.3) e

pub between-higher : (p : Part) (r : List Part) (low high m : ℕ) (x : Part) (b : Bool) → Between p r low high → is_row r ≡ true → m < high → x ≡ get_or r m x → b ≡ stands_before p x → b ≡ false →
    Between p r (m + 1) high
between-higher p r low high m x b w o h e f t = (subst (Passed p r) (up m) (passed-to p r m x o (within m high (length r) h w.3) (ap (stands_before p) (sym e) ∙ sym f ∙ t)), w.1, over m high h, w.3) where
  up : (m : ℕ) → suc m ≡ m + 1
  up m = omega arith

  over : (m h : ℕ) → m < h → m + 1 ≤ h
  over m h e = omega arith

  within : (m h n : ℕ) → m < h → h ≤ n → m < n
  within m h n e f = omega arith

pub between-found : (p : Part) (r : List Part) (low high : ℕ) → Between p r low high → high ≤ low → with_part p r ≡ insert r low p
between-found p r low high w h = w.0 ∙ ap (λ z. take low r ++ z) (ap (λ z. with_part p (drop z r)) same ∙ w.1 ∙ ap (λ z. p ∷ drop z r) (sym same)) where
  one : (a b : ℕ) → a ≤ b → b ≤ a → a ≡ b
  one a b e f = omega arith

  same : low ≡ high
  same = one low high w.2 h

pub between-within : (p : Part) (r : List Part) (low high : ℕ) → Between p r low high → low ≤ length r
between-within p r low high w = go low high (length r) w.2 w.3 where
  go : (a b c : ℕ) → a ≤ b → b ≤ c → a ≤ c
  go a b c e f = omega arith

pub middle-below : (low high : ℕ) → low < high → low + (high - low) / 2 < high
middle-below low high h = omega arith

-- ---- whether a row is in order

pub order-step : (r : List Part) (i : ℕ) (x y : Part) → 1 ≤ i → i < length r → x ≡ get_or r (i - 1) x → y ≡ get_or r i y → is_row (drop (i - 1) r) ≡ (stands_before x y && is_row (drop i r))
order-step r i x y one h e f = ap is_row (drop-here r (i - 1) x (less i (length r) one h) e ∙ ap (λ z. x ∷ drop z r) (same i one) ∙ ap (λ z. x ∷ z) (drop-here r i y h f)) ∙ ap (λ z. stands_before x y && is_row z) (sym (drop-here r i y h f)) where
  less : (i n : ℕ) → 1 ≤ i → i < n → i - 1 < n
  less i n h k = omega arith

  same : (i : ℕ) → 1 ≤ i → i - 1 + 1 ≡ i
  same i h = omega arith

pub order-more : (r : List Part) (i : ℕ) (x y : Part) (b : Bool) → is_row r ≡ is_row (drop (i - 1) r) → 1 ≤ i → i < length r → x ≡ get_or r (i - 1) x → y ≡ get_or r i y → b ≡ stands_before x y → b ≡ true →
    is_row r ≡ is_row (drop (i + 1 - 1) r)
order-more r i x y b k one h e f g t = k ∙ order-step r i x y one h e f ∙ ap (λ z. z && is_row (drop i r)) (sym g ∙ t) ∙ ap (λ z. is_row (drop z r)) (same i) where
  same : (i : ℕ) → i ≡ i + 1 - 1
  same i = omega arith

pub order-broken : (r : List Part) (i : ℕ) (x y : Part) (b : Bool) → is_row r ≡ is_row (drop (i - 1) r) → 1 ≤ i → i < length r → x ≡ get_or r (i - 1) x → y ≡ get_or r i y → b ≡ stands_before x y → b ≡ false → false ≡ is_row r
order-broken r i x y b k one h e f g t = sym (k ∙ order-step r i x y one h e f ∙ ap (λ z. z && is_row (drop i r)) (sym g ∙ t))

last-in-order : (r : List Part) (i : ℕ) → length r ≤ i + 1 → is_row (drop i r) ≡ true
last-in-order [] zero h = refl
last-in-order [] (suc i) h = refl
last-in-order (p ∷ []) zero h = refl
last-in-order (p ∷ q ∷ r) zero h = absurd (omega arith)
last-in-order (p ∷ r) (suc i) h = last-in-order r i (omega arith)

pub order-whole : (r : List Part) (i : ℕ) → is_row r ≡ is_row (drop (i - 1) r) → length r ≤ i → true ≡ is_row r
order-whole r i k h = sym (k ∙ last-in-order r (i - 1) (more (length r) i h)) where
  more : (n i : ℕ) → n ≤ i → n ≤ i - 1 + 1
  more n i h = omega arith
