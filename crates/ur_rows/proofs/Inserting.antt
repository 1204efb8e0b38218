-- A part is put in at its place, and a row part by part from its end.
use Rattle.std.proofs.Common.{◌≡◌, refl, ap, sym, ◌∙◌, subst, ℕ, zero, suc, ◌+◌, ◌-◌, ◌<◌, ◌≤◌, Bool, true, false, List, [], ◌∷◌, ◌++◌, length, take, drop, get_or, insert, arith, add-one, take_all, drop_of_length-le}
use Rattle.ur_rows.specs.declared.normal.Part.{Part}
use Rattle.ur_rows.specs.Order.{stands_before, with_part, joined}
use Rattle.ur_rows.specs.Put.{Putting, put_part, put_row}
use Rattle.ur_rows.proofs.Order.{with_part-yes, with_part-no}
use Rattle.ur_rows.proofs.Telling.{drop-here}

take-more : (r : List Part) (i : ℕ) (x : Part) (s : List Part) → i < length r → x ≡ get_or r i x → take i r ++ (x ∷ s) ≡ take (suc i) r ++ s
take-more [] i x s h e = absurd (omega arith)
take-more (y ∷ r) zero x s h e = ap (λ z. z ∷ s) e
take-more (y ∷ r) (suc i) x s h e = ap (λ z. y ∷ z) (take-more r i x s (omega arith) e)

-- the parts before i stand before p
abbrev pub Passed : Part → List Part → ℕ → Type 0
Passed p r i = with_part p r ≡ take i r ++ with_part p (drop i r)

pub passed-more : (p x : Part) (r : List Part) (i : ℕ) (b : Bool) → Passed p r i → i < length r → x ≡ get_or r i x → b ≡ stands_before p x → b ≡ false → Passed p r (i + 1)
passed-more p x r i b k h e f g = k ∙ ap (λ z. take i r ++ with_part p z) (drop-here r i x h e) ∙
    ap (λ z. take i r ++ z) (with_part-no p x (drop (i + 1) r) (sym f ∙ g)) ∙ take-more r i x (with_part p (drop (i + 1) r)) h e ∙
    ap (λ z. take z r ++ with_part p (drop (i + 1) r)) (suc-one i) where
      suc-one : (i : ℕ) → suc i ≡ i + 1
      suc-one i = omega arith

pub passed-here : (p x : Part) (r : List Part) (i : ℕ) (b : Bool) → Passed p r i → i < length r → x ≡ get_or r i x → b ≡ stands_before p x → b ≡ true → with_part p r ≡ insert r i p
passed-here p x r i b k h e f g = k ∙ ap (λ z. take i r ++ with_part p z) (drop-here r i x h e) ∙
    ap (λ z. take i r ++ z) (with_part-yes p x (drop (i + 1) r) (sym f ∙ g)) ∙ ap (λ z. take i r ++ (p ∷ z)) (sym (drop-here r i x h e))

pub passed-all : (p : Part) (r : List Part) (i : ℕ) → Passed p r i → length r ≤ i → with_part p r ≡ insert r i p
passed-all p r i k h = k ∙ ap (λ z. take i r ++ with_part p z) (drop_of_length-le r h) ∙ ap (λ z. take i r ++ (p ∷ z)) (sym (drop_of_length-le r h))

pub passed-end : (p : Part) (r : List Part) (i : ℕ) → Passed p r i → length r ≤ i → i ≤ length r → with_part p r ≡ insert r (length r) p
passed-end p r i k h g = passed-all p r i k h ∙ ap (λ z. insert r z p) (same i (length r) h g) where
  same : (i n : ℕ) → n ≤ i → i ≤ n → i ≡ n
  same i n h g = omega arith

pub joined-last : (r s : List Part) (p : Part) → joined (r ++ p ∷ []) s ≡ joined r (with_part p s)
joined-last [] s p = refl
joined-last (q ∷ r) s p = ap (with_part q) (joined-last r s p)

pub put_row-more : (σ : Putting) (d : ℕ) (r : List Part) (i j : ℕ) (p : Part) → i < length r → j ≡ i + 1 → p ≡ get_or r i p →
    joined (put_part σ d p) (put_row σ d (drop j r)) ≡ put_row σ d (drop i r)
put_row-more σ d r i j p h e f = ap (λ z. joined (put_part σ d p) (put_row σ d (drop z r))) e ∙ sym (ap (put_row σ d) (drop-here r i p h f))
