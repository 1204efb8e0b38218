-- A field is put in at its place.
use Rattle.std.proofs.lemmas.Bool.Decides.{nat_tests}
use Rattle.std.proofs.Common.{◌≡◌, refl, ap, sym, ◌∙◌, ℕ, zero, suc, ◌+◌, ◌<◌, ◌≤◌, true, false, List, [], ◌∷◌, ◌++◌, length, take, drop, get_or, insert, arith}
use Rattle.std.specs.Prelude.{if◌then◌else◌, nat_lt}
use Rattle.std.proofs.Math.ListN.{drop_of_length-le}
use Rattle.ur_sql.specs.declared.query.Field.{Field}
use Rattle.ur_sqltype.proofs.SqltableValues.{split}
use Rattle.ur_sqltype.specs.Query.{field_number, with_field, in_order_on}

take-more : {A : Type 0} (r : List A) (i : ℕ) (x : A) (s : List A) → i < length r → x ≡ get_or r i x → take i r ++ (x ∷ s) ≡ take (suc i) r ++ s
take-more [] i x s h e = absurd (omega arith)
take-more (y ∷ r) zero x s h e = ap (λ z. z ∷ s) e
take-more (y ∷ r) (suc i) x s h e = ap (λ z. y ∷ z) (take-more r i x s (omega arith) e)

suc-one : (i : ℕ) → suc i ≡ i + 1
suc-one i = omega arith

is-below : (a b : ℕ) → a < b → nat_lt a b ≡ true
is-below a b l = grind (arith, nat_tests, l)

is-not-below : (a b : ℕ) → b ≤ a → nat_lt a b ≡ false
is-not-below a b l = grind (arith, nat_tests, l)

behind-it : (f x : Field) (r : List Field) → field_number x < field_number f → with_field f (x ∷ r) ≡ x ∷ with_field f r
behind-it f x r l = ap (λ b. if b then x ∷ with_field f r else f ∷ x ∷ r) (is-below (field_number x) (field_number f) l)

before-it : (f x : Field) (r : List Field) → field_number f ≤ field_number x → with_field f (x ∷ r) ≡ f ∷ x ∷ r
before-it f x r l = ap (λ b. if b then x ∷ with_field f r else f ∷ x ∷ r) (is-not-below (field_number x) (field_number f) l)

-- the fields before i stand before f
abbrev pub Passed : Field → List Field → ℕ → Type 0
Passed f r i = with_field f r ≡ take i r ++ with_field f (drop i r)

pub passed-more : (f x : Field) (r : List Field) (i : ℕ) → Passed f r i → i < length r → x ≡ get_or r i x → field_number x < field_number f → Passed f r (i + 1)
passed-more f x r i k h e l = k ∙ ap (λ z. take i r ++ with_field f z) (split r i x h e) ∙ ap (λ z. take i r ++ z) (behind-it f x (drop (i + 1) r) l) ∙
    take-more r i x (with_field f (drop (i + 1) r)) h e ∙ ap (λ z. take z r ++ with_field f (drop (i + 1) r)) (suc-one i)

pub passed-here : (f x : Field) (r : List Field) (i : ℕ) → Passed f r i → i < length r → x ≡ get_or r i x → field_number f ≤ field_number x → with_field f r ≡ insert r i f
passed-here f x r i k h e l = k ∙ ap (λ z. take i r ++ with_field f z) (split r i x h e) ∙ ap (λ z. take i r ++ z) (before-it f x (drop (i + 1) r) l) ∙
    ap (λ z. take i r ++ (f ∷ z)) (sym (split r i x h e))

passed-all : (f : Field) (r : List Field) (i : ℕ) → Passed f r i → length r ≤ i → with_field f r ≡ insert r i f
passed-all f r i k h = k ∙ ap (λ z. take i r ++ with_field f z) (drop_of_length-le r h) ∙ ap (λ z. take i r ++ (f ∷ z)) (sym (drop_of_length-le r h))

same : (i n : ℕ) → n ≤ i → i ≤ n → i ≡ n
same i n h g = omega arith

pub passed-end : (f : Field) (r : List Field) (i : ℕ) → Passed f r i → length r ≤ i → i ≤ length r → with_field f r ≡ insert r (length r) f
passed-end f r i k h g = passed-all f r i k h ∙ ap (λ z. insert r z f) (same i (length r) h g)

pub in_order-last : (r s : List Field) (f : Field) → in_order_on (r ++ f ∷ []) s ≡ in_order_on r (with_field f s)
in_order-last [] s f = refl
in_order-last (g ∷ r) s f = ap (with_field g) (in_order-last r s f)
