-- What is made within so many nodes.
use Rattle.std.proofs.Common.{◌≡◌, ap, ap₂, sym, ◌∙◌, subst, ℕ, zero, suc, ◌+◌, ◌-◌, ◌<◌, ◌≤◌, arith, List, [], ◌∷◌, length, drop, get_or, Result, IfOk}
use Rattle.ur_rows.specs.declared.normal.Label.{Label}
use Rattle.ur_rows.specs.declared.normal.NormalType.{NormalType}
use Rattle.ur_rows.specs.declared.normal.NormalType.TheVariants as ty
use Rattle.ur_rows.specs.declared.normal.Part.{Part}
use Rattle.ur_rows.specs.declared.normal.Part.TheVariants as part
use Rattle.ur_rows.specs.Order.{joined}
use Rattle.ur_rows.specs.Nodes.{type_nodes, row_nodes}
use Rattle.ur_rows.specs.Put.{Putting, put_type, put_part, put_row}
use Rattle.ur_rows.proofs.Telling.{drop-here}
use Rattle.ur_rows.proofs.PutMade.{put-opt, put-many, put-transaction, put-arrow, put-record, put-form, put-field, put-mapped}
use Rattle.ur_rows_reduce.proofs.After.{joined-nodes, after-here, after-opt, after-many, after-transaction, after-arrow, after-record, after-form, after-field, after-mapped, after-fn}

-- ---- the parts of a row, the last one first

next-place : (count i : ℕ) → i < count → count - 1 - i ≡ count - (i + 1)
next-place count i h = omega arith

after-place : (count i : ℕ) → i < count → count - i ≡ count - (i + 1) + 1
after-place count i h = omega arith

in-row : (count i n : ℕ) → i < count → count ≡ n → count - (i + 1) < n
in-row count i n h e = omega arith

at-place : (r : List Part) (i j : ℕ) (p : Part) → i ≡ j → p ≡ get_or r i p → p ≡ get_or r j p
at-place r i j p e g = g ∙ ap (λ z. get_or r z p) e

pub row-made : (σ : Putting) (d : ℕ) (r : List Part) (count i : ℕ) (p : Part) (made row new : List Part) → i < count → count ≡ length r → p ≡ get_or r (count - 1 - i) p →
    made ≡ put_part σ d p → row ≡ put_row σ d (drop (count - i) r) → new ≡ joined made row → new ≡ put_row σ d (drop (count - (i + 1)) r)
row-made σ d r count i p made row new h e g m k n = n ∙ ap₂ joined m (k ∙ ap (λ z. put_row σ d (drop z r)) (after-place count i h)) ∙
    sym (ap (put_row σ d) (drop-here r (count - (i + 1)) p (in-row count i (length r) h e) (at-place r (count - 1 - i) (count - (i + 1)) p (next-place count i h) g)))

added : (a b l m n : ℕ) → m + b ≡ n → l + a ≡ m → l + (a + b) ≡ n
added a b l m n e f = omega arith

here : (σ : Putting) (d : ℕ) (r : List Part) (count i : ℕ) (p : Part) → i < count → count ≡ length r → p ≡ get_or r (count - 1 - i) p →
    row_nodes (put_row σ d (drop (count - (i + 1)) r)) ≡ row_nodes (put_part σ d p) + row_nodes (put_row σ d (drop (count - i) r))
here σ d r count i p h e g = after-here σ d r (count - (i + 1)) p (in-row count i (length r) h e) (at-place r (count - 1 - i) (count - (i + 1)) p (next-place count i h) g) ∙
    ap (λ z. row_nodes (put_part σ d p) + row_nodes (put_row σ d (drop z r))) (sym (after-place count i h))

pub row-left : (σ : Putting) (d : ℕ) (r : List Part) (count i : ℕ) (p : Part) (left after nodes : ℕ) → i < count → count ≡ length r → p ≡ get_or r (count - 1 - i) p →
    after + row_nodes (put_part σ d p) ≡ left → left + row_nodes (put_row σ d (drop (count - i) r)) ≡ nodes → after + row_nodes (put_row σ d (drop (count - (i + 1)) r)) ≡ nodes
row-left σ d r count i p left after nodes h e g m k = ap (λ z. after + z) (here σ d r count i p h e g) ∙
    added (row_nodes (put_part σ d p)) (row_nodes (put_row σ d (drop (count - i) r))) after left nodes k m

-- what is behind takes no more than the whole
rest-least : (σ : Putting) (d : ℕ) (r : List Part) (i : ℕ) → row_nodes (put_row σ d (drop i r)) ≤ row_nodes (put_row σ d r)
rest-least σ d [] zero = omega arith
rest-least σ d [] (suc i) = omega arith
rest-least σ d (p ∷ r) zero = omega arith
rest-least σ d (p ∷ r) (suc i) = go (row_nodes (put_row σ d (drop i r))) (row_nodes (put_row σ d r)) (row_nodes (put_part σ d p)) (row_nodes (put_row σ d (p ∷ r)))
    (rest-least σ d r i) (joined-nodes (put_part σ d p) (put_row σ d r)) where
      go : (a b c w : ℕ) → a ≤ b → w ≡ c + b → a ≤ w
      go a b c w h e = omega arith

pub row-over : (σ : Putting) (d : ℕ) (r whole : List Part) (count i : ℕ) (p : Part) (left nodes : ℕ) → i < count → count ≡ length r → p ≡ get_or r (count - 1 - i) p → r ≡ whole →
    left + row_nodes (put_row σ d (drop (count - i) r)) ≡ nodes → left < row_nodes (put_part σ d p) → nodes < row_nodes (put_row σ d whole)
row-over σ d r whole count i p left nodes h e g s k m = subst (λ z. nodes < row_nodes (put_row σ d z)) s
    (go (row_nodes (put_part σ d p)) (row_nodes (put_row σ d (drop (count - i) r))) (row_nodes (put_row σ d (drop (count - (i + 1)) r))) (row_nodes (put_row σ d r))
    m k (here σ d r count i p h e g) (rest-least σ d r (count - (i + 1)))) where
      go : (a b c w : ℕ) → left < a → left + b ≡ nodes → c ≡ a + b → c ≤ w → nodes < w
      go a b c w x y z v = omega arith

-- ---- a pair, along an equation

pub pair-is : {A : Type 0} {E : Type 0} (r : Result (A × ℕ) E) (x y : A) → x ≡ y → IfOk r (λ m. m.0 ≡ x) → IfOk r (λ m. m.0 ≡ y)
pair-is r x y e k = subst (λ z. IfOk r (λ m. m.0 ≡ z)) e k

pub pair-fits : {A : Type 0} {E : Type 0} (r : Result (A × ℕ) E) (a b n : ℕ) → a ≡ b → IfOk r (λ m. m.1 + a ≡ n) → IfOk r (λ m. m.1 + b ≡ n)
pair-fits r a b n e k = subst (λ z. IfOk r (λ m. m.1 + z ≡ n)) e k

pub ruleset within = (put-opt, put-many, put-transaction, put-arrow, put-record, put-form, put-field, put-mapped, after-opt, after-many, after-transaction, after-arrow, after-record, after-form, after-field, after-mapped, after-fn)

-- ---- types, parts and functions in the values that the code makes

pub arrow-count : (σ : Putting) (d : ℕ) (p t u v w : NormalType) → p ≡ ty.Arrow t u → v ≡ t → w ≡ u →
    type_nodes (put_type σ d p) ≡ type_nodes (put_type σ d v) + type_nodes (put_type σ d w) + 1
arrow-count σ d p t u v w e f g = ap (λ z. type_nodes (put_type σ d z)) e ∙ after-arrow σ d t u ∙
    ap₂ (λ y z. type_nodes (put_type σ d y) + type_nodes (put_type σ d z) + 1) (sym f) (sym g)

pub field-count : (σ : Putting) (d : ℕ) (p : Part) (l : Label) (t x : NormalType) → p ≡ part.Field l t → x ≡ t → row_nodes (put_part σ d p) ≡ type_nodes (put_type σ d x) + 1
field-count σ d p l t x e f = ap (λ z. row_nodes (put_part σ d z)) e ∙ after-field σ d l t ∙ ap (λ z. type_nodes (put_type σ d z) + 1) (sym f)
