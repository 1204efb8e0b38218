-- The order of parts is total, and parts of one written form are equal.
use Rattle.std.proofs.Common.{◌≡◌, refl, ap, ap₂, sym, ◌∙◌, ℕ, zero, suc, pred, Bool, true, false, ◌||◌, ◌&&◌, ◌==◌, nat_lt, ◌⊎◌, inl, inr, List, [], ◌∷◌, arith, subst, true≢false}
use Rattle.std.proofs.lemmas.Bool.{cases_Bool}
use Rattle.std.proofs.lemmas.Bool.Decides.{nat_tests}
use Rattle.ur_base.specs.Shape.{Shape, count}
use Rattle.ur_rows.specs.declared.normal.Var.{Var}
use Rattle.ur_rows.specs.declared.normal.Var.TheVariants as var
use Rattle.ur_rows.specs.declared.normal.Label.{Label}
use Rattle.ur_rows.specs.declared.normal.Label.TheVariants as label
use Rattle.ur_rows.specs.declared.normal.NormalType.{NormalType}
use Rattle.ur_rows.specs.declared.normal.NormalType.TheVariants as ty
use Rattle.ur_rows.specs.declared.normal.NormalType.TheBlock.{end_of-NormalType as alone, more_of-NormalType as its, Row_of-Part, end_of-Part as end, more_of-Part as more}
use Rattle.ur_rows.specs.declared.normal.Part.{Part}
use Rattle.ur_rows.specs.declared.normal.Part.TheVariants as part
use Rattle.ur_rows.specs.Made.{option_of, list_of, transaction_of, arrow_of, field, mapped, parts, row, record_of, form_of}
use Rattle.ur_rows.specs.Told.{type_tag}
use Rattle.ur_rows.specs.IsNormal.{comes_first, is_row}
use Rattle.ur_rows.specs.Order.{place, outward, text, label_form, type_form, parts_form, part_form, is_not_after, stands_before, with_part, joined}

-- ---- lists in the order of words

pub not_after-total : (xs ys : List ℕ) → is_not_after xs ys ≡ false → is_not_after ys xs ≡ true
not_after-total [] ys e = absurd (cc)
not_after-total (x ∷ xs) [] e = refl
not_after-total (x ∷ xs) (y ∷ ys) e = let ih = not_after-total xs ys in grind (arith, nat_tests)

pub not_after-same : (xs ys : List ℕ) → is_not_after xs ys ≡ true → is_not_after ys xs ≡ true → xs ≡ ys
not_after-same [] [] e f = refl
not_after-same [] (y ∷ ys) e f = absurd (cc)
not_after-same (x ∷ xs) [] e f = absurd (cc)
not_after-same (x ∷ xs) (y ∷ ys) e f = let ih = not_after-same xs ys in grind (arith, nat_tests)

pub not_after-chain : (xs ys zs : List ℕ) → is_not_after xs ys ≡ true → is_not_after ys zs ≡ true → is_not_after xs zs ≡ true
not_after-chain [] ys zs e f = refl
not_after-chain (x ∷ xs) [] zs e f = absurd (cc)
not_after-chain (x ∷ xs) (y ∷ ys) [] e f = absurd (cc)
not_after-chain (x ∷ xs) (y ∷ ys) (z ∷ zs) e f = let ih = not_after-chain xs ys zs in grind (arith, nat_tests)

-- ---- written forms tell what they are of

heads : {x y : ℕ} {xs ys : List ℕ} → x ∷ xs ≡ y ∷ ys → x ≡ y
heads e = cc

tails : {x y : ℕ} {xs ys : List ℕ} → x ∷ xs ≡ y ∷ ys → xs ≡ ys
tails e = cc

differ : (a b : ℕ) → (a == b) ≡ false → a ≡ b → ⊥
differ a b f e = grind (arith, nat_tests)

outward-one : (i j : ℕ) (xs ys : List ℕ) → outward i xs ≡ outward j ys → (i ≡ j) × (xs ≡ ys)
outward-one zero zero xs ys e = (refl, tails e)
outward-one zero (suc j) xs ys e = absurd (differ 1 0 refl (heads e))
outward-one (suc i) zero xs ys e = absurd (differ 0 1 refl (heads e))
outward-one (suc i) (suc j) xs ys e = let r = outward-one i j xs ys (tails e) in (ap (λ k. suc k) r.0, r.1)

place-one : (v w : Var) (xs ys : List ℕ) → place v xs ≡ place w ys → (v ≡ w) × (xs ≡ ys)
place-one (var.Free n) (var.Free m) xs ys e = (ap (λ k. var.Free k) (heads (tails e)), tails (tails e))
place-one (var.Free n) (var.Bound j) xs ys e = absurd (differ 0 1 refl (heads e))
place-one (var.Bound i) (var.Free m) xs ys e = absurd (differ 1 0 refl (heads e))
place-one (var.Bound i) (var.Bound j) xs ys e = let r = outward-one i j xs ys (tails e) in (ap (λ k. var.Bound k) r.0, r.1)

text-one : (a b xs ys : List ℕ) → text a xs ≡ text b ys → (a ≡ b) × (xs ≡ ys)
text-one [] [] xs ys e = (refl, tails e)
text-one [] (c ∷ b) xs ys e = absurd (omega (arith, heads e))
text-one (c ∷ a) [] xs ys e = absurd (omega (arith, heads e))
text-one (c ∷ a) (d ∷ b) xs ys e = let r = text-one a b xs ys (tails e) in (ap₂ (λ x y. x ∷ y) (ap pred (heads e)) r.0, r.1)

pub label-one : (l m : Label) (xs ys : List ℕ) → label_form l xs ≡ label_form m ys → (l ≡ m) × (xs ≡ ys)
label-one (label.Literal a) (label.Literal b) xs ys e = let r = text-one a b xs ys (tails e) in (ap (λ k. label.Literal k) r.0, r.1)
label-one (label.Literal a) (label.Variable w) xs ys e = absurd (differ 0 1 refl (heads e))
label-one (label.Variable v) (label.Literal b) xs ys e = absurd (differ 1 0 refl (heads e))
label-one (label.Variable v) (label.Variable w) xs ys e = let r = place-one v w xs ys (tails e) in (ap (λ k. label.Variable k) r.0, r.1)

-- the first number of a label's form and of a type's
abbrev label_tag : Label → ℕ
label_tag (label.Literal a) = 0
label_tag (label.Variable v) = 1

label-tagged : (l : Label) (xs ys : List ℕ) → label_form l xs ≡ 2 ∷ ys → ⊥
label-tagged (label.Literal a) xs ys e = differ 0 2 refl (heads e)
label-tagged (label.Variable a) xs ys e = differ 1 2 refl (heads e)

abbrev front : List ℕ → ℕ
front [] = 0
front (x ∷ xs) = x

type-tagged : (t : NormalType) (xs : List ℕ) → front (type_form t xs) ≡ type_tag t
type-tagged (ty.Opt' _ (its t alone)) xs = refl
type-tagged (ty.Many' _ (its t alone)) xs = refl
type-tagged (ty.Transaction' _ (its t alone)) xs = refl
type-tagged (ty.Arrow' _ (its a alone) _ (its b alone)) xs = refl
type-tagged t xs = refl

-- a row in a type is that of its parts
pub row-parts : (s : Shape) (r : Row_of-Part (count s)) → row (parts r) ≡ (s, r)
row-parts [] end = refl
row-parts (_ ∷ s) (more p r) = ap (λ (k : (s : Shape) × Row_of-Part (count s)). (tt ∷ k.0, more p k.1)) (row-parts s r)

pub record-parts : (s : Shape) (r : Row_of-Part (count s)) → record_of (parts r) ≡ ty.Record' s r
record-parts s r = ap (λ (k : (s : Shape) × Row_of-Part (count s)). ty.Record' k.0 k.1) (row-parts s r)

pub form-parts : (s : Shape) (r : Row_of-Part (count s)) → form_of (parts r) ≡ ty.Form' s r
form-parts s r = ap (λ (k : (s : Shape) × Row_of-Part (count s)). ty.Form' k.0 k.1) (row-parts s r)

pub parts-row : (r : List Part) → parts (row r).1 ≡ r
parts-row [] = refl
parts-row (p ∷ r) = ap (λ k. p ∷ k) (parts-row r)

mutual
  pub type-one : (t u : NormalType) (xs ys : List ℕ) → type_form t xs ≡ type_form u ys → (t ≡ u) × (xs ≡ ys)
  type-one ty.Int ty.Int xs ys e = (refl, tails e)
  type-one ty.Str ty.Str xs ys e = (refl, tails e)
  type-one ty.Bool ty.Bool xs ys e = (refl, tails e)
  type-one ty.Page ty.Page xs ys e = (refl, tails e)
  type-one ty.Xbody ty.Xbody xs ys e = (refl, tails e)
  type-one ty.Xtable ty.Xtable xs ys e = (refl, tails e)
  type-one ty.Xtr ty.Xtr xs ys e = (refl, tails e)
  type-one (ty.Variable v) (ty.Variable w) xs ys e = let r = place-one v w xs ys (tails e) in (ap (λ k. ty.Variable k) r.0, r.1)
  type-one (ty.Datatype c) (ty.Datatype d) xs ys e = (ap (λ k. ty.Datatype k) (heads (tails e)), tails (tails e))
  type-one (ty.Opt' _ (its t alone)) (ty.Opt' _ (its u alone)) xs ys e = let r = type-one t u xs ys (tails e) in (ap option_of r.0, r.1)
  type-one (ty.Many' _ (its t alone)) (ty.Many' _ (its u alone)) xs ys e = let r = type-one t u xs ys (tails e) in (ap list_of r.0, r.1)
  type-one (ty.Transaction' _ (its t alone)) (ty.Transaction' _ (its u alone)) xs ys e = let r = type-one t u xs ys (tails e) in (ap transaction_of r.0, r.1)
  type-one (ty.Arrow' _ (its a alone) _ (its b alone)) (ty.Arrow' _ (its c alone) _ (its d alone)) xs ys e =
      let r = type-one a c (type_form b xs) (type_form d ys) (tails e) in
      let q = type-one b d xs ys r.1 in (ap₂ arrow_of r.0 q.0, q.1)
  type-one (ty.Record' s r) (ty.Record' z q) xs ys e = let w = parts-one r q xs ys (tails e) in (sym (record-parts s r) ∙ ap record_of w.0 ∙ record-parts z q, w.1)
  type-one (ty.Form' s r) (ty.Form' z q) xs ys e = let w = parts-one r q xs ys (tails e) in (sym (form-parts s r) ∙ ap form_of w.0 ∙ form-parts z q, w.1)
  type-one t u xs ys e = absurd (differ (type_tag t) (type_tag u) refl (sym (type-tagged t xs) ∙ ap front e ∙ type-tagged u ys))

  pub parts-one : {n m : _} (r : Row_of-Part n) (q : Row_of-Part m) (xs ys : List ℕ) → parts_form r xs ≡ parts_form q ys → (parts r ≡ parts q) × (xs ≡ ys)
  parts-one end end xs ys e = (refl, tails e)
  parts-one end (more p q) xs ys e = absurd (differ 0 1 refl (heads e))
  parts-one (more p r) end xs ys e = absurd (differ 1 0 refl (heads e))
  parts-one (more p r) (more o q) xs ys e =
      let a = part-one p o (parts_form r xs) (parts_form q ys) (tails e) in
      let b = parts-one r q xs ys a.1 in (ap₂ (λ x k. x ∷ k) a.0 b.0, b.1)

  pub part-one : (p q : Part) (xs ys : List ℕ) → part_form p xs ≡ part_form q ys → (p ≡ q) × (xs ≡ ys)
  part-one (part.Field' l _ (its t alone)) (part.Field' m _ (its u alone)) xs ys e =
      let r = label-one l m (type_form t xs) (type_form u ys) e in
      let q = type-one t u xs ys r.1 in (ap₂ field r.0 q.0, q.1)
  part-one (part.Field' l _ (its t alone)) (part.Piece w) xs ys e = absurd (label-tagged l _ _ e)
  part-one (part.Field' l _ (its t alone)) (part.Mapped' w _ (its g alone)) xs ys e = absurd (label-tagged l _ _ e)
  part-one (part.Piece v) (part.Field' m _ (its u alone)) xs ys e = absurd (label-tagged m _ _ (sym e))
  part-one (part.Mapped' v _ (its f alone)) (part.Field' m _ (its u alone)) xs ys e = absurd (label-tagged m _ _ (sym e))
  part-one (part.Piece v) (part.Piece w) xs ys e =
      let r = place-one v w (0 ∷ xs) (0 ∷ ys) (tails e) in (ap (λ k. part.Piece k) r.0, tails r.1)
  part-one (part.Mapped' v _ (its f alone)) (part.Mapped' w _ (its g alone)) xs ys e =
      let r = place-one v w (1 ∷ type_form f xs) (1 ∷ type_form g ys) (tails e) in
      let q = type-one f g xs ys (tails r.1) in (ap₂ mapped r.0 q.0, q.1)
  part-one (part.Piece v) (part.Mapped' w _ (its g alone)) xs ys e =
      absurd (differ 0 1 refl (heads (place-one v w (0 ∷ xs) (1 ∷ type_form g ys) (tails e)).1))
  part-one (part.Mapped' v _ (its f alone)) (part.Piece w) xs ys e =
      absurd (differ 1 0 refl (heads (place-one v w (1 ∷ type_form f xs) (0 ∷ ys) (tails e)).1))

-- ---- the order of parts

pub before-total : (p q : Part) → stands_before p q ≡ false → stands_before q p ≡ true
unfolding stands_before
before-total p q e = not_after-total (part_form p []) (part_form q []) e

pub before-same : (p q : Part) → stands_before p q ≡ true → stands_before q p ≡ true → p ≡ q
unfolding stands_before
before-same p q e f = (part-one p q [] [] (not_after-same (part_form p []) (part_form q []) e f)).0

pub before-chain : (p q r : Part) → stands_before p q ≡ true → stands_before q r ≡ true → stands_before p r ≡ true
unfolding stands_before
before-chain p q r e f = not_after-chain (part_form p []) (part_form q []) (part_form r []) e f

-- ---- rows

pub with_part-yes : (p q : Part) (r : List Part) → stands_before p q ≡ true → with_part p (q ∷ r) ≡ p ∷ q ∷ r
with_part-yes p q r e = rw e

pub with_part-no : (p q : Part) (r : List Part) → stands_before p q ≡ false → with_part p (q ∷ r) ≡ q ∷ with_part p r
with_part-no p q r e = rw e

-- one stands before two where two stands before three fails the other way round
before-late : (p q r : Part) → stands_before p r ≡ true → stands_before q r ≡ false → stands_before q p ≡ false
before-late p q r e f =
    elim (cases_Bool (stands_before q p)) [ inl y ↦ absurd (true≢false (sym (before-chain q p r y e) ∙ f)) | inr n ↦ n ]

-- which of two parts comes first does not matter
swaps : (p q h : Part) (r : List Part) → with_part p (with_part q r) ≡ with_part q (with_part p r) →
    (stands_before p h ≡ true) ⊎ (stands_before p h ≡ false) → (stands_before q h ≡ true) ⊎ (stands_before q h ≡ false) →
    with_part p (with_part q (h ∷ r)) ≡ with_part q (with_part p (h ∷ r))
swaps p q h r ih (inl a) (inl b) = first (cases_Bool (stands_before p q)) (cases_Bool (stands_before q p)) where
  both : p ≡ q → with_part p (with_part q (h ∷ r)) ≡ with_part q (with_part p (h ∷ r))
  both e = subst (λ (x : Part). with_part p (with_part x (h ∷ r)) ≡ with_part x (with_part p (h ∷ r))) e refl

  first : (stands_before p q ≡ true) ⊎ (stands_before p q ≡ false) → (stands_before q p ≡ true) ⊎ (stands_before q p ≡ false) →
      with_part p (with_part q (h ∷ r)) ≡ with_part q (with_part p (h ∷ r))
  first (inl x) (inl y) = both (before-same p q x y)
  first (inl x) (inr y) =
      ap (with_part p) (with_part-yes q h r b) ∙ with_part-yes p q (h ∷ r) x ∙
      sym (ap (with_part q) (with_part-yes p h r a) ∙ with_part-no q p (h ∷ r) y ∙ ap (λ k. p ∷ k) (with_part-yes q h r b))
  first (inr x) y =
      ap (with_part p) (with_part-yes q h r b) ∙ with_part-no p q (h ∷ r) x ∙ ap (λ k. q ∷ k) (with_part-yes p h r a) ∙
      sym (ap (with_part q) (with_part-yes p h r a) ∙ with_part-yes q p (h ∷ r) (before-total p q x))
swaps p q h r ih (inl a) (inr b) =
    ap (with_part p) (with_part-no q h r b) ∙ with_part-yes p h (with_part q r) a ∙
    sym (ap (with_part q) (with_part-yes p h r a) ∙ with_part-no q p (h ∷ r) (before-late p q h a b) ∙ ap (λ k. p ∷ k) (with_part-no q h r b))
swaps p q h r ih (inr a) (inl b) =
    ap (with_part p) (with_part-yes q h r b) ∙ with_part-no p q (h ∷ r) (before-late q p h b a) ∙ ap (λ k. q ∷ k) (with_part-no p h r a) ∙
    sym (ap (with_part q) (with_part-no p h r a) ∙ with_part-yes q h (with_part p r) b)
swaps p q h r ih (inr a) (inr b) =
    ap (with_part p) (with_part-no q h r b) ∙ with_part-no p h (with_part q r) a ∙ ap (λ k. h ∷ k) ih ∙
    sym (ap (with_part q) (with_part-no p h r a) ∙ with_part-no q h (with_part p r) b)

pub with_part-swap : (p q : Part) (r : List Part) → with_part p (with_part q r) ≡ with_part q (with_part p r)
with_part-swap p q [] = ends (cases_Bool (stands_before p q)) (cases_Bool (stands_before q p)) where
  ends : (stands_before p q ≡ true) ⊎ (stands_before p q ≡ false) → (stands_before q p ≡ true) ⊎ (stands_before q p ≡ false) →
      with_part p (q ∷ []) ≡ with_part q (p ∷ [])
  ends (inl x) (inl y) = subst (λ (z : Part). with_part p (z ∷ []) ≡ with_part z (p ∷ [])) (before-same p q x y) refl
  ends (inl x) (inr y) = with_part-yes p q [] x ∙ sym (with_part-no q p [] y)
  ends (inr x) y = with_part-no p q [] x ∙ sym (with_part-yes q p [] (before-total p q x))
with_part-swap p q (h ∷ r) = swaps p q h r (with_part-swap p q r) (cases_Bool (stands_before p h)) (cases_Bool (stands_before q h))

pub joined-with_part : (p : Part) (r s : List Part) → joined (with_part p r) s ≡ with_part p (joined r s)
joined-with_part p [] s = refl
joined-with_part p (h ∷ r) s = step (cases_Bool (stands_before p h)) (joined-with_part p r s) where
  step : (stands_before p h ≡ true) ⊎ (stands_before p h ≡ false) → joined (with_part p r) s ≡ with_part p (joined r s) →
      joined (with_part p (h ∷ r)) s ≡ with_part p (joined (h ∷ r) s)
  step (inl x) ih = ap (λ k. joined k s) (with_part-yes p h r x)
  step (inr x) ih = ap (λ k. joined k s) (with_part-no p h r x) ∙ ap (with_part h) ih ∙ with_part-swap h p (joined r s)

pub joined-assoc : (a b c : List Part) → joined (joined a b) c ≡ joined a (joined b c)
joined-assoc [] b c = refl
joined-assoc (p ∷ a) b c = joined-with_part p (joined a b) c ∙ ap (with_part p) (joined-assoc a b c)

-- a part passes a row
pub joined-past : (p : Part) (a c : List Part) → joined a (with_part p c) ≡ with_part p (joined a c)
joined-past p [] c = refl
joined-past p (h ∷ a) c = ap (with_part h) (joined-past p a c) ∙ with_part-swap h p (joined a c)

pub joined-swap : (a b c : List Part) → joined a (joined b c) ≡ joined b (joined a c)
joined-swap a [] c = refl
joined-swap a (p ∷ b) c = joined-past p a (joined b c) ∙ ap (with_part p) (joined-swap a b c)

-- ---- rows in order

pub and-left : (a b : Bool) → (a && b) ≡ true → a ≡ true
and-left true b e = refl
and-left false b e = absurd (cc)

pub and-right : (a b : Bool) → (a && b) ≡ true → b ≡ true
and-right true b e = e
and-right false b e = absurd (cc)

pub and-both : (a b : Bool) → a ≡ true → b ≡ true → (a && b) ≡ true
and-both a b e f = ap₂ (λ x y. x && y) e f

pub is_row-tail : (p : Part) (r : List Part) → is_row (p ∷ r) ≡ true → is_row r ≡ true
is_row-tail p r e = and-right (comes_first p r) (is_row r) e

pub is_row-head : (p : Part) (r : List Part) → is_row (p ∷ r) ≡ true → comes_first p r ≡ true
is_row-head p r e = and-left (comes_first p r) (is_row r) e

-- a row in order is built part by part
pub with_part-first : (p : Part) (r : List Part) → is_row (p ∷ r) ≡ true → with_part p r ≡ p ∷ r
with_part-first p [] e = refl
with_part-first p (q ∷ r) e = with_part-yes p q r (is_row-head p (q ∷ r) e)

first-past : (h p : Part) (r : List Part) → stands_before h p ≡ true → comes_first h r ≡ true → comes_first h (with_part p r) ≡ true
first-past h p [] e f = e
first-past h p (q ∷ r) e f = elim (cases_Bool (stands_before p q)) [
  | inl x ↦ ap (comes_first h) (with_part-yes p q r x) ∙ e
  | inr x ↦ ap (comes_first h) (with_part-no p q r x) ∙ f
]

pub with_part-row : (p : Part) (r : List Part) → is_row r ≡ true → is_row (with_part p r) ≡ true
with_part-row p [] e = refl
with_part-row p (q ∷ r) e = step (cases_Bool (stands_before p q)) (with_part-row p r (is_row-tail q r e)) where
  step : (stands_before p q ≡ true) ⊎ (stands_before p q ≡ false) → is_row (with_part p r) ≡ true → is_row (with_part p (q ∷ r)) ≡ true
  step (inl x) ih = ap is_row (with_part-yes p q r x) ∙ and-both (stands_before p q) (is_row (q ∷ r)) x e
  step (inr x) ih = ap is_row (with_part-no p q r x) ∙
      and-both (comes_first q (with_part p r)) (is_row (with_part p r)) (first-past q p r (before-total p q x) (is_row-head q r e)) ih

pub joined-row : (r s : List Part) → is_row s ≡ true → is_row (joined r s) ≡ true
joined-row [] s e = e
joined-row (p ∷ r) s e = with_part-row p (joined r s) (joined-row r s e)

pub joined-nil : (r : List Part) → is_row r ≡ true → joined r [] ≡ r
joined-nil [] e = refl
joined-nil (p ∷ r) e = ap (with_part p) (joined-nil r (is_row-tail p r e)) ∙ with_part-first p r e

pub joined-comm : (r s : List Part) → is_row r ≡ true → is_row s ≡ true → joined r s ≡ joined s r
joined-comm r s e f = ap (joined r) (sym (joined-nil s f)) ∙ joined-swap r s [] ∙ ap (joined s) (joined-nil r e)
