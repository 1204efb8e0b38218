-- The numbers of nodes after a substitution.
use Rattle.std.proofs.Common.{◌≡◌, refl, ap, ap₂, sym, ◌∙◌, subst, ℕ, zero, suc, ◌+◌, ◌<◌, ◌≤◌, arith, Bool, true, false, ◌⊎◌, inl, inr, not, ◌==◌, ◌-◌, nat_lt, List, [], ◌∷◌, length, drop, get_or, if◌then◌else◌, Result, Ok, Err, IfOk, IsTrue, ◌↔◌}
use Rattle.std.proofs.lemmas.Bool.{cases_Bool}
use Rattle.std.proofs.lemmas.Bool.Decides.{nat_tests}
use Rattle.ur_syntax.specs.declared.kind.Kind.{Kind}
use Rattle.ur_rows.specs.declared.normal.Var.{Var}
use Rattle.ur_rows.specs.declared.normal.Var.TheVariants as var
use Rattle.ur_rows.specs.declared.normal.Label.{Label}
use Rattle.ur_rows.specs.declared.normal.NormalType.{NormalType}
use Rattle.ur_rows.specs.declared.normal.NormalType.TheVariants as ty
use Rattle.ur_rows.specs.declared.normal.NormalType.TheBlock.{end_of-NormalType as alone, more_of-NormalType as its, Row_of-Part, end_of-Part as end, more_of-Part as more}
use Rattle.ur_rows.specs.declared.normal.Part.{Part}
use Rattle.ur_rows.specs.declared.normal.Part.TheVariants as part
use Rattle.ur_rows.specs.declared.normal.Normal.{Normal}
use Rattle.ur_rows.specs.declared.normal.Normal.TheVariants as normal
use Rattle.ur_rows.specs.Order.{stands_before, with_part, joined}
use Rattle.ur_rows.specs.IsNormal.{is_identity, is_row, is_normal_type, are_normal_parts, is_normal_part}
use Rattle.ur_rows.specs.Nodes.{type_nodes, parts_nodes, part_nodes, row_nodes, nodes}
use Rattle.ur_rows.specs.Put.{Putting, put, put_label, put_type, put_parts, put_part, put_row, mapped_variable, mapped_part, mapped_row, raised_type, nearer, type_at, applied_type, composed, argument, applied_once}
use Rattle.ur_rows.proofs.Order.{with_part-yes, with_part-no, and-left, and-right}
use Rattle.ur_rows.proofs.InOrder.{put_type-normal, argument-normal}
use Rattle.ur_rows.specs.Made.{record_of, form_of, parts}
use Rattle.ur_rows.proofs.Shapes.{field-made, mapped-made, fn-made, record-made, form-made}
use Rattle.ur_rows.proofs.Telling.{drop-here}
use Rattle.ur_rows.proofs.Counts.{count-opt, count-many, count-transaction, count-arrow, count-record, count-form, count-field}
use Rattle.ur_rows.proofs.PutMade.{put-opt, put-many, put-transaction, put-arrow, put-record, put-form, put-field, put-mapped, once-is}
use Rattle.ur_rows_reduce.specs.Mapping.{mapped_nodes, Drops}

-- ---- rows

swapped : (a b r : ℕ) → a + (b + r) ≡ b + (a + r)
swapped a b r = omega arith

pub with_part-nodes : (p : Part) (r : List Part) → row_nodes (with_part p r) ≡ part_nodes p + row_nodes r
with_part-nodes p [] = refl
with_part-nodes p (q ∷ r) = step (cases_Bool (stands_before p q)) (with_part-nodes p r) where
  step : (stands_before p q ≡ true) ⊎ (stands_before p q ≡ false) → row_nodes (with_part p r) ≡ part_nodes p + row_nodes r →
      row_nodes (with_part p (q ∷ r)) ≡ part_nodes p + row_nodes (q ∷ r)
  step (inl e) ih = ap row_nodes (with_part-yes p q r e)
  step (inr e) ih = ap row_nodes (with_part-no p q r e) ∙ ap (λ n. part_nodes q + n) ih ∙ swapped (part_nodes q) (part_nodes p) (row_nodes r)

grouped : (a b c : ℕ) → a + (b + c) ≡ a + b + c
grouped a b c = omega arith

pub joined-nodes : (r s : List Part) → row_nodes (joined r s) ≡ row_nodes r + row_nodes s
joined-nodes [] s = sym (none (row_nodes s)) where
  none : (n : ℕ) → 0 + n ≡ n
  none n = omega arith
joined-nodes (p ∷ r) s = with_part-nodes p (joined r s) ∙ ap (λ n. part_nodes p + n) (joined-nodes r s) ∙ grouped (part_nodes p) (row_nodes r) (row_nodes s)

pub one-part : (n : ℕ) → n + 0 ≡ n
one-part n = omega arith

-- ---- substitution

pub after-opt : (σ : Putting) (d : ℕ) (t : NormalType) → type_nodes (put_type σ d (ty.Opt t)) ≡ type_nodes (put_type σ d t) + 1
after-opt σ d t = ap type_nodes (put-opt σ d t) ∙ count-opt (put_type σ d t)

pub after-many : (σ : Putting) (d : ℕ) (t : NormalType) → type_nodes (put_type σ d (ty.Many t)) ≡ type_nodes (put_type σ d t) + 1
after-many σ d t = ap type_nodes (put-many σ d t) ∙ count-many (put_type σ d t)

pub after-transaction : (σ : Putting) (d : ℕ) (t : NormalType) → type_nodes (put_type σ d (ty.Transaction t)) ≡ type_nodes (put_type σ d t) + 1
after-transaction σ d t = ap type_nodes (put-transaction σ d t) ∙ count-transaction (put_type σ d t)

pub after-arrow : (σ : Putting) (d : ℕ) (t u : NormalType) → type_nodes (put_type σ d (ty.Arrow t u)) ≡ type_nodes (put_type σ d t) + type_nodes (put_type σ d u) + 1
after-arrow σ d t u = ap type_nodes (put-arrow σ d t u) ∙ count-arrow (put_type σ d t) (put_type σ d u)

pub after-record : (σ : Putting) (d : ℕ) (r : List Part) → type_nodes (put_type σ d (ty.Record r)) ≡ row_nodes (put_row σ d r) + 1
after-record σ d r = ap type_nodes (put-record σ d r) ∙ count-record (put_row σ d r)

pub after-form : (σ : Putting) (d : ℕ) (r : List Part) → type_nodes (put_type σ d (ty.Form r)) ≡ row_nodes (put_row σ d r) + 1
after-form σ d r = ap type_nodes (put-form σ d r) ∙ count-form (put_row σ d r)

pub after-field : (σ : Putting) (d : ℕ) (l : Label) (t : NormalType) → row_nodes (put_part σ d (part.Field l t)) ≡ type_nodes (put_type σ d t) + 1
after-field σ d l t = ap row_nodes (put-field σ d l t) ∙ ap (λ n. n + 0) (count-field (put_label σ d l) (put_type σ d t)) ∙ one-part (type_nodes (put_type σ d t) + 1)

pub after-mapped : (σ : Putting) (d : ℕ) (v : Var) (f : NormalType) → row_nodes (put_part σ d (part.Mapped v f)) ≡ row_nodes (σ.maps d v (put_type σ (suc d) f))
after-mapped σ d v f = ap row_nodes (put-mapped σ d v f)

pub after-here : (σ : Putting) (d : ℕ) (r : List Part) (i : ℕ) (p : Part) → i < length r → p ≡ get_or r i p →
    row_nodes (put_row σ d (drop i r)) ≡ row_nodes (put_part σ d p) + row_nodes (put_row σ d (drop (i + 1) r))
after-here σ d r i p h e = ap (λ z. row_nodes (put_row σ d z)) (drop-here r i p h e) ∙ joined-nodes (put_part σ d p) (put_row σ d (drop (i + 1) r))

pub after-fn : (σ : Putting) (d : ℕ) (k : Kind) (c : Normal) → nodes (put σ d (normal.Fn k c)) ≡ nodes (put σ (suc d) c) + 1
after-fn σ d k c = ap (λ z. nodes (put σ d z)) (fn-made k c)

pub ruleset after = (after-opt, after-many, after-transaction, after-arrow, after-record, after-form, after-field, after-mapped, after-here, after-fn)

-- ---- maps

pub mapped-count : (f : NormalType) (v : Var) → part_nodes (mapped_variable f v) ≡ mapped_nodes f
mapped-count (ty.Variable (var.Bound zero)) v = refl
mapped-count f v = refl

identity-count : (f : NormalType) → is_identity f ≡ true → type_nodes f ≡ 1
identity-count (ty.Variable (var.Bound zero)) e = refl
identity-count (ty.Variable v) e = refl
identity-count f e = absurd (cc)

pub mapped-least : (f : NormalType) → type_nodes f ≤ mapped_nodes f
mapped-least f = step (cases_Bool (is_identity f)) where
  step : (is_identity f ≡ true) ⊎ (is_identity f ≡ false) → type_nodes f ≤ mapped_nodes f
  step (inl e) = subst (λ b. type_nodes f ≤ (if b then 1 else type_nodes f + 1)) (sym e) (subst (λ n. n ≤ 1) (sym (identity-count f e)) (omega arith))
  step (inr e) = subst (λ b. type_nodes f ≤ (if b then 1 else type_nodes f + 1)) (sym e) (more (type_nodes f)) where
    more : (n : ℕ) → n ≤ n + 1
    more n = omega arith

pub one-mapped : (f : NormalType) (v : Var) → row_nodes (mapped_variable f v ∷ []) ≡ mapped_nodes f
one-mapped f v = ap (λ n. n + 0) (mapped-count f v) ∙ one-part (mapped_nodes f)

pub keeps-one : (f : NormalType) (v : Var) → type_nodes f ≤ row_nodes (mapped_variable f v ∷ [])
keeps-one f v = subst (λ n. type_nodes f ≤ n) (sym (one-mapped f v)) (mapped-least f)

-- ---- a count, along an equation

pub fits-is : {E : Type 0} (r : Result ℕ E) (a b n : ℕ) → a ≡ b → IfOk r (λ l. l + a ≡ n) → IfOk r (λ l. l + b ≡ n)
fits-is r a b n e k = subst (λ z. IfOk r (λ l. l + z ≡ n)) e k

pub over-is : {P : Type 0} (n a b : ℕ) → a ≡ b → (P → n < a) → P → n < b
over-is n a b e k p = subst (λ z. n < z) e (k p)

pub fits-more : {E : Type 0} (r : Result ℕ E) (m t w n : ℕ) → m + t ≡ n → w ≡ t + 1 → IfOk r (λ l. l + 1 ≡ m) → IfOk r (λ l. l + w ≡ n)
fits-more (Ok l) m t w n e f k = omega arith
fits-more (Err x) m t w n e f k = k

pub over-more : {P : Type 0} (m t w n : ℕ) → m + t ≡ n → w ≡ t + 1 → (P → m < 1) → P → n < w
over-more {P} m t w n e f k p = go (k p) where
  go : m < 1 → n < w
  go h = omega arith

pub drops-kept : (σ : Putting) (d : ℕ) (v : Var) (b : Bool) (f : NormalType) → Drops σ d v b → b ≡ false →
    type_nodes (put_type σ (suc d) f) ≤ row_nodes (σ.maps d v (put_type σ (suc d) f))
drops-kept σ d v true f k e = absurd (cc)
drops-kept σ d v false f k e = k f

-- the part `map f` of a variable, where f is counted further within
pub mapped-whole : (σ : Putting) (d e : ℕ) (p : Part) (v : Var) (f g m : NormalType) → p ≡ part.Mapped v f → e ≡ suc d → g ≡ f → m ≡ put_type σ e g →
    row_nodes (σ.maps d v m) ≡ row_nodes (put_part σ d p)
mapped-whole σ d e p v f g m i j h k = ap (λ z. row_nodes (σ.maps d v z)) (k ∙ ap₂ (put_type σ) j h) ∙ sym (ap (λ z. row_nodes (put_part σ d z)) i ∙ after-mapped σ d v f)

pub mapped-over : (σ : Putting) (d e : ℕ) (p : Part) (v : Var) (f g : NormalType) (b : Bool) (n : ℕ) → p ≡ part.Mapped v f → e ≡ suc d → g ≡ f → Drops σ d v b → b ≡ false →
    n < type_nodes (put_type σ e g) → n < row_nodes (put_part σ d p)
mapped-over σ d e p v f g b n i j h k l o = go (row_nodes (put_part σ d p)) (type_nodes (put_type σ (suc d) f)) (row_nodes (σ.maps d v (put_type σ (suc d) f)))
    (ap (λ z. row_nodes (put_part σ d z)) i ∙ after-mapped σ d v f) (drops-kept σ d v b f k l) (subst (λ z. n < type_nodes z) (ap₂ (put_type σ) j h) o) where
      go : (w t m : ℕ) → w ≡ m → t ≤ m → n < t → n < w
      go w t m x y z = omega arith

-- ---- a type in place of a variable takes none away

pub one-least : (t : NormalType) → 1 ≤ type_nodes t
one-least (ty.Opt' _ (its t alone)) = go (type_nodes t) where
  go : (n : ℕ) → 1 ≤ n + 1
  go n = omega arith
one-least (ty.Many' _ (its t alone)) = go (type_nodes t) where
  go : (n : ℕ) → 1 ≤ n + 1
  go n = omega arith
one-least (ty.Transaction' _ (its t alone)) = go (type_nodes t) where
  go : (n : ℕ) → 1 ≤ n + 1
  go n = omega arith
one-least (ty.Arrow' _ (its a alone) _ (its b alone)) = go (type_nodes a + type_nodes b) where
  go : (n : ℕ) → 1 ≤ n + 1
  go n = omega arith
one-least (ty.Record' _ r) = go (parts_nodes r) where
  go : (n : ℕ) → 1 ≤ n + 1
  go n = omega arith
one-least (ty.Form' _ r) = go (parts_nodes r) where
  go : (n : ℕ) → 1 ≤ n + 1
  go n = omega arith
one-least t = omega arith

pub far : (n : ℕ) → 0 < n → is_identity (ty.Variable (var.Bound n)) ≡ false
far zero h = absurd (omega arith)
far (suc n) h = refl

raised-far : (d : ℕ) (t : NormalType) → is_identity (raised_type (suc d) t) ≡ false
raised-far d (ty.Variable (var.Free n)) = refl
raised-far d (ty.Variable (var.Bound j)) = go (cases_Bool (nat_lt j 0)) where
  never : nat_lt j 0 ≡ true → ⊥
  never e = grind (arith, nat_tests)

  more : (j d : ℕ) → 0 < j + suc d
  more j d = omega arith

  go : (nat_lt j 0 ≡ true) ⊎ (nat_lt j 0 ≡ false) → is_identity (ty.Variable (if nat_lt j 0 then var.Bound j else var.Bound (j + suc d))) ≡ false
  go (inl e) = absurd (never e)
  go (inr e) = subst (λ b. is_identity (ty.Variable (if b then var.Bound j else var.Bound (j + suc d))) ≡ false) (sym e) (far (j + suc d) (more j d))
raised-far d (ty.Opt' _ (its t alone)) = refl
raised-far d (ty.Many' _ (its t alone)) = refl
raised-far d (ty.Transaction' _ (its t alone)) = refl
raised-far d (ty.Arrow' _ (its a alone) _ (its b alone)) = refl
raised-far d (ty.Record' _ r) = refl
raised-far d (ty.Form' _ r) = refl
raised-far d t = refl

still-far : (by : ℕ) (t : NormalType) (d : ℕ) (g : NormalType) → by ≤ 1 → is_identity g ≡ false → is_identity (put_type (type_at by t) (suc d) g) ≡ false
still-far by t d (ty.Variable (var.Free n)) h e = refl
still-far by t d (ty.Variable (var.Bound zero)) h e = absurd (cc)
still-far by t d (ty.Variable (var.Bound (suc i))) h e = go (cases_Bool (suc i == suc d)) (cases_Bool (nat_lt (suc d) (suc i))) where
  at : Bool → Bool → NormalType
  at x y = if x then raised_type (suc d) t else ty.Variable (var.Bound (if y then suc i - by else suc i))

  less : nat_lt (suc d) (suc i) ≡ true → 0 < suc i - by
  less f = grind (arith, nat_tests)

  go : (suc i == suc d ≡ true) ⊎ (suc i == suc d ≡ false) → (nat_lt (suc d) (suc i) ≡ true) ⊎ (nat_lt (suc d) (suc i) ≡ false) →
      is_identity (at (suc i == suc d) (nat_lt (suc d) (suc i))) ≡ false
  go (inl f) y = subst (λ b. is_identity (at b (nat_lt (suc d) (suc i))) ≡ false) (sym f) (raised-far d t)
  go (inr f) (inl g) = subst (λ b. is_identity (at b (nat_lt (suc d) (suc i))) ≡ false) (sym f) (subst (λ b. is_identity (at false b) ≡ false) (sym g) (far (suc i - by) (less g)))
  go (inr f) (inr g) = subst (λ b. is_identity (at b (nat_lt (suc d) (suc i))) ≡ false) (sym f) (subst (λ b. is_identity (at false b) ≡ false) (sym g) refl)
still-far by t d (ty.Opt' _ (its g alone)) h e = refl
still-far by t d (ty.Many' _ (its g alone)) h e = refl
still-far by t d (ty.Transaction' _ (its g alone)) h e = refl
still-far by t d (ty.Arrow' _ (its a alone) _ (its b alone)) h e = refl
still-far by t d (ty.Record' _ r) h e = refl
still-far by t d (ty.Form' _ r) h e = refl
still-far by t d g h e = refl

pub one-up : (a b : ℕ) → a ≤ b → a + 1 ≤ b + 1
one-up a b h = omega arith

pub both-up : (a b c d : ℕ) → a ≤ c → b ≤ d → a + b ≤ c + d
both-up a b c d h k = omega arith

pub record-nodes : (r : List Part) → type_nodes (record_of r) ≡ row_nodes r + 1
record-nodes r = ap type_nodes (sym (record-made r)) ∙ count-record r

pub form-nodes : (r : List Part) → type_nodes (form_of r) ≡ row_nodes r + 1
form-nodes r = ap type_nodes (sym (form-made r)) ∙ count-form r

pub proper-count : (f : NormalType) → is_identity f ≡ false → mapped_nodes f ≡ type_nodes f + 1
proper-count f e = ap (λ b. if b then 1 else type_nodes f + 1) e

pub not-true : (b : Bool) → not b ≡ true → b ≡ false
not-true true e = absurd (cc)
not-true false e = refl

mutual
  type-least : (by : ℕ) (t : NormalType) → by ≤ 1 → (d : ℕ) (f : NormalType) → is_normal_type f ≡ true → type_nodes f ≤ type_nodes (put_type (type_at by t) d f)
  type-least by t h d (ty.Variable v) e = one-least ((type_at by t).types d v)
  type-least by t h d (ty.Opt' _ (its f alone)) e = one-up (type_nodes f) (type_nodes (put_type (type_at by t) d f)) (type-least by t h d f e)
  type-least by t h d (ty.Many' _ (its f alone)) e = one-up (type_nodes f) (type_nodes (put_type (type_at by t) d f)) (type-least by t h d f e)
  type-least by t h d (ty.Transaction' _ (its f alone)) e = one-up (type_nodes f) (type_nodes (put_type (type_at by t) d f)) (type-least by t h d f e)
  type-least by t h d (ty.Arrow' _ (its a alone) _ (its b alone)) e =
      one-up (type_nodes a + type_nodes b) (type_nodes (put_type (type_at by t) d a) + type_nodes (put_type (type_at by t) d b))
      (both-up (type_nodes a) (type_nodes b) (type_nodes (put_type (type_at by t) d a)) (type_nodes (put_type (type_at by t) d b))
      (type-least by t h d a (and-left (is_normal_type a) (is_normal_type b) e)) (type-least by t h d b (and-right (is_normal_type a) (is_normal_type b) e)))
  type-least by t h d (ty.Record' _ r) e = subst (λ n. parts_nodes r + 1 ≤ n) (sym (record-nodes (put_parts (type_at by t) d r)))
      (one-up (parts_nodes r) (row_nodes (put_parts (type_at by t) d r)) (parts-least by t h d r (and-right (is_row (parts r)) (are_normal_parts r) e)))
  type-least by t h d (ty.Form' _ r) e = subst (λ n. parts_nodes r + 1 ≤ n) (sym (form-nodes (put_parts (type_at by t) d r)))
      (one-up (parts_nodes r) (row_nodes (put_parts (type_at by t) d r)) (parts-least by t h d r (and-right (is_row (parts r)) (are_normal_parts r) e)))
  type-least by t h d f e = omega arith

  parts-least : {n : _} (by : ℕ) (t : NormalType) → by ≤ 1 → (d : ℕ) (r : Row_of-Part n) → are_normal_parts r ≡ true → parts_nodes r ≤ row_nodes (put_parts (type_at by t) d r)
  parts-least by t h d end e = omega arith
  parts-least by t h d (more p r) e = subst (λ n. part_nodes p + parts_nodes r ≤ n) (sym (joined-nodes (put_part (type_at by t) d p) (put_parts (type_at by t) d r)))
      (both-up (part_nodes p) (parts_nodes r) (row_nodes (put_part (type_at by t) d p)) (row_nodes (put_parts (type_at by t) d r))
      (part-least by t h d p (and-left (is_normal_part p) (are_normal_parts r) e)) (parts-least by t h d r (and-right (is_normal_part p) (are_normal_parts r) e)))

  part-least : (by : ℕ) (t : NormalType) → by ≤ 1 → (d : ℕ) (p : Part) → is_normal_part p ≡ true → part_nodes p ≤ row_nodes (put_part (type_at by t) d p)
  part-least by t h d (part.Field' l _ (its f alone)) e = subst (λ n. type_nodes f + 1 ≤ n) (sym (one-part (type_nodes (put_type (type_at by t) d f) + 1)))
      (one-up (type_nodes f) (type_nodes (put_type (type_at by t) d f)) (type-least by t h d f e))
  part-least by t h d (part.Piece v) e = omega arith
  part-least by t h d (part.Mapped' v _ (its f alone)) e =
      subst (λ n. type_nodes f + 1 ≤ n) (sym (one-mapped (put_type (type_at by t) (suc d) f) (nearer by d v) ∙ proper-count (put_type (type_at by t) (suc d) f)
      (still-far by t d f h (not-true (is_identity f) (and-left (not (is_identity f)) (is_normal_type f) e)))))
      (one-up (type_nodes f) (type_nodes (put_type (type_at by t) (suc d) f)) (type-least by t h (suc d) f (and-right (not (is_identity f)) (is_normal_type f) e)))

-- ---- a map of a row that holds a part

part-grows : (f : NormalType) (p : Part) → is_normal_type f ≡ true → type_nodes f ≤ part_nodes (mapped_part f p)
part-grows f (part.Field' l _ (its t alone)) e = more (type_nodes f) (type_nodes (applied_type f t)) (type-least 1 t (omega arith) 0 f e) where
  more : (a b : ℕ) → a ≤ b → a ≤ b + 1
  more a b h = omega arith
part-grows f (part.Piece v) e = subst (λ n. type_nodes f ≤ n) (sym (mapped-count f v)) (mapped-least f)
part-grows f (part.Mapped' v _ (its g alone)) e = subst (λ n. type_nodes f ≤ n) (sym (mapped-count (composed f g) v))
    (chain (type_nodes f) (type_nodes (composed f g)) (mapped_nodes (composed f g)) (type-least 0 g (omega arith) 0 f e) (mapped-least (composed f g))) where
      chain : (a b c : ℕ) → a ≤ b → b ≤ c → a ≤ c
      chain a b c h k = omega arith

pub row-grows : (f : NormalType) (r : List Part) → is_normal_type f ≡ true → (r ≡ [] → ⊥) → type_nodes f ≤ row_nodes (mapped_row f r)
row-grows f [] e h = absurd (h refl)
row-grows f (p ∷ r) e h = subst (λ n. type_nodes f ≤ n) (sym (with_part-nodes (mapped_part f p) (mapped_row f r)))
    (more (type_nodes f) (part_nodes (mapped_part f p)) (row_nodes (mapped_row f r)) (part-grows f p e)) where
      more : (a b c : ℕ) → a ≤ b → a ≤ b + c
      more a b c k = omega arith

pub argument-drops : (a : Normal) (d : ℕ) (v : Var) (row : List Part) (b : Bool) → row ≡ (argument a).rows d v → (IsTrue b ↔ (row ≡ [])) → Drops (argument a) d v b
argument-drops a d v row true e h = λ f. ap (mapped_row f) (sym e ∙ h.0 refl)
argument-drops a d v row false e h = λ f. row-grows (put_type (argument a) (suc d) f) ((argument a).rows d v) (put_type-normal (argument-normal a) (suc d) f)
    (λ k. never (h.1 (e ∙ k))) where
      never : false ≡ true → ⊥
      never q = cc

pub fn-whole : (σ : Putting) (d e : ℕ) (n : Normal) (k : Kind) (c g : Normal) → n ≡ normal.Fn k c → e ≡ suc d → g ≡ c → nodes (put σ d n) ≡ nodes (put σ e g) + 1
fn-whole σ d e n k c g i j h = ap (λ z. nodes (put σ d z)) i ∙ after-fn σ d k c ∙ ap₂ (λ x y. nodes (put σ x y) + 1) (sym j) (sym h)

pub map-field-count : (f : NormalType) (p : Part) (l : Label) (t g : NormalType) → p ≡ part.Field l t → g ≡ t → part_nodes (mapped_part f p) ≡ type_nodes (applied_type f g) + 1
map-field-count f p l t g e h = ap (λ z. part_nodes (mapped_part f z)) (e ∙ field-made l t) ∙ ap (λ z. type_nodes (applied_type f z) + 1) (sym h)

pub map-mapped-count : (f : NormalType) (p : Part) (v : Var) (t g : NormalType) → p ≡ part.Mapped v t → g ≡ t → part_nodes (mapped_part f p) ≡ mapped_nodes (composed f g)
map-mapped-count f p v t g e h = ap (λ z. part_nodes (mapped_part f z)) (e ∙ mapped-made v t) ∙ mapped-count (composed f t) v ∙ ap (λ z. mapped_nodes (composed f z)) (sym h)

pub map-mapped-over : (f : NormalType) (p : Part) (v : Var) (t g : NormalType) (n : ℕ) → p ≡ part.Mapped v t → g ≡ t → n < type_nodes (composed f g) → n < part_nodes (mapped_part f p)
map-mapped-over f p v t g n e h k = go n (type_nodes (composed f g)) (mapped_nodes (composed f g)) (part_nodes (mapped_part f p)) k (mapped-least (composed f g)) (map-mapped-count f p v t g e h) where
  go : (a b c d : ℕ) → a < b → b ≤ c → d ≡ c → a < d
  go a b c d x y z = omega arith

pub map-here : (f : NormalType) (r : List Part) (i : ℕ) (p : Part) → i < length r → p ≡ get_or r i p →
    row_nodes (mapped_row f (drop i r)) ≡ part_nodes (mapped_part f p) + row_nodes (mapped_row f (drop (i + 1) r))
map-here f r i p h e = ap (λ z. row_nodes (mapped_row f z)) (drop-here r i p h e) ∙ with_part-nodes (mapped_part f p) (mapped_row f (drop (i + 1) r))

pub ruleset maps = (map-here)

pub once-whole : (f a c x : Normal) (k : Kind) → f ≡ normal.Fn k c → x ≡ c → nodes (put (argument a) 0 x) ≡ nodes (applied_once f a)
once-whole f a c x k e g = ap nodes (once-is f a c x k e g)
