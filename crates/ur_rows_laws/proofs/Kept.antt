-- Substitutions keep kinds.
use Rattle.std.proofs.Common.{◌≡◌, refl, ap, ap₂, sym, ◌∙◌, subst, ℕ, zero, suc, ◌+◌, ◌-◌, ◌≤◌, arith, Bool, true, false, true≢false, ◌&&◌, ◌==◌, nat_lt, ◌⊎◌, inl, inr, if◌then◌else◌, List, [], ◌∷◌, slice_get, slice_index_or, Option, Some, None}
use Rattle.std.proofs.lemmas.Bool.{cases_Bool}
use Rattle.std.proofs.lemmas.Bool.Decides.{nat_tests}
use Rattle.ur_syntax.specs.declared.kind.Kind.{Kind}
use Rattle.ur_syntax.specs.declared.kind.Kind.TheVariants as kind
use Rattle.ur_rows.specs.declared.normal.Var.{Var}
use Rattle.ur_rows.specs.declared.normal.Var.TheVariants as var
use Rattle.ur_rows.specs.declared.normal.Label.{Label}
use Rattle.ur_rows.specs.declared.normal.Label.TheVariants as label
use Rattle.ur_rows.specs.declared.normal.NormalType.{NormalType}
use Rattle.ur_rows.specs.declared.normal.NormalType.TheVariants as ty
use Rattle.ur_rows.specs.declared.normal.NormalType.TheBlock.{end_of-NormalType as alone, more_of-NormalType as its, Row_of-Part, end_of-Part as end, more_of-Part as more}
use Rattle.ur_rows.specs.declared.normal.Part.{Part}
use Rattle.ur_rows.specs.declared.normal.Part.TheVariants as part
use Rattle.ur_rows.specs.declared.normal.Normal.{Normal}
use Rattle.ur_rows.specs.declared.normal.Normal.TheVariants as normal
use Rattle.ur_rows.specs.Made.{row, field, unit}
use Rattle.ur_rows.specs.Order.{stands_before, with_part, joined}
use Rattle.ur_rows.specs.Kinded.{Variables, kind_at, is_star, is_name, is_row, label_is_in, with_bound, type_is_in, parts_are_in, part_is_in, row_is_in, is_of_kind}
use Rattle.ur_rows.specs.Put.{Putting, as_type, as_label, as_row, put_label, put_type, put_parts, put_part, put_row, mapped_variable, raised_var, raising, raised_type, nearer, is_here, type_at, applied_type, composed, mapped_part, mapped_row, arguments}
use Rattle.ur_rows.proofs.Order.{with_part-yes, with_part-no, and-left, and-right, and-both}
use Rattle.ur_rows.proofs.PutAfter.{put_row-joined}
use Rattle.ur_rows_laws.specs.Instances.{outside, are_of_kinds, InstanceKeepsKinds, InstanceOfUnion}

-- ---- rows

pub parts-in : (vs : Variables) (r : List Part) → parts_are_in vs (row r).1 ≡ row_is_in vs r
parts-in vs [] = refl
parts-in vs (p ∷ r) = ap (λ b. part_is_in vs p && b) (parts-in vs r)

pub with_part-in : (vs : Variables) (p : Part) (r : List Part) → part_is_in vs p ≡ true → row_is_in vs r ≡ true → row_is_in vs (with_part p r) ≡ true
with_part-in vs p [] e f = and-both (part_is_in vs p) true e refl
with_part-in vs p (q ∷ r) e f = step (cases_Bool (stands_before p q)) (with_part-in vs p r e (and-right (part_is_in vs q) (row_is_in vs r) f)) where
  step : (stands_before p q ≡ true) ⊎ (stands_before p q ≡ false) → row_is_in vs (with_part p r) ≡ true → row_is_in vs (with_part p (q ∷ r)) ≡ true
  step (inl x) ih = ap (row_is_in vs) (with_part-yes p q r x) ∙ and-both (part_is_in vs p) (row_is_in vs (q ∷ r)) e f
  step (inr x) ih = ap (row_is_in vs) (with_part-no p q r x) ∙ and-both (part_is_in vs q) (row_is_in vs (with_part p r)) (and-left (part_is_in vs q) (row_is_in vs r) f) ih

pub joined-in : (vs : Variables) (r s : List Part) → row_is_in vs r ≡ true → row_is_in vs s ≡ true → row_is_in vs (joined r s) ≡ true
joined-in vs [] s e f = f
joined-in vs (p ∷ r) s e f = with_part-in vs p (joined r s) (and-left (part_is_in vs p) (row_is_in vs r) e) (joined-in vs r s (and-right (part_is_in vs p) (row_is_in vs r) e) f)

mapped-in : (vs : Variables) (g : NormalType) (v : Var) → is_row (kind_at vs v) ≡ true → type_is_in (with_bound kind.Star vs) g ≡ true → part_is_in vs (mapped_variable g v) ≡ true
mapped-in vs (ty.Variable (var.Bound zero)) v e f = e
mapped-in vs g v e f = and-both (is_row (kind_at vs v)) (type_is_in (with_bound kind.Star vs) g && true) e (and-both (type_is_in (with_bound kind.Star vs) g) true f refl)

pub one-in : (vs : Variables) (p : Part) → part_is_in vs p ≡ true → row_is_in vs (p ∷ []) ≡ true
one-in vs p e = and-both (part_is_in vs p) true e refl

-- ---- a substitution

-- variables vs become ws within d functions, where R says so
pub record KeepsKinds (R : Variables → Variables → ℕ → Type 0) (σ : Putting) : Type 0 where
  pub deeper : (o : Kind) (vs ws : Variables) (d : ℕ) → R vs ws d → R (with_bound o vs) (with_bound o ws) (suc d)
  pub types : (vs ws : Variables) (d : ℕ) → R vs ws d → (v : Var) → is_star (kind_at vs v) ≡ true → type_is_in ws (σ.types d v) ≡ true
  pub labels : (vs ws : Variables) (d : ℕ) → R vs ws d → (v : Var) → is_name (kind_at vs v) ≡ true → label_is_in ws (σ.labels d v) ≡ true
  pub rows : (vs ws : Variables) (d : ℕ) → R vs ws d → (v : Var) → is_row (kind_at vs v) ≡ true → row_is_in ws (σ.rows d v) ≡ true
  pub maps : (vs ws : Variables) (d : ℕ) → R vs ws d → (v : Var) → is_row (kind_at vs v) ≡ true → (g : NormalType) → type_is_in (with_bound kind.Star ws) g ≡ true → row_is_in ws (σ.maps d v g) ≡ true

pub label-kept : {R : Variables → Variables → ℕ → Type 0} {σ : Putting} → KeepsKinds R σ → (vs ws : Variables) (d : ℕ) → R vs ws d → (l : Label) → label_is_in vs l ≡ true → label_is_in ws (put_label σ d l) ≡ true
label-kept k vs ws d r (label.Literal x) e = refl
label-kept k vs ws d r (label.Variable v) e = k.labels vs ws d r v e

mutual
  pub type-kept : {R : Variables → Variables → ℕ → Type 0} {σ : Putting} → KeepsKinds R σ → (vs ws : Variables) (d : ℕ) → R vs ws d → (t : NormalType) → type_is_in vs t ≡ true → type_is_in ws (put_type σ d t) ≡ true
  type-kept k vs ws d r (ty.Variable v) e = k.types vs ws d r v e
  type-kept {σ = σ} k vs ws d r (ty.Opt' _ (its t alone)) e = and-both (type_is_in ws (put_type σ d t)) true (type-kept k vs ws d r t (and-left (type_is_in vs t) true e)) refl
  type-kept {σ = σ} k vs ws d r (ty.Many' _ (its t alone)) e = and-both (type_is_in ws (put_type σ d t)) true (type-kept k vs ws d r t (and-left (type_is_in vs t) true e)) refl
  type-kept {σ = σ} k vs ws d r (ty.Transaction' _ (its t alone)) e = and-both (type_is_in ws (put_type σ d t)) true (type-kept k vs ws d r t (and-left (type_is_in vs t) true e)) refl
  type-kept {σ = σ} k vs ws d r (ty.Arrow' _ (its t alone) _ (its u alone)) e =
      and-both (type_is_in ws (put_type σ d t) && true) (type_is_in ws (put_type σ d u) && true)
      (and-both (type_is_in ws (put_type σ d t)) true (type-kept k vs ws d r t (and-left (type_is_in vs t) true (and-left (type_is_in vs t && true) (type_is_in vs u && true) e))) refl)
      (and-both (type_is_in ws (put_type σ d u)) true (type-kept k vs ws d r u (and-left (type_is_in vs u) true (and-right (type_is_in vs t && true) (type_is_in vs u && true) e))) refl)
  type-kept {σ = σ} k vs ws d r (ty.Record' _ x) e = parts-in ws (put_parts σ d x) ∙ parts-kept k vs ws d r x e
  type-kept {σ = σ} k vs ws d r (ty.Form' _ x) e = parts-in ws (put_parts σ d x) ∙ parts-kept k vs ws d r x e
  type-kept k vs ws d r t e = refl

  parts-kept : {R : Variables → Variables → ℕ → Type 0} {σ : Putting} {n : _} → KeepsKinds R σ → (vs ws : Variables) (d : ℕ) → R vs ws d → (x : Row_of-Part n) → parts_are_in vs x ≡ true → row_is_in ws (put_parts σ d x) ≡ true
  parts-kept k vs ws d r end e = refl
  parts-kept {σ = σ} k vs ws d r (more p x) e = joined-in ws (put_part σ d p) (put_parts σ d x)
      (part-kept k vs ws d r p (and-left (part_is_in vs p) (parts_are_in vs x) e)) (parts-kept k vs ws d r x (and-right (part_is_in vs p) (parts_are_in vs x) e))

  part-kept : {R : Variables → Variables → ℕ → Type 0} {σ : Putting} → KeepsKinds R σ → (vs ws : Variables) (d : ℕ) → R vs ws d → (p : Part) → part_is_in vs p ≡ true → row_is_in ws (put_part σ d p) ≡ true
  part-kept {σ = σ} k vs ws d r (part.Field' l _ (its t alone)) e = one-in ws (field (put_label σ d l) (put_type σ d t))
      (and-both (label_is_in ws (put_label σ d l)) (type_is_in ws (put_type σ d t) && true) (label-kept k vs ws d r l (and-left (label_is_in vs l) (type_is_in vs t && true) e))
      (and-both (type_is_in ws (put_type σ d t)) true (type-kept k vs ws d r t (and-left (type_is_in vs t) true (and-right (label_is_in vs l) (type_is_in vs t && true) e))) refl))
  part-kept k vs ws d r (part.Piece v) e = k.rows vs ws d r v e
  part-kept {σ = σ} k vs ws d r (part.Mapped' v _ (its f alone)) e = k.maps vs ws d r v (and-left (is_row (kind_at vs v)) (type_is_in (with_bound kind.Star vs) f && true) e) (put_type σ (suc d) f)
      (type-kept k (with_bound kind.Star vs) (with_bound kind.Star ws) (suc d) (k.deeper kind.Star vs ws d r) f
      (and-left (type_is_in (with_bound kind.Star vs) f) true (and-right (is_row (kind_at vs v)) (type_is_in (with_bound kind.Star vs) f && true) e)))

pub row-kept : {R : Variables → Variables → ℕ → Type 0} {σ : Putting} → KeepsKinds R σ → (vs ws : Variables) (d : ℕ) → R vs ws d → (x : List Part) → row_is_in vs x ≡ true → row_is_in ws (put_row σ d x) ≡ true
row-kept k vs ws d r [] e = refl
row-kept {σ = σ} k vs ws d r (p ∷ x) e = joined-in ws (put_part σ d p) (put_row σ d x)
    (part-kept k vs ws d r p (and-left (part_is_in vs p) (row_is_in vs x) e)) (row-kept k vs ws d r x (and-right (part_is_in vs p) (row_is_in vs x) e))

-- ---- raising

abbrev pub Raised : ℕ → Variables → Variables → ℕ → Type 0
Raised by vs ws d = (v : Var) → kind_at ws (raised_var by d v) ≡ kind_at vs v

pub raised-deeper : (by : ℕ) (o : Kind) (vs ws : Variables) (d : ℕ) → Raised by vs ws d → Raised by (with_bound o vs) (with_bound o ws) (suc d)
raised-deeper by o vs ws d r (var.Free n) = r (var.Free n)
raised-deeper by o vs ws d r (var.Bound zero) = ap (λ (b : Bool). kind_at (with_bound o ws) (if b then var.Bound 0 else var.Bound (0 + by))) (first d) where
  first : (d : ℕ) → nat_lt 0 (suc d) ≡ true
  first d = grind (arith, nat_tests)
raised-deeper by o vs ws d r (var.Bound (suc i)) = go (cases_Bool (nat_lt i d)) where
  low : nat_lt i d ≡ true → nat_lt (suc i) (suc d) ≡ true
  low e = grind (arith, nat_tests)

  high : nat_lt i d ≡ false → nat_lt (suc i) (suc d) ≡ false
  high e = grind (arith, nat_tests)

  at : Bool → Option Kind
  at b = kind_at (with_bound o ws) (if b then var.Bound (suc i) else var.Bound (suc i + by))

  was : Bool → Option Kind
  was b = kind_at ws (if b then var.Bound i else var.Bound (i + by))

  next : suc i + by ≡ suc (i + by)
  next = omega arith

  go : (nat_lt i d ≡ true) ⊎ (nat_lt i d ≡ false) → kind_at (with_bound o ws) (raised_var by (suc d) (var.Bound (suc i))) ≡ kind_at vs (var.Bound i)
  go (inl e) = ap at (low e) ∙ sym (ap was e) ∙ r (var.Bound i)
  go (inr e) = ap at (high e) ∙ ap (λ n. kind_at (with_bound o ws) (var.Bound n)) next ∙ sym (ap was e) ∙ r (var.Bound i)

pub raising-keeps : (by : ℕ) → KeepsKinds (Raised by) (raising by)
raising-keeps by = record {
  deeper = raised-deeper by;
  types = λ vs ws d r v e. ap is_star (r v) ∙ e;
  labels = λ vs ws d r v e. ap is_name (r v) ∙ e;
  rows = λ vs ws d r v e. one-in ws (part.Piece (raised_var by d v)) (ap is_row (r v) ∙ e);
  maps = λ vs ws d r v e g h. one-in ws (mapped_variable g (raised_var by d v)) (mapped-in ws g (raised_var by d v) (ap is_row (r v) ∙ e) h);
}

-- ---- a type in place of a function's variable

-- us is the scope of the type, which ws has d functions within
pub record Placed (by : ℕ) (us vs ws : Variables) (d : ℕ) : Type 0 where
  pub star : slice_get vs.bound d ≡ Some kind.Star
  pub others : (v : Var) → is_here d v ≡ false → kind_at ws (nearer by d v) ≡ kind_at vs v
  pub outer : (v : Var) → kind_at ws (raised_var d 0 v) ≡ kind_at us v

pub not-here : (f : Option Kind → Bool) → f (Some kind.Star) ≡ false → (vs : Variables) (d : ℕ) → slice_get vs.bound d ≡ Some kind.Star → (v : Var) → f (kind_at vs v) ≡ true → is_here d v ≡ false
not-here f n vs d s (var.Free m) h = refl
not-here f n vs d s (var.Bound i) h = go (cases_Bool (i == d)) where
  same : (i == d) ≡ true → i ≡ d
  same e = grind (arith, nat_tests)

  go : ((i == d) ≡ true) ⊎ ((i == d) ≡ false) → (i == d) ≡ false
  go (inl e) = absurd (true≢false (sym h ∙ ap (λ m. f (slice_get vs.bound m)) (same e) ∙ ap f s ∙ n))
  go (inr e) = e

pub others-deeper : (by : ℕ) (o : Kind) (vs ws : Variables) (d : ℕ) → by ≤ 1 → ((v : Var) → is_here d v ≡ false → kind_at ws (nearer by d v) ≡ kind_at vs v) → (v : Var) → is_here (suc d) v ≡ false → kind_at (with_bound o ws) (nearer by (suc d) v) ≡ kind_at (with_bound o vs) v
others-deeper by o vs ws d one p (var.Free n) h = p (var.Free n) refl
others-deeper by o vs ws d one p (var.Bound zero) h = ap₂ (λ (b c : Bool). kind_at (with_bound o ws) (if b then var.Bound (suc d) else var.Bound (if c then 0 - by else 0))) (eq d) (lt d) where
  eq : (d : ℕ) → (0 == suc d) ≡ false
  eq d = grind (arith, nat_tests)

  lt : (d : ℕ) → nat_lt (suc d) 0 ≡ false
  lt d = grind (arith, nat_tests)
others-deeper by o vs ws d one p (var.Bound (suc i)) h = go (cases_Bool (nat_lt d i)) where
  far : (i == d) ≡ false
  far = apart (cases_Bool (i == d)) where
    up : (i == d) ≡ true → (suc i == suc d) ≡ true
    up e = grind (arith, nat_tests)

    apart : ((i == d) ≡ true) ⊎ ((i == d) ≡ false) → (i == d) ≡ false
    apart (inl e) = absurd (true≢false (sym (up e) ∙ h))
    apart (inr e) = e

  at : Bool → Bool → Option Kind
  at b c = kind_at (with_bound o ws) (if b then var.Bound (suc d) else var.Bound (if c then suc i - by else suc i))

  was : Bool → Bool → Option Kind
  was b c = kind_at ws (if b then var.Bound d else var.Bound (if c then i - by else i))

  higher : nat_lt d i ≡ true → nat_lt (suc d) (suc i) ≡ true
  higher e = grind (arith, nat_tests)

  lower : nat_lt d i ≡ false → nat_lt (suc d) (suc i) ≡ false
  lower e = grind (arith, nat_tests)

  less : nat_lt d i ≡ true → suc i - by ≡ suc (i - by)
  less e = grind (arith, nat_tests)

  go : (nat_lt d i ≡ true) ⊎ (nat_lt d i ≡ false) → kind_at (with_bound o ws) (nearer by (suc d) (var.Bound (suc i))) ≡ kind_at vs (var.Bound i)
  go (inl e) = ap₂ at h (higher e) ∙ ap (λ n. kind_at (with_bound o ws) (var.Bound n)) (less e) ∙ sym (ap₂ was far e) ∙ p (var.Bound i) far
  go (inr e) = ap₂ at h (lower e) ∙ sym (ap₂ was far e) ∙ p (var.Bound i) far

pub outer-deeper : (k : Kind) (us ws : Variables) (d : ℕ) → ((v : Var) → kind_at ws (raised_var d 0 v) ≡ kind_at us v) → (v : Var) → kind_at (with_bound k ws) (raised_var (suc d) 0 v) ≡ kind_at us v
outer-deeper k us ws d o (var.Free n) = o (var.Free n)
outer-deeper k us ws d o (var.Bound i) = ap (λ (b : Bool). kind_at (with_bound k ws) (if b then var.Bound i else var.Bound (i + suc d))) none ∙ ap (λ n. kind_at (with_bound k ws) (var.Bound n)) (next i d) ∙
    sym (ap (λ (b : Bool). kind_at ws (if b then var.Bound i else var.Bound (i + d))) none) ∙ o (var.Bound i) where
      none : nat_lt i 0 ≡ false
      none = grind (arith, nat_tests)

      next : (i d : ℕ) → i + suc d ≡ suc (i + d)
      next i d = omega arith

type-placed : (by : ℕ) (t : NormalType) (us vs ws : Variables) (d : ℕ) → type_is_in us t ≡ true → Placed by us vs ws d → (v : Var) → is_star (kind_at vs v) ≡ true → type_is_in ws ((type_at by t).types d v) ≡ true
type-placed by t us vs ws d i p (var.Free n) h = ap is_star (p.others (var.Free n) refl) ∙ h
type-placed by t us vs ws d i p (var.Bound n) h = go (cases_Bool (n == d)) where
  at : Bool → Bool
  at b = type_is_in ws (if b then raised_type d t else ty.Variable (var.Bound (if nat_lt d n then n - by else n)))

  was : Bool → Option Kind
  was b = kind_at ws (if b then var.Bound d else var.Bound (if nat_lt d n then n - by else n))

  go : ((n == d) ≡ true) ⊎ ((n == d) ≡ false) → type_is_in ws ((type_at by t).types d (var.Bound n)) ≡ true
  go (inl e) = ap at e ∙ type-kept (raising-keeps d) us ws 0 p.outer t i
  go (inr e) = ap at e ∙ ap is_star (sym (ap was e) ∙ p.others (var.Bound n) e) ∙ h

type-at-keeps : (by : ℕ) (t : NormalType) (us : Variables) → by ≤ 1 → type_is_in us t ≡ true → KeepsKinds (Placed by us) (type_at by t)
type-at-keeps by t us one i = record {
  deeper = λ o vs ws d p. record { star = p.star; others = others-deeper by o vs ws d one p.others; outer = outer-deeper o us ws d p.outer };
  types = λ vs ws d p v h. type-placed by t us vs ws d i p v h;
  labels = λ vs ws d p v h. ap is_name (p.others v (not-here is_name refl vs d p.star v h)) ∙ h;
  rows = λ vs ws d p v h. one-in ws (part.Piece (nearer by d v)) (ap is_row (p.others v (not-here is_row refl vs d p.star v h)) ∙ h);
  maps = λ vs ws d p v h g k. one-in ws (mapped_variable g (nearer by d v)) (mapped-in ws g (nearer by d v) (ap is_row (p.others v (not-here is_row refl vs d p.star v h)) ∙ h) k);
}

pub raised-none : (ws : Variables) (v : Var) → kind_at ws (raised_var 0 0 v) ≡ kind_at ws v
raised-none ws (var.Free n) = refl
raised-none ws (var.Bound i) = ap (λ (b : Bool). kind_at ws (if b then var.Bound i else var.Bound (i + 0))) none ∙ ap (λ n. kind_at ws (var.Bound n)) (same i) where
  none : nat_lt i 0 ≡ false
  none = grind (arith, nat_tests)

  same : (i : ℕ) → i + 0 ≡ i
  same i = omega arith

pub applied-others : (ws : Variables) (v : Var) → is_here 0 v ≡ false → kind_at ws (nearer 1 0 v) ≡ kind_at (with_bound kind.Star ws) v
applied-others ws (var.Free n) h = refl
applied-others ws (var.Bound zero) h = absurd (true≢false h)
applied-others ws (var.Bound (suc i)) h = ap₂ (λ (b c : Bool). kind_at ws (if b then var.Bound 0 else var.Bound (if c then suc i - 1 else suc i))) h (first i) ∙ ap (λ n. kind_at ws (var.Bound n)) (less i) where
  first : (i : ℕ) → nat_lt 0 (suc i) ≡ true
  first i = grind (arith, nat_tests)

  less : (i : ℕ) → suc i - 1 ≡ i
  less i = omega arith

applied-in : (ws : Variables) (f t : NormalType) → type_is_in (with_bound kind.Star ws) f ≡ true → type_is_in ws t ≡ true → type_is_in ws (applied_type f t) ≡ true
applied-in ws f t h i = type-kept (type-at-keeps 1 t ws (omega arith) i) (with_bound kind.Star ws) ws 0 (record { star = refl; others = applied-others ws; outer = raised-none ws }) f h

composed-others : (ws : Variables) (v : Var) → is_here 0 v ≡ false → kind_at ws (nearer 0 0 v) ≡ kind_at ws v
composed-others ws (var.Free n) h = refl
composed-others ws (var.Bound i) h = ap (λ (b : Bool). kind_at ws (if b then var.Bound 0 else var.Bound (if nat_lt 0 i then i - 0 else i))) h ∙ go (nat_lt 0 i) where
  same : (i : ℕ) → i - 0 ≡ i
  same i = omega arith

  go : (b : Bool) → kind_at ws (var.Bound (if b then i - 0 else i)) ≡ kind_at ws (var.Bound i)
  go true = ap (λ n. kind_at ws (var.Bound n)) (same i)
  go false = refl

composed-in : (ws : Variables) (f g : NormalType) → type_is_in (with_bound kind.Star ws) f ≡ true → type_is_in (with_bound kind.Star ws) g ≡ true → type_is_in (with_bound kind.Star ws) (composed f g) ≡ true
composed-in ws f g h i = type-kept (type-at-keeps 0 g (with_bound kind.Star ws) (omega arith) i) (with_bound kind.Star ws) (with_bound kind.Star ws) 0
    (record { star = refl; others = composed-others (with_bound kind.Star ws); outer = raised-none (with_bound kind.Star ws) }) f h

-- ---- maps

map-part-in : (ws : Variables) (f : NormalType) (p : Part) → type_is_in (with_bound kind.Star ws) f ≡ true → part_is_in ws p ≡ true → part_is_in ws (mapped_part f p) ≡ true
map-part-in ws f (part.Field' l _ (its t alone)) h e = and-both (label_is_in ws l) (type_is_in ws (applied_type f t) && true) (and-left (label_is_in ws l) (type_is_in ws t && true) e)
    (and-both (type_is_in ws (applied_type f t)) true (applied-in ws f t h (and-left (type_is_in ws t) true (and-right (label_is_in ws l) (type_is_in ws t && true) e))) refl)
map-part-in ws f (part.Piece v) h e = mapped-in ws f v e h
map-part-in ws f (part.Mapped' v _ (its g alone)) h e = mapped-in ws (composed f g) v (and-left (is_row (kind_at ws v)) (type_is_in (with_bound kind.Star ws) g && true) e)
    (composed-in ws f g h (and-left (type_is_in (with_bound kind.Star ws) g) true (and-right (is_row (kind_at ws v)) (type_is_in (with_bound kind.Star ws) g && true) e)))

pub map-row-in : (ws : Variables) (f : NormalType) (r : List Part) → type_is_in (with_bound kind.Star ws) f ≡ true → row_is_in ws r ≡ true → row_is_in ws (mapped_row f r) ≡ true
map-row-in ws f [] h e = refl
map-row-in ws f (p ∷ r) h e = with_part-in ws (mapped_part f p) (mapped_row f r) (map-part-in ws f p h (and-left (part_is_in ws p) (row_is_in ws r) e))
    (map-row-in ws f r h (and-right (part_is_in ws p) (row_is_in ws r) e))

-- ---- more variables

pub record Wider (us ws : Variables) : Type 0 where
  pub stars : (v : Var) → is_star (kind_at us v) ≡ true → is_star (kind_at ws v) ≡ true
  pub names : (v : Var) → is_name (kind_at us v) ≡ true → is_name (kind_at ws v) ≡ true
  pub rows : (v : Var) → is_row (kind_at us v) ≡ true → is_row (kind_at ws v) ≡ true

one-deeper : (f : Option Kind → Bool) (us ws : Variables) → ((v : Var) → f (kind_at us v) ≡ true → f (kind_at ws v) ≡ true) → (v : Var) → f (kind_at (with_bound kind.Star us) v) ≡ true → f (kind_at (with_bound kind.Star ws) v) ≡ true
one-deeper f us ws w (var.Free n) h = w (var.Free n) h
one-deeper f us ws w (var.Bound zero) h = h
one-deeper f us ws w (var.Bound (suc i)) h = w (var.Bound i) h

wider-deeper : (us ws : Variables) → Wider us ws → Wider (with_bound kind.Star us) (with_bound kind.Star ws)
wider-deeper us ws w = record { stars = one-deeper is_star us ws w.stars; names = one-deeper is_name us ws w.names; rows = one-deeper is_row us ws w.rows }

wider-label : (us ws : Variables) → Wider us ws → (l : Label) → label_is_in us l ≡ true → label_is_in ws l ≡ true
wider-label us ws w (label.Literal x) e = refl
wider-label us ws w (label.Variable v) e = w.names v e

mutual
  pub wider-type : (us ws : Variables) → Wider us ws → (t : NormalType) → type_is_in us t ≡ true → type_is_in ws t ≡ true
  wider-type us ws w (ty.Variable v) e = w.stars v e
  wider-type us ws w (ty.Opt' _ (its t alone)) e = and-both (type_is_in ws t) true (wider-type us ws w t (and-left (type_is_in us t) true e)) refl
  wider-type us ws w (ty.Many' _ (its t alone)) e = and-both (type_is_in ws t) true (wider-type us ws w t (and-left (type_is_in us t) true e)) refl
  wider-type us ws w (ty.Transaction' _ (its t alone)) e = and-both (type_is_in ws t) true (wider-type us ws w t (and-left (type_is_in us t) true e)) refl
  wider-type us ws w (ty.Arrow' _ (its t alone) _ (its u alone)) e =
      and-both (type_is_in ws t && true) (type_is_in ws u && true)
      (and-both (type_is_in ws t) true (wider-type us ws w t (and-left (type_is_in us t) true (and-left (type_is_in us t && true) (type_is_in us u && true) e))) refl)
      (and-both (type_is_in ws u) true (wider-type us ws w u (and-left (type_is_in us u) true (and-right (type_is_in us t && true) (type_is_in us u && true) e))) refl)
  wider-type us ws w (ty.Record' _ x) e = wider-parts us ws w x e
  wider-type us ws w (ty.Form' _ x) e = wider-parts us ws w x e
  wider-type us ws w t e = refl

  wider-parts : {n : _} (us ws : Variables) → Wider us ws → (x : Row_of-Part n) → parts_are_in us x ≡ true → parts_are_in ws x ≡ true
  wider-parts us ws w end e = refl
  wider-parts us ws w (more p x) e = and-both (part_is_in ws p) (parts_are_in ws x) (wider-part us ws w p (and-left (part_is_in us p) (parts_are_in us x) e))
      (wider-parts us ws w x (and-right (part_is_in us p) (parts_are_in us x) e))

  wider-part : (us ws : Variables) → Wider us ws → (p : Part) → part_is_in us p ≡ true → part_is_in ws p ≡ true
  wider-part us ws w (part.Field' l _ (its t alone)) e = and-both (label_is_in ws l) (type_is_in ws t && true) (wider-label us ws w l (and-left (label_is_in us l) (type_is_in us t && true) e))
      (and-both (type_is_in ws t) true (wider-type us ws w t (and-left (type_is_in us t) true (and-right (label_is_in us l) (type_is_in us t && true) e))) refl)
  wider-part us ws w (part.Piece v) e = w.rows v e
  wider-part us ws w (part.Mapped' v _ (its f alone)) e = and-both (is_row (kind_at ws v)) (type_is_in (with_bound kind.Star ws) f && true)
      (w.rows v (and-left (is_row (kind_at us v)) (type_is_in (with_bound kind.Star us) f && true) e))
      (and-both (type_is_in (with_bound kind.Star ws) f) true (wider-type (with_bound kind.Star us) (with_bound kind.Star ws) (wider-deeper us ws w) f
      (and-left (type_is_in (with_bound kind.Star us) f) true (and-right (is_row (kind_at us v)) (type_is_in (with_bound kind.Star us) f && true) e))) refl)

wider-row : (us ws : Variables) → Wider us ws → (r : List Part) → row_is_in us r ≡ true → row_is_in ws r ≡ true
wider-row us ws w [] e = refl
wider-row us ws w (p ∷ r) e = and-both (part_is_in ws p) (row_is_in ws r) (wider-part us ws w p (and-left (part_is_in us p) (row_is_in us r) e)) (wider-row us ws w r (and-right (part_is_in us p) (row_is_in us r) e))

-- ---- arguments

outside-at : (f : Option Kind → Bool) → f None ≡ false → (free : List Kind) (ws : Variables) → ws.free ≡ free → (v : Var) → f (kind_at (outside free) v) ≡ true → f (kind_at ws v) ≡ true
outside-at f n free ws e (var.Free m) h = ap (λ z. f (slice_get z m)) e ∙ h
outside-at f n free ws e (var.Bound i) h = absurd (true≢false (sym h ∙ ap f (nothing i) ∙ n)) where
  nothing : (i : ℕ) → kind_at (outside free) (var.Bound i) ≡ None
  nothing i = refl

outside-wider : (free : List Kind) (ws : Variables) → ws.free ≡ free → Wider (outside free) ws
outside-wider free ws e = record { stars = outside-at is_star refl free ws e; names = outside-at is_name refl free ws e; rows = outside-at is_row refl free ws e }

pub nth-of-kind : (vs : Variables) (args : List Normal) (kinds : List Kind) (n : ℕ) (k : Kind) → are_of_kinds vs args kinds ≡ true → slice_get kinds n ≡ Some k → is_of_kind vs (slice_index_or args n (normal.Type unit)) k ≡ true
nth-of-kind vs [] [] n k e h = absurd (cc)
nth-of-kind vs [] (j ∷ kinds) n k e h = absurd (true≢false (sym e))
nth-of-kind vs (a ∷ args) [] n k e h = absurd (true≢false (sym e))
nth-of-kind vs (a ∷ args) (j ∷ kinds) zero k e h = subst (λ z. is_of_kind vs a z ≡ true) (some h) (and-left (is_of_kind vs a j) (are_of_kinds vs args kinds) e) where
  some : Some j ≡ Some k → j ≡ k
  some i = cc
nth-of-kind vs (a ∷ args) (j ∷ kinds) (suc n) k e h = nth-of-kind vs args kinds n k (and-right (is_of_kind vs a j) (are_of_kinds vs args kinds) e) h

pub is-star : (o : Option Kind) → is_star o ≡ true → o ≡ Some kind.Star
is-star None h = absurd (true≢false (sym h))
is-star (Some kind.Star) h = refl
is-star (Some kind.Name) h = absurd (true≢false (sym h))
is-star (Some kind.Row) h = absurd (true≢false (sym h))
is-star (Some (kind.Arrow' _ x _ y)) h = absurd (true≢false (sym h))

pub is-name : (o : Option Kind) → is_name o ≡ true → o ≡ Some kind.Name
is-name None h = absurd (true≢false (sym h))
is-name (Some kind.Star) h = absurd (true≢false (sym h))
is-name (Some kind.Name) h = refl
is-name (Some kind.Row) h = absurd (true≢false (sym h))
is-name (Some (kind.Arrow' _ x _ y)) h = absurd (true≢false (sym h))

pub is-row : (o : Option Kind) → is_row o ≡ true → o ≡ Some kind.Row
is-row None h = absurd (true≢false (sym h))
is-row (Some kind.Star) h = absurd (true≢false (sym h))
is-row (Some kind.Name) h = absurd (true≢false (sym h))
is-row (Some kind.Row) h = refl
is-row (Some (kind.Arrow' _ x _ y)) h = absurd (true≢false (sym h))

pub type-of : (vs : Variables) (n : Normal) → is_of_kind vs n kind.Star ≡ true → type_is_in vs (as_type n) ≡ true
type-of vs (normal.Type t) e = e
type-of vs (normal.Name l) e = absurd (true≢false (sym e))
type-of vs (normal.Row r) e = absurd (true≢false (sym e))
type-of vs (normal.Fn' k _ c) e = absurd (true≢false (sym e))

pub label-of : (vs : Variables) (n : Normal) → is_of_kind vs n kind.Name ≡ true → label_is_in vs (as_label n) ≡ true
label-of vs (normal.Type t) e = absurd (true≢false (sym e))
label-of vs (normal.Name l) e = e
label-of vs (normal.Row r) e = absurd (true≢false (sym e))
label-of vs (normal.Fn' k _ c) e = absurd (true≢false (sym e))

pub row-of : (vs : Variables) (n : Normal) → is_of_kind vs n kind.Row ≡ true → row_is_in vs (as_row n) ≡ true
row-of vs (normal.Type t) e = absurd (true≢false (sym e))
row-of vs (normal.Name l) e = absurd (true≢false (sym e))
row-of vs (normal.Row r) e = e
row-of vs (normal.Fn' k _ c) e = absurd (true≢false (sym e))

-- the same functions outside
abbrev pub Instead : List Kind → List Kind → Variables → Variables → ℕ → Type 0
Instead free kinds vs ws d = (vs.free ≡ kinds) × (ws.free ≡ free) × (ws.bound ≡ vs.bound)

free-at : (f : Option Kind → Bool) (kinds : List Kind) (vs : Variables) (n : ℕ) → vs.free ≡ kinds → f (kind_at vs (var.Free n)) ≡ true → f (slice_get kinds n) ≡ true
free-at f kinds vs n e h = ap (λ z. f (slice_get z n)) (sym e) ∙ h

bound-at : (f : Option Kind → Bool) (vs ws : Variables) (i : ℕ) → ws.bound ≡ vs.bound → f (kind_at vs (var.Bound i)) ≡ true → f (kind_at ws (var.Bound i)) ≡ true
bound-at f vs ws i e h = ap (λ z. f (slice_get z i)) e ∙ h

arg-types : (free kinds : List Kind) (args : List Normal) → are_of_kinds (outside free) args kinds ≡ true → (vs ws : Variables) (d : ℕ) → Instead free kinds vs ws d → (v : Var) → is_star (kind_at vs v) ≡ true →
    type_is_in ws ((arguments args).types d v) ≡ true
arg-types free kinds args a vs ws d r (var.Free n) h = wider-type (outside free) ws (outside-wider free ws r.1) (as_type (slice_index_or args n (normal.Type unit)))
    (type-of (outside free) (slice_index_or args n (normal.Type unit)) (nth-of-kind (outside free) args kinds n kind.Star a (is-star (slice_get kinds n) (free-at is_star kinds vs n r.0 h))))
arg-types free kinds args a vs ws d r (var.Bound i) h = bound-at is_star vs ws i r.2 h

arg-labels : (free kinds : List Kind) (args : List Normal) → are_of_kinds (outside free) args kinds ≡ true → (vs ws : Variables) (d : ℕ) → Instead free kinds vs ws d → (v : Var) → is_name (kind_at vs v) ≡ true →
    label_is_in ws ((arguments args).labels d v) ≡ true
arg-labels free kinds args a vs ws d r (var.Free n) h = wider-label (outside free) ws (outside-wider free ws r.1) (as_label (slice_index_or args n (normal.Type unit)))
    (label-of (outside free) (slice_index_or args n (normal.Type unit)) (nth-of-kind (outside free) args kinds n kind.Name a (is-name (slice_get kinds n) (free-at is_name kinds vs n r.0 h))))
arg-labels free kinds args a vs ws d r (var.Bound i) h = bound-at is_name vs ws i r.2 h

pub arg-rows : (free kinds : List Kind) (args : List Normal) → are_of_kinds (outside free) args kinds ≡ true → (vs ws : Variables) (d : ℕ) → Instead free kinds vs ws d → (v : Var) → is_row (kind_at vs v) ≡ true →
    row_is_in ws ((arguments args).rows d v) ≡ true
arg-rows free kinds args a vs ws d r (var.Free n) h = wider-row (outside free) ws (outside-wider free ws r.1) (as_row (slice_index_or args n (normal.Type unit)))
    (row-of (outside free) (slice_index_or args n (normal.Type unit)) (nth-of-kind (outside free) args kinds n kind.Row a (is-row (slice_get kinds n) (free-at is_row kinds vs n r.0 h))))
arg-rows free kinds args a vs ws d r (var.Bound i) h = one-in ws (part.Piece (var.Bound i)) (bound-at is_row vs ws i r.2 h)

pub arguments-keep : (free kinds : List Kind) (args : List Normal) → are_of_kinds (outside free) args kinds ≡ true → KeepsKinds (Instead free kinds) (arguments args)
arguments-keep free kinds args a = record {
  deeper = λ o vs ws d r. (r.0, r.1, ap (λ z. o ∷ z) r.2);
  types = arg-types free kinds args a;
  labels = arg-labels free kinds args a;
  rows = arg-rows free kinds args a;
  maps = λ vs ws d r v h g i. map-row-in ws g ((arguments args).rows d v) i (arg-rows free kinds args a vs ws d r v h);
}

pub keeps-kinds : InstanceKeepsKinds
keeps-kinds = record {
  types = λ free kinds args t a h. type-kept (arguments-keep free kinds args a) (outside kinds) (outside free) 0 (refl, refl, refl) t h;
  rows = λ free kinds args r a h. row-kept (arguments-keep free kinds args a) (outside kinds) (outside free) 0 (refl, refl, refl) r h;
}

pub of-union : InstanceOfUnion
of-union = λ args r s. put_row-joined (arguments args) 0 r s
