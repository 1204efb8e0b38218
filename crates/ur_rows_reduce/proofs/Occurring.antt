-- A variable that does not occur takes nothing, and one that stands outside all maps takes all that is put in its place.
use Rattle.std.proofs.Common.{◌≡◌, refl, ap, ap₂, sym, ◌∙◌, subst, ℕ, suc, ◌+◌, ◌≤◌, ◌==◌, arith, Bool, true, false, ◌||◌, ◌-◌, nat_lt, ◌⊎◌, inl, inr, List, [], ◌∷◌, if◌then◌else◌}
use Rattle.std.proofs.lemmas.Bool.Decides.{nat_tests}
use Rattle.ur_rows.specs.declared.normal.Var.{Var}
use Rattle.ur_rows.specs.declared.normal.Var.TheVariants as var
use Rattle.ur_rows.specs.declared.normal.Label.{Label}
use Rattle.ur_rows.specs.declared.normal.Label.TheVariants as label
use Rattle.ur_rows.specs.declared.normal.NormalType.{NormalType}
use Rattle.ur_rows.specs.declared.normal.NormalType.TheVariants as ty
use Rattle.ur_rows.specs.declared.normal.NormalType.TheBlock.{end_of-NormalType as alone, more_of-NormalType as its, Row_of-Part, end_of-Part as end, more_of-Part as more}
use Rattle.ur_rows.specs.declared.normal.Part.{Part}
use Rattle.ur_rows.specs.declared.normal.Part.TheVariants as part
use Rattle.ur_rows.specs.declared.normal.Normal.{Normal}
use Rattle.ur_rows.specs.declared.normal.Normal.TheVariants as normal
use Rattle.ur_rows.specs.declared.normal.Normal.TheBlock.{end_of-Normal as sole, more_of-Normal as the}
use Rattle.ur_rows.specs.Made.{option_of, list_of, transaction_of, arrow_of, field, record_of, form_of}
use Rattle.ur_rows.specs.Order.{joined}
use Rattle.ur_rows.specs.Nodes.{type_nodes, row_nodes, nodes}
use Rattle.ur_rows.specs.Put.{Putting, put, put_label, put_type, put_parts, put_part, put_row, is_here, at_fn, raised, raised_type, mapped_row, type_at, argument, as_type, as_label, as_row, applied_once, applied_type}
use Rattle.ur_rows_reduce.specs.Occurs.{uses_label, uses_type, uses_parts, uses_part, uses_row, uses, is_used, holds_type, holds_parts, holds_part, holds_row, holds}
use Rattle.ur_rows_reduce.proofs.After.{joined-nodes, record-nodes, form-nodes}

or-left : (x y : Bool) → (x || y) ≡ false → x ≡ false
or-left true y e = e
or-left false y e = refl

or-right : (x y : Bool) → (x || y) ≡ false → y ≡ false
or-right true y e = absurd (cc)
or-right false y e = e

-- ---- a variable that does not occur

-- two substitutions that put the same in place of all other variables
pub record Alike (σ τ : Putting) : Type 0 where
  pub types : (d : ℕ) (v : Var) → is_here d v ≡ false → σ.types d v ≡ τ.types d v
  pub labels : (d : ℕ) (v : Var) → is_here d v ≡ false → σ.labels d v ≡ τ.labels d v
  pub rows : (d : ℕ) (v : Var) → is_here d v ≡ false → σ.rows d v ≡ τ.rows d v
  pub maps : (d : ℕ) (v : Var) (f : NormalType) → is_here d v ≡ false → σ.maps d v f ≡ τ.maps d v f

unused-label : {σ τ : Putting} → Alike σ τ → (d : ℕ) (l : Label) → uses_label d l ≡ false → put_label σ d l ≡ put_label τ d l
unused-label k d (label.Literal x) e = refl
unused-label k d (label.Variable v) e = k.labels d v e

mutual
  pub unused-type : {σ τ : Putting} → Alike σ τ → (d : ℕ) (t : NormalType) → uses_type d t ≡ false → put_type σ d t ≡ put_type τ d t
  unused-type k d (ty.Variable v) e = k.types d v e
  unused-type k d (ty.Opt' _ (its t alone)) e = ap option_of (unused-type k d t e)
  unused-type k d (ty.Many' _ (its t alone)) e = ap list_of (unused-type k d t e)
  unused-type k d (ty.Transaction' _ (its t alone)) e = ap transaction_of (unused-type k d t e)
  unused-type k d (ty.Arrow' _ (its t alone) _ (its u alone)) e =
      ap₂ arrow_of (unused-type k d t (or-left (uses_type d t) (uses_type d u) e)) (unused-type k d u (or-right (uses_type d t) (uses_type d u) e))
  unused-type k d (ty.Record' _ r) e = ap record_of (unused-parts k d r e)
  unused-type k d (ty.Form' _ r) e = ap form_of (unused-parts k d r e)
  unused-type k d t e = refl

  unused-parts : {σ τ : Putting} {n : _} → Alike σ τ → (d : ℕ) (r : Row_of-Part n) → uses_parts d r ≡ false → put_parts σ d r ≡ put_parts τ d r
  unused-parts k d end e = refl
  unused-parts k d (more p r) e = ap₂ joined (unused-part k d p (or-left (uses_part d p) (uses_parts d r) e)) (unused-parts k d r (or-right (uses_part d p) (uses_parts d r) e))

  unused-part : {σ τ : Putting} → Alike σ τ → (d : ℕ) (p : Part) → uses_part d p ≡ false → put_part σ d p ≡ put_part τ d p
  unused-part k d (part.Field' l _ (its t alone)) e =
      ap₂ (λ x y. field x y ∷ []) (unused-label k d l (or-left (uses_label d l) (uses_type d t) e)) (unused-type k d t (or-right (uses_label d l) (uses_type d t) e))
  unused-part k d (part.Piece v) e = k.rows d v e
  unused-part {σ = σ} {τ = τ} k d (part.Mapped' v _ (its f alone)) e =
      ap (σ.maps d v) (unused-type k (suc d) f (or-right (is_here d v) (uses_type (suc d) f) e)) ∙ k.maps d v (put_type τ (suc d) f) (or-left (is_here d v) (uses_type (suc d) f) e)

pub unused-row : {σ τ : Putting} → Alike σ τ → (d : ℕ) (r : List Part) → uses_row d r ≡ false → put_row σ d r ≡ put_row τ d r
unused-row k d [] e = refl
unused-row k d (p ∷ r) e = ap₂ joined (unused-part k d p (or-left (uses_part d p) (uses_row d r) e)) (unused-row k d r (or-right (uses_part d p) (uses_row d r) e))

pub unused : {σ τ : Putting} → Alike σ τ → (d : ℕ) (n : Normal) → uses d n ≡ false → put σ d n ≡ put τ d n
unused k d (normal.Type t) e = ap (λ z. normal.Type z) (unused-type k d t e)
unused k d (normal.Name l) e = ap (λ z. normal.Name z) (unused-label k d l e)
unused k d (normal.Row r) e = ap (λ z. normal.Row z) (unused-row k d r e)
unused k d (normal.Fn' j _ (the c sole)) e = ap (λ z. normal.Fn' j tt (the z sole)) (unused k (suc d) c e)

-- what stands in place of the other variables is the same, whatever stands here
at-other : {A : Type 0} (by d : ℕ) (v : Var) (x y : A) (f : Var → A) → is_here d v ≡ false → at_fn by d v x f ≡ at_fn by d v y f
at-other by d (var.Free n) x y f e = refl
at-other {A} by d (var.Bound i) x y f e = go (i == d) e where
  other : A
  other = at_fn by d (var.Bound i) x f

  go : (b : Bool) → b ≡ false → (if b then x else f (var.Bound (if nat_lt d i then i - by else i))) ≡ (if b then y else f (var.Bound (if nat_lt d i then i - by else i)))
  go true h = absurd (cc)
  go false h = refl

pub arguments-alike : (a b : Normal) → Alike (argument a) (argument b)
arguments-alike a b = record {
  types = λ d v e. at-other 1 d v (as_type (raised d a)) (as_type (raised d b)) (λ w. ty.Variable w) e;
  labels = λ d v e. at-other 1 d v (as_label (raised d a)) (as_label (raised d b)) (λ w. label.Variable w) e;
  rows = λ d v e. at-other 1 d v (as_row (raised d a)) (as_row (raised d b)) (λ w. part.Piece w ∷ []) e;
  maps = λ d v f e. ap (mapped_row f) (at-other 1 d v (as_row (raised d a)) (as_row (raised d b)) (λ w. part.Piece w ∷ []) e);
}

pub types-alike : (by : ℕ) (t u : NormalType) → Alike (type_at by t) (type_at by u)
types-alike by t u = record {
  types = λ d v e. at-other by d v (raised_type d t) (raised_type d u) (λ w. ty.Variable w) e;
  labels = λ d v e. refl;
  rows = λ d v e. refl;
  maps = λ d v f e. refl;
}

-- a function that does not use its variable gives the same for each argument
pub dropped : (f a b : Normal) → is_used f ≡ false → applied_once f a ≡ applied_once f b
dropped (normal.Fn' k _ (the c sole)) a b e = unused (arguments-alike a b) 0 c e
dropped (normal.Type t) a b e = refl
dropped (normal.Name l) a b e = refl
dropped (normal.Row r) a b e = refl

pub dropped-type : (f t u : NormalType) → uses_type 0 f ≡ false → applied_type f t ≡ applied_type f u
dropped-type f t u e = unused-type (types-alike 1 t u) 0 f e

-- ---- a variable that stands outside all maps

here-is : (d : ℕ) (v : Var) → is_here d v ≡ true → v ≡ var.Bound d
here-is d (var.Free n) e = absurd (cc)
here-is d (var.Bound i) e = ap (λ k. var.Bound k) (same i d e) where
  same : (i d : ℕ) → (i == d) ≡ true → i ≡ d
  same i d e = grind (arith, nat_tests)

either : (x y : Bool) → (x || y) ≡ true → (x ≡ true) ⊎ (y ≡ true)
either true y e = inl refl
either false y e = inr e

-- the nodes of what takes the place of the variable, with the record that a row stands in
abbrev pub here_nodes : Putting → Bool → ℕ → ℕ
here_nodes σ true d = row_nodes (σ.rows d (var.Bound d)) + 1
here_nodes σ false d = type_nodes (σ.types d (var.Bound d))

most-left : (a b n : ℕ) → n ≤ a → n ≤ a + b + 1
most-left a b n h = omega arith

most-right : (a b n : ℕ) → n ≤ b → n ≤ a + b + 1
most-right a b n h = omega arith

in-sum : {P Q : Type 0} (a b n m : ℕ) → m ≡ a + b → P ⊎ Q → (P → n ≤ a + 1) → (Q → n ≤ b + 1) → n ≤ m + 1
in-sum a b n m e (inl p) f g = go (f p) where
  go : n ≤ a + 1 → n ≤ m + 1
  go h = omega arith
in-sum a b n m e (inr q) f g = go (g q) where
  go : n ≤ b + 1 → n ≤ m + 1
  go h = omega arith

in-arrow : {P Q : Type 0} (a b n : ℕ) → P ⊎ Q → (P → n ≤ a) → (Q → n ≤ b) → n ≤ a + b + 1
in-arrow a b n (inl p) f g = most-left a b n (f p)
in-arrow a b n (inr q) f g = most-right a b n (g q)

up-one : (a n : ℕ) → n ≤ a → n ≤ a + 1
up-one a n h = omega arith

mutual
  pub held-type : (σ : Putting) (b : Bool) (d : ℕ) (t : NormalType) → holds_type b d t ≡ true → here_nodes σ b d ≤ type_nodes (put_type σ d t)
  held-type σ true d (ty.Variable v) e = absurd (cc)
  held-type σ false d (ty.Variable v) e = subst (λ z. type_nodes (σ.types d (var.Bound d)) ≤ type_nodes (σ.types d z)) (sym (here-is d v e)) (omega arith)
  held-type σ b d (ty.Opt' _ (its t alone)) e = up-one (type_nodes (put_type σ d t)) (here_nodes σ b d) (held-type σ b d t e)
  held-type σ b d (ty.Many' _ (its t alone)) e = up-one (type_nodes (put_type σ d t)) (here_nodes σ b d) (held-type σ b d t e)
  held-type σ b d (ty.Transaction' _ (its t alone)) e = up-one (type_nodes (put_type σ d t)) (here_nodes σ b d) (held-type σ b d t e)
  held-type σ b d (ty.Arrow' _ (its t alone) _ (its u alone)) e =
      in-arrow (type_nodes (put_type σ d t)) (type_nodes (put_type σ d u)) (here_nodes σ b d) (either (holds_type b d t) (holds_type b d u) e) (λ h. held-type σ b d t h) (λ h. held-type σ b d u h)
  held-type σ b d (ty.Record' _ r) e = subst (λ n. here_nodes σ b d ≤ n) (sym (record-nodes (put_parts σ d r))) (held-parts σ b d r e)
  held-type σ b d (ty.Form' _ r) e = subst (λ n. here_nodes σ b d ≤ n) (sym (form-nodes (put_parts σ d r))) (held-parts σ b d r e)
  held-type σ b d t e = absurd (cc)

  held-parts : {n : _} (σ : Putting) (b : Bool) (d : ℕ) (r : Row_of-Part n) → holds_parts b d r ≡ true → here_nodes σ b d ≤ row_nodes (put_parts σ d r) + 1
  held-parts σ b d end e = absurd (cc)
  held-parts σ b d (more p r) e = in-sum (row_nodes (put_part σ d p)) (row_nodes (put_parts σ d r)) (here_nodes σ b d) (row_nodes (joined (put_part σ d p) (put_parts σ d r))) (joined-nodes (put_part σ d p) (put_parts σ d r))
      (either (holds_part b d p) (holds_parts b d r) e) (λ h. held-part σ b d p h) (λ h. held-parts σ b d r h)

  held-part : (σ : Putting) (b : Bool) (d : ℕ) (p : Part) → holds_part b d p ≡ true → here_nodes σ b d ≤ row_nodes (put_part σ d p) + 1
  held-part σ b d (part.Field' l _ (its t alone)) e = twice (type_nodes (put_type σ d t)) (here_nodes σ b d) (held-type σ b d t e) where
    twice : (a n : ℕ) → n ≤ a → n ≤ a + 1 + 0 + 1
    twice a n h = omega arith
  held-part σ true d (part.Piece v) e = subst (λ z. row_nodes (σ.rows d (var.Bound d)) + 1 ≤ row_nodes (σ.rows d z) + 1) (sym (here-is d v e)) (omega arith)
  held-part σ false d (part.Piece v) e = absurd (cc)
  held-part σ b d (part.Mapped' v _ (its f alone)) e = absurd (cc)

held-row : (σ : Putting) (b : Bool) (d : ℕ) (r : List Part) → holds_row b d r ≡ true → here_nodes σ b d ≤ row_nodes (put_row σ d r) + 1
held-row σ b d [] e = absurd (cc)
held-row σ b d (p ∷ r) e = in-sum (row_nodes (put_part σ d p)) (row_nodes (put_row σ d r)) (here_nodes σ b d) (row_nodes (joined (put_part σ d p) (put_row σ d r))) (joined-nodes (put_part σ d p) (put_row σ d r))
    (either (holds_part b d p) (holds_row b d r) e) (λ h. held-part σ b d p h) (λ h. held-row σ b d r h)

-- a body that holds the variable has no fewer nodes than what takes its place
pub held-body : (σ : Putting) (b : Bool) (n : Normal) → holds b n ≡ true → here_nodes σ b 0 ≤ nodes (put σ 0 n)
held-body σ b (normal.Type t) e = held-type σ b 0 t e
held-body σ b (normal.Name l) e = absurd (cc)
held-body σ b (normal.Row r) e = held-row σ b 0 r e
held-body σ b (normal.Fn' k _ (the c sole)) e = absurd (cc)
