-- One substitution after another is one substitution, where variables are in scope with their kinds.
use Rattle.std.proofs.Common.{◌≡◌, refl, ap, ap₂, sym, ◌∙◌, ℕ, zero, suc, ◌<◌, true, ◌&&◌, List, [], ◌∷◌, arith}
use Rattle.ur_syntax.specs.declared.kind.Kind.{Kind}
use Rattle.ur_syntax.specs.declared.kind.Kind.TheVariants as kind
use Rattle.ur_rows.specs.declared.normal.Var.{Var}
use Rattle.ur_rows.specs.declared.normal.Var.TheVariants as var
use Rattle.ur_rows.specs.declared.normal.Label.{Label}
use Rattle.ur_rows.specs.declared.normal.Label.TheVariants as label
use Rattle.ur_rows.specs.declared.normal.NormalType.{NormalType}
use Rattle.ur_rows.specs.declared.normal.NormalType.TheVariants as ty
use Rattle.ur_rows.specs.declared.normal.NormalType.TheBlock.{end_of-NormalType as alone, more_of-NormalType as its, Row_of-Part, end_of-Part as end, more_of-Part as more}
use Rattle.ur_rows.specs.declared.normal.Part.{Part}
use Rattle.ur_rows.specs.declared.normal.Part.TheVariants as part
use Rattle.ur_rows.specs.Made.{option_of, list_of, transaction_of, arrow_of, field, row, record_of, form_of, parts}
use Rattle.ur_rows.specs.IsNormal.{is_row, is_normal_type, are_normal_parts, all_normal_parts, is_normal_row}
use Rattle.ur_rows.specs.Order.{joined}
use Rattle.ur_rows.specs.Kinded.{Variables, kind_at, is_star, is_name, is_row as is_of_row, label_is_in, with_bound, type_is_in, parts_are_in, part_is_in, row_is_in}
use Rattle.ur_rows.specs.Put.{Putting, put_label, put_type, put_parts, put_part, put_row, mapped_variable, raised_var, raising, type_at, mapped_row}
use Rattle.ur_rows.proofs.Order.{and-left, and-right, joined-nil, parts-row}
use Rattle.ur_rows.proofs.PutAfter.{Composes, put_part-after, put_row-joined, put_parts-row, IsIdentity, put_parts-same, mapped_row-itself}
use Rattle.ur_rows.proofs.InOrder.{PutsNormal, put_type-normal, record-normal, mapped_row-normal, type_at-normal}
use Rattle.ur_rows_laws.proofs.Levels.{raised-low, at-low}

-- σ after τ is ρ, where these stand within as many `fn`s as L says, and variables are in scope as it says
pub record ComposesIn (L : ℕ → ℕ → ℕ → Variables → Type 0) (σ τ ρ : Putting) : Type 0 where
  pub deeper : (o : Kind) (a b c : ℕ) (vs : Variables) → L a b c vs → L (suc a) (suc b) (suc c) (with_bound o vs)
  pub types : (a b c : ℕ) (vs : Variables) → L a b c vs → (v : Var) → is_star (kind_at vs v) ≡ true → put_type σ a (τ.types b v) ≡ ρ.types c v
  pub labels : (a b c : ℕ) (vs : Variables) → L a b c vs → (v : Var) → is_name (kind_at vs v) ≡ true → put_label σ a (τ.labels b v) ≡ ρ.labels c v
  pub rows : (a b c : ℕ) (vs : Variables) → L a b c vs → (v : Var) → is_of_row (kind_at vs v) ≡ true → put_row σ a (τ.rows b v) ≡ ρ.rows c v
  pub maps : (a b c : ℕ) (vs : Variables) → L a b c vs → (v : Var) → is_of_row (kind_at vs v) ≡ true → (f : NormalType) → type_is_in (with_bound kind.Star vs) f ≡ true →
      put_row σ a (τ.maps b v (put_type τ (suc b) f)) ≡ ρ.maps c v (put_type σ (suc a) (put_type τ (suc b) f))

pub label-after : {L : ℕ → ℕ → ℕ → Variables → Type 0} {σ τ ρ : Putting} → ComposesIn L σ τ ρ → (a b c : ℕ) (vs : Variables) → L a b c vs → (l : Label) → label_is_in vs l ≡ true →
    put_label σ a (put_label τ b l) ≡ put_label ρ c l
label-after k a b c vs at (label.Literal x) e = refl
label-after k a b c vs at (label.Variable v) e = k.labels a b c vs at v e

mutual
  pub type-after : {L : ℕ → ℕ → ℕ → Variables → Type 0} {σ τ ρ : Putting} → ComposesIn L σ τ ρ → (a b c : ℕ) (vs : Variables) → L a b c vs → (t : NormalType) → type_is_in vs t ≡ true →
      put_type σ a (put_type τ b t) ≡ put_type ρ c t
  type-after k a b c vs at (ty.Variable v) e = k.types a b c vs at v e
  type-after k a b c vs at (ty.Opt' _ (its t alone)) e = ap option_of (type-after k a b c vs at t (and-left (type_is_in vs t) true e))
  type-after k a b c vs at (ty.Many' _ (its t alone)) e = ap list_of (type-after k a b c vs at t (and-left (type_is_in vs t) true e))
  type-after k a b c vs at (ty.Transaction' _ (its t alone)) e = ap transaction_of (type-after k a b c vs at t (and-left (type_is_in vs t) true e))
  type-after k a b c vs at (ty.Arrow' _ (its t alone) _ (its u alone)) e = ap₂ arrow_of
      (type-after k a b c vs at t (and-left (type_is_in vs t) true (and-left (type_is_in vs t && true) (type_is_in vs u && true) e)))
      (type-after k a b c vs at u (and-left (type_is_in vs u) true (and-right (type_is_in vs t && true) (type_is_in vs u && true) e)))
  type-after {σ = σ} {τ = τ} k a b c vs at (ty.Record' _ x) e = ap record_of (put_parts-row σ a (put_parts τ b x) ∙ parts-after k a b c vs at x e)
  type-after {σ = σ} {τ = τ} k a b c vs at (ty.Form' _ x) e = ap form_of (put_parts-row σ a (put_parts τ b x) ∙ parts-after k a b c vs at x e)
  type-after k a b c vs at t e = refl

  pub parts-after : {L : ℕ → ℕ → ℕ → Variables → Type 0} {σ τ ρ : Putting} {n : _} → ComposesIn L σ τ ρ → (a b c : ℕ) (vs : Variables) → L a b c vs → (x : Row_of-Part n) → parts_are_in vs x ≡ true →
      put_row σ a (put_parts τ b x) ≡ put_parts ρ c x
  parts-after k a b c vs at end e = refl
  parts-after {σ = σ} {τ = τ} k a b c vs at (more p x) e = put_row-joined σ a (put_part τ b p) (put_parts τ b x) ∙
      ap₂ joined (part-after k a b c vs at p (and-left (part_is_in vs p) (parts_are_in vs x) e)) (parts-after k a b c vs at x (and-right (part_is_in vs p) (parts_are_in vs x) e))

  pub part-after : {L : ℕ → ℕ → ℕ → Variables → Type 0} {σ τ ρ : Putting} → ComposesIn L σ τ ρ → (a b c : ℕ) (vs : Variables) → L a b c vs → (p : Part) → part_is_in vs p ≡ true →
      put_row σ a (put_part τ b p) ≡ put_part ρ c p
  part-after k a b c vs at (part.Field' l _ (its t alone)) e = ap₂ (λ x y. field x y ∷ []) (label-after k a b c vs at l (and-left (label_is_in vs l) (type_is_in vs t && true) e))
      (type-after k a b c vs at t (and-left (type_is_in vs t) true (and-right (label_is_in vs l) (type_is_in vs t && true) e)))
  part-after k a b c vs at (part.Piece v) e = k.rows a b c vs at v e
  part-after {ρ = ρ} k a b c vs at (part.Mapped' v _ (its f alone)) e =
      k.maps a b c vs at v (and-left (is_of_row (kind_at vs v)) (type_is_in (with_bound kind.Star vs) f && true) e) f
      (and-left (type_is_in (with_bound kind.Star vs) f) true (and-right (is_of_row (kind_at vs v)) (type_is_in (with_bound kind.Star vs) f && true) e)) ∙
      ap (ρ.maps c v) (type-after k (suc a) (suc b) (suc c) (with_bound kind.Star vs) (k.deeper kind.Star a b c vs at) f
      (and-left (type_is_in (with_bound kind.Star vs) f) true (and-right (is_of_row (kind_at vs v)) (type_is_in (with_bound kind.Star vs) f && true) e)))

pub row-after : {L : ℕ → ℕ → ℕ → Variables → Type 0} {σ τ ρ : Putting} → ComposesIn L σ τ ρ → (a b c : ℕ) (vs : Variables) → L a b c vs → (r : List Part) → row_is_in vs r ≡ true →
    put_row σ a (put_row τ b r) ≡ put_row ρ c r
row-after k a b c vs at [] e = refl
row-after {σ = σ} {τ = τ} k a b c vs at (p ∷ r) e = put_row-joined σ a (put_part τ b p) (put_row τ b r) ∙
    ap₂ joined (part-after k a b c vs at p (and-left (part_is_in vs p) (row_is_in vs r) e)) (row-after k a b c vs at r (and-right (part_is_in vs p) (row_is_in vs r) e))

-- the same for a row, whatever the kinds
pub row-after-all : {L : ℕ → ℕ → ℕ → Type 0} {σ τ ρ : Putting} → Composes L σ τ ρ → (a b c : ℕ) → L a b c → (r : List Part) → put_row σ a (put_row τ b r) ≡ put_row ρ c r
row-after-all k a b c at [] = refl
row-after-all {σ = σ} {τ = τ} k a b c at (p ∷ r) = put_row-joined σ a (put_part τ b p) (put_row τ b r) ∙ ap₂ joined (put_part-after k a b c at p) (row-after-all k a b c at r)

pub row-same : {σ : Putting} → IsIdentity σ → (d : ℕ) (r : List Part) → is_normal_row r ≡ true → put_row σ d r ≡ r
row-same {σ} i d r e = sym (put_parts-row σ d r) ∙ put_parts-same i d (row r).1 (and-left (is_row (parts (row r).1)) (are_normal_parts (row r).1) (record-normal r e))
    (and-right (is_row (parts (row r).1)) (are_normal_parts (row r).1) (record-normal r e)) ∙ parts-row r

-- ---- substitutions of normal forms that leave the variables of functions inside as they are

pub record Proper (σ : Putting) : Type 0 where
  pub normal : PutsNormal σ
  pub sorted : (d : ℕ) (v : Var) → is_row (σ.rows d v) ≡ true
  pub maps : (d : ℕ) (v : Var) (g : NormalType) → σ.maps d v g ≡ mapped_row g (σ.rows d v)
  pub inner_types : (d i : ℕ) → i < d → σ.types d (var.Bound i) ≡ ty.Variable (var.Bound i)
  pub inner_labels : (d i : ℕ) → i < d → σ.labels d (var.Bound i) ≡ label.Variable (var.Bound i)
  pub inner_rows : (d i : ℕ) → i < d → σ.rows d (var.Bound i) ≡ part.Piece (var.Bound i) ∷ []

map-sorted : {σ : Putting} → Proper σ → (d : ℕ) (v : Var) (g : NormalType) → is_normal_type g ≡ true → is_row (mapped_row g (σ.rows d v)) ≡ true
map-sorted {σ} p d v g e = and-left (is_row (mapped_row g (σ.rows d v))) (all_normal_parts (mapped_row g (σ.rows d v))) (mapped_row-normal g (σ.rows d v) e)

first-in : (d : ℕ) → 0 < suc d
first-in d = omega arith

row-normal : {σ : Putting} → Proper σ → (d : ℕ) (v : Var) → is_normal_row (σ.rows d v) ≡ true
row-normal {σ} p d v = both (p.sorted d v) (p.normal.rows d v) where
  both : is_row (σ.rows d v) ≡ true → all_normal_parts (σ.rows d v) ≡ true → is_normal_row (σ.rows d v) ≡ true
  both e f = ap₂ (λ x y. x && y) e f

-- a map of a row variable
pub part-mapped : {σ : Putting} → Proper σ → (d : ℕ) (v : Var) (g : NormalType) → put_part σ d (mapped_variable g v) ≡ mapped_row (put_type σ (suc d) g) (σ.rows d v)
part-mapped {σ} p d v (ty.Variable (var.Bound zero)) = sym (ap (λ x. mapped_row x (σ.rows d v)) (p.inner_types (suc d) 0 (first-in d)) ∙ mapped_row-itself (σ.rows d v) (row-normal p d v))
part-mapped {σ} p d v g = p.maps d v (put_type σ (suc d) g)

pub put-mapped : {σ : Putting} → Proper σ → (d : ℕ) (v : Var) (g : NormalType) → put_row σ d (mapped_variable g v ∷ []) ≡ mapped_row (put_type σ (suc d) g) (σ.rows d v)
put-mapped {σ} p d v g = ap (λ x. joined x []) (part-mapped p d v g) ∙ joined-nil (mapped_row (put_type σ (suc d) g) (σ.rows d v)) (map-sorted p d v (put_type σ (suc d) g) (put_type-normal p.normal (suc d) g))

-- ---- raising, and a type in place of a variable

pub raising-proper : (by : ℕ) → Proper (raising by)
raising-proper by = record {
  normal = record {
    types = λ d v. refl;
    rows = λ d v. refl;
    maps = λ d v g e. and-right (is_row (mapped_row g (part.Piece (raised_var by d v) ∷ []))) (all_normal_parts (mapped_row g (part.Piece (raised_var by d v) ∷ []))) (mapped_row-normal g (part.Piece (raised_var by d v) ∷ []) e);
  };
  sorted = λ d v. refl;
  maps = λ d v g. refl;
  inner_types = λ d i h. ap (λ w. ty.Variable w) (raised-low by d i h);
  inner_labels = λ d i h. ap (λ w. label.Variable w) (raised-low by d i h);
  inner_rows = λ d i h. ap (λ w. part.Piece w ∷ []) (raised-low by d i h);
}

pub type_at-proper : (by : ℕ) (t : NormalType) → Proper (type_at by t)
type_at-proper by t = record {
  normal = type_at-normal by t;
  sorted = λ d v. refl;
  maps = λ d v g. refl;
  inner_types = λ d i h. at-low by d i (put_type (raising d) 0 t) (λ w. ty.Variable w) h;
  inner_labels = λ d i h. ap (λ w. label.Variable w) (at-low by d i (var.Bound d) (λ w. w) h);
  inner_rows = λ d i h. ap (λ w. part.Piece w ∷ []) (at-low by d i (var.Bound d) (λ w. w) h);
}
