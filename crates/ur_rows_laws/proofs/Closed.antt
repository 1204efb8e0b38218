-- Instances at constructors without bound variables go past raising, functions of types and maps.
use Rattle.std.proofs.Common.{◌≡◌, refl, ap, sym, ◌∙◌, ℕ, zero, suc, ◌+◌, ◌<◌, Bool, true, List, [], ◌∷◌, slice_get, slice_index_or, Option, Some, arith}
use Rattle.ur_syntax.specs.declared.kind.Kind.{Kind}
use Rattle.ur_syntax.specs.declared.kind.Kind.TheVariants as kind
use Rattle.ur_rows.specs.declared.normal.Var.{Var}
use Rattle.ur_rows.specs.declared.normal.Var.TheVariants as var
use Rattle.ur_rows.specs.declared.normal.Label.{Label}
use Rattle.ur_rows.specs.declared.normal.Label.TheVariants as label
use Rattle.ur_rows.specs.declared.normal.NormalType.{NormalType}
use Rattle.ur_rows.specs.declared.normal.NormalType.TheVariants as ty
use Rattle.ur_rows.specs.declared.normal.Part.{Part}
use Rattle.ur_rows.specs.declared.normal.Part.TheVariants as part
use Rattle.ur_rows.specs.declared.normal.Normal.{Normal}
use Rattle.ur_rows.specs.declared.normal.Normal.TheVariants as normal
use Rattle.ur_rows.specs.Made.{unit}
use Rattle.ur_rows.specs.IsNormal.{is_row, is_normal_type, all_normal_parts, is_normal_row}
use Rattle.ur_rows.specs.Kinded.{Variables, kind_at, is_star, is_name, is_row as is_of_row, label_is_in, with_bound, type_is_in, row_is_in}
use Rattle.ur_rows.specs.Put.{as_type, as_label, as_row, put_label, put_type, put_row, mapped_variable, raised_var, raising, mapped_row, arguments}
use Rattle.ur_rows.proofs.Order.{and-left, and-right}
use Rattle.ur_rows.proofs.PutAfter.{put_type-same, Stands, low, here, high}
use Rattle.ur_rows.proofs.InOrder.{as_type-normal, as_row-normal, mapped_row-normal}
use Rattle.ur_rows_laws.specs.Instances.{outside, are_of_kinds, EachNormal, InstanceOfMap}
use Rattle.ur_rows_laws.proofs.Kept.{type-kept, nth-of-kind, is-star, is-name, is-row, type-of, label-of, row-of, arg-rows, arguments-keep}
use Rattle.ur_rows_laws.proofs.Levels.{stands, raised-low, raised-high}
use Rattle.ur_rows_laws.proofs.After.{ComposesIn, type-after, row-after, row-same, Proper, put-mapped, raising-proper, type_at-proper}
use Rattle.ur_rows_laws.proofs.Passing.{itself, itself-same, Passes, raising-passes, type_at-passes, applied-past, map-past}

-- ---- what has no bound variables is raised to itself

-- the bound variables in scope are those of as many functions
abbrev Bounded : ℕ → Variables → Type 0
Bounded a vs = (i : ℕ) (k : Kind) → slice_get vs.bound i ≡ Some k → i < a

bounded-deeper : (a : ℕ) (o : Kind) (vs : Variables) → Bounded a vs → Bounded (suc a) (with_bound o vs)
bounded-deeper a o vs b zero k e = omega arith
bounded-deeper a o vs b (suc i) k e = next (b i k e) where
  next : i < a → suc i < suc a
  next h = omega arith

stays : (k a : ℕ) (vs : Variables) (o : Kind) (v : Var) → Bounded a vs → kind_at vs v ≡ Some o → raised_var k a v ≡ v
stays k a vs o (var.Free m) b e = refl
stays k a vs o (var.Bound i) b e = raised-low k a i (b i o e)

raises-none : (k : ℕ) → ComposesIn (λ a b c vs. Bounded a vs) (raising k) itself itself
raises-none k = record {
  deeper = λ o a b c vs s. bounded-deeper a o vs s;
  types = λ a b c vs s v h. ap (λ w. ty.Variable w) (stays k a vs kind.Star v s (is-star (kind_at vs v) h));
  labels = λ a b c vs s v h. ap (λ w. label.Variable w) (stays k a vs kind.Name v s (is-name (kind_at vs v) h));
  rows = λ a b c vs s v h. ap (λ w. part.Piece w ∷ []) (stays k a vs kind.Row v s (is-row (kind_at vs v) h));
  maps = λ a b c vs s v h f i. put-mapped (raising-proper k) a v (put_type itself (suc b) f) ∙
      ap (λ w. mapped_variable (put_type (raising k) (suc a) (put_type itself (suc b) f)) w ∷ []) (stays k a vs kind.Row v s (is-row (kind_at vs v) h));
}

none-bound : (free : List Kind) (a : ℕ) → Bounded a (outside free)
none-bound free a i k e = absurd (never e) where
  never : kind_at (outside free) (var.Bound i) ≡ Some k → ⊥
  never f = cc

type-stays : (free : List Kind) (k c : ℕ) (t : NormalType) → is_normal_type t ≡ true → type_is_in (outside free) t ≡ true → put_type (raising k) c t ≡ t
type-stays free k c t n e = ap (put_type (raising k) c) (sym (put_type-same itself-same 0 t n)) ∙ type-after (raises-none k) c 0 0 (outside free) (none-bound free c) t e ∙ put_type-same itself-same 0 t n

row-stays : (free : List Kind) (k c : ℕ) (r : List Part) → is_normal_row r ≡ true → row_is_in (outside free) r ≡ true → put_row (raising k) c r ≡ r
row-stays free k c r n e = ap (put_row (raising k) c) (sym (row-same itself-same 0 r n)) ∙ row-after (raises-none k) c 0 0 (outside free) (none-bound free c) r e ∙ row-same itself-same 0 r n

label-stays : (free : List Kind) (k c : ℕ) (l : Label) → label_is_in (outside free) l ≡ true → put_label (raising k) c l ≡ l
label-stays free k c (label.Literal x) e = refl
label-stays free k c (label.Variable v) e = ap (λ w. label.Variable w) (stays k c (outside free) kind.Name v (none-bound free c) (is-name (kind_at (outside free) v) e))

-- ---- the arguments

abbrev at : List Normal → ℕ → Normal
at args n = slice_index_or args n (normal.Type unit)

types-normal : (args : List Normal) → EachNormal args → (d : ℕ) (v : Var) → is_normal_type ((arguments args).types d v) ≡ true
types-normal args e d (var.Free n) = as_type-normal (at args n) (e n)
types-normal args e d (var.Bound i) = refl

rows-normal : (args : List Normal) → EachNormal args → (d : ℕ) (v : Var) → is_normal_row ((arguments args).rows d v) ≡ true
rows-normal args e d (var.Free n) = as_row-normal (at args n) (e n)
rows-normal args e d (var.Bound i) = refl

pub arguments-proper : (args : List Normal) → EachNormal args → Proper (arguments args)
arguments-proper args e = record {
  normal = record {
    types = types-normal args e;
    rows = λ d v. and-right (is_row ((arguments args).rows d v)) (all_normal_parts ((arguments args).rows d v)) (rows-normal args e d v);
    maps = λ d v g h. and-right (is_row (mapped_row g ((arguments args).rows d v))) (all_normal_parts (mapped_row g ((arguments args).rows d v))) (mapped_row-normal g ((arguments args).rows d v) h);
  };
  sorted = λ d v. and-left (is_row ((arguments args).rows d v)) (all_normal_parts ((arguments args).rows d v)) (rows-normal args e d v);
  maps = λ d v g. refl;
  inner_types = λ d i h. refl;
  inner_labels = λ d i h. refl;
  inner_rows = λ d i h. refl;
}

-- the free variables are of these kinds
abbrev pub Free : List Kind → Variables → ℕ → Type 0
Free kinds vs n = vs.free ≡ kinds

-- a bound variable that is raised
raised-somewhere : (k c i : ℕ) → (j : ℕ) × (raised_var k c (var.Bound i) ≡ var.Bound j)
raised-somewhere k c i = go (stands i c) where
  go : Stands i c → (j : ℕ) × (raised_var k c (var.Bound i) ≡ var.Bound j)
  go (low z) = (i, raised-low k c i z)
  go (here z) = (i + k, raised-high k c i (omega arith))
  go (high z) = (i + k, raised-high k c i (omega arith))

free-kind : (f : Option Kind → Bool) (kinds : List Kind) (vs : Variables) (m : ℕ) → vs.free ≡ kinds → f (kind_at vs (var.Free m)) ≡ true → f (slice_get kinds m) ≡ true
free-kind f kinds vs m e h = ap (λ z. f (slice_get z m)) (sym e) ∙ h

types-pass : (free kinds : List Kind) (args : List Normal) → EachNormal args → are_of_kinds (outside free) args kinds ≡ true → (vs : Variables) (n k c : ℕ) → vs.free ≡ kinds → (v : Var) → is_star (kind_at vs v) ≡ true →
    (arguments args).types (n + k) (raised_var k c v) ≡ put_type (raising k) c ((arguments args).types n v)
types-pass free kinds args e a vs n k c s (var.Free m) h = sym (type-stays free k c (as_type (at args m)) (as_type-normal (at args m) (e m))
    (type-of (outside free) (at args m) (nth-of-kind (outside free) args kinds m kind.Star a (is-star (slice_get kinds m) (free-kind is_star kinds vs m s h)))))
types-pass free kinds args e a vs n k c s (var.Bound i) h = go (raised-somewhere k c i) where
  go : (j : ℕ) × (raised_var k c (var.Bound i) ≡ var.Bound j) → (arguments args).types (n + k) (raised_var k c (var.Bound i)) ≡ ty.Variable (raised_var k c (var.Bound i))
  go j = ap ((arguments args).types (n + k)) j.1 ∙ ap (λ w. ty.Variable w) (sym j.1)

labels-pass : (free kinds : List Kind) (args : List Normal) → are_of_kinds (outside free) args kinds ≡ true → (vs : Variables) (n k c : ℕ) → vs.free ≡ kinds → (v : Var) → is_name (kind_at vs v) ≡ true →
    (arguments args).labels (n + k) (raised_var k c v) ≡ put_label (raising k) c ((arguments args).labels n v)
labels-pass free kinds args a vs n k c s (var.Free m) h = sym (label-stays free k c (as_label (at args m))
    (label-of (outside free) (at args m) (nth-of-kind (outside free) args kinds m kind.Name a (is-name (slice_get kinds m) (free-kind is_name kinds vs m s h)))))
labels-pass free kinds args a vs n k c s (var.Bound i) h = go (raised-somewhere k c i) where
  go : (j : ℕ) × (raised_var k c (var.Bound i) ≡ var.Bound j) → (arguments args).labels (n + k) (raised_var k c (var.Bound i)) ≡ label.Variable (raised_var k c (var.Bound i))
  go j = ap ((arguments args).labels (n + k)) j.1 ∙ ap (λ w. label.Variable w) (sym j.1)

rows-pass : (free kinds : List Kind) (args : List Normal) → EachNormal args → are_of_kinds (outside free) args kinds ≡ true → (vs : Variables) (n k c : ℕ) → vs.free ≡ kinds → (v : Var) → is_of_row (kind_at vs v) ≡ true →
    (arguments args).rows (n + k) (raised_var k c v) ≡ put_row (raising k) c ((arguments args).rows n v)
rows-pass free kinds args e a vs n k c s (var.Free m) h = sym (row-stays free k c (as_row (at args m)) (as_row-normal (at args m) (e m))
    (row-of (outside free) (at args m) (nth-of-kind (outside free) args kinds m kind.Row a (is-row (slice_get kinds m) (free-kind is_of_row kinds vs m s h)))))
rows-pass free kinds args e a vs n k c s (var.Bound i) h = go (raised-somewhere k c i) where
  go : (j : ℕ) × (raised_var k c (var.Bound i) ≡ var.Bound j) → (arguments args).rows (n + k) (raised_var k c (var.Bound i)) ≡ part.Piece (raised_var k c (var.Bound i)) ∷ []
  go j = ap ((arguments args).rows (n + k)) j.1 ∙ ap (λ w. part.Piece w ∷ []) (sym j.1)

-- what the arguments' own scope has for the variables of vs
abbrev pub instead : List Kind → Variables → Variables
instead free vs = record { free = free; bound = vs.bound }

pub mapped-in : (free kinds : List Kind) (args : List Normal) → are_of_kinds (outside free) args kinds ≡ true → (vs : Variables) (n : ℕ) → vs.free ≡ kinds → (f : NormalType) → type_is_in (with_bound kind.Star vs) f ≡ true →
    type_is_in (with_bound kind.Star (instead free vs)) (put_type (arguments args) (suc n) f) ≡ true
mapped-in free kinds args a vs n s f h = type-kept (arguments-keep free kinds args a) (with_bound kind.Star vs) (with_bound kind.Star (instead free vs)) (suc n) (s, refl, refl) f h

pub arguments-pass : (free kinds : List Kind) (args : List Normal) → EachNormal args → are_of_kinds (outside free) args kinds ≡ true → Passes (Free kinds) (arguments args)
arguments-pass free kinds args e a = record {
  deeper = λ o vs n s. s;
  types = λ vs n k c s b v h. types-pass free kinds args e a vs n k c s v h;
  labels = λ vs n k c s b v h. labels-pass free kinds args a vs n k c s v h;
  rows = λ vs n k c s b v h. rows-pass free kinds args e a vs n k c s v h;
  past_raising = λ vs n k c s v h f i. map-past (raising-proper k) (raising-passes k) c (instead free vs) tt (put_type (arguments args) (suc n) f) ((arguments args).rows n v)
      (mapped-in free kinds args a vs n s f i) (arg-rows free kinds args a vs (instead free vs) n (s, refl, refl) v h);
  past_type = λ vs n c t s b o v h f i. map-past (type_at-proper 1 t) (type_at-passes t) c (instead free vs) o (put_type (arguments args) (suc n) f) ((arguments args).rows n v)
      (mapped-in free kinds args a vs n s f i) (arg-rows free kinds args a vs (instead free vs) n (s, refl, refl) v h);
}

pub of-map : InstanceOfMap
of-map = record {
  rows = λ free kinds args f r e a hf hr. map-past (arguments-proper args e) (arguments-pass free kinds args e a) 0 (outside kinds) refl f r hf hr;
  applied = λ free kinds args f t e a hf ht. applied-past (arguments-proper args e) (arguments-pass free kinds args e a) 0 (outside kinds) refl f t hf ht;
}
