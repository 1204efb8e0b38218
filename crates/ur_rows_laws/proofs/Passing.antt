-- Substitutions go past raising, past a type in place of a variable, and past maps.
use Rattle.std.proofs.Common.{◌≡◌, refl, ap, ap₂, sym, ◌∙◌, subst, ℕ, suc, ◌+◌, ◌-◌, ◌≤◌, ◌<◌, true, false, ◌&&◌, List, [], ◌∷◌, slice_get, Some, arith}
use Rattle.std.proofs.lemmas.Bool.Decides.{nat_tests}
use Rattle.ur_syntax.specs.declared.kind.Kind.{Kind}
use Rattle.ur_syntax.specs.declared.kind.Kind.TheVariants as kind
use Rattle.ur_rows.specs.declared.normal.Var.{Var}
use Rattle.ur_rows.specs.declared.normal.Var.TheVariants as var
use Rattle.ur_rows.specs.declared.normal.Label.{Label}
use Rattle.ur_rows.specs.declared.normal.Label.TheVariants as label
use Rattle.ur_rows.specs.declared.normal.NormalType.{NormalType}
use Rattle.ur_rows.specs.declared.normal.NormalType.TheVariants as ty
use Rattle.ur_rows.specs.declared.normal.NormalType.TheBlock.{end_of-NormalType as alone, more_of-NormalType as its}
use Rattle.ur_rows.specs.declared.normal.Part.{Part}
use Rattle.ur_rows.specs.declared.normal.Part.TheVariants as part
use Rattle.ur_rows.specs.Made.{field}
use Rattle.ur_rows.specs.IsNormal.{is_row, is_normal_type, all_normal_parts, is_normal_row}
use Rattle.ur_rows.specs.Order.{joined}
use Rattle.ur_rows.specs.Kinded.{Variables, kind_at, is_star, is_name, is_row as is_of_row, label_is_in, with_bound, type_is_in, part_is_in, row_is_in}
use Rattle.ur_rows.specs.Put.{Putting, put_label, put_type, put_part, put_row, mapped_variable, renaming_but, raised_var, raising, raised_type, at_fn, nearer, is_here, type_at, applied_type, composed, mapped_part, mapped_row}
use Rattle.ur_rows.proofs.Order.{and-left, and-right, joined-nil}
use Rattle.ur_rows.proofs.PutAfter.{Composes, put_type-after, put_row-with_part, IsIdentity, put_type-same, mapped_row-joined, mapped_row-twice, Stands, low, here, high}
use Rattle.ur_rows.proofs.InOrder.{put_type-normal}
use Rattle.ur_rows_laws.proofs.Kept.{type-kept, Raised, raised-deeper, raising-keeps, Placed, not-here, others-deeper, outer-deeper, raised-none, applied-others}
use Rattle.ur_rows_laws.proofs.Levels.{bound, stands, raised-low, raised-high, not-low, not-high, at-low, at-here, at-high, raised-past, raised-twice, at-raised-one, at-composed, from-nearer}
use Rattle.ur_rows_laws.proofs.After.{ComposesIn, type-after, row-after, row-after-all, row-same, Proper, part-mapped, put-mapped, raising-proper, type_at-proper}

-- ---- a type is put into what was raised for it

abbrev pub itself : Putting
itself = renaming_but (λ d v. v) (λ d v. ty.Variable v)

pub itself-same : IsIdentity itself
itself-same = record { types = λ d v. refl; labels = λ d v. refl; rows = λ d v. refl; maps = λ d v g. refl }

abbrev pub Level : ℕ → ℕ → ℕ → Type 0
Level a b c = (a ≡ c) × (b ≡ c)

cancels : (t : NormalType) → Composes Level (type_at 1 t) (raising 1) itself
cancels t = record {
  deeper = λ a b c at. (ap (λ n. suc n) at.0, ap (λ n. suc n) at.1);
  types = λ a b c at v. ap₂ (λ x y. at_fn 1 x (raised_var 1 y v) (raised_type x t) (λ w. ty.Variable w)) at.0 at.1 ∙ at-raised-one c v (raised_type c t) (λ w. ty.Variable w);
  labels = λ a b c at v. ap (λ w. label.Variable w) (vars a b c at v);
  rows = λ a b c at v. ap (λ w. part.Piece w ∷ []) (vars a b c at v);
  maps = λ a b c at v g. put-mapped (type_at-proper 1 t) a (raised_var 1 b v) g ∙ ap (λ w. mapped_variable (put_type (type_at 1 t) (suc a) g) w ∷ []) (vars a b c at v);
} where
  vars : (a b c : ℕ) → Level a b c → (v : Var) → nearer 1 a (raised_var 1 b v) ≡ v
  vars a b c at v = ap₂ (λ x y. nearer 1 x (raised_var 1 y v)) at.0 at.1 ∙ at-raised-one c v (var.Bound c) (λ w. w)

type-back : (c : ℕ) (t u : NormalType) → is_normal_type u ≡ true → put_type (type_at 1 t) c (put_type (raising 1) c u) ≡ u
type-back c t u e = put_type-after (cancels t) c c c (refl, refl) u ∙ put_type-same itself-same c u e

row-back : (c : ℕ) (t : NormalType) (r : List Part) → is_normal_row r ≡ true → put_row (type_at 1 t) c (put_row (raising 1) c r) ≡ r
row-back c t r e = row-after-all (cancels t) c c c (refl, refl) r ∙ row-same itself-same c r e

label-back : (c : ℕ) (t : NormalType) (l : Label) → put_label (type_at 1 t) c (put_label (raising 1) c l) ≡ l
label-back c t (label.Literal x) = refl
label-back c t (label.Variable v) = ap (λ w. label.Variable w) (at-raised-one c v (var.Bound c) (λ w. w))

-- a composition puts a type into a function that stands within one more
composes-at : (g : NormalType) → Composes (λ a b c. (b ≡ suc c) × (a ≡ c)) (type_at 1 g) (raising 1) (type_at 0 g)
composes-at g = record {
  deeper = λ a b c at. (ap (λ n. suc n) at.0, ap (λ n. suc n) at.1);
  types = λ a b c at v. ap₂ (λ x y. at_fn 1 x (raised_var 1 y v) (raised_type x g) (λ w. ty.Variable w)) at.1 at.0 ∙ at-composed c v (raised_type c g) (λ w. ty.Variable w);
  labels = λ a b c at v. ap (λ w. label.Variable w) (vars a b c at.0 at.1 v);
  rows = λ a b c at v. ap (λ w. part.Piece w ∷ []) (vars a b c at.0 at.1 v);
  maps = λ a b c at v h. put-mapped (type_at-proper 1 g) a (raised_var 1 b v) h ∙ ap (λ w. mapped_variable (put_type (type_at 1 g) (suc a) h) w ∷ []) (vars a b c at.0 at.1 v);
} where
  vars : (a b c : ℕ) → b ≡ suc c → a ≡ c → (v : Var) → nearer 1 a (raised_var 1 b v) ≡ nearer 0 c v
  vars a b c h k v = ap₂ (λ x y. nearer 1 x (raised_var 1 y v)) k h ∙ at-composed c v (var.Bound c) (λ w. w)

composed-applied : (f g : NormalType) → composed f g ≡ applied_type (put_type (raising 1) 1 f) g
composed-applied f g = sym (put_type-after (composes-at g) 0 1 0 (refl, refl) f)

-- ---- substitutions that go past raising

-- S says which variables are in scope where the substitution stands within as many `fn`s
pub record Passes (S : Variables → ℕ → Type 0) (σ : Putting) : Type 0 where
  pub deeper : (o : Kind) (vs : Variables) (n : ℕ) → S vs n → S (with_bound o vs) (suc n)
  pub types : (vs : Variables) (n k c : ℕ) → S vs n → c ≤ n → (v : Var) → is_star (kind_at vs v) ≡ true → σ.types (n + k) (raised_var k c v) ≡ put_type (raising k) c (σ.types n v)
  pub labels : (vs : Variables) (n k c : ℕ) → S vs n → c ≤ n → (v : Var) → is_name (kind_at vs v) ≡ true → σ.labels (n + k) (raised_var k c v) ≡ put_label (raising k) c (σ.labels n v)
  pub rows : (vs : Variables) (n k c : ℕ) → S vs n → c ≤ n → (v : Var) → is_of_row (kind_at vs v) ≡ true → σ.rows (n + k) (raised_var k c v) ≡ put_row (raising k) c (σ.rows n v)
  pub past_raising : (vs : Variables) (n k c : ℕ) → S vs n → (v : Var) → is_of_row (kind_at vs v) ≡ true → (f : NormalType) → type_is_in (with_bound kind.Star vs) f ≡ true →
      put_row (raising k) c (mapped_row (put_type σ (suc n) f) (σ.rows n v)) ≡ mapped_row (put_type (raising k) (suc c) (put_type σ (suc n) f)) (put_row (raising k) c (σ.rows n v))
  pub past_type : (vs : Variables) (n c : ℕ) (t : NormalType) → S vs n → c < n → slice_get vs.bound c ≡ Some kind.Star → (v : Var) → is_of_row (kind_at vs v) ≡ true → (f : NormalType) →
      type_is_in (with_bound kind.Star vs) f ≡ true →
      put_row (type_at 1 t) c (mapped_row (put_type σ (suc n) f) (σ.rows n v)) ≡ mapped_row (put_type (type_at 1 t) (suc c) (put_type σ (suc n) f)) (put_row (type_at 1 t) c (σ.rows n v))

pub below : (m c : ℕ) → c ≤ m + c
below m c = omega arith

pub suc-plus : (m c : ℕ) → suc (m + c) ≡ m + suc c
suc-plus m c = omega arith

pub plus-none : (n : ℕ) → n ≡ n + 0
plus-none n = omega arith

pub next : (b m c : ℕ) → b ≡ m + c → suc b ≡ m + suc c
next b m c e = omega arith

-- both ways give this
abbrev pub raised-after : Putting → ℕ → ℕ → Putting
raised-after σ m k = record {
  types = λ c v. put_type (raising k) c (σ.types (m + c) v);
  labels = λ c v. put_label (raising k) c (σ.labels (m + c) v);
  rows = λ c v. put_row (raising k) c (σ.rows (m + c) v);
  maps = λ c v g. mapped_row g (put_row (raising k) c (σ.rows (m + c) v));
}

one-more : (a m c k : ℕ) → a ≡ m + c + k → suc a ≡ m + suc c + k
one-more a m c k e = omega arith

pub after-raising : {S : Variables → ℕ → Type 0} {σ : Putting} → Proper σ → Passes S σ → (m k : ℕ) →
    ComposesIn (λ a b c vs. S vs (m + c) × (a ≡ m + c + k) × (b ≡ c)) σ (raising k) (raised-after σ m k)
after-raising {S} {σ} p q m k = record {
  deeper = λ o a b c vs at. (subst (S (with_bound o vs)) (suc-plus m c) (q.deeper o vs (m + c) at.0), one-more a m c k at.1, ap (λ n. suc n) at.2);
  types = λ a b c vs at v h. ap₂ (λ x y. σ.types x (raised_var k y v)) at.1 at.2 ∙ q.types vs (m + c) k c at.0 (below m c) v h;
  labels = λ a b c vs at v h. ap₂ (λ x y. σ.labels x (raised_var k y v)) at.1 at.2 ∙ q.labels vs (m + c) k c at.0 (below m c) v h;
  rows = λ a b c vs at v h. joined-nil (σ.rows a (raised_var k b v)) (p.sorted a (raised_var k b v)) ∙ ap₂ (λ x y. σ.rows x (raised_var k y v)) at.1 at.2 ∙ q.rows vs (m + c) k c at.0 (below m c) v h;
  maps = λ a b c vs at v h f i. put-mapped p a (raised_var k b v) (put_type (raising k) (suc b) f) ∙
      ap (mapped_row (put_type σ (suc a) (put_type (raising k) (suc b) f))) (ap₂ (λ x y. σ.rows x (raised_var k y v)) at.1 at.2 ∙ q.rows vs (m + c) k c at.0 (below m c) v h);
}

pub before-raising : {S : Variables → ℕ → Type 0} {σ : Putting} → Proper σ → Passes S σ → (m k : ℕ) →
    ComposesIn (λ a b c vs. S vs (m + c) × (a ≡ c) × (b ≡ m + c)) (raising k) σ (raised-after σ m k)
before-raising {S} {σ} p q m k = record {
  deeper = λ o a b c vs at. (subst (S (with_bound o vs)) (suc-plus m c) (q.deeper o vs (m + c) at.0), ap (λ n. suc n) at.1, next b m c at.2);
  types = λ a b c vs at v h. ap₂ (λ x y. put_type (raising k) x (σ.types y v)) at.1 at.2;
  labels = λ a b c vs at v h. ap₂ (λ x y. put_label (raising k) x (σ.labels y v)) at.1 at.2;
  rows = λ a b c vs at v h. ap₂ (λ x y. put_row (raising k) x (σ.rows y v)) at.1 at.2;
  maps = λ a b c vs at v h f i. ap (put_row (raising k) a) (p.maps b v (put_type σ (suc b) f)) ∙ q.past_raising vs b k a (subst (S vs) (sym at.2) at.0) v h f i ∙
      ap (mapped_row (put_type (raising k) (suc a) (put_type σ (suc b) f))) (ap₂ (λ x y. put_row (raising k) x (σ.rows y v)) at.1 at.2);
}

type-raises : {S : Variables → ℕ → Type 0} {σ : Putting} → Proper σ → Passes S σ → (m k c : ℕ) (vs : Variables) → S vs (m + c) → (t : NormalType) → type_is_in vs t ≡ true →
    put_type σ (m + c + k) (put_type (raising k) c t) ≡ put_type (raising k) c (put_type σ (m + c) t)
type-raises p q m k c vs s t h = type-after (after-raising p q m k) (m + c + k) c c vs (s, refl, refl) t h ∙ sym (type-after (before-raising p q m k) c (m + c) c vs (s, refl, refl) t h)

row-raises : {S : Variables → ℕ → Type 0} {σ : Putting} → Proper σ → Passes S σ → (m k c : ℕ) (vs : Variables) → S vs (m + c) → (r : List Part) → row_is_in vs r ≡ true →
    put_row σ (m + c + k) (put_row (raising k) c r) ≡ put_row (raising k) c (put_row σ (m + c) r)
row-raises p q m k c vs s r h = row-after (after-raising p q m k) (m + c + k) c c vs (s, refl, refl) r h ∙ sym (row-after (before-raising p q m k) c (m + c) c vs (s, refl, refl) r h)

left-of : (n c : ℕ) → c ≤ n → n - c + c ≡ n
left-of n c l = omega arith

pub raise-past : {S : Variables → ℕ → Type 0} {σ : Putting} → Proper σ → Passes S σ → (n k c : ℕ) (vs : Variables) → c ≤ n → S vs n → (t : NormalType) → type_is_in vs t ≡ true →
    put_type σ (n + k) (put_type (raising k) c t) ≡ put_type (raising k) c (put_type σ n t)
raise-past {S} {σ} p q n k c vs l s t h = subst (λ z. put_type σ (z + k) (put_type (raising k) c t) ≡ put_type (raising k) c (put_type σ z t)) (left-of n c l)
    (type-raises p q (n - c) k c vs (subst (S vs) (sym (left-of n c l)) s) t h)

pub row-raise-past : {S : Variables → ℕ → Type 0} {σ : Putting} → Proper σ → Passes S σ → (n k c : ℕ) (vs : Variables) → c ≤ n → S vs n → (r : List Part) → row_is_in vs r ≡ true →
    put_row σ (n + k) (put_row (raising k) c r) ≡ put_row (raising k) c (put_row σ n r)
row-raise-past {S} {σ} p q n k c vs l s r h = subst (λ z. put_row σ (z + k) (put_row (raising k) c r) ≡ put_row (raising k) c (put_row σ z r)) (left-of n c l)
    (row-raises p q (n - c) k c vs (subst (S vs) (sym (left-of n c l)) s) r h)

-- ---- a function of types at an argument

abbrev pub placed-after : Putting → ℕ → NormalType → Putting
placed-after σ n t = record {
  types = λ c v. put_type σ (n + c) ((type_at 1 t).types c v);
  labels = λ c v. σ.labels (n + c) (nearer 1 c v);
  rows = λ c v. σ.rows (n + c) (nearer 1 c v);
  maps = λ c v g. mapped_row g (σ.rows (n + c) (nearer 1 c v));
}

after-type : {σ : Putting} → Proper σ → (n : ℕ) (t : NormalType) → Composes (λ a b c. (a ≡ n + c) × (b ≡ c)) σ (type_at 1 t) (placed-after σ n t)
after-type {σ} p n t = record {
  deeper = λ a b c at. (next a n c at.0, ap (λ n. suc n) at.1);
  types = λ a b c at v. ap₂ (λ x y. put_type σ x ((type_at 1 t).types y v)) at.0 at.1;
  labels = λ a b c at v. ap₂ (λ x y. σ.labels x (nearer 1 y v)) at.0 at.1;
  rows = λ a b c at v. joined-nil (σ.rows a (nearer 1 b v)) (p.sorted a (nearer 1 b v)) ∙ ap₂ (λ x y. σ.rows x (nearer 1 y v)) at.0 at.1;
  maps = λ a b c at v g. put-mapped p a (nearer 1 b v) g ∙ ap (mapped_row (put_type σ (suc a) g)) (ap₂ (λ x y. σ.rows x (nearer 1 y v)) at.0 at.1);
}

-- where a variable of vs stands at c: in a function outside the one whose variable the type stands for
pub record Outside (us : Variables) (c : ℕ) (v w : Var) : Type 0 where
  pub raised : v ≡ raised_var 1 c w
  pub near : nearer 1 c v ≡ w
  pub placed : (t : NormalType) → (type_at 1 t).types c v ≡ ty.Variable w

pub outside-free : (us : Variables) (c m : ℕ) → Outside us c (var.Free m) (var.Free m)
outside-free us c m = record { raised = refl; near = refl; placed = λ t. refl }

pub outside-high : (us : Variables) (c i : ℕ) → c < i → Outside us c (var.Bound i) (var.Bound (i - 1))
outside-high us c i h = record {
  raised = from-nearer c i h;
  near = at-high 1 c i (var.Bound c) (λ w. w) h;
  placed = λ t. at-high 1 c i (raised_type c t) (λ w. ty.Variable w) h;
}

pub suc-is : (n : ℕ) → suc n ≡ n + 1
suc-is n = omega arith

-- the kind of such a variable
kind-outside : (u0 vs us : Variables) (c : ℕ) (v w : Var) → Placed 1 u0 vs us c → Outside us c v w → is_here c v ≡ false → kind_at us w ≡ kind_at vs v
kind-outside u0 vs us c v w pl o n = ap (kind_at us) (sym o.near) ∙ pl.others v n

type-outside : {S : Variables → ℕ → Type 0} {σ : Putting} → Proper σ → Passes S σ → (n c : ℕ) (t u : NormalType) (us : Variables) (v w : Var) → S us (n + c) → Outside us c v w → is_star (kind_at us w) ≡ true →
    put_type (type_at 1 u) c (σ.types (suc (n + c)) v) ≡ put_type σ (n + c) ((type_at 1 t).types c v)
type-outside {σ = σ} p q n c t u us v w s o h = ap₂ (λ x y. put_type (type_at 1 u) c (σ.types x y)) (suc-is (n + c)) o.raised ∙ ap (put_type (type_at 1 u) c) (q.types us (n + c) 1 c s (below n c) w h) ∙
    type-back c u (σ.types (n + c) w) (p.normal.types (n + c) w) ∙ sym (ap (put_type σ (n + c)) (o.placed t))

label-outside : {S : Variables → ℕ → Type 0} {σ : Putting} → Proper σ → Passes S σ → (n c : ℕ) (u : NormalType) (us : Variables) (v w : Var) → S us (n + c) → Outside us c v w → is_name (kind_at us w) ≡ true →
    put_label (type_at 1 u) c (σ.labels (suc (n + c)) v) ≡ σ.labels (n + c) (nearer 1 c v)
label-outside {σ = σ} p q n c u us v w s o h = ap₂ (λ x y. put_label (type_at 1 u) c (σ.labels x y)) (suc-is (n + c)) o.raised ∙ ap (put_label (type_at 1 u) c) (q.labels us (n + c) 1 c s (below n c) w h) ∙
    label-back c u (σ.labels (n + c) w) ∙ sym (ap (σ.labels (n + c)) o.near)

pub row-normal : {σ : Putting} → Proper σ → (d : ℕ) (v : Var) → is_normal_row (σ.rows d v) ≡ true
row-normal {σ} p d v = both (p.sorted d v) (p.normal.rows d v) where
  both : is_row (σ.rows d v) ≡ true → all_normal_parts (σ.rows d v) ≡ true → is_normal_row (σ.rows d v) ≡ true
  both e f = ap₂ (λ x y. x && y) e f

row-outside : {S : Variables → ℕ → Type 0} {σ : Putting} → Proper σ → Passes S σ → (n c : ℕ) (u : NormalType) (us : Variables) (v w : Var) → S us (n + c) → Outside us c v w → is_of_row (kind_at us w) ≡ true →
    put_row (type_at 1 u) c (σ.rows (suc (n + c)) v) ≡ σ.rows (n + c) (nearer 1 c v)
row-outside {σ = σ} p q n c u us v w s o h = ap₂ (λ x y. put_row (type_at 1 u) c (σ.rows x y)) (suc-is (n + c)) o.raised ∙ ap (put_row (type_at 1 u) c) (q.rows us (n + c) 1 c s (below n c) w h) ∙
    row-back c u (σ.rows (n + c) w) (row-normal p (n + c) w) ∙ sym (ap (σ.rows (n + c)) o.near)

type-moved : {S : Variables → ℕ → Type 0} {σ : Putting} → Proper σ → Passes S σ → (n c : ℕ) (t : NormalType) (u0 vs us : Variables) → S u0 n → type_is_in u0 t ≡ true → S us (n + c) → Placed 1 u0 vs us c →
    (v : Var) → is_star (kind_at vs v) ≡ true → put_type (type_at 1 (put_type σ n t)) c (σ.types (suc (n + c)) v) ≡ put_type σ (n + c) ((type_at 1 t).types c v)
type-moved {σ = σ} p q n c t u0 vs us s0 t0 s pl (var.Free m) h = type-outside p q n c t (put_type σ n t) us (var.Free m) (var.Free m) s (outside-free us c m) (ap is_star (pl.others (var.Free m) refl) ∙ h)
type-moved {σ = σ} p q n c t u0 vs us s0 t0 s pl (var.Bound i) h = go (stands i c) where
  u : NormalType
  u = put_type σ n t

  lower : i < c → i < suc (n + c)
  lower z = omega arith

  low-too : i < c → i < n + c
  low-too z = omega arith

  here-too : i ≡ c → i < suc (n + c)
  here-too z = omega arith

  go : Stands i c → put_type (type_at 1 u) c (σ.types (suc (n + c)) (var.Bound i)) ≡ put_type σ (n + c) ((type_at 1 t).types c (var.Bound i))
  go (low z) = ap (put_type (type_at 1 u) c) (p.inner_types (suc (n + c)) i (lower z)) ∙ at-low 1 c i (raised_type c u) (λ w. ty.Variable w) z ∙
      sym (ap (put_type σ (n + c)) (at-low 1 c i (raised_type c t) (λ w. ty.Variable w) z) ∙ p.inner_types (n + c) i (low-too z))
  go (here z) = ap (put_type (type_at 1 u) c) (p.inner_types (suc (n + c)) i (here-too z)) ∙ at-here 1 c i (raised_type c u) (λ w. ty.Variable w) z ∙
      sym (ap (put_type σ (n + c)) (at-here 1 c i (raised_type c t) (λ w. ty.Variable w) z) ∙ raise-past p q n c 0 u0 (omega arith) s0 t t0)
  go (high z) = type-outside p q n c t u us (var.Bound i) (var.Bound (i - 1)) s (outside-high us c i z)
      (ap is_star (kind-outside u0 vs us c (var.Bound i) (var.Bound (i - 1)) pl (outside-high us c i z) (not-high c i z)) ∙ h)

pub never-here : (i c : ℕ) → i ≡ c → is_here c (var.Bound i) ≡ false → ⊥
never-here i c z e = grind (arith, nat_tests)

label-moved : {S : Variables → ℕ → Type 0} {σ : Putting} → Proper σ → Passes S σ → (n c : ℕ) (u : NormalType) (u0 vs us : Variables) → S us (n + c) → Placed 1 u0 vs us c →
    (v : Var) → is_name (kind_at vs v) ≡ true → put_label (type_at 1 u) c (σ.labels (suc (n + c)) v) ≡ σ.labels (n + c) (nearer 1 c v)
label-moved p q n c u u0 vs us s pl (var.Free m) h = label-outside p q n c u us (var.Free m) (var.Free m) s (outside-free us c m) (ap is_name (pl.others (var.Free m) refl) ∙ h)
label-moved {σ = σ} p q n c u u0 vs us s pl (var.Bound i) h = go (stands i c) where
  lower : i < c → i < suc (n + c)
  lower z = omega arith

  low-too : i < c → i < n + c
  low-too z = omega arith

  go : Stands i c → put_label (type_at 1 u) c (σ.labels (suc (n + c)) (var.Bound i)) ≡ σ.labels (n + c) (nearer 1 c (var.Bound i))
  go (low z) = ap (put_label (type_at 1 u) c) (p.inner_labels (suc (n + c)) i (lower z)) ∙ ap (λ w. label.Variable w) (at-low 1 c i (var.Bound c) (λ w. w) z) ∙
      sym (ap (σ.labels (n + c)) (at-low 1 c i (var.Bound c) (λ w. w) z) ∙ p.inner_labels (n + c) i (low-too z))
  go (here z) = absurd (never-here i c z (not-here is_name refl vs c pl.star (var.Bound i) h))
  go (high z) = label-outside p q n c u us (var.Bound i) (var.Bound (i - 1)) s (outside-high us c i z)
      (ap is_name (kind-outside u0 vs us c (var.Bound i) (var.Bound (i - 1)) pl (outside-high us c i z) (not-high c i z)) ∙ h)

row-moved : {S : Variables → ℕ → Type 0} {σ : Putting} → Proper σ → Passes S σ → (n c : ℕ) (u : NormalType) (u0 vs us : Variables) → S us (n + c) → Placed 1 u0 vs us c →
    (v : Var) → is_of_row (kind_at vs v) ≡ true → put_row (type_at 1 u) c (σ.rows (suc (n + c)) v) ≡ σ.rows (n + c) (nearer 1 c v)
row-moved p q n c u u0 vs us s pl (var.Free m) h = row-outside p q n c u us (var.Free m) (var.Free m) s (outside-free us c m) (ap is_of_row (pl.others (var.Free m) refl) ∙ h)
row-moved {σ = σ} p q n c u u0 vs us s pl (var.Bound i) h = go (stands i c) where
  lower : i < c → i < suc (n + c)
  lower z = omega arith

  low-too : i < c → i < n + c
  low-too z = omega arith

  go : Stands i c → put_row (type_at 1 u) c (σ.rows (suc (n + c)) (var.Bound i)) ≡ σ.rows (n + c) (nearer 1 c (var.Bound i))
  go (low z) = ap (put_row (type_at 1 u) c) (p.inner_rows (suc (n + c)) i (lower z)) ∙ ap (λ w. part.Piece w ∷ []) (at-low 1 c i (var.Bound c) (λ w. w) z) ∙
      sym (ap (σ.rows (n + c)) (at-low 1 c i (var.Bound c) (λ w. w) z) ∙ p.inner_rows (n + c) i (low-too z))
  go (here z) = absurd (never-here i c z (not-here is_of_row refl vs c pl.star (var.Bound i) h))
  go (high z) = row-outside p q n c u us (var.Bound i) (var.Bound (i - 1)) s (outside-high us c i z)
      (ap is_of_row (kind-outside u0 vs us c (var.Bound i) (var.Bound (i - 1)) pl (outside-high us c i z) (not-high c i z)) ∙ h)

-- where the function stands, and what is in scope without its variable
record Within (S : Variables → ℕ → Type 0) (u0 : Variables) (n a b c : ℕ) (vs : Variables) : Type 0 where
  us : Variables
  outer : S us (n + c)
  inner : S vs (suc (n + c))
  placed : Placed 1 u0 vs us c
  here : a ≡ c
  level : b ≡ suc (n + c)

within-deeper : {S : Variables → ℕ → Type 0} {σ : Putting} → Passes S σ → (u0 : Variables) (n : ℕ) (o : Kind) (a b c : ℕ) (vs : Variables) → Within S u0 n a b c vs → Within S u0 n (suc a) (suc b) (suc c) (with_bound o vs)
within-deeper {S} q u0 n o a b c vs w = record {
  us = with_bound o w.us;
  outer = subst (S (with_bound o w.us)) (suc-plus n c) (q.deeper o w.us (n + c) w.outer);
  inner = subst (S (with_bound o vs)) (ap (λ z. suc z) (suc-plus n c)) (q.deeper o vs (suc (n + c)) w.inner);
  placed = record { star = w.placed.star; others = others-deeper 1 o vs w.us c (omega arith) w.placed.others; outer = outer-deeper o u0 w.us c w.placed.outer };
  here = ap (λ z. suc z) w.here;
  level = ap (λ z. suc z) (w.level ∙ suc-plus n c);
}

before-type : {S : Variables → ℕ → Type 0} {σ : Putting} → Proper σ → Passes S σ → (n : ℕ) (t : NormalType) (u0 : Variables) → S u0 n → type_is_in u0 t ≡ true →
    ComposesIn (Within S u0 n) (type_at 1 (put_type σ n t)) σ (placed-after σ n t)
before-type {S} {σ} p q n t u0 s0 t0 = record {
  deeper = λ o a b c vs w. within-deeper q u0 n o a b c vs w;
  types = λ a b c vs w v h. ap₂ (λ x y. put_type (type_at 1 u) x (σ.types y v)) w.here w.level ∙ type-moved p q n c t u0 vs w.us s0 t0 w.outer w.placed v h;
  labels = λ a b c vs w v h. ap₂ (λ x y. put_label (type_at 1 u) x (σ.labels y v)) w.here w.level ∙ label-moved p q n c u u0 vs w.us w.outer w.placed v h;
  rows = λ a b c vs w v h. rows a b c vs w v h;
  maps = λ a b c vs w v h f i. ap (put_row (type_at 1 u) a) (p.maps b v (put_type σ (suc b) f)) ∙
      q.past_type vs b a u (subst (S vs) (sym w.level) w.inner) (lower a b c w.here w.level) (subst (λ z. slice_get vs.bound z ≡ Some kind.Star) (sym w.here) w.placed.star) v h f i ∙
      ap (mapped_row (put_type (type_at 1 u) (suc a) (put_type σ (suc b) f))) (rows a b c vs w v h);
} where
  u : NormalType
  u = put_type σ n t

  lower : (a b c : ℕ) → a ≡ c → b ≡ suc (n + c) → a < b
  lower a b c e f = omega arith

  rows : (a b c : ℕ) (vs : Variables) → Within S u0 n a b c vs → (v : Var) → is_of_row (kind_at vs v) ≡ true → put_row (type_at 1 u) a (σ.rows b v) ≡ σ.rows (n + c) (nearer 1 c v)
  rows a b c vs w v h = ap₂ (λ x y. put_row (type_at 1 u) x (σ.rows y v)) w.here w.level ∙ row-moved p q n c u u0 vs w.us w.outer w.placed v h

pub applied-past : {S : Variables → ℕ → Type 0} {σ : Putting} → Proper σ → Passes S σ → (n : ℕ) (u0 : Variables) → S u0 n → (f t : NormalType) → type_is_in (with_bound kind.Star u0) f ≡ true → type_is_in u0 t ≡ true →
    put_type σ n (applied_type f t) ≡ applied_type (put_type σ (suc n) f) (put_type σ n t)
applied-past {S} {σ} p q n u0 s f t hf ht = put_type-after (after-type p n t) n 0 0 (plus-none n, refl) f ∙ sym (type-after (before-type p q n t u0 s ht) 0 (suc n) 0 (with_bound kind.Star u0) start f hf) where
  start : Within S u0 n 0 (suc n) 0 (with_bound kind.Star u0)
  start = record { us = u0; outer = subst (S u0) (plus-none n) s; inner = subst (S (with_bound kind.Star u0)) (ap (λ z. suc z) (plus-none n)) (q.deeper kind.Star u0 n s); placed = record { star = refl; others = applied-others u0; outer = raised-none u0 }; here = refl; level = ap (λ z. suc z) (plus-none n) }

-- ---- a composition

pub raised-one : (k : Kind) (u0 : Variables) → Raised 1 u0 (with_bound k u0) 0
raised-one k u0 (var.Free m) = refl
raised-one k u0 (var.Bound i) = ap (kind_at (with_bound k u0)) (raised-high 1 0 i (omega arith)) ∙ ap (λ n. kind_at (with_bound k u0) (var.Bound n)) (sym (suc-is i))

pub composed-past : {S : Variables → ℕ → Type 0} {σ : Putting} → Proper σ → Passes S σ → (d : ℕ) (u0 : Variables) → S u0 d → (f g : NormalType) → type_is_in (with_bound kind.Star u0) f ≡ true →
    type_is_in (with_bound kind.Star u0) g ≡ true → put_type σ (suc d) (composed f g) ≡ composed (put_type σ (suc d) f) (put_type σ (suc d) g)
composed-past {σ = σ} p q d u0 s f g hf hg = ap (put_type σ (suc d)) (composed-applied f g) ∙
    applied-past p q (suc d) (with_bound kind.Star u0) (q.deeper kind.Star u0 d s) (put_type (raising 1) 1 f) g
    (type-kept (raising-keeps 1) (with_bound kind.Star u0) (with_bound kind.Star (with_bound kind.Star u0)) 1 (raised-deeper 1 kind.Star u0 (with_bound kind.Star u0) 0 (raised-one kind.Star u0)) f hf) hg ∙
    ap (λ z. applied_type z (put_type σ (suc d) g)) (ap (λ z. put_type σ z (put_type (raising 1) 1 f)) (suc-is (suc d)) ∙ raise-past p q (suc d) 1 1 (with_bound kind.Star u0) (omega arith) (q.deeper kind.Star u0 d s) f hf) ∙ sym (composed-applied (put_type σ (suc d) f) (put_type σ (suc d) g))

-- ---- a map

part-past : {S : Variables → ℕ → Type 0} {σ : Putting} → Proper σ → Passes S σ → (d : ℕ) (vs : Variables) → S vs d → (f : NormalType) (p : Part) → type_is_in (with_bound kind.Star vs) f ≡ true → part_is_in vs p ≡ true →
    put_part σ d (mapped_part f p) ≡ mapped_row (put_type σ (suc d) f) (put_part σ d p)
part-past {σ = σ} p q d vs s f (part.Field' l _ (its t alone)) h e = ap (λ z. field (put_label σ d l) z ∷ [])
    (applied-past p q d vs s f t h (and-left (type_is_in vs t) true (and-right (label_is_in vs l) (type_is_in vs t && true) e)))
part-past p q d vs s f (part.Piece v) h e = part-mapped p d v f
part-past {σ = σ} p q d vs s f (part.Mapped' v _ (its g alone)) h e = part-mapped p d v (composed f g) ∙
    ap (λ z. mapped_row z (σ.rows d v)) (composed-past p q d vs s f g h (and-left (type_is_in (with_bound kind.Star vs) g) true (and-right (is_of_row (kind_at vs v)) (type_is_in (with_bound kind.Star vs) g && true) e))) ∙
    sym (mapped_row-twice (put_type σ (suc d) f) (put_type σ (suc d) g) (σ.rows d v) (put_type-normal p.normal (suc d) f)) ∙
    ap (mapped_row (put_type σ (suc d) f)) (sym (p.maps d v (put_type σ (suc d) g)))

pub map-past : {S : Variables → ℕ → Type 0} {σ : Putting} → Proper σ → Passes S σ → (d : ℕ) (vs : Variables) → S vs d → (f : NormalType) (r : List Part) → type_is_in (with_bound kind.Star vs) f ≡ true → row_is_in vs r ≡ true →
    put_row σ d (mapped_row f r) ≡ mapped_row (put_type σ (suc d) f) (put_row σ d r)
map-past p q d vs s f [] h e = refl
map-past {σ = σ} p q d vs s f (x ∷ r) h e = put_row-with_part σ d (mapped_part f x) (mapped_row f r) ∙
    ap₂ joined (part-past p q d vs s f x h (and-left (part_is_in vs x) (row_is_in vs r) e)) (map-past p q d vs s f r h (and-right (part_is_in vs x) (row_is_in vs r) e)) ∙
    sym (mapped_row-joined (put_type σ (suc d) f) (put_part σ d x) (put_row σ d r))

-- ---- raising, and a type in place of a variable

abbrev pub Anywhere : Variables → ℕ → Type 0
Anywhere vs n = Unit {0}

pub raising-passes : (j : ℕ) → Passes Anywhere (raising j)
raising-passes j = record {
  deeper = λ o vs n s. tt;
  types = λ vs n k c s b v h. ap (λ w. ty.Variable w) (raised-past j k n c b v);
  labels = λ vs n k c s b v h. ap (λ w. label.Variable w) (raised-past j k n c b v);
  rows = λ vs n k c s b v h. ap (λ w. part.Piece w ∷ []) (raised-past j k n c b v);
  past_raising = λ vs n k c s v h f i. put-mapped (raising-proper k) c (raised_var j n v) (put_type (raising j) (suc n) f);
  past_type = λ vs n c t s b e v h f i. put-mapped (type_at-proper 1 t) c (raised_var j n v) (put_type (raising j) (suc n) f);
}

-- the variable that the type stands for is one of types
abbrev pub OfTypes : Variables → ℕ → Type 0
OfTypes vs n = slice_get vs.bound n ≡ Some kind.Star

pub raises-twice : (k n c : ℕ) → c ≤ n → Composes (λ a b d. (a ≡ c + b) × (b ≡ d)) (raising k) (raising n) (raising (n + k))
raises-twice k n c l = record {
  deeper = λ a b d at. (next a c b at.0, ap (λ n. suc n) at.1);
  types = λ a b d at v. ap (λ w. ty.Variable w) (vars a b d at.0 at.1 v);
  labels = λ a b d at v. ap (λ w. label.Variable w) (vars a b d at.0 at.1 v);
  rows = λ a b d at v. ap (λ w. part.Piece w ∷ []) (vars a b d at.0 at.1 v);
  maps = λ a b d at v g. put-mapped (raising-proper k) a (raised_var n b v) g ∙ ap (λ w. mapped_variable (put_type (raising k) (suc a) g) w ∷ []) (vars a b d at.0 at.1 v);
} where
  fits : (a b : ℕ) → a ≡ c + b → b ≤ a
  fits a b e = omega arith

  fits-too : (a b : ℕ) → a ≡ c + b → a ≤ n + b
  fits-too a b e = omega arith

  vars : (a b d : ℕ) → a ≡ c + b → b ≡ d → (v : Var) → raised_var k a (raised_var n b v) ≡ raised_var (n + k) d v
  vars a b d e f v = raised-twice k n a b (fits a b e) (fits-too a b e) v ∙ ap (λ x. raised_var (n + k) x v) f

pub raise-twice : (k n c : ℕ) (t : NormalType) → c ≤ n → put_type (raising k) c (raised_type n t) ≡ raised_type (n + k) t
raise-twice k n c t l = put_type-after (raises-twice k n c l) c 0 0 (plus-none c, refl) t

-- a variable that is brought nearer, but for the one that the type stands for
pub nearer-past : {A : Type 0} (n k c : ℕ) → c ≤ n → (v : Var) (x y : A) (f : Var → A) → is_here n v ≡ false → at_fn 1 (n + k) (raised_var k c v) x f ≡ at_fn 1 n v y (λ w. f (raised_var k c w))
nearer-past n k c l (var.Free m) x y f e = refl
nearer-past n k c l (var.Bound i) x y f e = go (stands i c) (stands i n) where
  over : c ≤ i → Stands i n → at_fn 1 (n + k) (raised_var k c (var.Bound i)) x f ≡ at_fn 1 n (var.Bound i) y (λ w. f (raised_var k c w))
  over z (low u) = ap (λ w. at_fn 1 (n + k) w x f) (raised-high k c i z) ∙ at-low 1 (n + k) (i + k) x f (omega arith) ∙ sym (at-low 1 n i y (λ w. f (raised_var k c w)) u ∙ ap f (raised-high k c i z))
  over z (here u) = absurd (never-here i n u e)
  over z (high u) = ap (λ w. at_fn 1 (n + k) w x f) (raised-high k c i z) ∙ at-high 1 (n + k) (i + k) x f (omega arith) ∙ ap f (bound {i = i + k - 1} {j = i - 1 + k} (omega arith)) ∙
      sym (at-high 1 n i y (λ w. f (raised_var k c w)) u ∙ ap f (raised-high k c (i - 1) (omega arith)))

  go : Stands i c → Stands i n → at_fn 1 (n + k) (raised_var k c (var.Bound i)) x f ≡ at_fn 1 n (var.Bound i) y (λ w. f (raised_var k c w))
  go (low z) u = ap (λ w. at_fn 1 (n + k) w x f) (raised-low k c i z) ∙ at-low 1 (n + k) i x f (omega arith) ∙ sym (at-low 1 n i y (λ w. f (raised_var k c w)) (omega arith) ∙ ap f (raised-low k c i z))
  go (here z) u = over (omega arith) u
  go (high z) u = over (omega arith) u

type-raised : (t : NormalType) (n k c : ℕ) → c ≤ n → (v : Var) → (type_at 1 t).types (n + k) (raised_var k c v) ≡ put_type (raising k) c ((type_at 1 t).types n v)
type-raised t n k c l (var.Free m) = refl
type-raised t n k c l (var.Bound i) = go (stands i n) where
  apart : is_here n (var.Bound i) ≡ false → (type_at 1 t).types n (var.Bound i) ≡ ty.Variable (nearer 1 n (var.Bound i)) → (type_at 1 t).types (n + k) (raised_var k c (var.Bound i)) ≡ put_type (raising k) c ((type_at 1 t).types n (var.Bound i))
  apart e f = nearer-past n k c l (var.Bound i) (raised_type (n + k) t) (ty.Variable (raised_var k c (var.Bound n))) (λ w. ty.Variable w) e ∙ moved (stands i n) ∙ sym (ap (put_type (raising k) c) f) where
    moved : Stands i n → at_fn 1 n (var.Bound i) (ty.Variable (raised_var k c (var.Bound n))) (λ w. ty.Variable (raised_var k c w)) ≡ ty.Variable (raised_var k c (nearer 1 n (var.Bound i)))
    moved (low z) = at-low 1 n i (ty.Variable (raised_var k c (var.Bound n))) (λ w. ty.Variable (raised_var k c w)) z ∙ sym (ap (λ w. ty.Variable (raised_var k c w)) (at-low 1 n i (var.Bound n) (λ w. w) z))
    moved (here z) = absurd (never-here i n z e)
    moved (high z) = at-high 1 n i (ty.Variable (raised_var k c (var.Bound n))) (λ w. ty.Variable (raised_var k c w)) z ∙ sym (ap (λ w. ty.Variable (raised_var k c w)) (at-high 1 n i (var.Bound n) (λ w. w) z))

  go : Stands i n → (type_at 1 t).types (n + k) (raised_var k c (var.Bound i)) ≡ put_type (raising k) c ((type_at 1 t).types n (var.Bound i))
  go (low z) = apart (not-low n i z) (at-low 1 n i (raised_type n t) (λ w. ty.Variable w) z ∙ sym (ap (λ w. ty.Variable w) (at-low 1 n i (var.Bound n) (λ w. w) z)))
  go (here z) = ap ((type_at 1 t).types (n + k)) (raised-high k c i (omega arith)) ∙ at-here 1 (n + k) (i + k) (raised_type (n + k) t) (λ w. ty.Variable w) (omega arith) ∙ sym (raise-twice k n c t l) ∙
      sym (ap (put_type (raising k) c) (at-here 1 n i (raised_type n t) (λ w. ty.Variable w) z))
  go (high z) = apart (not-high n i z) (at-high 1 n i (raised_type n t) (λ w. ty.Variable w) z ∙ sym (ap (λ w. ty.Variable w) (at-high 1 n i (var.Bound n) (λ w. w) z)))

var-raised : (n k c : ℕ) → c ≤ n → (v : Var) → is_here n v ≡ false → nearer 1 (n + k) (raised_var k c v) ≡ raised_var k c (nearer 1 n v)
var-raised n k c l (var.Free m) e = refl
var-raised n k c l (var.Bound i) e = nearer-past n k c l (var.Bound i) (var.Bound (n + k)) (var.Bound n) (λ w. w) e ∙ moved (stands i n) where
  moved : Stands i n → at_fn 1 n (var.Bound i) (var.Bound n) (λ w. raised_var k c w) ≡ raised_var k c (nearer 1 n (var.Bound i))
  moved (low z) = at-low 1 n i (var.Bound n) (λ w. raised_var k c w) z ∙ sym (ap (raised_var k c) (at-low 1 n i (var.Bound n) (λ w. w) z))
  moved (here z) = absurd (never-here i n z e)
  moved (high z) = at-high 1 n i (var.Bound n) (λ w. raised_var k c w) z ∙ sym (ap (raised_var k c) (at-high 1 n i (var.Bound n) (λ w. w) z))

pub type_at-passes : (t : NormalType) → Passes OfTypes (type_at 1 t)
type_at-passes t = record {
  deeper = λ o vs n s. s;
  types = λ vs n k c s b v h. type-raised t n k c b v;
  labels = λ vs n k c s b v h. ap (λ w. label.Variable w) (var-raised n k c b v (not-here is_name refl vs n s v h));
  rows = λ vs n k c s b v h. ap (λ w. part.Piece w ∷ []) (var-raised n k c b v (not-here is_of_row refl vs n s v h));
  past_raising = λ vs n k c s v h f i. put-mapped (raising-proper k) c (nearer 1 n v) (put_type (type_at 1 t) (suc n) f);
  past_type = λ vs n c u s b e v h f i. put-mapped (type_at-proper 1 u) c (nearer 1 n v) (put_type (type_at 1 t) (suc n) f);
}
