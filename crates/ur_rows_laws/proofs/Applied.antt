-- Instances go past the arguments of functions.
use Rattle.std.proofs.Common.{◌≡◌, refl, ap, sym, ◌∙◌, ℕ, suc, ◌+◌, ◌-◌, true, false, true≢false, List, arith}
use Rattle.ur_syntax.specs.declared.kind.Kind.{Kind}
use Rattle.ur_syntax.specs.declared.kind.Kind.TheVariants as kind
use Rattle.ur_rows.specs.declared.normal.Var.{Var}
use Rattle.ur_rows.specs.declared.normal.Var.TheVariants as var
use Rattle.ur_rows.specs.declared.normal.Normal.{Normal}
use Rattle.ur_rows.specs.declared.normal.Normal.TheVariants as normal
use Rattle.ur_rows.specs.Kinded.{Variables, kind_at, is_of_kind}
use Rattle.ur_rows.specs.Put.{put, put_type, raised_var, nearer, is_here, arguments}
use Rattle.ur_rows.proofs.PutAfter.{Stands, low, here, high}
use Rattle.ur_rows_laws.specs.Instances.{outside, are_of_kinds, EachNormal, InstanceOfApplied}
use Rattle.ur_rows_laws.proofs.Kept.{type-kept, label-kept, row-kept, arg-rows, arguments-keep}
use Rattle.ur_rows_laws.proofs.Levels.{stands, raised-high, at-low, at-here, at-high}
use Rattle.ur_rows_laws.proofs.Passing.{map-past}
use Rattle.ur_rows_laws.proofs.Applying.{PlacedAt, argument-proper, argument-passes, PastArgument, argument-past, row-argument-past}
use Rattle.ur_rows_laws.proofs.Closed.{instead, Free, arguments-proper, arguments-pass, mapped-in}

-- ---- other free variables, the same bound ones

nearer-somewhere : (c i : ℕ) → (j : ℕ) × (nearer 1 c (var.Bound i) ≡ var.Bound j)
nearer-somewhere c i = go (stands i c) where
  go : Stands i c → (j : ℕ) × (nearer 1 c (var.Bound i) ≡ var.Bound j)
  go (low z) = (i, at-low 1 c i (var.Bound c) (λ w. w) z)
  go (here z) = (c, at-here 1 c i (var.Bound c) (λ w. w) z)
  go (high z) = (i - 1, at-high 1 c i (var.Bound c) (λ w. w) z)

others-instead : (free : List Kind) (k : Kind) (u0 vs us : Variables) (c : ℕ) → PlacedAt k u0 vs us c → (v : Var) → is_here c v ≡ false → kind_at (instead free us) (nearer 1 c v) ≡ kind_at (instead free vs) v
others-instead free k u0 vs us c p (var.Free m) e = refl
others-instead free k u0 vs us c p (var.Bound i) e = go (nearer-somewhere c i) where
  go : (j : ℕ) × (nearer 1 c (var.Bound i) ≡ var.Bound j) → kind_at (instead free us) (nearer 1 c (var.Bound i)) ≡ kind_at (instead free vs) (var.Bound i)
  go j = ap (kind_at (instead free us)) j.1 ∙ sym (ap (kind_at us) j.1) ∙ p.others (var.Bound i) e

outer-instead : (free : List Kind) (k : Kind) (u0 vs us : Variables) (c : ℕ) → PlacedAt k u0 vs us c → (v : Var) → kind_at (instead free us) (raised_var c 0 v) ≡ kind_at (instead free u0) v
outer-instead free k u0 vs us c p (var.Free m) = refl
outer-instead free k u0 vs us c p (var.Bound i) = ap (kind_at (instead free us)) (raised-high c 0 i (omega arith)) ∙ sym (ap (kind_at us) (raised-high c 0 i (omega arith))) ∙ p.outer (var.Bound i)

placed-instead : (free : List Kind) (k : Kind) (u0 vs us : Variables) (c : ℕ) → PlacedAt k u0 vs us c → PlacedAt k (instead free u0) (instead free vs) (instead free us) c
placed-instead free k u0 vs us c p = record { kind = p.kind; others = others-instead free k u0 vs us c p; outer = outer-instead free k u0 vs us c p }

no : {A : Type 0} → false ≡ true → A
no e = absurd (true≢false (sym e))

pub kind-kept : (free kinds : List Kind) (args : List Normal) → are_of_kinds (outside free) args kinds ≡ true → (u0 : Variables) (n : ℕ) → u0.free ≡ kinds → (k : Kind) (a : Normal) → is_of_kind u0 a k ≡ true →
    is_of_kind (instead free u0) (put (arguments args) n a) k ≡ true
kind-kept free kinds args o u0 n s kind.Star (normal.Type t) e = type-kept (arguments-keep free kinds args o) u0 (instead free u0) n (s, refl, refl) t e
kind-kept free kinds args o u0 n s kind.Name (normal.Type t) e = no e
kind-kept free kinds args o u0 n s kind.Row (normal.Type t) e = no e
kind-kept free kinds args o u0 n s (kind.Arrow' _ x _ y) (normal.Type t) e = no e
kind-kept free kinds args o u0 n s kind.Star (normal.Name l) e = no e
kind-kept free kinds args o u0 n s kind.Name (normal.Name l) e = label-kept (arguments-keep free kinds args o) u0 (instead free u0) n (s, refl, refl) l e
kind-kept free kinds args o u0 n s kind.Row (normal.Name l) e = no e
kind-kept free kinds args o u0 n s (kind.Arrow' _ x _ y) (normal.Name l) e = no e
kind-kept free kinds args o u0 n s kind.Star (normal.Row r) e = no e
kind-kept free kinds args o u0 n s kind.Name (normal.Row r) e = no e
kind-kept free kinds args o u0 n s kind.Row (normal.Row r) e = row-kept (arguments-keep free kinds args o) u0 (instead free u0) n (s, refl, refl) r e
kind-kept free kinds args o u0 n s (kind.Arrow' _ x _ y) (normal.Row r) e = no e
kind-kept free kinds args o u0 n s kind.Star (normal.Fn' j _ b) e = no e
kind-kept free kinds args o u0 n s kind.Name (normal.Fn' j _ b) e = no e
kind-kept free kinds args o u0 n s kind.Row (normal.Fn' j _ b) e = no e
kind-kept free kinds args o u0 n s (kind.Arrow' _ x _ y) (normal.Fn' j _ b) e = no e

pub past-argument : (free kinds : List Kind) (args : List Normal) → EachNormal args → are_of_kinds (outside free) args kinds ≡ true → (k : Kind) (u0 : Variables) (n : ℕ) (a : Normal) → u0.free ≡ kinds → is_of_kind u0 a k ≡ true →
    PastArgument (Free kinds) (arguments args) k u0 n (put (arguments args) n a)
past-argument free kinds args e o k u0 n a s h = record {
  past = λ vs us c x y p v r f i. map-past (argument-proper (put (arguments args) n a)) (argument-passes k (instead free u0) (put (arguments args) n a) (kind-kept free kinds args o u0 n s k a h)) c (instead free vs)
      (instead free us, placed-instead free k u0 vs us c p) (put_type (arguments args) (suc (suc (n + c))) f) ((arguments args).rows (suc (n + c)) v)
      (mapped-in free kinds args o vs (suc (n + c)) y f i) (arg-rows free kinds args o vs (instead free vs) (suc (n + c)) (y, refl, refl) v r);
}

pub of-applied : InstanceOfApplied
of-applied = record {
  types = λ free kinds args k a f e o ha hf. argument-past (arguments-proper args e) (arguments-pass free kinds args e o) k 0 (outside kinds) a refl ha (past-argument free kinds args e o k (outside kinds) 0 a refl ha) f hf;
  rows = λ free kinds args k a r e o ha hr. row-argument-past (arguments-proper args e) (arguments-pass free kinds args e o) k 0 (outside kinds) a refl ha (past-argument free kinds args e o k (outside kinds) 0 a refl ha) r hr;
}
