-- Variables of functions within others, raised and brought nearer.
use Rattle.std.proofs.Common.{◌≡◌, refl, ap, ap₂, sym, ◌∙◌, ℕ, suc, ◌+◌, ◌-◌, ◌≤◌, ◌<◌, Bool, true, false, ◌==◌, nat_lt, ◌⊎◌, inl, inr, if◌then◌else◌, arith}
use Rattle.std.proofs.lemmas.Bool.{cases_Bool}
use Rattle.std.proofs.lemmas.Bool.Decides.{nat_tests}
use Rattle.ur_rows.specs.declared.normal.Var.{Var}
use Rattle.ur_rows.specs.declared.normal.Var.TheVariants as var
use Rattle.ur_rows.specs.Put.{raised_var, at_fn}
use Rattle.ur_rows.proofs.PutAfter.{Stands, low, here, high}

pub bound : {i j : ℕ} → i ≡ j → var.Bound i ≡ var.Bound j
bound e = ap (λ k. var.Bound k) e

pub stands : (i d : ℕ) → Stands i d
stands i d = pick (cases_Bool (nat_lt i d)) (cases_Bool (i == d)) where
  pick : (nat_lt i d ≡ true) ⊎ (nat_lt i d ≡ false) → ((i == d) ≡ true) ⊎ ((i == d) ≡ false) → Stands i d
  pick (inl x) y = low (grind (arith, nat_tests))
  pick (inr x) (inl y) = here (grind (arith, nat_tests))
  pick (inr x) (inr y) = high (grind (arith, nat_tests))

pub raised-low : (by d i : ℕ) → i < d → raised_var by d (var.Bound i) ≡ var.Bound i
raised-low by d i h = ap (λ (b : Bool). if b then var.Bound i else var.Bound (i + by)) (lt d i h) where
  lt : (d i : ℕ) → i < d → nat_lt i d ≡ true
  lt d i h = grind (arith, nat_tests)

pub raised-high : (by d i : ℕ) → d ≤ i → raised_var by d (var.Bound i) ≡ var.Bound (i + by)
raised-high by d i h = ap (λ (b : Bool). if b then var.Bound i else var.Bound (i + by)) (lt d i h) where
  lt : (d i : ℕ) → d ≤ i → nat_lt i d ≡ false
  lt d i h = grind (arith, nat_tests)

pub not-low : (d i : ℕ) → i < d → (i == d) ≡ false
not-low d i h = grind (arith, nat_tests)

pub not-high : (d i : ℕ) → d < i → (i == d) ≡ false
not-high d i h = grind (arith, nat_tests)

pub same : (d i : ℕ) → i ≡ d → (i == d) ≡ true
same d i h = grind (arith, nat_tests)

pub at-low : {A : Type 0} (by d i : ℕ) (x : A) (f : Var → A) → i < d → at_fn by d (var.Bound i) x f ≡ f (var.Bound i)
at-low by d i x f h = ap₂ (λ (b c : Bool). if b then x else f (var.Bound (if c then i - by else i))) (not-low d i h) (lt d i h) where
  lt : (d i : ℕ) → i < d → nat_lt d i ≡ false
  lt d i h = grind (arith, nat_tests)

pub at-here : {A : Type 0} (by d i : ℕ) (x : A) (f : Var → A) → i ≡ d → at_fn by d (var.Bound i) x f ≡ x
at-here by d i x f h = ap (λ (b : Bool). if b then x else f (var.Bound (if nat_lt d i then i - by else i))) (same d i h)

pub at-high : {A : Type 0} (by d i : ℕ) (x : A) (f : Var → A) → d < i → at_fn by d (var.Bound i) x f ≡ f (var.Bound (i - by))
at-high by d i x f h = ap₂ (λ (b c : Bool). if b then x else f (var.Bound (if c then i - by else i))) (not-high d i h) (lt d i h) where
  lt : (d i : ℕ) → d < i → nat_lt d i ≡ true
  lt d i h = grind (arith, nat_tests)

-- raising goes past raising
pub raised-past : (j k n c : ℕ) → c ≤ n → (v : Var) → raised_var j (n + k) (raised_var k c v) ≡ raised_var k c (raised_var j n v)
raised-past j k n c b (var.Free m) = refl
raised-past j k n c b (var.Bound i) = go (stands i c) (stands i n) where
  over : c ≤ i → Stands i n → raised_var j (n + k) (raised_var k c (var.Bound i)) ≡ raised_var k c (raised_var j n (var.Bound i))
  over x (low z) = ap (raised_var j (n + k)) (raised-high k c i x) ∙ raised-low j (n + k) (i + k) (omega arith) ∙ sym (ap (raised_var k c) (raised-low j n i z) ∙ raised-high k c i x)
  over x (here z) = ap (raised_var j (n + k)) (raised-high k c i x) ∙ raised-high j (n + k) (i + k) (omega arith) ∙ bound {i = i + k + j} {j = i + j + k} (omega arith) ∙
      sym (ap (raised_var k c) (raised-high j n i (omega arith)) ∙ raised-high k c (i + j) (omega arith))
  over x (high z) = ap (raised_var j (n + k)) (raised-high k c i x) ∙ raised-high j (n + k) (i + k) (omega arith) ∙ bound {i = i + k + j} {j = i + j + k} (omega arith) ∙
      sym (ap (raised_var k c) (raised-high j n i (omega arith)) ∙ raised-high k c (i + j) (omega arith))

  go : Stands i c → Stands i n → raised_var j (n + k) (raised_var k c (var.Bound i)) ≡ raised_var k c (raised_var j n (var.Bound i))
  go (low z) y = ap (raised_var j (n + k)) (raised-low k c i z) ∙ raised-low j (n + k) i (omega arith) ∙ sym (ap (raised_var k c) (raised-low j n i (omega arith)) ∙ raised-low k c i z)
  go (here z) y = over (omega arith) y
  go (high z) y = over (omega arith) y

-- raising twice, the second time from a place that was raised
pub raised-twice : (k n c b : ℕ) → b ≤ c → c ≤ n + b → (v : Var) → raised_var k c (raised_var n b v) ≡ raised_var (n + k) b v
raised-twice k n c b x y (var.Free m) = refl
raised-twice k n c b x y (var.Bound i) = go (stands i b) where
  over : b ≤ i → raised_var k c (raised_var n b (var.Bound i)) ≡ raised_var (n + k) b (var.Bound i)
  over z = ap (raised_var k c) (raised-high n b i z) ∙ raised-high k c (i + n) (omega arith) ∙ bound {i = i + n + k} {j = i + (n + k)} (omega arith) ∙ sym (raised-high (n + k) b i z)

  go : Stands i b → raised_var k c (raised_var n b (var.Bound i)) ≡ raised_var (n + k) b (var.Bound i)
  go (low z) = ap (raised_var k c) (raised-low n b i z) ∙ raised-low k c i (omega arith) ∙ sym (raised-low (n + k) b i z)
  go (here z) = over (omega arith)
  go (high z) = over (omega arith)

-- no variable that is raised by one stands at the place itself
pub at-raised-one : {A : Type 0} (c : ℕ) (v : Var) (x : A) (f : Var → A) → at_fn 1 c (raised_var 1 c v) x f ≡ f v
at-raised-one c (var.Free m) x f = refl
at-raised-one c (var.Bound i) x f = go (stands i c) where
  over : c ≤ i → at_fn 1 c (raised_var 1 c (var.Bound i)) x f ≡ f (var.Bound i)
  over z = ap (λ w. at_fn 1 c w x f) (raised-high 1 c i z) ∙ at-high 1 c (i + 1) x f (omega arith) ∙ ap f (bound {i = i + 1 - 1} {j = i} (omega arith))

  go : Stands i c → at_fn 1 c (raised_var 1 c (var.Bound i)) x f ≡ f (var.Bound i)
  go (low z) = ap (λ w. at_fn 1 c w x f) (raised-low 1 c i z) ∙ at-low 1 c i x f z
  go (here z) = over (omega arith)
  go (high z) = over (omega arith)

-- a place within one function more, where nothing stands for that function's variable
pub at-composed : {A : Type 0} (c : ℕ) (v : Var) (x : A) (f : Var → A) → at_fn 1 c (raised_var 1 (suc c) v) x f ≡ at_fn 0 c v x f
at-composed c (var.Free m) x f = refl
at-composed c (var.Bound i) x f = go (stands i c) where
  go : Stands i c → at_fn 1 c (raised_var 1 (suc c) (var.Bound i)) x f ≡ at_fn 0 c (var.Bound i) x f
  go (low z) = ap (λ w. at_fn 1 c w x f) (raised-low 1 (suc c) i (omega arith)) ∙ at-low 1 c i x f z ∙ sym (at-low 0 c i x f z)
  go (here z) = ap (λ w. at_fn 1 c w x f) (raised-low 1 (suc c) i (omega arith)) ∙ at-here 1 c i x f z ∙ sym (at-here 0 c i x f z)
  go (high z) = ap (λ w. at_fn 1 c w x f) (raised-high 1 (suc c) i (omega arith)) ∙ at-high 1 c (i + 1) x f (omega arith) ∙ ap f (bound {i = i + 1 - 1} {j = i - 0} (omega arith)) ∙
      sym (at-high 0 c i x f z)

-- what stands elsewhere than at the place was raised by one
pub from-nearer : (c i : ℕ) → c < i → var.Bound i ≡ raised_var 1 c (var.Bound (i - 1))
from-nearer c i h = sym (raised-high 1 c (i - 1) (omega arith) ∙ bound {i = i - 1 + 1} {j = i} (omega arith))
