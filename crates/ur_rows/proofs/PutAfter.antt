-- One substitution after another is one substitution.
use Rattle.std.proofs.Common.{◌≡◌, refl, ap, ap₂, sym, ◌∙◌, ℕ, zero, suc, ◌+◌, ◌-◌, ◌≤◌, ◌<◌, Bool, true, false, not, ◌&&◌, ◌==◌, nat_lt, ◌⊎◌, inl, inr, List, [], ◌∷◌, arith, subst, true≢false, if◌then◌else◌}
use Rattle.std.proofs.lemmas.Bool.{cases_Bool}
use Rattle.std.proofs.lemmas.Bool.Decides.{nat_tests}
use Rattle.ur_rows.specs.declared.normal.Var.{Var}
use Rattle.ur_rows.specs.declared.normal.Var.TheVariants as var
use Rattle.ur_rows.specs.declared.normal.Label.{Label}
use Rattle.ur_rows.specs.declared.normal.Label.TheVariants as label
use Rattle.ur_rows.specs.declared.normal.NormalType.{NormalType}
use Rattle.ur_rows.specs.declared.normal.NormalType.TheVariants as ty
use Rattle.ur_rows.specs.declared.normal.NormalType.TheBlock.{end_of-NormalType as alone, more_of-NormalType as its, Row_of-Part, end_of-Part as end, more_of-Part as more}
use Rattle.ur_rows.specs.declared.normal.Part.{Part}
use Rattle.ur_rows.specs.declared.normal.Part.TheVariants as part
use Rattle.ur_rows.specs.Made.{option_of, list_of, transaction_of, arrow_of, field, mapped, parts, row, record_of, form_of}
use Rattle.ur_rows.specs.Order.{stands_before, with_part, joined}
use Rattle.ur_rows.specs.IsNormal.{is_row, is_identity, is_normal_type, are_normal_parts, is_normal_part, all_normal_parts, is_normal_row}
use Rattle.ur_rows.specs.Put.{Putting, put_label, put_type, put_parts, put_part, put_row, mapped_variable, renaming_but, renaming, raised_var, raising, raised_type, at_fn, nearer, type_at, applied_type, composed, mapped_part, mapped_row}
use Rattle.ur_rows.proofs.Order.{with_part-yes, with_part-no, with_part-first, with_part-swap, joined-with_part, is_row-tail, joined-swap, joined-assoc, record-parts, form-parts, parts-row, and-left, and-right, and-both}

-- ---- a substitution in a row

pub put_row-with_part : (σ : Putting) (d : ℕ) (p : Part) (r : List Part) → put_row σ d (with_part p r) ≡ joined (put_part σ d p) (put_row σ d r)
put_row-with_part σ d p [] = refl
put_row-with_part σ d p (q ∷ r) = step (cases_Bool (stands_before p q)) (put_row-with_part σ d p r) where
  step : (stands_before p q ≡ true) ⊎ (stands_before p q ≡ false) → put_row σ d (with_part p r) ≡ joined (put_part σ d p) (put_row σ d r) →
      put_row σ d (with_part p (q ∷ r)) ≡ joined (put_part σ d p) (put_row σ d (q ∷ r))
  step (inl x) ih = ap (put_row σ d) (with_part-yes p q r x)
  step (inr x) ih = ap (put_row σ d) (with_part-no p q r x) ∙ ap (joined (put_part σ d q)) ih ∙
      joined-swap (put_part σ d q) (put_part σ d p) (put_row σ d r)

pub put_row-joined : (σ : Putting) (d : ℕ) (r s : List Part) → put_row σ d (joined r s) ≡ joined (put_row σ d r) (put_row σ d s)
put_row-joined σ d [] s = refl
put_row-joined σ d (p ∷ r) s = put_row-with_part σ d p (joined r s) ∙ ap (joined (put_part σ d p)) (put_row-joined σ d r s) ∙
    sym (joined-assoc (put_part σ d p) (put_row σ d r) (put_row σ d s))

pub put_parts-row : (σ : Putting) (d : ℕ) (r : List Part) → put_parts σ d (row r).1 ≡ put_row σ d r
put_parts-row σ d [] = refl
put_parts-row σ d (p ∷ r) = ap (joined (put_part σ d p)) (put_parts-row σ d r)

-- ---- one substitution after another

-- σ after τ is ρ, where these stand within as many `fn`s as L says
pub record Composes (L : ℕ → ℕ → ℕ → Type 0) (σ τ ρ : Putting) : Type 0 where
  pub deeper : (a b c : ℕ) → L a b c → L (suc a) (suc b) (suc c)
  pub types : (a b c : ℕ) → L a b c → (v : Var) → put_type σ a (τ.types b v) ≡ ρ.types c v
  pub labels : (a b c : ℕ) → L a b c → (v : Var) → put_label σ a (τ.labels b v) ≡ ρ.labels c v
  pub rows : (a b c : ℕ) → L a b c → (v : Var) → put_row σ a (τ.rows b v) ≡ ρ.rows c v
  pub maps : (a b c : ℕ) → L a b c → (v : Var) (g : NormalType) → put_row σ a (τ.maps b v g) ≡ ρ.maps c v (put_type σ (suc a) g)

pub put_label-after : {L : ℕ → ℕ → ℕ → Type 0} {σ τ ρ : Putting} → Composes L σ τ ρ → (a b c : ℕ) → L a b c → (l : Label) →
    put_label σ a (put_label τ b l) ≡ put_label ρ c l
put_label-after k a b c at (label.Literal x) = refl
put_label-after k a b c at (label.Variable v) = k.labels a b c at v

mutual
  pub put_type-after : {L : ℕ → ℕ → ℕ → Type 0} {σ τ ρ : Putting} → Composes L σ τ ρ → (a b c : ℕ) → L a b c → (t : NormalType) →
      put_type σ a (put_type τ b t) ≡ put_type ρ c t
  put_type-after k a b c at (ty.Variable v) = k.types a b c at v
  put_type-after k a b c at (ty.Opt' _ (its t alone)) = ap option_of (put_type-after k a b c at t)
  put_type-after k a b c at (ty.Many' _ (its t alone)) = ap list_of (put_type-after k a b c at t)
  put_type-after k a b c at (ty.Transaction' _ (its t alone)) = ap transaction_of (put_type-after k a b c at t)
  put_type-after k a b c at (ty.Arrow' _ (its t alone) _ (its u alone)) = ap₂ arrow_of (put_type-after k a b c at t) (put_type-after k a b c at u)
  put_type-after {σ = σ} {τ = τ} k a b c at (ty.Record' _ r) = ap record_of (put_parts-row σ a (put_parts τ b r) ∙ put_parts-after k a b c at r)
  put_type-after {σ = σ} {τ = τ} k a b c at (ty.Form' _ r) = ap form_of (put_parts-row σ a (put_parts τ b r) ∙ put_parts-after k a b c at r)
  put_type-after k a b c at t = refl

  pub put_parts-after : {L : ℕ → ℕ → ℕ → Type 0} {σ τ ρ : Putting} {n : _} → Composes L σ τ ρ → (a b c : ℕ) → L a b c → (r : Row_of-Part n) →
      put_row σ a (put_parts τ b r) ≡ put_parts ρ c r
  put_parts-after k a b c at end = refl
  put_parts-after {σ = σ} {τ = τ} k a b c at (more p r) =
      put_row-joined σ a (put_part τ b p) (put_parts τ b r) ∙ ap₂ joined (put_part-after k a b c at p) (put_parts-after k a b c at r)

  pub put_part-after : {L : ℕ → ℕ → ℕ → Type 0} {σ τ ρ : Putting} → Composes L σ τ ρ → (a b c : ℕ) → L a b c → (p : Part) →
      put_row σ a (put_part τ b p) ≡ put_part ρ c p
  put_part-after k a b c at (part.Field' l _ (its t alone)) =
      ap₂ (λ x y. field x y ∷ []) (put_label-after k a b c at l) (put_type-after k a b c at t)
  put_part-after k a b c at (part.Piece v) = k.rows a b c at v
  put_part-after {τ = τ} {ρ = ρ} k a b c at (part.Mapped' v _ (its f alone)) =
      k.maps a b c at v (put_type τ (suc b) f) ∙ ap (ρ.maps c v) (put_type-after k (suc a) (suc b) (suc c) (k.deeper a b c at) f)

-- ---- substitutions of types alone

-- the variable of the innermost `fn` stays within more of them
abbrev Keeps : (ℕ → Var → NormalType) → Type 0
Keeps ts = (d : ℕ) → ts (suc d) (var.Bound 0) ≡ ty.Variable (var.Bound 0)

put_mapped : (f : ℕ → Var → Var) (ts : ℕ → Var → NormalType) → Keeps ts → (d : ℕ) (w : Var) (g : NormalType) →
    put_row (renaming_but f ts) d (mapped_variable g w ∷ []) ≡ mapped_variable (put_type (renaming_but f ts) (suc d) g) (f d w) ∷ []
put_mapped f ts k d w (ty.Variable (var.Bound zero)) = ap (λ x. mapped_variable x (f d w) ∷ []) (sym (k d))
put_mapped f ts k d w g = refl

composes : {L : ℕ → ℕ → ℕ → Type 0} (f g h : ℕ → Var → Var) (ts us vs : ℕ → Var → NormalType) →
    ((a b c : ℕ) → L a b c → L (suc a) (suc b) (suc c)) → Keeps ts →
    ((a b c : ℕ) → L a b c → (v : Var) → f a (g b v) ≡ h c v) →
    ((a b c : ℕ) → L a b c → (v : Var) → put_type (renaming_but f ts) a (us b v) ≡ vs c v) →
    Composes L (renaming_but f ts) (renaming_but g us) (renaming_but h vs)
composes f g h ts us vs deeper keeps vars types = record {
  deeper = deeper;
  types = types;
  labels = λ a b c at v. ap (λ w. label.Variable w) (vars a b c at v);
  rows = λ a b c at v. ap (λ w. part.Piece w ∷ []) (vars a b c at v);
  maps = λ a b c at v m. put_mapped f ts keeps a (g b v) m ∙
      ap (λ w. mapped_variable (put_type (renaming_but f ts) (suc a) m) w ∷ []) (vars a b c at v);
}

raised-keeps : (by : ℕ) → Keeps (λ d v. ty.Variable (raised_var by d v))
raised-keeps by d = ap (λ (b : Bool). ty.Variable (if b then var.Bound 0 else var.Bound (0 + by))) (lt d) where
  lt : (d : ℕ) → nat_lt 0 (suc d) ≡ true
  lt d = grind (arith, nat_tests)

at-keeps : (by : ℕ) (t : NormalType) → Keeps (type_at by t).types
at-keeps by t d = ap₂ (λ (b c : Bool). if b then raised_type (suc d) t else ty.Variable (var.Bound (if c then 0 - by else 0))) (eq d) (lt d) where
  eq : (d : ℕ) → (0 == suc d) ≡ false
  eq d = grind (arith, nat_tests)

  lt : (d : ℕ) → nat_lt (suc d) 0 ≡ false
  lt d = grind (arith, nat_tests)

-- ---- variables

bound : {i j : ℕ} → i ≡ j → var.Bound i ≡ var.Bound j
bound e = ap (λ k. var.Bound k) e

raised-low : (by d i : ℕ) → i < d → raised_var by d (var.Bound i) ≡ var.Bound i
raised-low by d i h = ap (λ (b : Bool). if b then var.Bound i else var.Bound (i + by)) (lt d i h) where
  lt : (d i : ℕ) → i < d → nat_lt i d ≡ true
  lt d i h = grind (arith, nat_tests)

raised-high : (by d i : ℕ) → d ≤ i → raised_var by d (var.Bound i) ≡ var.Bound (i + by)
raised-high by d i h = ap (λ (b : Bool). if b then var.Bound i else var.Bound (i + by)) (lt d i h) where
  lt : (d i : ℕ) → d ≤ i → nat_lt i d ≡ false
  lt d i h = grind (arith, nat_tests)

at_fn-low : {A : Type 0} (by d i : ℕ) (x : A) (f : Var → A) → i < d → at_fn by d (var.Bound i) x f ≡ f (var.Bound i)
at_fn-low by d i x f h = ap₂ (λ (b c : Bool). if b then x else f (var.Bound (if c then i - by else i))) (eq d i h) (lt d i h) where
  eq : (d i : ℕ) → i < d → (i == d) ≡ false
  eq d i h = grind (arith, nat_tests)

  lt : (d i : ℕ) → i < d → nat_lt d i ≡ false
  lt d i h = grind (arith, nat_tests)

at_fn-here : {A : Type 0} (by d i : ℕ) (x : A) (f : Var → A) → i ≡ d → at_fn by d (var.Bound i) x f ≡ x
at_fn-here by d i x f h = ap (λ (b : Bool). if b then x else f (var.Bound (if nat_lt d i then i - by else i))) (eq d i h) where
  eq : (d i : ℕ) → i ≡ d → (i == d) ≡ true
  eq d i h = grind (arith, nat_tests)

at_fn-high : {A : Type 0} (by d i : ℕ) (x : A) (f : Var → A) → d < i → at_fn by d (var.Bound i) x f ≡ f (var.Bound (i - by))
at_fn-high by d i x f h = ap₂ (λ (b c : Bool). if b then x else f (var.Bound (if c then i - by else i))) (eq d i h) (lt d i h) where
  eq : (d i : ℕ) → d < i → (i == d) ≡ false
  eq d i h = grind (arith, nat_tests)

  lt : (d i : ℕ) → d < i → nat_lt d i ≡ true
  lt d i h = grind (arith, nat_tests)

at_fn-past : {A : Type 0} (d i : ℕ) (x : A) (f : Var → A) → d < i → at_fn 0 d (var.Bound i) x f ≡ f (var.Bound i)
at_fn-past d i x f h = at_fn-high 0 d i x f h ∙ ap f (bound {i = i - 0} {j = i} (omega arith))

-- how two numbers stand
pub data Stands (i d : ℕ) : Type 0 where
  low : i < d → Stands i d
  here : i ≡ d → Stands i d
  high : d < i → Stands i d

stands : (i d : ℕ) → Stands i d
stands i d = pick (cases_Bool (nat_lt i d)) (cases_Bool (i == d)) where
  pick : (nat_lt i d ≡ true) ⊎ (nat_lt i d ≡ false) → ((i == d) ≡ true) ⊎ ((i == d) ≡ false) → Stands i d
  pick (inl x) y = low (grind (arith, nat_tests))
  pick (inr x) (inl y) = here (grind (arith, nat_tests))
  pick (inr x) (inr y) = high (grind (arith, nat_tests))

-- ---- raising after raising

abbrev Further : ℕ → ℕ → ℕ → ℕ → Type 0
Further e a b c = (a ≡ e + b) × (b ≡ c)

further-deeper : (e a b c : ℕ) → Further e a b c → Further e (suc a) (suc b) (suc c)
further-deeper e a b c h = (omega arith, omega arith)

raised-raised : (by e a b c : ℕ) → Further e a b c → (v : Var) → raised_var by a (raised_var e b v) ≡ raised_var (by + e) c v
raised-raised by e a b c h (var.Free n) = refl
raised-raised by e a b c h (var.Bound i) = go (stands i b) where
  big : b ≤ i → raised_var by a (raised_var e b (var.Bound i)) ≡ raised_var (by + e) c (var.Bound i)
  big x = ap (raised_var by a) (raised-high e b i x) ∙ raised-high by a (i + e) (omega arith) ∙ bound (omega arith) ∙ sym (raised-high (by + e) c i (omega arith))

  go : Stands i b → raised_var by a (raised_var e b (var.Bound i)) ≡ raised_var (by + e) c (var.Bound i)
  go (low x) = ap (raised_var by a) (raised-low e b i x) ∙ raised-low by a i (omega arith) ∙ sym (raised-low (by + e) c i (omega arith))
  go (here x) = big (omega arith)
  go (high x) = big (omega arith)

pub raise_raise : (by e : ℕ) (t : NormalType) → put_type (raising by) e (raised_type e t) ≡ raised_type (by + e) t
raise_raise by e t = put_type-after (composes {L = Further e} (raised_var by) (raised_var e) (raised_var (by + e)) _ _ _ (further-deeper e) (raised-keeps by) (raised-raised by e)
    (λ a b c at v. ap (λ w. ty.Variable w) (raised-raised by e a b c at v))) e 0 0 (omega arith, omega arith) t

-- ---- raising goes past a type's place

-- both ways give this
abbrev raised_nearer : ℕ → ℕ → ℕ → Var → Var
raised_nearer by d c v = raised_var d c (nearer by c v)

abbrev raised_at : ℕ → ℕ → NormalType → ℕ → Var → NormalType
raised_at by d t c v = at_fn by c v (raised_type (d + c) t) (λ w. ty.Variable (raised_var d c w))

at-raised : {A : Type 0} (by d a b : ℕ) → by ≤ 1 → a ≡ d + b → (v : Var) (x : A) (f : Var → A) →
    at_fn by a (raised_var d b v) x f ≡ at_fn by b v x (λ w. f (raised_var d b w))
at-raised by d a b one h (var.Free n) x f = refl
at-raised {A} by d a b one h (var.Bound i) x f = go (stands i b) where
  go : Stands i b → at_fn by a (raised_var d b (var.Bound i)) x f ≡ at_fn by b (var.Bound i) x (λ w. f (raised_var d b w))
  go (low z) = ap (λ w. at_fn by a w x f) (raised-low d b i z) ∙ at_fn-low by a i x f (omega arith) ∙ ap f (sym (raised-low d b i z)) ∙
      sym (at_fn-low by b i x (λ w. f (raised_var d b w)) z)
  go (here z) = ap (λ w. at_fn by a w x f) (raised-high d b i (omega arith)) ∙ at_fn-here by a (i + d) x f (omega arith) ∙
      sym (at_fn-here by b i x (λ w. f (raised_var d b w)) z)
  go (high z) = ap (λ w. at_fn by a w x f) (raised-high d b i (omega arith)) ∙ at_fn-high by a (i + d) x f (omega arith) ∙
      ap f (bound {i = i + d - by} {j = i - by + d} (omega arith) ∙ sym (raised-high d b (i - by) (omega arith))) ∙
      sym (at_fn-high by b i x (λ w. f (raised_var d b w)) z)

nearer-raised : (by d a b : ℕ) → by ≤ 1 → a ≡ d + b → (v : Var) → nearer by a (raised_var d b v) ≡ raised_var d b (nearer by b v)
nearer-raised by d a b one h (var.Free n) = refl
nearer-raised by d a b one h (var.Bound i) = go (stands i b) where
  go : Stands i b → nearer by a (raised_var d b (var.Bound i)) ≡ raised_var d b (nearer by b (var.Bound i))
  go (low z) = ap (nearer by a) (raised-low d b i z) ∙ at_fn-low by a i (var.Bound a) (λ w. w) (omega arith) ∙ sym (raised-low d b i z) ∙
      ap (raised_var d b) (sym (at_fn-low by b i (var.Bound b) (λ w. w) z))
  go (here z) = ap (nearer by a) (raised-high d b i (omega arith)) ∙ at_fn-here by a (i + d) (var.Bound a) (λ w. w) (omega arith) ∙
      bound {i = a} {j = b + d} (omega arith) ∙ sym (raised-high d b b (omega arith)) ∙ ap (raised_var d b) (sym (at_fn-here by b i (var.Bound b) (λ w. w) z))
  go (high z) = ap (nearer by a) (raised-high d b i (omega arith)) ∙ at_fn-high by a (i + d) (var.Bound a) (λ w. w) (omega arith) ∙
      bound {i = i + d - by} {j = i - by + d} (omega arith) ∙ sym (raised-high d b (i - by) (omega arith)) ∙
      ap (raised_var d b) (sym (at_fn-high by b i (var.Bound b) (λ w. w) z))

abbrev Level : ℕ → ℕ → ℕ → Type 0
Level a b c = (a ≡ b) × (b ≡ c)

level-deeper : (a b c : ℕ) → Level a b c → Level (suc a) (suc b) (suc c)
level-deeper a b c h = (ap (λ k. suc k) h.0, ap (λ k. suc k) h.1)

pub at_raise : (by d : ℕ) (t g : NormalType) → by ≤ 1 → put_type (type_at by t) d (raised_type d g) ≡ raised_type d (put_type (type_at by t) 0 g)
at_raise by d t g one = first ∙ sym second where
  first : put_type (type_at by t) d (raised_type d g) ≡ put_type (renaming_but (raised_nearer by d) (raised_at by d t)) 0 g
  first = put_type-after (composes {L = Further d} (nearer by) (raised_var d) (raised_nearer by d) _ _ (raised_at by d t) (further-deeper d) (at-keeps by t)
      (λ a b c at v. nearer-raised by d a b one at.0 v ∙ ap (λ k. raised_nearer by d k v) at.1)
      (λ a b c at v. at-raised by d a b one at.0 v (raised_type a t) (λ w. ty.Variable w) ∙
      ap₂ (λ (x y : ℕ). at_fn by x v (raised_type y t) (λ w. ty.Variable (raised_var d x w))) at.1 (at.0 ∙ ap (λ k. d + k) at.1))) d 0 0 (omega arith, refl) g

  second : raised_type d (put_type (type_at by t) 0 g) ≡ put_type (renaming_but (raised_nearer by d) (raised_at by d t)) 0 g
  second = put_type-after (composes {L = Level} (raised_var d) (nearer by) (raised_nearer by d) _ _ (raised_at by d t) level-deeper (raised-keeps d)
      (λ a b c at v. ap₂ (λ (x y : ℕ). raised_var d x (nearer by y v)) (at.0 ∙ at.1) at.1)
      (λ a b c at v. ap (λ (x : ℕ). put_type (raising d) x (at_fn by b v (raised_type b t) (λ w. ty.Variable w))) at.0 ∙ here_at b v ∙
      ap (λ x. raised_at by d t x v) at.1)) 0 0 0 (refl, refl) g where
        here_at : (b : ℕ) (v : Var) → put_type (raising d) b (at_fn by b v (raised_type b t) (λ w. ty.Variable w)) ≡ raised_at by d t b v
        here_at b (var.Free n) = refl
        here_at b (var.Bound i) = go (stands i b) where
          go : Stands i b → put_type (raising d) b (at_fn by b (var.Bound i) (raised_type b t) (λ w. ty.Variable w)) ≡ raised_at by d t b (var.Bound i)
          go (low z) = ap (put_type (raising d) b) (at_fn-low by b i (raised_type b t) (λ w. ty.Variable w) z) ∙
              sym (at_fn-low by b i (raised_type (d + b) t) (λ w. ty.Variable (raised_var d b w)) z)
          go (here z) = ap (put_type (raising d) b) (at_fn-here by b i (raised_type b t) (λ w. ty.Variable w) z) ∙ raise_raise d b t ∙
              sym (at_fn-here by b i (raised_type (d + b) t) (λ w. ty.Variable (raised_var d b w)) z)
          go (high z) = ap (put_type (raising d) b) (at_fn-high by b i (raised_type b t) (λ w. ty.Variable w) z) ∙
              sym (at_fn-high by b i (raised_type (d + b) t) (λ w. ty.Variable (raised_var d b w)) z)

-- ---- a type's place after another's

pub at_at : (by : ℕ) (t g f : NormalType) → by ≤ 1 →
    put_type (type_at by t) 0 (put_type (type_at 0 g) 0 f) ≡ put_type (type_at by (put_type (type_at by t) 0 g)) 0 f
at_at by t g f one = put_type-after (composes {L = Level} (nearer by) (nearer 0) (nearer by) _ _ (type_at by (put_type (type_at by t) 0 g)).types level-deeper (at-keeps by t)
    (λ a b c at v. ap₂ (λ (x y : ℕ). nearer by x (nearer 0 y v)) (at.0 ∙ at.1) at.1 ∙ vars c v)
    (λ a b c at v. ap₂ (λ (x y : ℕ). put_type (type_at by t) x ((type_at 0 g).types y v)) (at.0 ∙ at.1) at.1 ∙ types c v)) 0 0 0 (refl, refl) f where
      vars : (c : ℕ) (v : Var) → nearer by c (nearer 0 c v) ≡ nearer by c v
      vars c (var.Free n) = refl
      vars c (var.Bound i) = go (stands i c) where
        go : Stands i c → nearer by c (nearer 0 c (var.Bound i)) ≡ nearer by c (var.Bound i)
        go (low z) = ap (nearer by c) (at_fn-low 0 c i (var.Bound c) (λ w. w) z)
        go (here z) = ap (nearer by c) (at_fn-here 0 c i (var.Bound c) (λ w. w) z ∙ bound (sym z))
        go (high z) = ap (nearer by c) (at_fn-past c i (var.Bound c) (λ w. w) z)

      types : (c : ℕ) (v : Var) → put_type (type_at by t) c ((type_at 0 g).types c v) ≡ (type_at by (put_type (type_at by t) 0 g)).types c v
      types c (var.Free n) = refl
      types c (var.Bound i) = go (stands i c) where
        v1 : Var → NormalType
        v1 w = ty.Variable w

        go : Stands i c → put_type (type_at by t) c ((type_at 0 g).types c (var.Bound i)) ≡ (type_at by (put_type (type_at by t) 0 g)).types c (var.Bound i)
        go (low z) = ap (put_type (type_at by t) c) (at_fn-low 0 c i (raised_type c g) (λ w. ty.Variable w) z) ∙
            at_fn-low by c i (raised_type c t) (λ w. ty.Variable w) z ∙ sym (at_fn-low by c i (raised_type c (put_type (type_at by t) 0 g)) (λ w. ty.Variable w) z)
        go (here z) = ap (put_type (type_at by t) c) (at_fn-here 0 c i (raised_type c g) (λ w. ty.Variable w) z) ∙ at_raise by c t g one ∙
            sym (at_fn-here by c i (raised_type c (put_type (type_at by t) 0 g)) (λ w. ty.Variable w) z)
        go (high z) = ap (put_type (type_at by t) c) (at_fn-past c i (raised_type c g) (λ w. ty.Variable w) z) ∙
            at_fn-high by c i (raised_type c t) (λ w. ty.Variable w) z ∙ sym (at_fn-high by c i (raised_type c (put_type (type_at by t) 0 g)) (λ w. ty.Variable w) z)

-- the composition does one function after the other
pub applied-composed : (f g t : NormalType) → applied_type (composed f g) t ≡ applied_type f (applied_type g t)
applied-composed f g t = at_at 1 t g f (omega arith)

pub composed-assoc : (f g h : NormalType) → composed (composed f g) h ≡ composed f (composed g h)
composed-assoc f g h = at_at 0 h g f (omega arith)

-- ---- the identity

pub record IsIdentity (σ : Putting) : Type 0 where
  pub types : (d : ℕ) (v : Var) → σ.types d v ≡ ty.Variable v
  pub labels : (d : ℕ) (v : Var) → σ.labels d v ≡ label.Variable v
  pub rows : (d : ℕ) (v : Var) → σ.rows d v ≡ part.Piece v ∷ []
  pub maps : (d : ℕ) (v : Var) (g : NormalType) → σ.maps d v g ≡ mapped_variable g v ∷ []

pub mapped-proper : (f : NormalType) (v : Var) → not (is_identity f) ≡ true → mapped_variable f v ≡ mapped v f
mapped-proper (ty.Variable (var.Bound zero)) v e = absurd (cc)
mapped-proper f v e = refl

put_label-same : {σ : Putting} → IsIdentity σ → (d : ℕ) (l : Label) → put_label σ d l ≡ l
put_label-same i d (label.Literal x) = refl
put_label-same i d (label.Variable v) = i.labels d v

mutual
  pub put_type-same : {σ : Putting} → IsIdentity σ → (d : ℕ) (t : NormalType) → is_normal_type t ≡ true → put_type σ d t ≡ t
  put_type-same i d (ty.Variable v) e = i.types d v
  put_type-same i d (ty.Opt' _ (its t alone)) e = ap option_of (put_type-same i d t e)
  put_type-same i d (ty.Many' _ (its t alone)) e = ap list_of (put_type-same i d t e)
  put_type-same i d (ty.Transaction' _ (its t alone)) e = ap transaction_of (put_type-same i d t e)
  put_type-same i d (ty.Arrow' _ (its t alone) _ (its u alone)) e =
      ap₂ arrow_of (put_type-same i d t (and-left (is_normal_type t) (is_normal_type u) e)) (put_type-same i d u (and-right (is_normal_type t) (is_normal_type u) e))
  put_type-same i d (ty.Record' s r) e =
      ap record_of (put_parts-same i d r (and-left (is_row (parts r)) (are_normal_parts r) e) (and-right (is_row (parts r)) (are_normal_parts r) e)) ∙ record-parts s r
  put_type-same i d (ty.Form' s r) e =
      ap form_of (put_parts-same i d r (and-left (is_row (parts r)) (are_normal_parts r) e) (and-right (is_row (parts r)) (are_normal_parts r) e)) ∙ form-parts s r
  put_type-same i d t e = refl

  pub put_parts-same : {σ : Putting} {n : _} → IsIdentity σ → (d : ℕ) (r : Row_of-Part n) → is_row (parts r) ≡ true → are_normal_parts r ≡ true →
      put_parts σ d r ≡ parts r
  put_parts-same i d end e f = refl
  put_parts-same {σ = σ} i d (more p r) e f =
      ap₂ joined (put_part-same i d p (and-left (is_normal_part p) (are_normal_parts r) f))
      (put_parts-same i d r (is_row-tail p (parts r) e) (and-right (is_normal_part p) (are_normal_parts r) f)) ∙
      with_part-first p (parts r) e

  pub put_part-same : {σ : Putting} → IsIdentity σ → (d : ℕ) (p : Part) → is_normal_part p ≡ true → put_part σ d p ≡ p ∷ []
  put_part-same i d (part.Field' l _ (its t alone)) e = ap₂ (λ x y. field x y ∷ []) (put_label-same i d l) (put_type-same i d t e)
  put_part-same i d (part.Piece v) e = i.rows d v
  put_part-same {σ = σ} i d (part.Mapped' v _ (its f alone)) e =
      ap (σ.maps d v) (put_type-same i (suc d) f (and-right (not (is_identity f)) (is_normal_type f) e)) ∙ i.maps d v f ∙
      ap (λ x. x ∷ []) (mapped-proper f v (and-left (not (is_identity f)) (is_normal_type f) e))

identity-of : (f : ℕ → Var → Var) (ts : ℕ → Var → NormalType) → ((d : ℕ) (v : Var) → f d v ≡ v) → ((d : ℕ) (v : Var) → ts d v ≡ ty.Variable v) →
    IsIdentity (renaming_but f ts)
identity-of f ts e h = record {
  types = h;
  labels = λ d v. ap (λ w. label.Variable w) (e d v);
  rows = λ d v. ap (λ w. part.Piece w ∷ []) (e d v);
  maps = λ d v g. ap (λ w. mapped_variable g w ∷ []) (e d v);
}

raised-none : (d : ℕ) (v : Var) → raised_var 0 d v ≡ v
raised-none d (var.Free n) = refl
raised-none d (var.Bound i) = go (stands i d) where
  go : Stands i d → raised_var 0 d (var.Bound i) ≡ var.Bound i
  go (low z) = raised-low 0 d i z
  go (here z) = raised-high 0 d i (omega arith) ∙ bound (omega arith)
  go (high z) = raised-high 0 d i (omega arith) ∙ bound (omega arith)

pub raised-same : (t : NormalType) → is_normal_type t ≡ true → raised_type 0 t ≡ t
raised-same t e = put_type-same (identity-of (raised_var 0) _ raised-none (λ d v. ap (λ w. ty.Variable w) (raised-none d v))) 0 t e

-- the identity's body
abbrev itself : NormalType
itself = ty.Variable (var.Bound 0)

at-itself : (d : ℕ) (v : Var) → (type_at 0 itself).types d v ≡ ty.Variable v
at-itself d (var.Free n) = refl
at-itself d (var.Bound i) = go (stands i d) where
  go : Stands i d → (type_at 0 itself).types d (var.Bound i) ≡ ty.Variable (var.Bound i)
  go (low z) = at_fn-low 0 d i (raised_type d itself) (λ w. ty.Variable w) z
  go (here z) = at_fn-here 0 d i (raised_type d itself) (λ w. ty.Variable w) z ∙ ap (λ w. ty.Variable w) (raised-high d 0 0 (omega arith) ∙ bound {i = 0 + d} {j = i} (omega arith))
  go (high z) = at_fn-past d i (raised_type d itself) (λ w. ty.Variable w) z

nearer-none : (d : ℕ) (v : Var) → nearer 0 d v ≡ v
nearer-none d (var.Free n) = refl
nearer-none d (var.Bound i) = go (stands i d) where
  go : Stands i d → nearer 0 d (var.Bound i) ≡ var.Bound i
  go (low z) = at_fn-low 0 d i (var.Bound d) (λ w. w) z
  go (here z) = at_fn-here 0 d i (var.Bound d) (λ w. w) z ∙ bound (sym z)
  go (high z) = at_fn-past d i (var.Bound d) (λ w. w) z

pub composed-itself : (f : NormalType) → is_normal_type f ≡ true → composed f itself ≡ f
composed-itself f e = put_type-same (identity-of (nearer 0) (type_at 0 itself).types nearer-none at-itself) 0 f e

pub itself-composed : (g : NormalType) → is_normal_type g ≡ true → composed itself g ≡ g
itself-composed g e = raised-same g e

-- ---- map

pub mapped_row-with_part : (f : NormalType) (p : Part) (r : List Part) → mapped_row f (with_part p r) ≡ with_part (mapped_part f p) (mapped_row f r)
mapped_row-with_part f p [] = refl
mapped_row-with_part f p (q ∷ r) = step (cases_Bool (stands_before p q)) (mapped_row-with_part f p r) where
  step : (stands_before p q ≡ true) ⊎ (stands_before p q ≡ false) → mapped_row f (with_part p r) ≡ with_part (mapped_part f p) (mapped_row f r) →
      mapped_row f (with_part p (q ∷ r)) ≡ with_part (mapped_part f p) (mapped_row f (q ∷ r))
  step (inl x) ih = ap (mapped_row f) (with_part-yes p q r x)
  step (inr x) ih = ap (mapped_row f) (with_part-no p q r x) ∙ ap (with_part (mapped_part f q)) ih ∙
      with_part-swap (mapped_part f q) (mapped_part f p) (mapped_row f r)

-- a map of a union is the union of the maps
pub mapped_row-joined : (f : NormalType) (r s : List Part) → mapped_row f (joined r s) ≡ joined (mapped_row f r) (mapped_row f s)
mapped_row-joined f [] s = refl
mapped_row-joined f (p ∷ r) s = mapped_row-with_part f p (joined r s) ∙ ap (with_part (mapped_part f p)) (mapped_row-joined f r s) ∙
    sym (joined-with_part (mapped_part f p) (mapped_row f r) (mapped_row f s))

mapped_part-variable : (f g : NormalType) (v : Var) → is_normal_type f ≡ true → mapped_part f (mapped_variable g v) ≡ mapped_variable (composed f g) v
mapped_part-variable f (ty.Variable (var.Bound zero)) v e = ap (λ x. mapped_variable x v) (sym (composed-itself f e))
mapped_part-variable f g v e = refl

mapped_part-twice : (f g : NormalType) (p : Part) → is_normal_type f ≡ true → mapped_part f (mapped_part g p) ≡ mapped_part (composed f g) p
mapped_part-twice f g (part.Field' l _ (its t alone)) e = ap (field l) (sym (applied-composed f g t))
mapped_part-twice f g (part.Piece v) e = mapped_part-variable f g v e
mapped_part-twice f g (part.Mapped' v _ (its h alone)) e = mapped_part-variable f (composed g h) v e ∙ ap (λ x. mapped_variable x v) (sym (composed-assoc f g h))

-- a map of a map is the map of the composition
pub mapped_row-twice : (f g : NormalType) (r : List Part) → is_normal_type f ≡ true → mapped_row f (mapped_row g r) ≡ mapped_row (composed f g) r
mapped_row-twice f g [] e = refl
mapped_row-twice f g (p ∷ r) e = mapped_row-with_part f (mapped_part g p) (mapped_row g r) ∙
    ap₂ with_part (mapped_part-twice f g p e) (mapped_row-twice f g r e)

mapped_part-itself : (p : Part) → is_normal_part p ≡ true → mapped_part itself p ≡ p
mapped_part-itself (part.Field' l _ (its t alone)) e = ap (field l) (raised-same t e)
mapped_part-itself (part.Piece v) e = refl
mapped_part-itself (part.Mapped' v _ (its h alone)) e =
    ap (λ x. mapped_variable x v) (itself-composed h (and-right (not (is_identity h)) (is_normal_type h) e)) ∙
    mapped-proper h v (and-left (not (is_identity h)) (is_normal_type h) e)

-- the map of the identity changes nothing
pub mapped_row-itself : (r : List Part) → is_normal_row r ≡ true → mapped_row itself r ≡ r
mapped_row-itself r e = go r (and-left (is_row r) (all_normal_parts r) e) (and-right (is_row r) (all_normal_parts r) e) where
  go : (r : List Part) → is_row r ≡ true → all_normal_parts r ≡ true → mapped_row itself r ≡ r
  go [] e f = refl
  go (p ∷ r) e f = ap₂ with_part (mapped_part-itself p (and-left (is_normal_part p) (all_normal_parts r) f))
      (go r (is_row-tail p r e) (and-right (is_normal_part p) (all_normal_parts r) f)) ∙ with_part-first p r e
