-- Substitutions go past a constructor in place of a function's variable.
use Rattle.std.proofs.Common.{◌≡◌, refl, ap, ap₂, sym, ◌∙◌, subst, ℕ, zero, suc, ◌+◌, ◌-◌, ◌≤◌, ◌<◌, true, false, true≢false, List, [], ◌∷◌, slice_get, Some, arith}
use Rattle.ur_syntax.specs.declared.kind.Kind.{Kind}
use Rattle.ur_syntax.specs.declared.kind.Kind.TheVariants as kind
use Rattle.ur_rows.specs.declared.normal.Var.{Var}
use Rattle.ur_rows.specs.declared.normal.Var.TheVariants as var
use Rattle.ur_rows.specs.declared.normal.Label.{Label}
use Rattle.ur_rows.specs.declared.normal.Label.TheVariants as label
use Rattle.ur_rows.specs.declared.normal.NormalType.{NormalType}
use Rattle.ur_rows.specs.declared.normal.NormalType.TheVariants as ty
use Rattle.ur_rows.specs.declared.normal.Part.{Part}
use Rattle.ur_rows.specs.declared.normal.Part.TheVariants as part
use Rattle.ur_rows.specs.declared.normal.Normal.{Normal}
use Rattle.ur_rows.specs.declared.normal.Normal.TheVariants as normal
use Rattle.ur_rows.specs.declared.normal.Normal.TheBlock.{end_of-Normal as sole, more_of-Normal as the}
use Rattle.ur_rows.specs.IsNormal.{is_row, is_normal_type, all_normal_parts, is_normal_row}
use Rattle.ur_rows.specs.Kinded.{Variables, kind_at, is_star, is_name, is_row as is_of_row, label_is_in, with_bound, type_is_in, row_is_in, is_of_kind}
use Rattle.ur_rows.specs.Put.{Putting, as_type, as_label, as_row, put, put_label, put_type, put_row, raised_var, raising, raised, at_fn, nearer, is_here, mapped_row, argument}
use Rattle.ur_rows.proofs.Order.{and-left, joined-nil}
use Rattle.ur_rows.proofs.PutAfter.{Composes, put_type-after, put_type-same, Stands, low, here, high}
use Rattle.ur_rows.proofs.InOrder.{raised-normal, as_row-normal, argument-normal}
use Rattle.ur_rows_laws.proofs.Kept.{KeepsKinds, type-kept, row-kept, label-kept, map-row-in, one-in, raising-keeps, raised-none, applied-others, others-deeper, outer-deeper, is-star, is-name, is-row}
use Rattle.ur_rows_laws.proofs.Levels.{stands, raised-high, raised-twice, not-low, not-high, at-low, at-here, at-high, at-raised-one}
use Rattle.ur_rows_laws.proofs.After.{ComposesIn, type-after, row-after, row-after-all, row-same, Proper, put-mapped, raising-proper, type_at-proper}
use Rattle.ur_rows_laws.proofs.Passing.{itself, itself-same, Passes, raising-passes, type_at-passes, raises-twice, raise-twice, raise-past, row-raise-past, nearer-past, never-here, Outside, outside-free, outside-high, row-normal, map-past, suc-is, suc-plus, plus-none, next, below}

-- ---- elsewhere than at the place

pub at-elsewhere : {A : Type 0} (d : ℕ) (v : Var) (x : A) (f : Var → A) → is_here d v ≡ false → at_fn 1 d v x f ≡ f (nearer 1 d v)
at-elsewhere d (var.Free m) x f e = refl
at-elsewhere d (var.Bound i) x f e = go (stands i d) where
  go : Stands i d → at_fn 1 d (var.Bound i) x f ≡ f (nearer 1 d (var.Bound i))
  go (low z) = at-low 1 d i x f z ∙ sym (ap f (at-low 1 d i (var.Bound d) (λ w. w) z))
  go (here z) = absurd (never-here i d z e)
  go (high z) = at-high 1 d i x f z ∙ sym (ap f (at-high 1 d i (var.Bound d) (λ w. w) z))

-- at the place, or elsewhere
data Where (d : ℕ) (v : Var) : Type 0 where
  there : (i : ℕ) → v ≡ var.Bound i → i ≡ d → Where d v
  elsewhere : is_here d v ≡ false → Where d v

where-is : (d : ℕ) (v : Var) → Where d v
where-is d (var.Free m) = elsewhere refl
where-is d (var.Bound i) = go (stands i d) where
  go : Stands i d → Where d (var.Bound i)
  go (low z) = elsewhere (not-low d i z)
  go (here z) = there i refl z
  go (high z) = elsewhere (not-high d i z)

-- us is the scope of the constructor of kind k, which ws has d functions within
pub record PlacedAt (k : Kind) (us vs ws : Variables) (d : ℕ) : Type 0 where
  pub kind : slice_get vs.bound d ≡ Some k
  pub others : (v : Var) → is_here d v ≡ false → kind_at ws (nearer 1 d v) ≡ kind_at vs v
  pub outer : (v : Var) → kind_at ws (raised_var d 0 v) ≡ kind_at us v

pub placed-deeper : (k o : Kind) (us vs ws : Variables) (d : ℕ) → PlacedAt k us vs ws d → PlacedAt k us (with_bound o vs) (with_bound o ws) (suc d)
placed-deeper k o us vs ws d p = record { kind = p.kind; others = others-deeper 1 o vs ws d (omega arith) p.others; outer = outer-deeper o us ws d p.outer }

kind-there : (k : Kind) (us vs ws : Variables) (d i : ℕ) (v : Var) → PlacedAt k us vs ws d → v ≡ var.Bound i → i ≡ d → kind_at vs v ≡ Some k
kind-there k us vs ws d i v p e f = ap (kind_at vs) e ∙ ap (slice_get vs.bound) f ∙ p.kind

-- a constructor of a kind, raised
raised-type-in : (us ws : Variables) (d : ℕ) (a : Normal) → is_of_kind us a kind.Star ≡ true → ((v : Var) → kind_at ws (raised_var d 0 v) ≡ kind_at us v) → type_is_in ws (as_type (raised d a)) ≡ true
raised-type-in us ws d (normal.Type t) e o = type-kept (raising-keeps d) us ws 0 o t e
raised-type-in us ws d (normal.Name l) e o = absurd (true≢false (sym e))
raised-type-in us ws d (normal.Row r) e o = absurd (true≢false (sym e))
raised-type-in us ws d (normal.Fn' k _ c) e o = absurd (true≢false (sym e))

raised-label-in : (us ws : Variables) (d : ℕ) (a : Normal) → is_of_kind us a kind.Name ≡ true → ((v : Var) → kind_at ws (raised_var d 0 v) ≡ kind_at us v) → label_is_in ws (as_label (raised d a)) ≡ true
raised-label-in us ws d (normal.Type t) e o = absurd (true≢false (sym e))
raised-label-in us ws d (normal.Name l) e o = label-kept (raising-keeps d) us ws 0 o l e
raised-label-in us ws d (normal.Row r) e o = absurd (true≢false (sym e))
raised-label-in us ws d (normal.Fn' k _ c) e o = absurd (true≢false (sym e))

raised-row-in : (us ws : Variables) (d : ℕ) (a : Normal) → is_of_kind us a kind.Row ≡ true → ((v : Var) → kind_at ws (raised_var d 0 v) ≡ kind_at us v) → row_is_in ws (as_row (raised d a)) ≡ true
raised-row-in us ws d (normal.Type t) e o = absurd (true≢false (sym e))
raised-row-in us ws d (normal.Name l) e o = absurd (true≢false (sym e))
raised-row-in us ws d (normal.Row r) e o = row-kept (raising-keeps d) us ws 0 o r e
raised-row-in us ws d (normal.Fn' k _ c) e o = absurd (true≢false (sym e))

some-is : {k j : Kind} → Some k ≡ Some j → k ≡ j
some-is e = cc

argument-types : (k : Kind) (us vs ws : Variables) (a : Normal) (d : ℕ) → is_of_kind us a k ≡ true → PlacedAt k us vs ws d → (v : Var) → is_star (kind_at vs v) ≡ true → type_is_in ws ((argument a).types d v) ≡ true
argument-types k us vs ws a d e p v h = go (where-is d v) where
  go : Where d v → type_is_in ws ((argument a).types d v) ≡ true
  go (there i f g) = ap (λ w. type_is_in ws ((argument a).types d w)) f ∙ ap (type_is_in ws) (at-here 1 d i (as_type (raised d a)) (λ w. ty.Variable w) g) ∙
      raised-type-in us ws d a (subst (λ z. is_of_kind us a z ≡ true) (some-is (sym (kind-there k us vs ws d i v p f g) ∙ is-star (kind_at vs v) h)) e) p.outer
  go (elsewhere n) = ap (type_is_in ws) (at-elsewhere d v (as_type (raised d a)) (λ w. ty.Variable w) n) ∙ ap is_star (p.others v n) ∙ h

argument-labels : (k : Kind) (us vs ws : Variables) (a : Normal) (d : ℕ) → is_of_kind us a k ≡ true → PlacedAt k us vs ws d → (v : Var) → is_name (kind_at vs v) ≡ true → label_is_in ws ((argument a).labels d v) ≡ true
argument-labels k us vs ws a d e p v h = go (where-is d v) where
  go : Where d v → label_is_in ws ((argument a).labels d v) ≡ true
  go (there i f g) = ap (λ w. label_is_in ws ((argument a).labels d w)) f ∙ ap (label_is_in ws) (at-here 1 d i (as_label (raised d a)) (λ w. label.Variable w) g) ∙
      raised-label-in us ws d a (subst (λ z. is_of_kind us a z ≡ true) (some-is (sym (kind-there k us vs ws d i v p f g) ∙ is-name (kind_at vs v) h)) e) p.outer
  go (elsewhere n) = ap (label_is_in ws) (at-elsewhere d v (as_label (raised d a)) (λ w. label.Variable w) n) ∙ ap is_name (p.others v n) ∙ h

argument-rows : (k : Kind) (us vs ws : Variables) (a : Normal) (d : ℕ) → is_of_kind us a k ≡ true → PlacedAt k us vs ws d → (v : Var) → is_of_row (kind_at vs v) ≡ true → row_is_in ws ((argument a).rows d v) ≡ true
argument-rows k us vs ws a d e p v h = go (where-is d v) where
  go : Where d v → row_is_in ws ((argument a).rows d v) ≡ true
  go (there i f g) = ap (λ w. row_is_in ws ((argument a).rows d w)) f ∙ ap (row_is_in ws) (at-here 1 d i (as_row (raised d a)) (λ w. part.Piece w ∷ []) g) ∙
      raised-row-in us ws d a (subst (λ z. is_of_kind us a z ≡ true) (some-is (sym (kind-there k us vs ws d i v p f g) ∙ is-row (kind_at vs v) h)) e) p.outer
  go (elsewhere n) = ap (row_is_in ws) (at-elsewhere d v (as_row (raised d a)) (λ w. part.Piece w ∷ []) n) ∙ one-in ws (part.Piece (nearer 1 d v)) (ap is_of_row (p.others v n) ∙ h)

pub argument-keeps : (k : Kind) (us : Variables) (a : Normal) → is_of_kind us a k ≡ true → KeepsKinds (PlacedAt k us) (argument a)
argument-keeps k us a e = record {
  deeper = λ o vs ws d p. placed-deeper k o us vs ws d p;
  types = λ vs ws d p v h. argument-types k us vs ws a d e p v h;
  labels = λ vs ws d p v h. argument-labels k us vs ws a d e p v h;
  rows = λ vs ws d p v h. argument-rows k us vs ws a d e p v h;
  maps = λ vs ws d p v h g i. map-row-in ws g ((argument a).rows d v) i (argument-rows k us vs ws a d e p v h);
}

argument-sorted : (a : Normal) (d : ℕ) (v : Var) → is_row ((argument a).rows d v) ≡ true
argument-sorted a d (var.Free m) = refl
argument-sorted a d (var.Bound i) = go (stands i d) where
  go : Stands i d → is_row ((argument a).rows d (var.Bound i)) ≡ true
  go (low z) = ap is_row (at-low 1 d i (as_row (raised d a)) (λ w. part.Piece w ∷ []) z)
  go (here z) = ap is_row (at-here 1 d i (as_row (raised d a)) (λ w. part.Piece w ∷ []) z) ∙ and-left (is_row (as_row (raised d a))) (all_normal_parts (as_row (raised d a))) (as_row-normal (raised d a) (raised-normal d a))
  go (high z) = ap is_row (at-high 1 d i (as_row (raised d a)) (λ w. part.Piece w ∷ []) z)

pub argument-proper : (a : Normal) → Proper (argument a)
argument-proper a = record {
  normal = argument-normal a;
  sorted = argument-sorted a;
  maps = λ d v g. refl;
  inner_types = λ d i h. at-low 1 d i (as_type (raised d a)) (λ w. ty.Variable w) h;
  inner_labels = λ d i h. at-low 1 d i (as_label (raised d a)) (λ w. label.Variable w) h;
  inner_rows = λ d i h. at-low 1 d i (as_row (raised d a)) (λ w. part.Piece w ∷ []) h;
}

-- ---- an argument goes past raising

-- a constructor that was raised is raised again
as-type-raised : (k n c : ℕ) (a : Normal) → c ≤ n → put_type (raising k) c (as_type (raised n a)) ≡ as_type (raised (n + k) a)
as-type-raised k n c (normal.Type t) l = raise-twice k n c t l
as-type-raised k n c (normal.Name x) l = refl
as-type-raised k n c (normal.Row r) l = refl
as-type-raised k n c (normal.Fn' j _ (the b sole)) l = refl

as-row-raised : (k n c : ℕ) (a : Normal) → c ≤ n → put_row (raising k) c (as_row (raised n a)) ≡ as_row (raised (n + k) a)
as-row-raised k n c (normal.Type t) l = refl
as-row-raised k n c (normal.Name x) l = refl
as-row-raised k n c (normal.Row r) l = row-after-all (raises-twice k n c l) c 0 0 (plus-none c, refl) r
as-row-raised k n c (normal.Fn' j _ (the b sole)) l = refl

as-label-raised : (k n c : ℕ) (a : Normal) → c ≤ n → put_label (raising k) c (as_label (raised n a)) ≡ as_label (raised (n + k) a)
as-label-raised k n c (normal.Type t) l = refl
as-label-raised k n c (normal.Name (label.Literal x)) l = refl
as-label-raised k n c (normal.Name (label.Variable v)) l = ap (λ w. label.Variable w) (raised-twice k n c 0 (omega arith) (omega arith) v)
as-label-raised k n c (normal.Row r) l = refl
as-label-raised k n c (normal.Fn' j _ (the b sole)) l = refl

-- the place and what stands elsewhere, raised
at-raised : {A : Type 0} (n k c : ℕ) → c ≤ n → (v : Var) (x y : A) (f : Var → A) (g : A → A) → g x ≡ y → ((w : Var) → f (raised_var k c w) ≡ g (f w)) → at_fn 1 (n + k) (raised_var k c v) y f ≡ g (at_fn 1 n v x f)
at-raised n k c l v x y f g e h = go (where-is n v) where
  go : Where n v → at_fn 1 (n + k) (raised_var k c v) y f ≡ g (at_fn 1 n v x f)
  go (there i p q) = ap (λ w. at_fn 1 (n + k) (raised_var k c w) y f) p ∙ ap (λ w. at_fn 1 (n + k) w y f) (raised-high k c i (upper i q)) ∙ at-here 1 (n + k) (i + k) y f (ap (λ z. z + k) q) ∙ sym e ∙
      ap g (sym (ap (λ w. at_fn 1 n w x f) p ∙ at-here 1 n i x f q)) where
        upper : (i : ℕ) → i ≡ n → c ≤ i
        upper i q = omega arith
  go (elsewhere z) = nearer-past n k c l v y y f z ∙ at-elsewhere n v y (λ w. f (raised_var k c w)) z ∙ h (nearer 1 n v) ∙ ap g (sym (at-elsewhere n v x f z))

-- where the argument stands
abbrev pub Stood : Kind → Variables → Variables → ℕ → Type 0
Stood k us vs n = (ws : Variables) × PlacedAt k us vs ws n

pub argument-passes : (k : Kind) (us : Variables) (a : Normal) → is_of_kind us a k ≡ true → Passes (Stood k us) (argument a)
argument-passes k us a e = record {
  deeper = λ o vs n s. (with_bound o s.0, placed-deeper k o us vs s.0 n s.1);
  types = λ vs n j c s b v h. at-raised n j c b v (as_type (raised n a)) (as_type (raised (n + j) a)) (λ w. ty.Variable w) (put_type (raising j) c) (as-type-raised j n c a b) (λ w. refl);
  labels = λ vs n j c s b v h. at-raised n j c b v (as_label (raised n a)) (as_label (raised (n + j) a)) (λ w. label.Variable w) (put_label (raising j) c) (as-label-raised j n c a b) (λ w. refl);
  rows = λ vs n j c s b v h. at-raised n j c b v (as_row (raised n a)) (as_row (raised (n + j) a)) (λ w. part.Piece w ∷ []) (put_row (raising j) c) (as-row-raised j n c a b) (λ w. refl);
  past_raising = λ vs n j c s v h f i. map-past (raising-proper j) (raising-passes j) c s.0 tt (put_type (argument a) (suc n) f) ((argument a).rows n v)
      (type-kept (argument-keeps k us a e) (with_bound kind.Star vs) (with_bound kind.Star s.0) (suc n) (placed-deeper k kind.Star us vs s.0 n s.1) f i) (argument-rows k us vs s.0 a n e s.1 v h);
  past_type = λ vs n c t s b o v h f i. map-past (type_at-proper 1 t) (type_at-passes t) c s.0 (type-below k us vs s.0 n c s.1 b o) (put_type (argument a) (suc n) f) ((argument a).rows n v)
      (type-kept (argument-keeps k us a e) (with_bound kind.Star vs) (with_bound kind.Star s.0) (suc n) (placed-deeper k kind.Star us vs s.0 n s.1) f i) (argument-rows k us vs s.0 a n e s.1 v h);
} where
  type-below : (k : Kind) (us vs ws : Variables) (n c : ℕ) → PlacedAt k us vs ws n → c < n → slice_get vs.bound c ≡ Some kind.Star → slice_get ws.bound c ≡ Some kind.Star
  type-below k us vs ws n c p b o = ap (kind_at ws) (sym (at-low 1 n c (var.Bound n) (λ w. w) b)) ∙ p.others (var.Bound c) (not-low n c b) ∙ o

-- ---- an argument is put into what was raised for it

abbrev pub Level : ℕ → ℕ → ℕ → Type 0
Level a b c = (a ≡ c) × (b ≡ c)

pub argument-cancels : (u : Normal) → Composes Level (argument u) (raising 1) itself
argument-cancels u = record {
  deeper = λ a b c at. (ap (λ n. suc n) at.0, ap (λ n. suc n) at.1);
  types = λ a b c at v. ap₂ (λ x y. at_fn 1 x (raised_var 1 y v) (as_type (raised x u)) (λ w. ty.Variable w)) at.0 at.1 ∙ at-raised-one c v (as_type (raised c u)) (λ w. ty.Variable w);
  labels = λ a b c at v. ap₂ (λ x y. at_fn 1 x (raised_var 1 y v) (as_label (raised x u)) (λ w. label.Variable w)) at.0 at.1 ∙ at-raised-one c v (as_label (raised c u)) (λ w. label.Variable w);
  rows = λ a b c at v. joined-nil ((argument u).rows a (raised_var 1 b v)) (argument-sorted u a (raised_var 1 b v)) ∙ rows a b c at v;
  maps = λ a b c at v g. put-mapped (argument-proper u) a (raised_var 1 b v) g ∙ ap (mapped_row (put_type (argument u) (suc a) g)) (rows a b c at v);
} where
  rows : (a b c : ℕ) → Level a b c → (v : Var) → (argument u).rows a (raised_var 1 b v) ≡ part.Piece v ∷ []
  rows a b c at v = ap₂ (λ x y. at_fn 1 x (raised_var 1 y v) (as_row (raised x u)) (λ w. part.Piece w ∷ [])) at.0 at.1 ∙ at-raised-one c v (as_row (raised c u)) (λ w. part.Piece w ∷ [])

type-back : (c : ℕ) (u : Normal) (t : NormalType) → is_normal_type t ≡ true → put_type (argument u) c (put_type (raising 1) c t) ≡ t
type-back c u t e = put_type-after (argument-cancels u) c c c (refl, refl) t ∙ put_type-same itself-same c t e

row-back : (c : ℕ) (u : Normal) (r : List Part) → is_normal_row r ≡ true → put_row (argument u) c (put_row (raising 1) c r) ≡ r
row-back c u r e = row-after-all (argument-cancels u) c c c (refl, refl) r ∙ row-same itself-same c r e

label-back : (c : ℕ) (u : Normal) (l : Label) → put_label (argument u) c (put_label (raising 1) c l) ≡ l
label-back c u (label.Literal x) = refl
label-back c u (label.Variable v) = at-raised-one c v (as_label (raised c u)) (λ w. label.Variable w)

-- ---- a substitution goes past an argument

abbrev pub argued-after : Putting → ℕ → Normal → Putting
argued-after σ n a = record {
  types = λ c v. put_type σ (n + c) ((argument a).types c v);
  labels = λ c v. put_label σ (n + c) ((argument a).labels c v);
  rows = λ c v. put_row σ (n + c) ((argument a).rows c v);
  maps = λ c v g. mapped_row g (put_row σ (n + c) ((argument a).rows c v));
}

-- where the argument is put, and what is in scope there
pub record Before (S : Variables → ℕ → Type 0) (k : Kind) (u0 : Variables) (n x b c : ℕ) (vs : Variables) : Type 0 where
  pub us : Variables
  pub outer : S us (n + c)
  pub placed : PlacedAt k u0 vs us c
  pub here : x ≡ n + c
  pub level : b ≡ c

pub after-argument : {S : Variables → ℕ → Type 0} {σ : Putting} → Proper σ → Passes S σ → (k : Kind) (n : ℕ) (u0 : Variables) (a : Normal) → is_of_kind u0 a k ≡ true →
    ComposesIn (Before S k u0 n) σ (argument a) (argued-after σ n a)
after-argument {S} {σ} p q k n u0 a e = record {
  deeper = λ o x b c vs w. record {
    us = with_bound o w.us;
    outer = subst (S (with_bound o w.us)) (suc-plus n c) (q.deeper o w.us (n + c) w.outer);
    placed = placed-deeper k o u0 vs w.us c w.placed;
    here = next x n c w.here;
    level = ap (λ z. suc z) w.level;
  };
  types = λ x b c vs w v h. ap₂ (λ y z. put_type σ y ((argument a).types z v)) w.here w.level;
  labels = λ x b c vs w v h. ap₂ (λ y z. put_label σ y ((argument a).labels z v)) w.here w.level;
  rows = λ x b c vs w v h. ap₂ (λ y z. put_row σ y ((argument a).rows z v)) w.here w.level;
  maps = λ x b c vs w v h f i. map-past p q x w.us (subst (S w.us) (sym w.here) w.outer) (put_type (argument a) (suc b) f) ((argument a).rows b v)
      (type-kept (argument-keeps k u0 a e) (with_bound kind.Star vs) (with_bound kind.Star w.us) (suc b) (placed-deeper k kind.Star u0 vs w.us b (at-level b c vs w)) f i)
      (argument-rows k u0 vs w.us a b e (at-level b c vs w) v h) ∙
      ap (mapped_row (put_type σ (suc x) (put_type (argument a) (suc b) f))) (ap₂ (λ y z. put_row σ y ((argument a).rows z v)) w.here w.level);
} where
  at-level : {x : ℕ} (b c : ℕ) (vs : Variables) → (w : Before S k u0 n x b c vs) → PlacedAt k u0 vs w.us b
  at-level b c vs w = subst (PlacedAt k u0 vs w.us) (sym w.level) w.placed

-- a constructor of a kind, raised and put into
as-type-moved : {S : Variables → ℕ → Type 0} {σ : Putting} → Proper σ → Passes S σ → (n c : ℕ) (u0 : Variables) → S u0 n → (k : Kind) (a : Normal) → is_of_kind u0 a k ≡ true →
    put_type σ (n + c) (as_type (raised c a)) ≡ as_type (raised c (put σ n a))
as-type-moved p q n c u0 s kind.Star (normal.Type t) e = raise-past p q n c 0 u0 (omega arith) s t e
as-type-moved p q n c u0 s kind.Name (normal.Type t) e = absurd (true≢false (sym e))
as-type-moved p q n c u0 s kind.Row (normal.Type t) e = absurd (true≢false (sym e))
as-type-moved p q n c u0 s (kind.Arrow' _ x _ y) (normal.Type t) e = absurd (true≢false (sym e))
as-type-moved p q n c u0 s k (normal.Name l) e = refl
as-type-moved p q n c u0 s k (normal.Row r) e = refl
as-type-moved p q n c u0 s k (normal.Fn' j _ (the b sole)) e = refl

as-row-moved : {S : Variables → ℕ → Type 0} {σ : Putting} → Proper σ → Passes S σ → (n c : ℕ) (u0 : Variables) → S u0 n → (k : Kind) (a : Normal) → is_of_kind u0 a k ≡ true →
    put_row σ (n + c) (as_row (raised c a)) ≡ as_row (raised c (put σ n a))
as-row-moved p q n c u0 s kind.Row (normal.Row r) e = row-raise-past p q n c 0 u0 (omega arith) s r e
as-row-moved p q n c u0 s kind.Name (normal.Row r) e = absurd (true≢false (sym e))
as-row-moved p q n c u0 s kind.Star (normal.Row r) e = absurd (true≢false (sym e))
as-row-moved p q n c u0 s (kind.Arrow' _ x _ y) (normal.Row r) e = absurd (true≢false (sym e))
as-row-moved p q n c u0 s k (normal.Type t) e = refl
as-row-moved p q n c u0 s k (normal.Name l) e = refl
as-row-moved p q n c u0 s k (normal.Fn' j _ (the b sole)) e = refl

label-raise-past : {S : Variables → ℕ → Type 0} {σ : Putting} → Passes S σ → (n k : ℕ) (vs : Variables) → S vs n → (l : Label) → label_is_in vs l ≡ true → put_label σ (n + k) (put_label (raising k) 0 l) ≡ put_label (raising k) 0 (put_label σ n l)
label-raise-past q n k vs s (label.Literal x) e = refl
label-raise-past q n k vs s (label.Variable v) e = q.labels vs n k 0 s (omega arith) v e

as-label-moved : {S : Variables → ℕ → Type 0} {σ : Putting} → Passes S σ → (n c : ℕ) (u0 : Variables) → S u0 n → (k : Kind) (a : Normal) → is_of_kind u0 a k ≡ true →
    put_label σ (n + c) (as_label (raised c a)) ≡ as_label (raised c (put σ n a))
as-label-moved q n c u0 s kind.Name (normal.Name l) e = label-raise-past q n c u0 s l e
as-label-moved q n c u0 s kind.Row (normal.Name l) e = absurd (true≢false (sym e))
as-label-moved q n c u0 s kind.Star (normal.Name l) e = absurd (true≢false (sym e))
as-label-moved q n c u0 s (kind.Arrow' _ x _ y) (normal.Name l) e = absurd (true≢false (sym e))
as-label-moved q n c u0 s k (normal.Type t) e = refl
as-label-moved q n c u0 s k (normal.Row r) e = refl
as-label-moved q n c u0 s k (normal.Fn' j _ (the b sole)) e = refl

-- a variable outside the one that the argument stands for
nearer-is : {A : Type 0} (us : Variables) (c : ℕ) (v w : Var) (x : A) (f : Var → A) → is_here c v ≡ false → Outside us c v w → at_fn 1 c v x f ≡ f w
nearer-is us c v w x f e o = at-elsewhere c v x f e ∙ ap f o.near

type-outside : {S : Variables → ℕ → Type 0} {σ : Putting} → Proper σ → Passes S σ → (n c : ℕ) (a u : Normal) (us : Variables) (v w : Var) → S us (n + c) → is_here c v ≡ false → Outside us c v w → is_star (kind_at us w) ≡ true →
    put_type (argument u) c (σ.types (suc (n + c)) v) ≡ put_type σ (n + c) ((argument a).types c v)
type-outside {σ = σ} p q n c a u us v w s e o h = ap₂ (λ x y. put_type (argument u) c (σ.types x y)) (suc-is (n + c)) o.raised ∙ ap (put_type (argument u) c) (q.types us (n + c) 1 c s (below n c) w h) ∙
    type-back c u (σ.types (n + c) w) (p.normal.types (n + c) w) ∙ sym (ap (put_type σ (n + c)) (nearer-is us c v w (as_type (raised c a)) (λ z. ty.Variable z) e o))

label-outside : {S : Variables → ℕ → Type 0} {σ : Putting} → Proper σ → Passes S σ → (n c : ℕ) (a u : Normal) (us : Variables) (v w : Var) → S us (n + c) → is_here c v ≡ false → Outside us c v w → is_name (kind_at us w) ≡ true →
    put_label (argument u) c (σ.labels (suc (n + c)) v) ≡ put_label σ (n + c) ((argument a).labels c v)
label-outside {σ = σ} p q n c a u us v w s e o h = ap₂ (λ x y. put_label (argument u) c (σ.labels x y)) (suc-is (n + c)) o.raised ∙ ap (put_label (argument u) c) (q.labels us (n + c) 1 c s (below n c) w h) ∙
    label-back c u (σ.labels (n + c) w) ∙ sym (ap (put_label σ (n + c)) (nearer-is us c v w (as_label (raised c a)) (λ z. label.Variable z) e o))

row-outside : {S : Variables → ℕ → Type 0} {σ : Putting} → Proper σ → Passes S σ → (n c : ℕ) (a u : Normal) (us : Variables) (v w : Var) → S us (n + c) → is_here c v ≡ false → Outside us c v w → is_of_row (kind_at us w) ≡ true →
    put_row (argument u) c (σ.rows (suc (n + c)) v) ≡ put_row σ (n + c) ((argument a).rows c v)
row-outside {σ = σ} p q n c a u us v w s e o h = ap₂ (λ x y. put_row (argument u) c (σ.rows x y)) (suc-is (n + c)) o.raised ∙ ap (put_row (argument u) c) (q.rows us (n + c) 1 c s (below n c) w h) ∙
    row-back c u (σ.rows (n + c) w) (row-normal p (n + c) w) ∙ sym (ap (put_row σ (n + c)) (nearer-is us c v w (as_row (raised c a)) (λ z. part.Piece z ∷ []) e o) ∙ joined-nil (σ.rows (n + c) w) (p.sorted (n + c) w))

-- what stands where: a variable of a function inside, the place itself, or outside of it
data Stood-at (c : ℕ) (v : Var) : Type 0 where
  inside : (i : ℕ) → v ≡ var.Bound i → i < c → Stood-at c v
  at-it : (i : ℕ) → v ≡ var.Bound i → i ≡ c → Stood-at c v
  beyond : (w : Var) → is_here c v ≡ false → ((us : Variables) → Outside us c v w) → Stood-at c v

stood-at : (c : ℕ) (v : Var) → Stood-at c v
stood-at c (var.Free m) = beyond (var.Free m) refl (λ us. outside-free us c m)
stood-at c (var.Bound i) = go (stands i c) where
  go : Stands i c → Stood-at c (var.Bound i)
  go (low z) = inside i refl z
  go (here z) = at-it i refl z
  go (high z) = beyond (var.Bound (i - 1)) (not-high c i z) (λ us. outside-high us c i z)

lower : (n c i : ℕ) → i < c → i < suc (n + c)
lower n c i z = omega arith

low-too : (n c i : ℕ) → i < c → i < n + c
low-too n c i z = omega arith

here-too : (n c i : ℕ) → i ≡ c → i < suc (n + c)
here-too n c i z = omega arith

kind-beyond : (k : Kind) (u0 vs us : Variables) (c : ℕ) (v w : Var) → PlacedAt k u0 vs us c → is_here c v ≡ false → Outside us c v w → kind_at us w ≡ kind_at vs v
kind-beyond k u0 vs us c v w p e o = ap (kind_at us) (sym o.near) ∙ p.others v e

type-moved : {S : Variables → ℕ → Type 0} {σ : Putting} → Proper σ → Passes S σ → (k : Kind) (n c : ℕ) (a : Normal) (u0 vs us : Variables) → S u0 n → is_of_kind u0 a k ≡ true → S us (n + c) → PlacedAt k u0 vs us c →
    (v : Var) → is_star (kind_at vs v) ≡ true → put_type (argument (put σ n a)) c (σ.types (suc (n + c)) v) ≡ put_type σ (n + c) ((argument a).types c v)
type-moved {σ = σ} p q k n c a u0 vs us s0 e s pl v h = go (stood-at c v) where
  u : Normal
  u = put σ n a

  go : Stood-at c v → put_type (argument u) c (σ.types (suc (n + c)) v) ≡ put_type σ (n + c) ((argument a).types c v)
  go (inside i f z) = ap (λ w. put_type (argument u) c (σ.types (suc (n + c)) w)) f ∙ ap (put_type (argument u) c) (p.inner_types (suc (n + c)) i (lower n c i z)) ∙ at-low 1 c i (as_type (raised c u)) (λ w. ty.Variable w) z ∙
      sym (ap (λ w. put_type σ (n + c) ((argument a).types c w)) f ∙ ap (put_type σ (n + c)) (at-low 1 c i (as_type (raised c a)) (λ w. ty.Variable w) z) ∙ p.inner_types (n + c) i (low-too n c i z))
  go (at-it i f z) = ap (λ w. put_type (argument u) c (σ.types (suc (n + c)) w)) f ∙ ap (put_type (argument u) c) (p.inner_types (suc (n + c)) i (here-too n c i z)) ∙ at-here 1 c i (as_type (raised c u)) (λ w. ty.Variable w) z ∙
      sym (ap (λ w. put_type σ (n + c) ((argument a).types c w)) f ∙ ap (put_type σ (n + c)) (at-here 1 c i (as_type (raised c a)) (λ w. ty.Variable w) z) ∙ as-type-moved p q n c u0 s0 k a e)
  go (beyond w f o) = type-outside p q n c a u us v w s f (o us) (ap is_star (kind-beyond k u0 vs us c v w pl f (o us)) ∙ h)

label-moved : {S : Variables → ℕ → Type 0} {σ : Putting} → Proper σ → Passes S σ → (k : Kind) (n c : ℕ) (a : Normal) (u0 vs us : Variables) → S u0 n → is_of_kind u0 a k ≡ true → S us (n + c) → PlacedAt k u0 vs us c →
    (v : Var) → is_name (kind_at vs v) ≡ true → put_label (argument (put σ n a)) c (σ.labels (suc (n + c)) v) ≡ put_label σ (n + c) ((argument a).labels c v)
label-moved {σ = σ} p q k n c a u0 vs us s0 e s pl v h = go (stood-at c v) where
  u : Normal
  u = put σ n a

  go : Stood-at c v → put_label (argument u) c (σ.labels (suc (n + c)) v) ≡ put_label σ (n + c) ((argument a).labels c v)
  go (inside i f z) = ap (λ w. put_label (argument u) c (σ.labels (suc (n + c)) w)) f ∙ ap (put_label (argument u) c) (p.inner_labels (suc (n + c)) i (lower n c i z)) ∙ at-low 1 c i (as_label (raised c u)) (λ w. label.Variable w) z ∙
      sym (ap (λ w. put_label σ (n + c) ((argument a).labels c w)) f ∙ ap (put_label σ (n + c)) (at-low 1 c i (as_label (raised c a)) (λ w. label.Variable w) z) ∙ p.inner_labels (n + c) i (low-too n c i z))
  go (at-it i f z) = ap (λ w. put_label (argument u) c (σ.labels (suc (n + c)) w)) f ∙ ap (put_label (argument u) c) (p.inner_labels (suc (n + c)) i (here-too n c i z)) ∙ at-here 1 c i (as_label (raised c u)) (λ w. label.Variable w) z ∙
      sym (ap (λ w. put_label σ (n + c) ((argument a).labels c w)) f ∙ ap (put_label σ (n + c)) (at-here 1 c i (as_label (raised c a)) (λ w. label.Variable w) z) ∙ as-label-moved q n c u0 s0 k a e)
  go (beyond w f o) = label-outside p q n c a u us v w s f (o us) (ap is_name (kind-beyond k u0 vs us c v w pl f (o us)) ∙ h)

row-moved : {S : Variables → ℕ → Type 0} {σ : Putting} → Proper σ → Passes S σ → (k : Kind) (n c : ℕ) (a : Normal) (u0 vs us : Variables) → S u0 n → is_of_kind u0 a k ≡ true → S us (n + c) → PlacedAt k u0 vs us c →
    (v : Var) → is_of_row (kind_at vs v) ≡ true → put_row (argument (put σ n a)) c (σ.rows (suc (n + c)) v) ≡ put_row σ (n + c) ((argument a).rows c v)
row-moved {σ = σ} p q k n c a u0 vs us s0 e s pl v h = go (stood-at c v) where
  u : Normal
  u = put σ n a

  one : (m : ℕ) (w : Var) → put_row σ m (part.Piece w ∷ []) ≡ σ.rows m w
  one m w = joined-nil (σ.rows m w) (p.sorted m w)

  one-argument : (w : Var) → put_row (argument u) c (part.Piece w ∷ []) ≡ (argument u).rows c w
  one-argument w = joined-nil ((argument u).rows c w) (argument-sorted u c w)

  go : Stood-at c v → put_row (argument u) c (σ.rows (suc (n + c)) v) ≡ put_row σ (n + c) ((argument a).rows c v)
  go (inside i f z) = ap (λ w. put_row (argument u) c (σ.rows (suc (n + c)) w)) f ∙ ap (put_row (argument u) c) (p.inner_rows (suc (n + c)) i (lower n c i z)) ∙ one-argument (var.Bound i) ∙
      at-low 1 c i (as_row (raised c u)) (λ w. part.Piece w ∷ []) z ∙
      sym (ap (λ w. put_row σ (n + c) ((argument a).rows c w)) f ∙ ap (put_row σ (n + c)) (at-low 1 c i (as_row (raised c a)) (λ w. part.Piece w ∷ []) z) ∙ one (n + c) (var.Bound i) ∙ p.inner_rows (n + c) i (low-too n c i z))
  go (at-it i f z) = ap (λ w. put_row (argument u) c (σ.rows (suc (n + c)) w)) f ∙ ap (put_row (argument u) c) (p.inner_rows (suc (n + c)) i (here-too n c i z)) ∙ one-argument (var.Bound i) ∙
      at-here 1 c i (as_row (raised c u)) (λ w. part.Piece w ∷ []) z ∙
      sym (ap (λ w. put_row σ (n + c) ((argument a).rows c w)) f ∙ ap (put_row σ (n + c)) (at-here 1 c i (as_row (raised c a)) (λ w. part.Piece w ∷ []) z) ∙ as-row-moved p q n c u0 s0 k a e)
  go (beyond w f o) = row-outside p q n c a u us v w s f (o us) (ap is_of_row (kind-beyond k u0 vs us c v w pl f (o us)) ∙ h)

-- the argument goes into maps that the substitution makes
pub record PastArgument (S : Variables → ℕ → Type 0) (σ : Putting) (k : Kind) (u0 : Variables) (n : ℕ) (u : Normal) : Type 0 where
  pub past : (vs us : Variables) (c : ℕ) → S us (n + c) → S vs (suc (n + c)) → PlacedAt k u0 vs us c → (v : Var) → is_of_row (kind_at vs v) ≡ true → (f : NormalType) → type_is_in (with_bound kind.Star vs) f ≡ true →
      put_row (argument u) c (mapped_row (put_type σ (suc (suc (n + c))) f) (σ.rows (suc (n + c)) v)) ≡
      mapped_row (put_type (argument u) (suc c) (put_type σ (suc (suc (n + c))) f)) (put_row (argument u) c (σ.rows (suc (n + c)) v))

pub record Behind (S : Variables → ℕ → Type 0) (k : Kind) (u0 : Variables) (n x b c : ℕ) (vs : Variables) : Type 0 where
  pub us : Variables
  pub outer : S us (n + c)
  pub inner : S vs (suc (n + c))
  pub placed : PlacedAt k u0 vs us c
  pub here : x ≡ c
  pub level : b ≡ suc (n + c)

pub before-argument : {S : Variables → ℕ → Type 0} {σ : Putting} → Proper σ → Passes S σ → (k : Kind) (n : ℕ) (u0 : Variables) (a : Normal) → S u0 n → is_of_kind u0 a k ≡ true → PastArgument S σ k u0 n (put σ n a) →
    ComposesIn (Behind S k u0 n) (argument (put σ n a)) σ (argued-after σ n a)
before-argument {S} {σ} p q k n u0 a s0 e m = record {
  deeper = λ o x b c vs w. record {
    us = with_bound o w.us;
    outer = subst (S (with_bound o w.us)) (suc-plus n c) (q.deeper o w.us (n + c) w.outer);
    inner = subst (S (with_bound o vs)) (ap (λ z. suc z) (suc-plus n c)) (q.deeper o vs (suc (n + c)) w.inner);
    placed = placed-deeper k o u0 vs w.us c w.placed;
    here = ap (λ z. suc z) w.here;
    level = ap (λ z. suc z) (w.level ∙ suc-plus n c);
  };
  types = λ x b c vs w v h. ap₂ (λ y z. put_type (argument u) y (σ.types z v)) w.here w.level ∙ type-moved p q k n c a u0 vs w.us s0 e w.outer w.placed v h;
  labels = λ x b c vs w v h. ap₂ (λ y z. put_label (argument u) y (σ.labels z v)) w.here w.level ∙ label-moved p q k n c a u0 vs w.us s0 e w.outer w.placed v h;
  rows = λ x b c vs w v h. ap₂ (λ y z. put_row (argument u) y (σ.rows z v)) w.here w.level ∙ row-moved p q k n c a u0 vs w.us s0 e w.outer w.placed v h;
  maps = λ x b c vs w v h f i. ap (put_row (argument u) x) (p.maps b v (put_type σ (suc b) f)) ∙
      ap₂ (λ y z. put_row (argument u) y (mapped_row (put_type σ (suc z) f) (σ.rows z v))) w.here w.level ∙
      m.past vs w.us c w.outer w.inner w.placed v h f i ∙
      ap (mapped_row (put_type (argument u) (suc c) (put_type σ (suc (suc (n + c))) f))) (row-moved p q k n c a u0 vs w.us s0 e w.outer w.placed v h) ∙
      sym (ap₂ (λ y z. mapped_row (put_type (argument u) (suc y) (put_type σ (suc z) f)) (put_row σ (n + c) ((argument a).rows c v))) w.here w.level);
} where
  u : Normal
  u = put σ n a

others-at : (k : Kind) (ws : Variables) (v : Var) → is_here 0 v ≡ false → kind_at ws (nearer 1 0 v) ≡ kind_at (with_bound k ws) v
others-at k ws (var.Free m) h = refl
others-at k ws (var.Bound zero) h = absurd (true≢false h)
others-at k ws (var.Bound (suc i)) h = applied-others ws (var.Bound (suc i)) h

pub placed-first : (k : Kind) (u0 : Variables) → PlacedAt k u0 (with_bound k u0) u0 0
placed-first k u0 = record { kind = refl; others = others-at k u0; outer = raised-none u0 }

pub before-place : {S : Variables → ℕ → Type 0} (k : Kind) (n : ℕ) (u0 : Variables) → S u0 n → Before S k u0 n n 0 0 (with_bound k u0)
before-place {S} k n u0 s = record { us = u0; outer = subst (S u0) (plus-none n) s; placed = placed-first k u0; here = plus-none n; level = refl }

-- S holds with the function's variable in scope
pub behind-place : {S : Variables → ℕ → Type 0} (k : Kind) (n : ℕ) (u0 : Variables) → S u0 n → S (with_bound k u0) (suc n) → Behind S k u0 n 0 (suc n) 0 (with_bound k u0)
behind-place {S} k n u0 s t = record { us = u0; outer = subst (S u0) (plus-none n) s; inner = subst (S (with_bound k u0)) (ap (λ z. suc z) (plus-none n)) t; placed = placed-first k u0; here = refl; level = ap (λ z. suc z) (plus-none n) }

pub argument-past : {S : Variables → ℕ → Type 0} {σ : Putting} → Proper σ → Passes S σ → (k : Kind) (n : ℕ) (u0 : Variables) (a : Normal) → S u0 n → is_of_kind u0 a k ≡ true →
    PastArgument S σ k u0 n (put σ n a) → (f : NormalType) → type_is_in (with_bound k u0) f ≡ true → put_type σ n (put_type (argument a) 0 f) ≡ put_type (argument (put σ n a)) 0 (put_type σ (suc n) f)
argument-past p q k n u0 a s e m f h = type-after (after-argument p q k n u0 a e) n 0 0 (with_bound k u0) (before-place k n u0 s) f h ∙
    sym (type-after (before-argument p q k n u0 a s e m) 0 (suc n) 0 (with_bound k u0) (behind-place k n u0 s (q.deeper k u0 n s)) f h)

pub row-argument-past : {S : Variables → ℕ → Type 0} {σ : Putting} → Proper σ → Passes S σ → (k : Kind) (n : ℕ) (u0 : Variables) (a : Normal) → S u0 n → is_of_kind u0 a k ≡ true →
    PastArgument S σ k u0 n (put σ n a) → (r : List Part) → row_is_in (with_bound k u0) r ≡ true → put_row σ n (put_row (argument a) 0 r) ≡ put_row (argument (put σ n a)) 0 (put_row σ (suc n) r)
row-argument-past p q k n u0 a s e m r h = row-after (after-argument p q k n u0 a e) n 0 0 (with_bound k u0) (before-place k n u0 s) r h ∙
    sym (row-after (before-argument p q k n u0 a s e m) 0 (suc n) 0 (with_bound k u0) (behind-place k n u0 s (q.deeper k u0 n s)) r h)
