-- A name that a constructor does not use: its form where the name is bound by one function more.
use Rattle.std.proofs.Common.{◌≡◌, refl, ap, sym, ◌∙◌, subst, ℕ, suc, ◌+◌, ◌-◌, ◌≤◌, ◌<◌, Bool, true, false, true≢false, ◌⊎◌, inl, inr, List, [], ◌∷◌, Option, Some, None, bytes_eq, if◌then◌else◌, arith}
use Rattle.std.proofs.lemmas.Bool.{cases_Bool}
use Rattle.std.proofs.lemmas.Slice.Eq.{bytes_eq-Decides}
use Rattle.ur_syntax.specs.declared.kind.Kind.{Kind}
use Rattle.ur_syntax.specs.declared.kind.Kind.TheVariants as kind
use Rattle.ur_syntax.specs.declared.con.ConForm.{ConForm}
use Rattle.ur_syntax.specs.declared.con.ConName.{ConName}
use Rattle.ur_syntax.specs.Names.{own, member, seen}
use Rattle.ur_syntax.specs.HasKind.{HasKind, Scope, kind_known}
use Rattle.ur_rows.specs.declared.normal.Var.{Var}
use Rattle.ur_rows.specs.declared.normal.Var.TheVariants as var
use Rattle.ur_rows.specs.declared.normal.NormalType.{NormalType}
use Rattle.ur_rows.specs.declared.normal.Normal.{Normal}
use Rattle.ur_rows.specs.declared.normal.Normal.TheVariants as normal
use Rattle.ur_rows.specs.Kinded.{Variables, with_bound, kind_at, is_of_kind}
use Rattle.ur_rows.specs.Put.{put, put_type, put_row, mapped_row, raised, raised_var, raising, nearer, is_here, argument}
use Rattle.ur_rows.specs.Normal.{Known, within, nf_with}
use Rattle.ur_rows.proofs.Order.{joined-nil}
use Rattle.ur_rows.proofs.PutAfter.{Stands, low, here, high}
use Rattle.ur_rows.proofs.InOrder.{raised-normal}
use Rattle.ur_rows_laws.proofs.Kept.{KeepsKinds, type-kept, label-kept, row-kept, raising-keeps}
use Rattle.ur_rows_laws.proofs.Levels.{bound, stands, raised-low, raised-high, raised-past, not-low, not-high, at-low, at-high, at-raised-one}
use Rattle.ur_rows_laws.proofs.After.{Proper, raising-proper, put-mapped}
use Rattle.ur_rows_laws.proofs.Passing.{Anywhere, raising-passes, raised-one, map-past, never-here}
use Rattle.ur_rows_laws.proofs.Applying.{PlacedAt, placed-deeper, argument-keeps, Stood, argument-proper, argument-passes}
use Rattle.ur_rows_laws.specs.Reading.{is_built}
use Rattle.ur_rows_laws.proofs.ReadingLawsForms.{FormIn, form-kept, form-same, Goes, Both, done}
use Rattle.ur_rows_laws.proofs.Names.{Held, Fits, NameIs, Sees, own-first, raised-next, next-in}
use Rattle.ur_rows_laws.proofs.Reading.{nf-both, nothing-raised}

no : {A : Type 0} → false ≡ true → A
no e = absurd (true≢false (sym e))

-- ---- raising, and an argument

pub raising-goes : (j : ℕ) → Goes Anywhere (raising j)
raising-goes j = record {
  proper = raising-proper j;
  passes = raising-passes j;
  past = λ k u0 n a s h. record { past = λ vs us c x y p v r f i. past-raised j n c (put (raising j) n a) v f };
} where
  past-raised : (j n c : ℕ) (u : Normal) (v : Var) (f : NormalType) →
      put_row (argument u) c (mapped_row (put_type (raising j) (suc (suc (n + c))) f) ((raising j).rows (suc (n + c)) v)) ≡
      mapped_row (put_type (argument u) (suc c) (put_type (raising j) (suc (suc (n + c))) f)) (put_row (argument u) c ((raising j).rows (suc (n + c)) v))
  past-raised j n c u v f = put-mapped (argument-proper u) c (raised_var j (suc (n + c)) v) (put_type (raising j) (suc (suc (n + c))) f) ∙
      ap (mapped_row (put_type (argument u) (suc c) (put_type (raising j) (suc (suc (n + c))) f)))
      (sym (joined-nil ((argument u).rows c (raised_var j (suc (n + c)) v)) (Proper.sorted (argument-proper u) c (raised_var j (suc (n + c)) v))))

-- a variable that was raised stands elsewhere, and comes back
not-raised : (c : ℕ) (v : Var) → is_here c (raised_var 1 c v) ≡ false
not-raised c (var.Free m) = refl
not-raised c (var.Bound i) = go (stands i c) where
  go : Stands i c → is_here c (raised_var 1 c (var.Bound i)) ≡ false
  go (low z) = ap (is_here c) (raised-low 1 c i z) ∙ not-low c i z
  go (here z) = ap (is_here c) (raised-high 1 c i (omega arith)) ∙ not-high c (i + 1) (omega arith)
  go (high z) = ap (is_here c) (raised-high 1 c i (omega arith)) ∙ not-high c (i + 1) (omega arith)

comes-back : (c : ℕ) (v : Var) → nearer 1 c (raised_var 1 c v) ≡ v
comes-back c v = at-raised-one c v (var.Bound c) (λ w. w)

-- two places are passed in either order
nearer-twice : (n c : ℕ) (v : Var) → is_here c v ≡ false → nearer 1 (n + c) (nearer 1 c (raised_var 1 (suc (n + c)) v)) ≡ nearer 1 c v
nearer-twice n c (var.Free m) e = refl
nearer-twice n c (var.Bound i) e = go (stands i c) (stands i (suc (n + c))) where
  near : (d j : ℕ) → d < j → nearer 1 d (var.Bound j) ≡ var.Bound (j - 1)
  near d j h = at-high 1 d j (var.Bound d) (λ w. w) h

  keeps : (d j : ℕ) → j < d → nearer 1 d (var.Bound j) ≡ var.Bound j
  keeps d j h = at-low 1 d j (var.Bound d) (λ w. w) h

  go : Stands i c → Stands i (suc (n + c)) → nearer 1 (n + c) (nearer 1 c (raised_var 1 (suc (n + c)) (var.Bound i))) ≡ nearer 1 c (var.Bound i)
  go (low z) y = ap (λ w. nearer 1 (n + c) (nearer 1 c w)) (raised-low 1 (suc (n + c)) i (omega arith)) ∙ ap (nearer 1 (n + c)) (keeps c i z) ∙ keeps (n + c) i (omega arith) ∙ sym (keeps c i z)
  go (here z) y = absurd (never-here i c z e)
  go (high z) (low y) = ap (λ w. nearer 1 (n + c) (nearer 1 c w)) (raised-low 1 (suc (n + c)) i y) ∙ ap (nearer 1 (n + c)) (near c i z) ∙ keeps (n + c) (i - 1) (omega arith) ∙ sym (near c i z)
  go (high z) (here y) = beyond (omega arith) where
    beyond : suc (n + c) ≤ i → nearer 1 (n + c) (nearer 1 c (raised_var 1 (suc (n + c)) (var.Bound i))) ≡ nearer 1 c (var.Bound i)
    beyond h = ap (λ w. nearer 1 (n + c) (nearer 1 c w)) (raised-high 1 (suc (n + c)) i h) ∙ ap (nearer 1 (n + c)) (near c (i + 1) (omega arith)) ∙ ap (nearer 1 (n + c)) (bound {i = i + 1 - 1} {j = i} (omega arith)) ∙
        near (n + c) i (omega arith) ∙ sym (near c i z)
  go (high z) (high y) = beyond (omega arith) where
    beyond : suc (n + c) ≤ i → nearer 1 (n + c) (nearer 1 c (raised_var 1 (suc (n + c)) (var.Bound i))) ≡ nearer 1 c (var.Bound i)
    beyond h = ap (λ w. nearer 1 (n + c) (nearer 1 c w)) (raised-high 1 (suc (n + c)) i h) ∙ ap (nearer 1 (n + c)) (near c (i + 1) (omega arith)) ∙ ap (nearer 1 (n + c)) (bound {i = i + 1 - 1} {j = i} (omega arith)) ∙
        near (n + c) i (omega arith) ∙ sym (near c i z)

-- a variable behind the one that was passed is not at the place
not-beyond : (n c : ℕ) (v : Var) → is_here c v ≡ false → is_here (n + c) (nearer 1 c (raised_var 1 (suc (n + c)) v)) ≡ false
not-beyond n c (var.Free m) e = refl
not-beyond n c (var.Bound i) e = go (stands i c) (stands i (suc (n + c))) where
  beyond : suc (n + c) ≤ i → is_here (n + c) (nearer 1 c (raised_var 1 (suc (n + c)) (var.Bound i))) ≡ false
  beyond h = ap (λ w. is_here (n + c) (nearer 1 c w)) (raised-high 1 (suc (n + c)) i h) ∙ ap (is_here (n + c)) (at-high 1 c (i + 1) (var.Bound c) (λ w. w) (omega arith)) ∙ not-high (n + c) (i + 1 - 1) (omega arith)

  go : Stands i c → Stands i (suc (n + c)) → is_here (n + c) (nearer 1 c (raised_var 1 (suc (n + c)) (var.Bound i))) ≡ false
  go (low z) y = ap (λ w. is_here (n + c) (nearer 1 c w)) (raised-low 1 (suc (n + c)) i (omega arith)) ∙ ap (is_here (n + c)) (at-low 1 c i (var.Bound c) (λ w. w) z) ∙ not-low (n + c) i (omega arith)
  go (here z) y = absurd (never-here i c z e)
  go (high z) (low y) = ap (λ w. is_here (n + c) (nearer 1 c w)) (raised-low 1 (suc (n + c)) i y) ∙ ap (is_here (n + c)) (at-high 1 c i (var.Bound c) (λ w. w) z) ∙ not-low (n + c) (i - 1) (omega arith)
  go (high z) (here y) = beyond (omega arith)
  go (high z) (high y) = beyond (omega arith)

-- the variable that was raised stands elsewhere than at c too
not-raised-here : (n c : ℕ) (v : Var) → is_here c v ≡ false → is_here c (raised_var 1 (suc (n + c)) v) ≡ false
not-raised-here n c (var.Free m) e = refl
not-raised-here n c (var.Bound i) e = go (stands i (suc (n + c))) where
  go : Stands i (suc (n + c)) → is_here c (raised_var 1 (suc (n + c)) (var.Bound i)) ≡ false
  go (low z) = ap (is_here c) (raised-low 1 (suc (n + c)) i z) ∙ e
  go (here z) = ap (is_here c) (raised-high 1 (suc (n + c)) i (omega arith)) ∙ not-high c (i + 1) (omega arith)
  go (high z) = ap (is_here c) (raised-high 1 (suc (n + c)) i (omega arith)) ∙ not-high c (i + 1) (omega arith)

-- an argument in place of a variable of another function, with the scopes that both have
placed-both : (k j : Kind) (us0 u0 vs us wu wv wus : Variables) (n c : ℕ) → PlacedAt k us0 u0 wu n → PlacedAt k us0 vs wv (suc (n + c)) → PlacedAt k us0 us wus (n + c) → PlacedAt j u0 vs us c → PlacedAt j wu wv wus c
placed-both k j us0 u0 vs us wu wv wus n c pu pv pus p = record {
  kind = ap (kind_at wv) (sym (at-low 1 (suc (n + c)) c (var.Bound (suc (n + c))) (λ w. w) (omega arith))) ∙ pv.others (var.Bound c) (not-low (suc (n + c)) c (omega arith)) ∙ p.kind;
  others = others;
  outer = outer;
} where
  others : (v : Var) → is_here c v ≡ false → kind_at wus (nearer 1 c v) ≡ kind_at wv v
  others v e = ap (kind_at wus) (sym (nearer-twice n c v e)) ∙ pus.others (nearer 1 c (raised_var 1 (suc (n + c)) v)) (not-beyond n c v e) ∙ p.others (raised_var 1 (suc (n + c)) v) (not-raised-here n c v e) ∙
      sym (pv.others (raised_var 1 (suc (n + c)) v) (not-raised (suc (n + c)) v)) ∙ ap (kind_at wv) (comes-back (suc (n + c)) v)

  outer : (v : Var) → kind_at wus (raised_var c 0 v) ≡ kind_at wu v
  outer v = ap (kind_at wus) (sym (ap (nearer 1 (n + c)) (sym (raised-past 1 c n 0 (omega arith) v)) ∙ comes-back (n + c) (raised_var c 0 v))) ∙
      pus.others (raised_var c 0 (raised_var 1 n v)) (ap (is_here (n + c)) (sym (raised-past 1 c n 0 (omega arith) v)) ∙ not-raised (n + c) (raised_var c 0 v)) ∙ p.outer (raised_var 1 n v) ∙
      sym (pu.others (raised_var 1 n v) (not-raised n v)) ∙ ap (kind_at wu) (comes-back n v)

-- an argument of a kind has a kind where the argument of another function was put
kind-kept : (k j : Kind) (us0 u0 wu : Variables) (n : ℕ) (a b : Normal) → is_of_kind us0 a k ≡ true → PlacedAt k us0 u0 wu n → is_of_kind u0 b j ≡ true → is_of_kind wu (put (argument a) n b) j ≡ true
kind-kept k j us0 u0 wu n a b e p h = go j b h where
  go : (j : Kind) (b : Normal) → is_of_kind u0 b j ≡ true → is_of_kind wu (put (argument a) n b) j ≡ true
  go kind.Star (normal.Type t) h = type-kept (argument-keeps k us0 a e) u0 wu n p t h
  go kind.Name (normal.Type t) h = no h
  go kind.Row (normal.Type t) h = no h
  go (kind.Arrow' _ x _ y) (normal.Type t) h = no h
  go kind.Star (normal.Name l) h = no h
  go kind.Name (normal.Name l) h = label-kept (argument-keeps k us0 a e) u0 wu n p l h
  go kind.Row (normal.Name l) h = no h
  go (kind.Arrow' _ x _ y) (normal.Name l) h = no h
  go kind.Star (normal.Row r) h = no h
  go kind.Name (normal.Row r) h = no h
  go kind.Row (normal.Row r) h = row-kept (argument-keeps k us0 a e) u0 wu n p r h
  go (kind.Arrow' _ x _ y) (normal.Row r) h = no h
  go kind.Star (normal.Fn' i _ c) h = no h
  go kind.Name (normal.Fn' i _ c) h = no h
  go kind.Row (normal.Fn' i _ c) h = no h
  go (kind.Arrow' _ x _ y) (normal.Fn' i _ c) h = no h

pub argument-goes : (k : Kind) (us0 : Variables) (a : Normal) → is_of_kind us0 a k ≡ true → Goes (Stood k us0) (argument a)
argument-goes k us0 a e = record {
  proper = argument-proper a;
  passes = argument-passes k us0 a e;
  past = λ j u0 n b s h. record {
    past = λ vs us c x y p v r f i. map-past (argument-proper (put (argument a) n b)) (argument-passes j s.0 (put (argument a) n b) (kind-kept k j us0 u0 s.0 n a b e s.1 h)) c y.0
        (x.0, placed-both k j us0 u0 vs us s.0 y.0 x.0 n c s.1 y.1 x.1 p) (put_type (argument a) (suc (suc (n + c))) f) ((argument a).rows (suc (n + c)) v)
        (type-kept (argument-keeps k us0 a e) (with_bound kind.Star vs) (with_bound kind.Star y.0) (suc (suc (n + c))) (placed-deeper k kind.Star us0 vs y.0 (suc (n + c)) y.1) f i)
        (KeepsKinds.rows (argument-keeps k us0 a e) vs y.0 (suc (n + c)) y.1 v r);
  };
}

-- ---- a reading, of which the kinds are told

abbrev pub IsRead : Variables → ℕ → Scope → Known → Type 0
IsRead vs d scope known = Sees Anywhere (raising 0) vs d scope known known

pub nf-kinds : {scope : Scope} {c : ConForm} {k : Kind} (vs : Variables) (d : ℕ) (known : Known) → IsRead vs d scope known → HasKind scope c k → FormIn vs k (nf_with known c [])
nf-kinds {k = k} vs d known r h = Both.kinds (nf-both (raising-goes 0) h known known vs d r [] k done)

-- a name that is neither in scope nor a word
differs : (scope : Scope) (x y : List ℕ) (k : Kind) → kind_known (own x) scope ≡ None → kind_known (own y) scope ≡ Some k → bytes_eq y x ≡ false
differs scope x y k e f = go (cases_Bool (bytes_eq y x)) where
  never : None ≡ Some k → ⊥
  never z = cc

  go : (bytes_eq y x ≡ true) ⊎ (bytes_eq y x ≡ false) → bytes_eq y x ≡ false
  go (inl z) = absurd (never (sym (ap (λ w. kind_known (own w) scope) ((bytes_eq-Decides y x).0 z) ∙ e) ∙ f))
  go (inr z) = z

no-word : (x y : List ℕ) → is_built x ≡ false → is_built y ≡ true → bytes_eq y x ≡ false
no-word x y e f = go (cases_Bool (bytes_eq y x)) where
  go : (bytes_eq y x ≡ true) ⊎ (bytes_eq y x ≡ false) → bytes_eq y x ≡ false
  go (inl z) = absurd (true≢false (sym f ∙ ap is_built ((bytes_eq-Decides y x).0 z) ∙ e))
  go (inr z) = z

-- what is seen behind another name
seen-behind : {A : Type 0} (h y x : List ℕ) (e : A) (ns : List (ConName × A)) → bytes_eq y x ≡ false → seen h (own y) ((own x, e) ∷ ns) ≡ seen h (own y) ns
seen-behind h y x e ns f = own-first h y x e ns ∙ ap (λ (b : Bool). if b then Some e else seen h (own y) ns) f

-- what stands for one name in two readings
fits-same : (P Q : Kind → Held → Held → Type 0) → ((k : Kind) (n : Held) → P k n n → Q k n n) → (o : Option Kind) (p : Option Held) → Fits P o p p → Fits Q o p p
fits-same P Q f None None a = tt
fits-same P Q f None (Some n) a = absurd a
fits-same P Q f (Some k) None a = absurd a
fits-same P Q f (Some k) (Some n) a = f k n a

-- a constructor that does not use the name is read within one function more
pub fresh-sees : (vs : Variables) (d : ℕ) (scope : Scope) (known : Known) (x : List ℕ) (k : Kind) → kind_known (own x) scope ≡ None → is_built x ≡ false → IsRead vs d scope known → Sees Anywhere (raising 1) vs 0 scope known (within x k known)
fresh-sees vs d scope known x k e f r = record {
  own_names = λ y j z. subst (λ w. Fits (NameIs (raising 1) vs 0 known.depth (suc known.depth)) (Some j) (seen known.home (own y) known.names) w) (sym (seen-behind known.home y x _ known.names (differs scope x y j e z)))
      (fits-same (NameIs (raising 0) vs d known.depth known.depth) (NameIs (raising 1) vs 0 known.depth (suc known.depth)) further (Some j) (seen known.home (own y) known.names) (r.own_names y j z));
  members = λ m y j z. fits-same (NameIs (raising 0) vs d known.depth known.depth) (NameIs (raising 1) vs 0 known.depth (suc known.depth)) further (Some j) (seen known.home (member m y) known.names) (r.members m y j z);
  words = λ y z b. subst (λ w. Fits (NameIs (raising 1) vs 0 known.depth (suc known.depth)) None (seen known.home (own y) known.names) w) (sym (seen-behind known.home y x _ known.names (no-word x y f b)))
      (fits-same (NameIs (raising 0) vs d known.depth known.depth) (NameIs (raising 1) vs 0 known.depth (suc known.depth)) further None (seen known.home (own y) known.names) (r.words y z b));
  within = tt;
} where
  further : (j : Kind) (n : Held) → NameIs (raising 0) vs d known.depth known.depth j n n → NameIs (raising 1) vs 0 known.depth (suc known.depth) j n n
  further j n i = record { inside = i.inside; inside_too = next-in known.depth n.0 i.inside; kinds = i.kinds; form = raised-next known.depth n i.inside }

-- the names of the reading within one function more
pub inner-read : (vs : Variables) (d : ℕ) (scope : Scope) (known : Known) (x : List ℕ) (k : Kind) → kind_known (own x) scope ≡ None → is_built x ≡ false → IsRead vs d scope known → IsRead (with_bound k vs) d scope (within x k known)
inner-read vs d scope known x k e f r = record {
  own_names = λ y j z. subst (λ w. Fits (NameIs (raising 0) (with_bound k vs) d (suc known.depth) (suc known.depth)) (Some j) w w) (sym (seen-behind known.home y x _ known.names (differs scope x y j e z)))
      (fits-same (NameIs (raising 0) vs d known.depth known.depth) (NameIs (raising 0) (with_bound k vs) d (suc known.depth) (suc known.depth)) further (Some j) (seen known.home (own y) known.names) (r.own_names y j z));
  members = λ m y j z. fits-same (NameIs (raising 0) vs d known.depth known.depth) (NameIs (raising 0) (with_bound k vs) d (suc known.depth) (suc known.depth)) further (Some j) (seen known.home (member m y) known.names) (r.members m y j z);
  words = λ y z b. subst (λ w. Fits (NameIs (raising 0) (with_bound k vs) d (suc known.depth) (suc known.depth)) None w w) (sym (seen-behind known.home y x _ known.names (no-word x y f b)))
      (fits-same (NameIs (raising 0) vs d known.depth known.depth) (NameIs (raising 0) (with_bound k vs) d (suc known.depth) (suc known.depth)) further None (seen known.home (own y) known.names) (r.words y z b));
  within = tt;
} where
  further : (j : Kind) (n : Held) → NameIs (raising 0) vs d known.depth known.depth j n n → NameIs (raising 0) (with_bound k vs) d (suc known.depth) (suc known.depth) j n n
  further j n i = record {
    inside = next-in known.depth n.0 i.inside;
    inside_too = next-in known.depth n.0 i.inside;
    kinds = subst (FormIn (with_bound k vs) j) (sym (raised-next known.depth n i.inside)) (form-kept (raising-keeps 1) (with_bound k vs) 0 (raised-one k vs) i.kinds);
    form = sym (form-same nothing-raised d (raised (suc known.depth - n.0) n.1) (raised-normal (suc known.depth - n.0) n.1));
  }

pub fresh-form : {scope : Scope} {c : ConForm} {j : Kind} (vs : Variables) (d : ℕ) (known : Known) (x : List ℕ) (k : Kind) → kind_known (own x) scope ≡ None → is_built x ≡ false → IsRead vs d scope known → HasKind scope c j →
    nf_with (within x k known) c [] ≡ raised 1 (nf_with known c [])
fresh-form {scope = scope} {j = j} vs d known x k e f r h = Both.form (nf-both (raising-goes 1) h known (within x k known) vs 0 (fresh-sees vs d scope known x k e f r) [] j done)
