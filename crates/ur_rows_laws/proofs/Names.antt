-- The names of two readings, each with a form of its kind in the one and the form that a substitution makes of it in the other.
use Rattle.std.proofs.Common.{◌≡◌, refl, ap, ap₂, sym, ◌∙◌, subst, ℕ, suc, ◌+◌, ◌-◌, ◌≤◌, Bool, true, false, List, [], ◌∷◌, map, Option, Some, None, bytes_eq, codes, if◌then◌else◌, arith}
use Rattle.ur_syntax.specs.declared.kind.Kind.{Kind}
use Rattle.ur_syntax.specs.declared.con.ConName.{ConName}
use Rattle.ur_syntax.specs.Names.{own, member, same_con, looked_up, or_own, seen_by, seen}
use Rattle.ur_syntax.specs.HasKind.{Scope, kind_known, with_name, word_kind}
use Rattle.ur_rows.specs.declared.normal.Normal.{Normal}
use Rattle.ur_rows.specs.Kinded.{Variables, with_bound}
use Rattle.ur_rows.specs.Put.{Putting, put, raised, raising}
use Rattle.ur_rows.specs.Normal.{Known, or_raised, name_with}
use Rattle.ur_rows_laws.proofs.Kept.{raising-keeps}
use Rattle.ur_rows_laws.proofs.Passing.{raised-one}
use Rattle.ur_rows_laws.specs.Reading.{is_some, is_built}
use Rattle.ur_rows_laws.proofs.ReadingLawsForms.{FormIn, TakesIn, form-kept, form-raised-twice, form-raise-past, Goes, Both, applied-both}

abbrev pub Held : Type 0
Held = ℕ × Normal

-- the same names in three lists, P holding of what stands for each
abbrev pub Agree : (Kind → Held → Held → Type 0) → List (ConName × Kind) → List (ConName × Held) → List (ConName × Held) → Type 0
Agree P [] [] [] = Unit {0}
Agree P (k ∷ ks) (n ∷ ns) (m ∷ ms) = (k.0 ≡ n.0) × (k.0 ≡ m.0) × P k.1 n.1 m.1 × Agree P ks ns ms
Agree P ks ns ms = ⊥

abbrev pub Fits : (Kind → Held → Held → Type 0) → Option Kind → Option Held → Option Held → Type 0
Fits P None None None = Unit {0}
Fits P (Some k) (Some n) (Some m) = P k n m
Fits P o p q = ⊥

fits-if : (P : Kind → Held → Held → Type 0) (b c d : Bool) (k : Kind) (n m : Held) (o : Option Kind) (p q : Option Held) → b ≡ c → b ≡ d → P k n m → Fits P o p q →
    Fits P (if b then Some k else o) (if c then Some n else p) (if d then Some m else q)
fits-if P true true true k n m o p q e f x y = x
fits-if P true true false k n m o p q e f x y = absurd (cc)
fits-if P true false d k n m o p q e f x y = absurd (cc)
fits-if P false true d k n m o p q e f x y = absurd (cc)
fits-if P false false true k n m o p q e f x y = absurd (cc)
fits-if P false false false k n m o p q e f x y = y

pub looked-fits : (P : Kind → Held → Held → Type 0) (x : ConName) (ks : List (ConName × Kind)) (ns ms : List (ConName × Held)) → Agree P ks ns ms → Fits P (looked_up x ks) (looked_up x ns) (looked_up x ms)
looked-fits P x [] [] [] a = tt
looked-fits P x [] [] (m ∷ ms) a = absurd a
looked-fits P x [] (n ∷ ns) ms a = absurd a
looked-fits P x (k ∷ ks) [] ms a = absurd a
looked-fits P x (k ∷ ks) (n ∷ ns) [] a = absurd a
looked-fits P x (k ∷ ks) (n ∷ ns) (m ∷ ms) a = fits-if P (same_con x k.0) (same_con x n.0) (same_con x m.0) k.1 n.1 m.1 (looked_up x ks) (looked_up x ns) (looked_up x ms)
    (ap (same_con x) a.0) (ap (same_con x) a.1) a.2 (looked-fits P x ks ns ms a.3)

or-fits : (P : Kind → Held → Held → Type 0) (h : List ℕ) (x : ConName) (ks : List (ConName × Kind)) (ns ms : List (ConName × Held)) (o : Option Kind) (p q : Option Held) → Agree P ks ns ms → Fits P o p q →
    Fits P (or_own h x ks o) (or_own h x ns p) (or_own h x ms q)
or-fits P h x ks ns ms None None None a f = looked-fits P (record { home = Some h; name = x.name }) ks ns ms a
or-fits P h x ks ns ms None None (Some m) a f = absurd f
or-fits P h x ks ns ms None (Some n) q a f = absurd f
or-fits P h x ks ns ms (Some k) None q a f = absurd f
or-fits P h x ks ns ms (Some k) (Some n) None a f = absurd f
or-fits P h x ks ns ms (Some k) (Some n) (Some m) a f = f

by-fits : (P : Kind → Held → Held → Type 0) (g : Option (List ℕ)) (h : List ℕ) (x : ConName) (ks : List (ConName × Kind)) (ns ms : List (ConName × Held)) → Agree P ks ns ms →
    Fits P (seen_by g h x ks) (seen_by g h x ns) (seen_by g h x ms)
by-fits P None h x ks ns ms a = or-fits P h x ks ns ms (looked_up x ks) (looked_up x ns) (looked_up x ms) a (looked-fits P x ks ns ms a)
by-fits P (Some g) h x ks ns ms a = go (bytes_eq g h) (looked-fits P x ks ns ms a) where
  go : (b : Bool) → Fits P (looked_up x ks) (looked_up x ns) (looked_up x ms) → Fits P (if b then None else looked_up x ks) (if b then None else looked_up x ns) (if b then None else looked_up x ms)
  go true f = tt
  go false f = f

-- what a name stands for in both readings, which stand within D and E functions
pub record NameIs (σ : Putting) (vs : Variables) (d D E : ℕ) (k : Kind) (n m : Held) : Type 0 where
  pub inside : n.0 ≤ D
  pub inside_too : m.0 ≤ E
  pub kinds : FormIn vs k (raised (D - n.0) n.1)
  pub form : raised (E - m.0) m.1 ≡ put σ d (raised (D - n.0) n.1)

some-kind : {k j : Kind} → Some k ≡ Some j → k ≡ j
some-kind e = cc

-- two readings of a scope
pub record Related (S : Variables → ℕ → Type 0) (σ : Putting) (vs : Variables) (d : ℕ) (scope : Scope) (known also : Known) : Type 0 where
  pub home : scope.home ≡ known.home
  pub home_too : scope.home ≡ also.home
  pub names : Agree (NameIs σ vs d known.depth also.depth) scope.names known.names also.names
  pub within : S vs d

seen-fits : {S : Variables → ℕ → Type 0} {σ : Putting} {vs : Variables} {d : ℕ} {scope : Scope} {known also : Known} → Related S σ vs d scope known also → (x : ConName) →
    Fits (NameIs σ vs d known.depth also.depth) (kind_known x scope) (seen known.home x known.names) (seen also.home x also.names)
seen-fits {σ = σ} {vs = vs} {d = d} {scope = scope} {known = known} {also = also} r x =
    subst (λ z. Fits (NameIs σ vs d known.depth also.depth) (kind_known x scope) (seen known.home x known.names) (seen z x also.names)) r.home_too
    (subst (λ z. Fits (NameIs σ vs d known.depth also.depth) (kind_known x scope) (seen z x known.names) (seen scope.home x also.names)) r.home
    (by-fits (NameIs σ vs d known.depth also.depth) x.home scope.home x scope.names known.names also.names r.names))

pub word-built : (x : List ℕ) (k : Kind) → word_kind x ≡ Some k → is_built x ≡ true
word-built x k e = go (bytes_eq x (codes "map")) (bytes_eq x (codes "xml")) where
  go : (b c : Bool) → (if b then true else if c then true else is_some (word_kind x)) ≡ true
  go true c = refl
  go false true = refl
  go false false = ap is_some e

-- two readings of the names that a constructor of a scope may use
pub record Sees (S : Variables → ℕ → Type 0) (σ : Putting) (vs : Variables) (d : ℕ) (scope : Scope) (known also : Known) : Type 0 where
  pub own_names : (x : List ℕ) (k : Kind) → kind_known (own x) scope ≡ Some k →
      Fits (NameIs σ vs d known.depth also.depth) (Some k) (seen known.home (own x) known.names) (seen also.home (own x) also.names)
  pub members : (m x : List ℕ) (k : Kind) → kind_known (member m x) scope ≡ Some k →
      Fits (NameIs σ vs d known.depth also.depth) (Some k) (seen known.home (member m x) known.names) (seen also.home (member m x) also.names)
  pub words : (x : List ℕ) → kind_known (own x) scope ≡ None → is_built x ≡ true →
      Fits (NameIs σ vs d known.depth also.depth) None (seen known.home (own x) known.names) (seen also.home (own x) also.names)
  pub within : S vs d

pub sees : {S : Variables → ℕ → Type 0} {σ : Putting} {vs : Variables} {d : ℕ} {scope : Scope} {known also : Known} → Related S σ vs d scope known also → Sees S σ vs d scope known also
sees {σ = σ} {vs = vs} {d = d} {known = known} {also = also} r = record {
  own_names = λ x k e. subst (λ z. Fits (NameIs σ vs d known.depth also.depth) z (seen known.home (own x) known.names) (seen also.home (own x) also.names)) e (seen-fits r (own x));
  members = λ m x k e. subst (λ z. Fits (NameIs σ vs d known.depth also.depth) z (seen known.home (member m x) known.names) (seen also.home (member m x) also.names)) e (seen-fits r (member m x));
  words = λ x w b. subst (λ z. Fits (NameIs σ vs d known.depth also.depth) z (seen known.home (own x) known.names) (seen also.home (own x) also.names)) w (seen-fits r (own x));
  within = r.within;
}

-- ---- a name in front of others

pub own-first : {A : Type 0} (h y x : List ℕ) (e : A) (ns : List (ConName × A)) → seen h (own y) ((own x, e) ∷ ns) ≡ (if bytes_eq y x then Some e else seen h (own y) ns)
own-first {A} h y x e ns = go (bytes_eq y x) (looked_up (own y) ns) where
  go : (b : Bool) (o : Option A) → or_own h (own y) ((own x, e) ∷ ns) (if b then Some e else o) ≡ (if b then Some e else or_own h (own y) ns o)
  go true o = refl
  go false (Some a) = refl
  go false None = refl

pub fits-map : (P Q : Kind → Held → Held → Type 0) → ((k : Kind) (n m : Held) → P k n m → Q k n m) → (o : Option Kind) (p q : Option Held) → Fits P o p q → Fits Q o p q
fits-map P Q f None None None a = tt
fits-map P Q f None None (Some m) a = absurd a
fits-map P Q f None (Some n) q a = absurd a
fits-map P Q f (Some k) None q a = absurd a
fits-map P Q f (Some k) (Some n) None a = absurd a
fits-map P Q f (Some k) (Some n) (Some m) a = f k n m a

first-fits : (P : Kind → Held → Held → Type 0) (b : Bool) (k j : Kind) (n m : Held) (o : Option Kind) (p q : Option Held) → (if b then Some k else o) ≡ Some j → P k n m → (o ≡ Some j → Fits P (Some j) p q) →
    Fits P (Some j) (if b then Some n else p) (if b then Some m else q)
first-fits P true k j n m o p q e x f = subst (λ z. P z n m) (some-kind e) x
first-fits P false k j n m o p q e x f = f e

first-none : (P : Kind → Held → Held → Type 0) (b : Bool) (k : Kind) (n m : Held) (o : Option Kind) (p q : Option Held) → (if b then Some k else o) ≡ None → (o ≡ None → Fits P None p q) →
    Fits P None (if b then Some n else p) (if b then Some m else q)
first-none P true k n m o p q e f = absurd (never e) where
  never : Some k ≡ None → ⊥
  never z = cc
first-none P false k n m o p q e f = f e

-- one name more in front, where what the others stand for is told of another place
pub sees-first : {S T : Variables → ℕ → Type 0} {σ τ : Putting} {vs ws : Variables} {d e D E : ℕ} (scope : Scope) (known also : Known) (x : List ℕ) (k : Kind) (n m : Held) →
    ((j : Kind) (a b : Held) → NameIs τ vs d known.depth also.depth j a b → NameIs σ ws e D E j a b) → NameIs σ ws e D E k n m → S ws e → Sees T τ vs d scope known also →
    Sees S σ ws e (with_name x k scope) (record { home = known.home; depth = D; names = (own x, n) ∷ known.names }) (record { home = also.home; depth = E; names = (own x, m) ∷ also.names })
sees-first {σ = σ} {τ = τ} {vs = vs} {ws = ws} {d = d} {e = e} {D = D} {E = E} scope known also x k n m f i s r = record {
  own_names = λ y j z. subst (λ w. Fits (NameIs σ ws e D E) (Some j) w (seen also.home (own y) ((own x, m) ∷ also.names))) (sym (own-first known.home y x n known.names))
      (subst (λ w. Fits (NameIs σ ws e D E) (Some j) (if bytes_eq y x then Some n else seen known.home (own y) known.names) w) (sym (own-first also.home y x m also.names))
      (first-fits (NameIs σ ws e D E) (bytes_eq y x) k j n m (kind_known (own y) scope) (seen known.home (own y) known.names) (seen also.home (own y) also.names) (sym (own-first scope.home y x k scope.names) ∙ z) i
      (λ w. fits-map (NameIs τ vs d known.depth also.depth) (NameIs σ ws e D E) f (Some j) (seen known.home (own y) known.names) (seen also.home (own y) also.names) (r.own_names y j w))));
  members = λ a y j z. fits-map (NameIs τ vs d known.depth also.depth) (NameIs σ ws e D E) f (Some j) (seen known.home (member a y) known.names) (seen also.home (member a y) also.names) (r.members a y j z);
  words = λ y z b. subst (λ w. Fits (NameIs σ ws e D E) None w (seen also.home (own y) ((own x, m) ∷ also.names))) (sym (own-first known.home y x n known.names))
      (subst (λ w. Fits (NameIs σ ws e D E) None (if bytes_eq y x then Some n else seen known.home (own y) known.names) w) (sym (own-first also.home y x m also.names))
      (first-none (NameIs σ ws e D E) (bytes_eq y x) k n m (kind_known (own y) scope) (seen known.home (own y) known.names) (seen also.home (own y) also.names) (sym (own-first scope.home y x k scope.names) ∙ z)
      (λ w. fits-map (NameIs τ vs d known.depth also.depth) (NameIs σ ws e D E) f None (seen known.home (own y) known.names) (seen also.home (own y) also.names) (r.words y w b))));
  within = s;
}

-- a name in scope, applied to arguments
pub name-both : {S : Variables → ℕ → Type 0} {σ : Putting} {vs : Variables} {d : ℕ} {k l : Kind} {args : List Normal} → Goes S σ → S vs d → (D E : ℕ) (x : List ℕ) (o : Option Kind) (p q : Option Held) → o ≡ Some k →
    Fits (NameIs σ vs d D E) o p q → TakesIn vs k args l → Both σ vs d l (name_with (or_raised D p) x args) (name_with (or_raised E q) x (map (put σ d) args))
name-both g s D E x None p q e f t = absurd (cc)
name-both g s D E x (Some j) None q e f t = absurd f
name-both g s D E x (Some j) (Some n) None e f t = absurd f
name-both {σ = σ} {vs = vs} {d = d} {k = k} g s D E x (Some j) (Some n) (Some m) e f t = applied-both g d s (record { kinds = subst (λ z. FormIn vs z (raised (D - n.0) n.1)) (some-kind e) f.kinds; form = f.form }) t

-- a name that is not in scope
pub none-both : (P : Kind → Held → Held → Type 0) (o : Option Kind) (p q : Option Held) → o ≡ None → Fits P o p q → (p ≡ None) × (q ≡ None)
none-both P None None None e f = (refl, refl)
none-both P None None (Some m) e f = absurd f
none-both P None (Some n) q e f = absurd f
none-both P (Some k) p q e f = absurd (cc)

-- ---- within one function more

pub next-in : (D n : ℕ) → n ≤ D → n ≤ suc D
next-in D n h = omega arith

pub raised-next : (D : ℕ) (n : Held) → n.0 ≤ D → raised (suc D - n.0) n.1 ≡ put (raising 1) 0 (raised (D - n.0) n.1)
raised-next D n h = sym (form-raised-twice 1 (D - n.0) n.1 ∙ ap (λ z. raised z n.1) (same D n.0 h)) where
  same : (D s : ℕ) → s ≤ D → D - s + 1 ≡ suc D - s
  same D s h = omega arith

next-is : (d : ℕ) → d + 1 ≡ suc d
next-is d = omega arith

pub name-deeper : {S : Variables → ℕ → Type 0} {σ : Putting} → Goes S σ → (vs : Variables) (d D E : ℕ) (o k : Kind) (n m : Held) → S vs d → NameIs σ vs d D E k n m → NameIs σ (with_bound o vs) (suc d) (suc D) (suc E) k n m
name-deeper {σ = σ} g vs d D E o k n m s i = record {
  inside = next-in D n.0 i.inside;
  inside_too = next-in E m.0 i.inside_too;
  kinds = subst (FormIn (with_bound o vs) k) (sym (raised-next D n i.inside)) (form-kept (raising-keeps 1) (with_bound o vs) 0 (raised-one o vs) i.kinds);
  form = raised-next E m i.inside_too ∙ ap (put (raising 1) 0) i.form ∙ sym (form-raise-past g.proper g.passes d 1 s i.kinds) ∙
      ap₂ (λ x y. put σ x y) (next-is d) (sym (raised-next D n i.inside));
}
