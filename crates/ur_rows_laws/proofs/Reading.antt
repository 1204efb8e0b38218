-- A constructor read where names stand for what a substitution makes of them has the form that the substitution makes of its form.
use Rattle.std.proofs.Common.{◌≡◌, refl, ap, ap₂, sym, ◌∙◌, subst, ℕ, suc, ◌+◌, ◌-◌, ◌≤◌, ◌<◌, true, false, true≢false, ◌&&◌, List, [], ◌∷◌, map, Some, None, codes, IsTrue, arith}
use Rattle.ur_syntax.specs.declared.kind.Kind.{Kind}
use Rattle.ur_syntax.specs.declared.kind.Kind.TheVariants as kind
use Rattle.ur_syntax.specs.declared.con.ConForm.{ConForm, Row_of-CField, end_of-CField as end, Row_of-RecordField}
use Rattle.ur_syntax.specs.declared.con.ConForm.TheVariants as con
use Rattle.ur_syntax.specs.declared.con.FieldName.{FieldName}
use Rattle.ur_syntax.specs.Names.{own, member, seen}
use Rattle.ur_syntax.specs.Kinds.{arrow, is_plain}
use Rattle.ur_syntax.specs.HasKind.{HasKind, HaveKinds, RecordHasKinds, IsName, IsWord, Scope, with_name, named, member_named, word, name, function, applied as applies, arrow_type, concat, row as row_kind, record_type, dollar, map_row, form as form_kind, none, bare, given, no_field, a_field, literal, variable as name_variable}
use Rattle.ur_rows.specs.declared.normal.Var.{Var}
use Rattle.ur_rows.specs.declared.normal.Var.TheVariants as var
use Rattle.ur_rows.specs.declared.normal.Label.{Label}
use Rattle.ur_rows.specs.declared.normal.Label.TheVariants as label
use Rattle.ur_rows.specs.declared.normal.NormalType.{NormalType}
use Rattle.ur_rows.specs.declared.normal.NormalType.TheVariants as ty
use Rattle.ur_rows.specs.declared.normal.Part.{Part}
use Rattle.ur_rows.specs.declared.normal.Part.TheVariants as part
use Rattle.ur_rows.specs.declared.normal.Normal.{Normal}
use Rattle.ur_rows.specs.declared.normal.Normal.TheVariants as normal
use Rattle.ur_rows.specs.declared.normal.Normal.TheBlock.{end_of-Normal as sole, more_of-Normal as the}
use Rattle.ur_rows.specs.Made.{arrow_of, field, record_of, form_of, unit}
use Rattle.ur_rows.specs.IsNormal.{is_normal}
use Rattle.ur_rows.specs.Order.{with_part, joined}
use Rattle.ur_rows.specs.Kinded.{Variables, with_bound, label_is_in, type_is_in, row_is_in}
use Rattle.ur_rows.specs.Put.{Putting, as_type, as_label, as_row, put, put_label, put_type, put_row, mapped_variable, raised_var, raised, raising, mapped_row}
use Rattle.ur_rows.specs.Normal.{Known, or_raised, known_as, variable, within, with_argument, as_function, name_with, label_of, nf_with, nf_fields, nf_record}
use Rattle.ur_rows.proofs.Order.{and-both}
use Rattle.ur_rows.proofs.PutAfter.{IsIdentity, put_row-with_part, put_row-joined, put_parts-row, Stands, low, here, high}
use Rattle.ur_rows.proofs.InOrder.{nf_with-normal, put-normal}
use Rattle.ur_rows_laws.proofs.Kept.{parts-in, with_part-in, joined-in, map-row-in}
use Rattle.ur_rows_laws.proofs.Levels.{bound, stands, raised-low, raised-high}
use Rattle.ur_rows_laws.proofs.Passing.{map-past}
use Rattle.ur_rows_laws.specs.Reading.{is_built}
use Rattle.ur_rows_laws.proofs.ReadingLawsForms.{FormIn, a_type, a_name, a_row, a_function, TakesIn, done, more, type-in, label-in, row-in, function-in, type-put, label-put, row-put, function-put, form-same, Goes, Both, word-both}
use Rattle.ur_rows_laws.proofs.Names.{NameIs, Sees, sees-first, word-built, name-both, none-both, name-deeper}

-- ---- types, rows and labels of both readings

-- a type, a row or a label in scope, and what is made of it
record BothTypes (σ : Putting) (vs : Variables) (d : ℕ) (t u : NormalType) : Type 0 where
  kinds : type_is_in vs t ≡ true
  form : u ≡ put_type σ d t

record BothRows (σ : Putting) (vs : Variables) (d : ℕ) (r s : List Part) : Type 0 where
  kinds : row_is_in vs r ≡ true
  form : s ≡ put_row σ d r

record BothLabels (σ : Putting) (vs : Variables) (d : ℕ) (l m : Label) : Type 0 where
  kinds : label_is_in vs l ≡ true
  form : m ≡ put_label σ d l

types-both : {σ : Putting} {vs : Variables} {d : ℕ} {n m : Normal} → Both σ vs d kind.Star n m → BothTypes σ vs d (as_type n) (as_type m)
types-both {σ} {d = d} b = record { kinds = type-in b.kinds; form = ap as_type b.form ∙ type-put σ d b.kinds }

rows-both : {σ : Putting} {vs : Variables} {d : ℕ} {n m : Normal} → Both σ vs d kind.Row n m → BothRows σ vs d (as_row n) (as_row m)
rows-both {σ} {d = d} b = record { kinds = row-in b.kinds; form = ap as_row b.form ∙ row-put σ d b.kinds }

labels-both : {σ : Putting} {vs : Variables} {d : ℕ} {n m : Normal} → Both σ vs d kind.Name n m → BothLabels σ vs d (as_label n) (as_label m)
labels-both {σ} {d = d} b = record { kinds = label-in b.kinds; form = ap as_label b.form ∙ label-put σ d b.kinds }

arrow-both : {σ : Putting} {vs : Variables} {d : ℕ} {t u t' u' : NormalType} → BothTypes σ vs d t t' → BothTypes σ vs d u u' → Both σ vs d kind.Star (normal.Type (arrow_of t u)) (normal.Type (arrow_of t' u'))
arrow-both {vs = vs} {t = t} {u = u} a b = record {
  kinds = a_type (and-both (type_is_in vs t && true) (type_is_in vs u && true) (and-both (type_is_in vs t) true a.kinds refl) (and-both (type_is_in vs u) true b.kinds refl));
  form = ap₂ (λ x y. normal.Type (arrow_of x y)) a.form b.form;
}

union-both : {σ : Putting} {vs : Variables} {d : ℕ} {r s r' s' : List Part} → BothRows σ vs d r r' → BothRows σ vs d s s' → Both σ vs d kind.Row (normal.Row (joined r s)) (normal.Row (joined r' s'))
union-both {σ} {vs} {d} {r} {s} a b = record { kinds = a_row (joined-in vs r s a.kinds b.kinds); form = ap₂ (λ x y. normal.Row (joined x y)) a.form b.form ∙ ap (λ z. normal.Row z) (sym (put_row-joined σ d r s)) }

row-both : {σ : Putting} {vs : Variables} {d : ℕ} {r s : List Part} → BothRows σ vs d r s → Both σ vs d kind.Row (normal.Row r) (normal.Row s)
row-both a = record { kinds = a_row a.kinds; form = ap (λ z. normal.Row z) a.form }

record-both : {σ : Putting} {vs : Variables} {d : ℕ} {r s : List Part} → BothRows σ vs d r s → Both σ vs d kind.Star (normal.Type (record_of r)) (normal.Type (record_of s))
record-both {σ} {vs} {d} {r} a = record { kinds = a_type (parts-in vs r ∙ a.kinds); form = ap (λ z. normal.Type (record_of z)) (a.form ∙ sym (put_parts-row σ d r)) }

form-both : {σ : Putting} {vs : Variables} {d : ℕ} {r s : List Part} → BothRows σ vs d r s → Both σ vs d kind.Star (normal.Type (form_of r)) (normal.Type (form_of s))
form-both {σ} {vs} {d} {r} a = record { kinds = a_type (parts-in vs r ∙ a.kinds); form = ap (λ z. normal.Type (form_of z)) (a.form ∙ sym (put_parts-row σ d r)) }

-- a row with one field more
field-both : {σ : Putting} {vs : Variables} {d : ℕ} {l m : Label} {t u : NormalType} {r s : List Part} → BothLabels σ vs d l m → BothTypes σ vs d t u → BothRows σ vs d r s →
    BothRows σ vs d (with_part (field l t) r) (with_part (field m u) s)
field-both {σ} {vs} {d} {l} {m} {t} {u} {r} {s} a b c = record {
  kinds = with_part-in vs (field l t) r (and-both (label_is_in vs l) (type_is_in vs t && true) a.kinds (and-both (type_is_in vs t) true b.kinds refl)) c.kinds;
  form = ap₂ (λ x y. with_part (field x y) s) a.form b.form ∙ ap (with_part (field (put_label σ d l) (put_type σ d t))) c.form ∙ sym (put_row-with_part σ d (field l t) r);
}

unit-both : (σ : Putting) (vs : Variables) (d : ℕ) → BothTypes σ vs d unit unit
unit-both σ vs d = record { kinds = refl; form = refl }

-- a function of types mapped over a row
map-both : {S : Variables → ℕ → Type 0} {σ : Putting} {vs : Variables} {d : ℕ} {f g r s : Normal} → Goes S σ → S vs d → Both σ vs d (arrow kind.Star kind.Star) f g → Both σ vs d kind.Row r s →
    Both σ vs d kind.Row (normal.Row (mapped_row (as_function f) (as_row r))) (normal.Row (mapped_row (as_function g) (as_row s)))
map-both {σ = σ} {vs = vs} {d = d} {f = f} {g = g} {r = r} {s = s} q w a b = record {
  kinds = a_row (map-row-in vs (as_function f) (as_row r) (function-in a.kinds) (row-in b.kinds));
  form = ap (λ z. normal.Row z) (ap₂ mapped_row (ap as_function a.form ∙ function-put σ d a.kinds) (ap as_row b.form ∙ row-put σ d b.kinds) ∙
      sym (map-past q.proper q.passes d vs w (as_function f) (as_row r) (function-in a.kinds) (row-in b.kinds)));
}

-- ---- a variable more

no : {A : Type 0} → false ≡ true → A
no e = absurd (true≢false (sym e))

pub none-left : (n : ℕ) → n - n ≡ 0
none-left n = omega arith

pub at-most : (n : ℕ) → n ≤ n
at-most n = omega arith

-- the variable of the function here
pub own-variable : (σ : Putting) (vs : Variables) (d : ℕ) → ((e : ℕ) → σ.types (suc e) (var.Bound 0) ≡ ty.Variable (var.Bound 0)) → ((e : ℕ) → σ.labels (suc e) (var.Bound 0) ≡ label.Variable (var.Bound 0)) →
    ((e : ℕ) → σ.rows (suc e) (var.Bound 0) ≡ part.Piece (var.Bound 0) ∷ []) → (k : Kind) → IsTrue (is_plain k) → Both σ (with_bound k vs) (suc d) k (raised 0 (variable k (var.Bound 0))) (raised 0 (variable k (var.Bound 0)))
own-variable σ vs d e f g kind.Star p = record { kinds = a_type refl; form = ap (λ z. normal.Type z) (sym (e d)) }
own-variable σ vs d e f g kind.Name p = record { kinds = a_name refl; form = ap (λ z. normal.Name z) (sym (f d)) }
own-variable σ vs d e f g kind.Row p = record { kinds = a_row refl; form = ap (λ z. normal.Row z) (sym (ap (λ z. joined z []) (g d))) }
own-variable σ vs d e f g (kind.Arrow' _ x _ y) p = no p

first : (d : ℕ) → 0 < suc d
first d = omega arith

-- an entry for the variable
variable-is : {S : Variables → ℕ → Type 0} {σ : Putting} → Goes S σ → (vs : Variables) (d D E : ℕ) (k : Kind) → IsTrue (is_plain k) →
    NameIs σ (with_bound k vs) (suc d) (suc D) (suc E) k (suc D, variable k (var.Bound 0)) (suc E, variable k (var.Bound 0))
variable-is {σ = σ} g vs d D E k p = go (own-variable σ vs d (λ e. g.proper.inner_types (suc e) 0 (first e)) (λ e. g.proper.inner_labels (suc e) 0 (first e)) (λ e. g.proper.inner_rows (suc e) 0 (first e)) k p) where
  v : Normal
  v = variable k (var.Bound 0)

  go : Both σ (with_bound k vs) (suc d) k (raised 0 (variable k (var.Bound 0))) (raised 0 (variable k (var.Bound 0))) →
      NameIs σ (with_bound k vs) (suc d) (suc D) (suc E) k (suc D, variable k (var.Bound 0)) (suc E, variable k (var.Bound 0))
  go b = record {
    inside = at-most (suc D);
    inside_too = at-most (suc E);
    kinds = subst (λ z. FormIn (with_bound k vs) k (raised z (variable k (var.Bound 0)))) (sym (none-left (suc D))) b.kinds;
    form = ap (λ z. raised z (variable k (var.Bound 0))) (none-left (suc E)) ∙ b.form ∙ ap (λ z. put σ (suc d) (raised z (variable k (var.Bound 0)))) (sym (none-left (suc D)));
  }

within-sees : {S : Variables → ℕ → Type 0} {σ : Putting} → Goes S σ → (vs : Variables) (d : ℕ) (scope : Scope) (known also : Known) (x : List ℕ) (k : Kind) → IsTrue (is_plain k) → Sees S σ vs d scope known also →
    Sees S σ (with_bound k vs) (suc d) (with_name x k scope) (within x k known) (within x k also)
within-sees g vs d scope known also x k p r = sees-first scope known also x k (suc known.depth, variable k (var.Bound 0)) (suc also.depth, variable k (var.Bound 0))
    (λ j n m i. name-deeper g vs d known.depth also.depth k j n m r.within i) (variable-is g vs d known.depth also.depth k p) (g.passes.deeper k vs d r.within) r

unraised : (d : ℕ) (v : Var) → raised_var 0 d v ≡ v
unraised d (var.Free m) = refl
unraised d (var.Bound i) = go (stands i d) where
  go : Stands i d → raised_var 0 d (var.Bound i) ≡ var.Bound i
  go (low z) = raised-low 0 d i z
  go (here z) = raised-high 0 d i (omega arith) ∙ bound {i = i + 0} {j = i} (omega arith)
  go (high z) = raised-high 0 d i (omega arith) ∙ bound {i = i + 0} {j = i} (omega arith)

pub nothing-raised : IsIdentity (raising 0)
nothing-raised = record {
  types = λ d v. ap (λ w. ty.Variable w) (unraised d v);
  labels = λ d v. ap (λ w. label.Variable w) (unraised d v);
  rows = λ d v. ap (λ w. part.Piece w ∷ []) (unraised d v);
  maps = λ d v g. ap (λ w. mapped_variable g w ∷ []) (unraised d v);
}

pub raised-nothing : (n : Normal) → is_normal n ≡ true → raised 0 n ≡ n
raised-nothing n e = form-same nothing-raised 0 n e

-- an entry for an argument
argument-is : {S : Variables → ℕ → Type 0} {σ : Putting} → Goes S σ → (vs : Variables) (d D E : ℕ) (k : Kind) (a : Normal) → FormIn vs k a → is_normal a ≡ true → NameIs σ vs d D E k (D, a) (E, put σ d a)
argument-is {σ = σ} g vs d D E k a f e = record {
  inside = at-most D;
  inside_too = at-most E;
  kinds = subst (FormIn vs k) (sym (ap (λ z. raised z a) (none-left D) ∙ raised-nothing a e)) f;
  form = ap (λ z. raised z (put σ d a)) (none-left E) ∙ raised-nothing (put σ d a) (put-normal g.proper.normal d a) ∙ ap (put σ d) (sym (ap (λ z. raised z a) (none-left D) ∙ raised-nothing a e));
}

pub argument-sees : {S : Variables → ℕ → Type 0} {σ : Putting} → Goes S σ → (vs : Variables) (d : ℕ) (scope : Scope) (known also : Known) (x : List ℕ) (k : Kind) (a : Normal) → FormIn vs k a → is_normal a ≡ true →
    Sees S σ vs d scope known also → Sees S σ vs d (with_name x k scope) (with_argument x a known) (with_argument x (put σ d a) also)
argument-sees {σ = σ} g vs d scope known also x k a f e r = sees-first scope known also x k (known.depth, a) (also.depth, put σ d a) (λ j n m i. i)
    (argument-is g vs d known.depth also.depth k a f e) r.within r

-- a word that no name hides
pub word-unknown : {S : Variables → ℕ → Type 0} {σ : Putting} {vs : Variables} {d : ℕ} {scope : Scope} {known also : Known} → Sees S σ vs d scope known also → (x : List ℕ) → IsWord scope x → is_built x ≡ true →
    (known_as (own x) known ≡ None) × (known_as (own x) also ≡ None)
word-unknown {σ = σ} {vs = vs} {d = d} {known = known} {also = also} r x w b = go (none-both (NameIs σ vs d known.depth also.depth) None (seen known.home (own x) known.names) (seen also.home (own x) also.names) refl (r.words x w b)) where
  go : (seen known.home (own x) known.names ≡ None) × (seen also.home (own x) also.names ≡ None) → (known_as (own x) known ≡ None) × (known_as (own x) also ≡ None)
  go h = (ap (or_raised known.depth) h.0, ap (or_raised also.depth) h.1)

both-along : {σ : Putting} {vs : Variables} {d : ℕ} {k : Kind} {n m n' m' : Normal} → n ≡ n' → m ≡ m' → Both σ vs d k n' m' → Both σ vs d k n m
both-along {σ} {vs} {d} {k} {m = m} {n' = n'} e f b = subst (λ z. Both σ vs d k z m) (sym e) (subst (λ z. Both σ vs d k n' z) (sym f) b)

-- ---- the reading

label-both : {S : Variables → ℕ → Type 0} {σ : Putting} {vs : Variables} {d : ℕ} {scope : Scope} {known also : Known} {x : FieldName} → Goes S σ → Sees S σ vs d scope known also → IsName scope x →
    BothLabels σ vs d (label_of known x) (label_of also x)
label-both g r literal = record { kinds = refl; form = refl }
label-both {scope = scope} {known = known} {also = also} g r (name_variable {x = x} e) =
    labels-both (name-both g r.within known.depth also.depth x (Some kind.Name) (seen known.home (own x) known.names) (seen also.home (own x) also.names) refl (r.own_names x kind.Name e) done)

fn-both : {σ : Putting} {vs : Variables} {d : ℕ} {k j : Kind} {n m : Normal} → IsTrue (is_plain k) → Both σ (with_bound k vs) (suc d) j n m → Both σ vs d (arrow k j) (normal.Fn' k tt (the n sole)) (normal.Fn' k tt (the m sole))
fn-both {k = k} p b = record { kinds = a_function p b.kinds; form = ap (λ z. normal.Fn' k tt (the z sole)) b.form }

pub plain-taken : {vs : Variables} {k j : Kind} {n : Normal} → FormIn vs (arrow k j) n → is_plain k ≡ true
plain-taken (a_function p f) = p

applied-at : {σ : Putting} {vs : Variables} {d : ℕ} {k : Kind} (known also : Known) (f a : ConForm) (args : List Normal) (l : Kind) → Both σ vs d k (nf_with known a []) (nf_with also a []) →
    Both σ vs d l (nf_with known f (nf_with known a [] ∷ args)) (nf_with also f (put σ d (nf_with known a []) ∷ map (put σ d) args)) →
    Both σ vs d l (nf_with known f (nf_with known a [] ∷ args)) (nf_with also f (nf_with also a [] ∷ map (put σ d) args))
applied-at {σ} {d = d} known also f a args l b c = both-along refl (ap (λ z. nf_with also f (z ∷ map (put σ d) args)) b.form) c

mutual
  pub nf-both : {S : Variables → ℕ → Type 0} {σ : Putting} → {scope : Scope} {c : ConForm} {k : Kind} → Goes S σ → HasKind scope c k → (known also : Known) (vs : Variables) (d : ℕ) → Sees S σ vs d scope known also →
      (args : List Normal) (l : Kind) → TakesIn vs k args l → Both σ vs d l (nf_with known c args) (nf_with also c (map (put σ d) args))
  nf-both {scope = scope} g (named {x = x} {k = k} e) known also vs d r args l t =
      name-both g r.within known.depth also.depth x (Some k) (seen known.home (own x) known.names) (seen also.home (own x) also.names) refl (r.own_names x k e) t
  nf-both {scope = scope} g (member_named {m = m} {x = x} {k = k} e) known also vs d r args l t =
      name-both g r.within known.depth also.depth x (Some k) (seen known.home (member m x) known.names) (seen also.home (member m x) also.names) refl (r.members m x k e) t
  nf-both {σ = σ} g (word {x = x} {k = k} w e) known also vs d r args l t =
      both-along (ap (λ z. name_with z x args) (word-unknown r x w (word-built x k e)).0) (ap (λ z. name_with z x (map (put σ d) args)) (word-unknown r x w (word-built x k e)).1) (word-both g d r.within x k e t)
  nf-both g (name {a = a}) known also vs d r _ _ done = record { kinds = a_name refl; form = refl }
  nf-both {scope = scope} g (function {x = x} {k = k} {j = j} p h) known also vs d r _ _ done =
      fn-both p (nf-both g h (within x k known) (within x k also) (with_bound k vs) (suc d) (within-sees g vs d scope known also x k p r) [] j done)
  nf-both {σ = σ} {scope = scope} g (function {x = x} {k = k} {j = j} p h) known also vs d r _ l (more {a = a} {args = args} q f e t) =
      nf-both g h (with_argument x a known) (with_argument x (put σ d a) also) vs d (argument-sees g vs d scope known also x k a f e r) args l t
  nf-both g (applies {f = f} {a = a} {k = k} {j = j} h i) known also vs d r args l t = applied-at known also f a args l (nf-both g i known also vs d r [] k done)
      (nf-both g h known also vs d r (nf_with known a [] ∷ args) l
      (more (plain-taken (Both.kinds (nf-both g h known also vs d r [] (arrow k j) done))) (Both.kinds (nf-both g i known also vs d r [] k done)) (nf_with-normal known a [] refl) t))
  nf-both g (arrow_type h i) known also vs d r _ _ done = arrow-both (types-both (nf-both g h known also vs d r [] kind.Star done)) (types-both (nf-both g i known also vs d r [] kind.Star done))
  nf-both g (concat h i) known also vs d r _ _ done = union-both (rows-both (nf-both g h known also vs d r [] kind.Row done)) (rows-both (nf-both g i known also vs d r [] kind.Row done))
  nf-both g (row_kind f) known also vs d r _ _ done = row-both (fields-both g f known also vs d r)
  nf-both g (record_type f) known also vs d r _ _ done = record-both (record-fields-both g f known also vs d r)
  nf-both g (dollar h) known also vs d r _ _ done = record-both (rows-both (nf-both g h known also vs d r [] kind.Row done))
  nf-both g (map_row {f = f} {r = x} w h i) known also vs d r _ _ done = both-along
      (ap (λ z. name_with z (codes "map") (nf_with known f [] ∷ nf_with known x [] ∷ [])) (word-unknown r (codes "map") w refl).0) (ap (λ z. name_with z (codes "map") (nf_with also f [] ∷ nf_with also x [] ∷ [])) (word-unknown r (codes "map") w refl).1)
      (map-both g r.within (nf-both g h known also vs d r [] (arrow kind.Star kind.Star) done) (nf-both g i known also vs d r [] kind.Row done))
  nf-both g (form_kind {r = x} w v h) known also vs d r _ _ done = both-along
      (ap (λ z. name_with z (codes "xml") (nf_with known (con.Var (codes "form")) [] ∷ nf_with known (con.Row' [] end) [] ∷ nf_with known x [] ∷ [])) (word-unknown r (codes "xml") w refl).0)
      (ap (λ z. name_with z (codes "xml") (nf_with also (con.Var (codes "form")) [] ∷ nf_with also (con.Row' [] end) [] ∷ nf_with also x [] ∷ [])) (word-unknown r (codes "xml") w refl).1)
      (form-both (rows-both (nf-both g h known also vs d r [] kind.Row done)))

  fields-both : {S : Variables → ℕ → Type 0} {σ : Putting} {scope : Scope} {n : _} {fs : Row_of-CField n} → Goes S σ → HaveKinds scope n fs → (known also : Known) (vs : Variables) (d : ℕ) → Sees S σ vs d scope known also →
      BothRows σ vs d (nf_fields known fs) (nf_fields also fs)
  fields-both g none known also vs d r = record { kinds = refl; form = refl }
  fields-both {σ = σ} g (bare x rest) known also vs d r = field-both (label-both g r x) (unit-both σ vs d) (fields-both g rest known also vs d r)
  fields-both g (given x h rest) known also vs d r = field-both (label-both g r x) (types-both (nf-both g h known also vs d r [] kind.Star done)) (fields-both g rest known also vs d r)

  record-fields-both : {S : Variables → ℕ → Type 0} {σ : Putting} {scope : Scope} {n : _} {fs : Row_of-RecordField n} → Goes S σ → RecordHasKinds scope n fs → (known also : Known) (vs : Variables) (d : ℕ) → Sees S σ vs d scope known also →
      BothRows σ vs d (nf_record known fs) (nf_record also fs)
  record-fields-both g no_field known also vs d r = record { kinds = refl; form = refl }
  record-fields-both g (a_field x h rest) known also vs d r = field-both (label-both g r x) (types-both (nf-both g h known also vs d r [] kind.Star done)) (record-fields-both g rest known also vs d r)
