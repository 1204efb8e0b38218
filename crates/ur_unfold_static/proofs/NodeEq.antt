-- The test `==` of nodes decides equality.
use Rattle.std.proofs.Common.{◌≡◌, ℕ, Bool, true, false, List, refl, ap, ap₂, Decides}
use Rattle.std.specs.Prelude.{◌&&◌, nat_eq}
use Rattle.std.specs.Cmp.{booleans_Decides}
use Rattle.std.specs.Cmp.Lexicographic.{pointwise}
use Rattle.std.proofs.lemmas.Bool.{false≢true}
use Rattle.std.proofs.lemmas.Bool.Decides.{Decides-and, Decides-eqb, Decides-int_eq, Decides-like}
use Rattle.std.proofs.lemmas.Slice.Eq.{slice_eq-Decides}
use Rattle.ur_base.specs.declared.names.Name.{Name}
use Rattle.ur_base.specs.contracts.names.NamePartialEq.TheImpl as name_test
use Rattle.ur_unfold_static.specs.declared.node.Field.{Field}
use Rattle.ur_unfold_static.specs.declared.node.Node.{Node}
use Rattle.ur_unfold_static.specs.declared.node.Node.TheVariants as node
use Rattle.ur_unfold_static.specs.contracts.node.FieldPartialEq.TheImpl as field_test
use Rattle.ur_unfold_static.specs.contracts.node.NodePartialEq.TheImpl as node_test

abbrev name_eq : Name → Name → Bool
name_eq a b = name_test.eq-value.it a b

abbrev field_eq : Field → Field → Bool
field_eq a b = field_test.eq-value.it a b

abbrev pub node_eq : Node → Node → Bool
node_eq a b = node_test.eq-value.it a b

both : (a b : Bool) → (a && b) ≡ true → (a ≡ true) × (b ≡ true)
both true true same = (refl, refl)
both true false same = cc
both false b same = cc

and_true : (a b : Bool) → a ≡ true → b ≡ true → (a && b) ≡ true
and_true a b p q = rw (p, q) refl

abbrev name : ℕ → Name
name n = record { 0 = n }

name_of : (a b : Name) → a.0 ≡ b.0 → a ≡ b
name_of a b e = ap name e

names_decide : (a b : Name) → Decides (name_eq a b) (a ≡ b)
names_decide a b = Decides-like (name_eq a b) (name_of a b) (λ e. ap (λ n. n.0) e) (Decides-eqb a.0 b.0)

field_of : (a b : Field) → (a.name ≡ b.name) × (a.of ≡ b.of) → a ≡ b
field_of a b h = ap₂ (λ n j. record { name = n; of = j }) h.0 h.1

fields_decide : (a b : Field) → Decides (field_eq a b) (a ≡ b)
fields_decide a b =
    Decides-like (field_eq a b) (field_of a b) (λ e. (ap (λ f. f.name) e, ap (λ f. f.of) e))
    (Decides-and (name_eq a.name b.name) (nat_eq a.of b.of) (names_decide a.name b.name) (Decides-eqb a.of b.of))

numbers_decide : (xs ys : List ℕ) → Decides (pointwise (λ x y. nat_eq x y) xs ys) (xs ≡ ys)
numbers_decide xs ys = slice_eq-Decides Decides-eqb xs ys (pointwise (λ x y. nat_eq x y) xs ys) refl

lists_decide : (xs ys : List Field) → Decides (pointwise (λ x y. field_eq x y) xs ys) (xs ≡ ys)
lists_decide xs ys = slice_eq-Decides fields_decide xs ys (pointwise (λ x y. field_eq x y) xs ys) refl

lambda_of : (l k : ℕ) (js ks fs gs : List ℕ) → l ≡ k → js ≡ ks → fs ≡ gs → node.Lambda l js fs ≡ node.Lambda k ks gs
lambda_of l k js ks fs gs d e f = cc

pub eq_sound : (a b : Node) → node_eq a b ≡ true → a ≡ b
eq_sound (node.Int i) (node.Int i2) same = ap node.Int ((Decides-int_eq i i2).0 same)
eq_sound (node.Int i) (node.Str s2) same = absurd (false≢true same)
eq_sound (node.Int i) (node.Bool b2) same = absurd (false≢true same)
eq_sound (node.Int i) (node.Function k2 js2) same = absurd (false≢true same)
eq_sound (node.Int i) (node.Lambda l2 js2 fs2) same = absurd (false≢true same)
eq_sound (node.Int i) (node.Record fs2) same = absurd (false≢true same)
eq_sound (node.Str s) (node.Int i2) same = absurd (false≢true same)
eq_sound (node.Str s) (node.Str s2) same = ap node.Str ((numbers_decide s s2).0 same)
eq_sound (node.Str s) (node.Bool b2) same = absurd (false≢true same)
eq_sound (node.Str s) (node.Function k2 js2) same = absurd (false≢true same)
eq_sound (node.Str s) (node.Lambda l2 js2 fs2) same = absurd (false≢true same)
eq_sound (node.Str s) (node.Record fs2) same = absurd (false≢true same)
eq_sound (node.Bool b) (node.Int i2) same = absurd (false≢true same)
eq_sound (node.Bool b) (node.Str s2) same = absurd (false≢true same)
eq_sound (node.Bool b) (node.Bool b2) same = ap node.Bool ((booleans_Decides b b2).0 same)
eq_sound (node.Bool b) (node.Function k2 js2) same = absurd (false≢true same)
eq_sound (node.Bool b) (node.Lambda l2 js2 fs2) same = absurd (false≢true same)
eq_sound (node.Bool b) (node.Record fs2) same = absurd (false≢true same)
eq_sound (node.Function k js) (node.Int i2) same = absurd (false≢true same)
eq_sound (node.Function k js) (node.Str s2) same = absurd (false≢true same)
eq_sound (node.Function k js) (node.Bool b2) same = absurd (false≢true same)
eq_sound (node.Function k js) (node.Function k2 js2) same = let parts = both _ _ same in ap₂ (λ a b. node.Function a b) ((Decides-eqb k k2).0 parts.0) ((numbers_decide js js2).0 parts.1)
eq_sound (node.Function k js) (node.Lambda l2 js2 fs2) same = absurd (false≢true same)
eq_sound (node.Function k js) (node.Record fs2) same = absurd (false≢true same)
eq_sound (node.Lambda l js fs) (node.Int i2) same = absurd (false≢true same)
eq_sound (node.Lambda l js fs) (node.Str s2) same = absurd (false≢true same)
eq_sound (node.Lambda l js fs) (node.Bool b2) same = absurd (false≢true same)
eq_sound (node.Lambda l js fs) (node.Function k2 js2) same = absurd (false≢true same)
eq_sound (node.Lambda l js fs) (node.Lambda l2 js2 fs2) same =
    let parts = both _ _ same in
    let more = both _ _ parts.1 in
    lambda_of l l2 js js2 fs fs2 ((Decides-eqb l l2).0 parts.0) ((numbers_decide js js2).0 more.0) ((numbers_decide fs fs2).0 more.1)
eq_sound (node.Lambda l js fs) (node.Record fs2) same = absurd (false≢true same)
eq_sound (node.Record fs) (node.Int i2) same = absurd (false≢true same)
eq_sound (node.Record fs) (node.Str s2) same = absurd (false≢true same)
eq_sound (node.Record fs) (node.Bool b2) same = absurd (false≢true same)
eq_sound (node.Record fs) (node.Function k2 js2) same = absurd (false≢true same)
eq_sound (node.Record fs) (node.Lambda l2 js2 fs2) same = absurd (false≢true same)
eq_sound (node.Record fs) (node.Record fs2) same = ap node.Record ((lists_decide fs fs2).0 same)

pub eq_complete : (a : Node) → node_eq a a ≡ true
eq_complete (node.Int i) = (Decides-int_eq i i).1 refl
eq_complete (node.Str s) = (numbers_decide s s).1 refl
eq_complete (node.Bool b) = (booleans_Decides b b).1 refl
eq_complete (node.Function k js) = and_true _ _ ((Decides-eqb k k).1 refl) ((numbers_decide js js).1 refl)
eq_complete (node.Lambda l js fs) = and_true _ _ ((Decides-eqb l l).1 refl) (and_true _ _ ((numbers_decide js js).1 refl) ((numbers_decide fs fs).1 refl))
eq_complete (node.Record fs) = (lists_decide fs fs).1 refl
