-- What stands in the bodies of a source stands in those of its `val`s and functions, and the other way round.
use Rattle.std.proofs.Common.{arith, inl, inr, ◌⊎◌, ◌≡◌, ◌∙◌, refl, sym, ap, subst, Bool, true, false, Some, List, [], ◌∷◌, ◌++◌, ℕ, ◌+◌, length, map}
use Rattle.std.specs.Prelude.{◌<◌, ◌≤◌, nat_lt, Contains, slice_get}
use Rattle.std.proofs.lemmas.Bool.Decides.{nat_tests}
use Rattle.std.proofs.lemmas.Option.{slice_get_within, slice_get-get_or}
use Rattle.ur_syntax.specs.declared.decl.Decl.{Decl}
use Rattle.ur_syntax.specs.declared.decl.FunDef.{FunDef}
use Rattle.ur_disjoint.proofs.Members.{In, in-contains, contains-in, in-map, map-in}
use Rattle.ur_tree.specs.declared.exp.Exp.{Exp}
use Rattle.ur_tree.specs.declared.typed.Typed.{Typed}
use Rattle.ur_tree.specs.declared.typed.Function.{Function}
use Rattle.ur_tree.specs.declared.typed.ModuleVal.{ModuleVal}
use Rattle.ur_tree.specs.Occurrences.{Occurrence, occurrences}
use Rattle.ur_typed_rules.proofs.Options.{some_of}
use Rattle.ur_typed.specs.Typed.{AreFunctions, AreBodies, all_occurrences}
use Rattle.ur_typed.specs.Typed as source
use Rattle.ur_typed_laws.proofs.Lists.{got_in}
use Rattle.ur_typed_laws.proofs.Going.{body_of, right_side}

-- ---- elements of two lists

pub in_left : {A : Type 0} (x : A) (xs ys : List A) → In x xs → In x (xs ++ ys)
in_left x [] ys h = absurd h
in_left x (z ∷ xs) ys (inl e) = inl e
in_left x (z ∷ xs) ys (inr h) = inr (in_left x xs ys h)

pub in_right : {A : Type 0} (x : A) (xs ys : List A) → In x ys → In x (xs ++ ys)
in_right x [] ys h = h
in_right x (z ∷ xs) ys h = inr (in_right x xs ys h)

in_either : {A : Type 0} (x : A) (xs ys : List A) → In x (xs ++ ys) → In x xs ⊎ In x ys
in_either x [] ys h = inr h
in_either x (z ∷ xs) ys (inl e) = inl (inl e)
in_either x (z ∷ xs) ys (inr h) = further (in_either x xs ys h) where
  further : In x xs ⊎ In x ys → In x (z ∷ xs) ⊎ In x ys
  further (inl i) = inl (inr i)
  further (inr i) = inr i

-- ---- occurrences

occurs : (es : List Exp) (e : Exp) (o : Occurrence) → In e es → In o (occurrences e) → In o (all_occurrences es)
occurs [] e o h i = absurd h
occurs (x ∷ es) e o (inl q) i = in_left o (occurrences x) (all_occurrences es) (subst (λ z. In o (occurrences z)) (sym q) i)
occurs (x ∷ es) e o (inr h) i = in_right o (occurrences x) (all_occurrences es) (occurs es e o h i)

pub more_occur : (es fs : List Exp) → ((e : Exp) → In e es → In e fs) → (o : Occurrence) → In o (all_occurrences es) → In o (all_occurrences fs)
more_occur [] fs k o h = absurd h
more_occur (e ∷ es) fs k o h = by_place (more_occur es fs (λ x i. k x (inr i)) o) (in_either o (occurrences e) (all_occurrences es) h) where
  by_place : (In o (all_occurrences es) → In o (all_occurrences fs)) → In o (occurrences e) ⊎ In o (all_occurrences es) → In o (all_occurrences fs)
  by_place f (inl i) = occurs fs e o (k e (inl refl)) i
  by_place f (inr i) = f i

-- ---- bodies

abbrev pub all_bodies : Typed → List Exp
all_bodies app = map right_side app.vals ++ map body_of app.functions

a_function : (app : Typed) (n : ℕ) (d : Function) → slice_get app.functions n ≡ Some d → In d.body (all_bodies app)
a_function app n d h = in_right d.body (map right_side app.vals) (map body_of app.functions) (in-map body_of d app.functions (got_in app.functions n d h))

own_there : (app : Typed) (f : ℕ) (fs : List FunDef) (own : List Exp) → AreFunctions app f fs own → (e : Exp) → In e own → In e (all_bodies app)
own_there app f _ _ source.AreFunctions.none e h = absurd h
own_there app f _ _ (source.AreFunctions.one {d = d} g r) e (inl q) = subst (λ z. In z (all_bodies app)) q (a_function app f d g)
own_there app f _ _ (source.AreFunctions.one {xs = xs} {es = es} g r) e (inr h) = own_there app (f + 1) xs es r e h

pub body_there : (app : Typed) (f v : ℕ) (ds : List Decl) (g w : ℕ) (bs : List Exp) → AreBodies app f v ds g w bs → (e : Exp) → In e bs → In e (all_bodies app)
body_there app f v _ _ _ _ source.AreBodies.none e h = absurd h
body_there app f v _ g w _ (source.AreBodies.val {m = m} i l r) e (inl q) = subst (λ z. In z (all_bodies app)) q (in_left m.body (map right_side app.vals) (map body_of app.functions) (in-map right_side m app.vals (got_in app.vals v m l)))
body_there app f v _ g w _ (source.AreBodies.val {ds = ds} {bodies = bs} i l r) e (inr h) = body_there app f (v + 1) ds g w bs r e h
body_there app f v _ g w _ (source.AreBodies.functions {ds = ds} {fs = fs} {own = own} {bodies = bs} i l r) e h = by_place (body_there app (f + length fs) v ds g w bs r e) (in_either e own bs h) where
  by_place : (In e bs → In e (all_bodies app)) → In e own ⊎ In e bs → In e (all_bodies app)
  by_place k (inl j) = own_there app f fs own l e j
  by_place k (inr j) = k j
body_there app f v _ g w _ (source.AreBodies.other {ds = ds} {bodies = bs} i r) e h = body_there app f v ds g w bs r e h

-- ---- each of them is there

above : (f n : ℕ) → nat_lt f n ≡ true → f + 1 ≤ n
above f n h = grind (arith, nat_tests, h)

at_least : (f n : ℕ) → nat_lt f n ≡ false → n ≤ f
at_least f n h = grind (arith, nat_tests, h)

is_below : (n m : ℕ) → nat_lt n m ≡ true → n < m
is_below n m h = grind (arith, nat_tests, h)

own_body : (app : Typed) (f : ℕ) (fs : List FunDef) (own : List Exp) → AreFunctions app f fs own → (n : ℕ) (d : Function) → f ≤ n → n < f + length fs → slice_get app.functions n ≡ Some d → In d.body own
own_body app f _ _ source.AreFunctions.none n d l m h = absurd (nothing_between f n l m) where
  nothing_between : (f n : ℕ) → f ≤ n → n < f + length {A = FunDef} [] → ⊥
  nothing_between f n l m = omega (arith, l, m)
own_body app f _ _ (source.AreFunctions.one {d = d'} {x = x} {xs = xs} {es = es} g r) n d l m h = by_test (nat_lt f n) refl (λ i. own_body app (f + 1) xs es r n d i (omega (arith, m)) h) where
  by_test : (b : Bool) → nat_lt f n ≡ b → (f + 1 ≤ n → In d.body es) → In d.body (d'.body ∷ es)
  by_test true i k = inr (k (above f n i))
  by_test false i k =
      let j : n ≤ f = at_least f n i in
      let e : f ≡ n = omega (arith, l, j) in
      inl (ap (λ z. z.body) (some_of (sym g ∙ (ap (slice_get app.functions) e ∙ h))))

pub function_among : (app : Typed) (f v : ℕ) (ds : List Decl) (g w : ℕ) (bs : List Exp) → AreBodies app f v ds g w bs → (n : ℕ) (d : Function) → f ≤ n → n < g → slice_get app.functions n ≡ Some d → In d.body bs
function_among app f v _ _ _ _ source.AreBodies.none n d l m h = absurd (nothing_between f n l m) where
  nothing_between : (f n : ℕ) → f ≤ n → n < f → ⊥
  nothing_between f n l m = omega (arith, l, m)
function_among app f v _ g w _ (source.AreBodies.val {ds = ds} {bodies = bs} i x r) n d l m h = inr (function_among app f (v + 1) ds g w bs r n d l m h)
function_among app f v _ g w _ (source.AreBodies.functions {ds = ds} {fs = fs} {own = own} {bodies = bs} i x r) n d l m h = by_test (nat_lt n (f + length fs)) refl (λ j. function_among app (f + length fs) v ds g w bs r n d j m h) where
  by_test : (b : Bool) → nat_lt n (f + length fs) ≡ b → (f + length fs ≤ n → In d.body bs) → In d.body (own ++ bs)
  by_test true j k = in_left d.body own bs (own_body app f fs own x n d l (is_below n (f + length fs) j) h)
  by_test false j k = in_right d.body own bs (k (at_least n (f + length fs) j))
function_among app f v _ g w _ (source.AreBodies.other {ds = ds} {bodies = bs} i r) n d l m h = function_among app f v ds g w bs r n d l m h

pub val_among : (app : Typed) (f v : ℕ) (ds : List Decl) (g w : ℕ) (bs : List Exp) → AreBodies app f v ds g w bs → (n : ℕ) (d : ModuleVal) → v ≤ n → n < w → slice_get app.vals n ≡ Some d → In d.body bs
val_among app f v _ _ _ _ source.AreBodies.none n d l m h = absurd (nothing_between v n l m) where
  nothing_between : (f n : ℕ) → f ≤ n → n < f → ⊥
  nothing_between f n l m = omega (arith, l, m)
val_among app f v _ g w _ (source.AreBodies.val {ds = ds} {m = d'} {bodies = bs} i x r) n d l m h = by_test (nat_lt v n) refl (λ j. val_among app f (v + 1) ds g w bs r n d j m h) where
  by_test : (b : Bool) → nat_lt v n ≡ b → (v + 1 ≤ n → In d.body bs) → In d.body (d'.body ∷ bs)
  by_test true j k = inr (k (above v n j))
  by_test false j k =
      let q : n ≤ v = at_least v n j in
      let e : v ≡ n = omega (arith, l, q) in
      inl (ap (λ z. z.body) (some_of (sym x ∙ (ap (slice_get app.vals) e ∙ h))))
val_among app f v _ g w _ (source.AreBodies.functions {ds = ds} {fs = fs} {own = own} {bodies = bs} i x r) n d l m h = in_right d.body own bs (val_among app (f + length fs) v ds g w bs r n d l m h)
val_among app f v _ g w _ (source.AreBodies.other {ds = ds} {bodies = bs} i r) n d l m h = val_among app f v ds g w bs r n d l m h

-- an element stands at a place
pub place_in : {A : Type 0} (x : A) (xs : List A) → In x xs → (n : ℕ) × (slice_get xs n ≡ Some x)
place_in x xs i = let c : Contains xs x = contains-in x xs i in (c.0, slice_get-get_or xs c.0 x c.1 ∙ ap (λ z. Some z) c.2)

all_among : (app : Typed) (ds : List Decl) (bs : List Exp) → AreBodies app 0 0 ds (length app.functions) (length app.vals) bs → (e : Exp) → In e (all_bodies app) → In e bs
all_among app ds bs b e h = by_list (in_either e (map right_side app.vals) (map body_of app.functions) h) where
  by_list : In e (map right_side app.vals) ⊎ In e (map body_of app.functions) → In e bs
  by_list (inl i) =
      let j = map-in right_side e app.vals i in
      let k = place_in j.0 app.vals j.1 in
      subst (λ z. In z bs) j.2 (val_among app 0 0 ds (length app.functions) (length app.vals) bs b k.0 j.0 (omega arith) (slice_get_within app.vals k.0 j.0 k.1) k.1)
  by_list (inr i) =
      let j = map-in body_of e app.functions i in
      let k = place_in j.0 app.functions j.1 in
      subst (λ z. In z bs) j.2 (function_among app 0 0 ds (length app.functions) (length app.vals) bs b k.0 j.0 (omega arith) (slice_get_within app.functions k.0 j.0 k.1) k.1)

-- what occurs in the bodies of a source, and in those of its `val`s and functions
pub occurs_there : (app : Typed) (ds : List Decl) (bs : List Exp) → AreBodies app 0 0 ds (length app.functions) (length app.vals) bs → (o : Occurrence) → Contains (all_occurrences bs) o → Contains (all_occurrences (all_bodies app)) o
occurs_there app ds bs b o c = contains-in o (all_occurrences (all_bodies app)) (more_occur bs (all_bodies app) (λ e i. body_there app 0 0 ds (length app.functions) (length app.vals) bs b e i) o (in-contains o (all_occurrences bs) c))

pub occurs_back : (app : Typed) (ds : List Decl) (bs : List Exp) → AreBodies app 0 0 ds (length app.functions) (length app.vals) bs → (o : Occurrence) → Contains (all_occurrences (all_bodies app)) o → Contains (all_occurrences bs) o
occurs_back app ds bs b o c = contains-in o (all_occurrences bs) (more_occur (all_bodies app) bs (λ e i. all_among app ds bs b e i) o (in-contains o (all_occurrences (all_bodies app)) c))
