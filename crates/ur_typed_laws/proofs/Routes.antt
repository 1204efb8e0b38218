-- The routes of a project are determined by its functions and by the links and actions of its bodies.
use Rattle.std.proofs.lemmas.List.Elements.{All-get_or}
use Rattle.std.proofs.lemmas.Option.{get_or_from_slice_get}
use Rattle.std.proofs.Common.{arith, inl, inr, ◌⊎◌, ◌≡◌, ◌∙◌, refl, sym, ap, ap₂, subst, Bool, true, false, true≢false, Option, Some, None, List, [], ◌∷◌, ◌++◌, ℕ, map}
use Rattle.std.specs.Prelude.{◌<◌, ◌↔◌, ◌≢◌, if◌then◌else◌, All, AllPairs, Contains, IsTrue, slice_get}
use Rattle.std.specs.List.{AllZip}
use Rattle.ur_syntax.specs.declared.decl.Signature.{Signature}
use Rattle.ur_tags.specs.declared.routes.Param.{Param as RouteParam}
use Rattle.ur_tags.specs.declared.routes.Param.TheVariants as route_param
use Rattle.ur_tags.specs.declared.routes.FormField.{FormField}
use Rattle.ur_tags.specs.declared.routes.Route.{Route}
use Rattle.ur_rows.specs.declared.normal.Label.TheVariants as label
use Rattle.ur_rows.specs.declared.normal.NormalType.{NormalType}
use Rattle.ur_rows.specs.declared.normal.NormalType.TheVariants as ty
use Rattle.ur_rows.specs.declared.normal.Part.{Part}
use Rattle.ur_rows.specs.declared.normal.Part.TheVariants as part
use Rattle.ur_rows.specs.Made.{record_of}
use Rattle.ur_rows.specs.Order.{is_not_after, stands_before, with_part}
use Rattle.ur_rows.specs.Types.{part_type}
use Rattle.ur_rows.proofs.Order.{not_after-same, parts-row}
use Rattle.ur_disjoint.proofs.Members.{In, in-contains, contains-in}
use Rattle.ur_tree.specs.QueryRow.{named_part}
use Rattle.ur_tree.specs.declared.typed.Typed.{Typed}
use Rattle.ur_tree.specs.declared.typed.Function.{Function}
use Rattle.ur_tree.specs.App.{RouteFits}
use Rattle.ur_tree.specs.Occurrences.{Occurrence, action}
use Rattle.ur_tree.specs.Routes.{param_type, box_type, form_row, form_argument, route_types}
use Rattle.ur_tree.specs.Typing.{types_of}
use Rattle.ur_typed_rules.specs.Rules.{row_of}
use Rattle.ur_typed_rules.proofs.Options.{some_of, some_none}
use Rattle.ur_typed.specs.Project.{Place}
use Rattle.ur_typed.specs.Typed.{IsEntry, IsGot, RoutesFit}
use Rattle.ur_typed.specs.Typed as source
use Rattle.ur_typed_laws.proofs.Distinct.{own_in, further_in}
use Rattle.ur_typed_laws.proofs.Lists.{rises, same_rising, one_place, zip_three, same_zipped}

-- ---- orders

-- names stand by their bytes
abbrev pub NameBefore : List ℕ → List ℕ → Type 0
NameBefore a b = IsTrue (is_not_after a b) × (a ≢ b)

pub names_turn : (a b : List ℕ) → NameBefore a b → NameBefore b a → ⊥
names_turn a b x y = x.1 (not_after-same a b x.0 y.0)

abbrev Below : ℕ → ℕ → Type 0
Below m n = m < n

below_turn : (m n : ℕ) → Below m n → Below n m → ⊥
below_turn m n h i = omega (arith, h, i)

abbrev FieldBefore : FormField → FormField → Type 0
FieldBefore f g = f.number.0 < g.number.0

fields_turn : (f g : FormField) → FieldBefore f g → FieldBefore g f → ⊥
fields_turn f g h i = omega (arith, h, i)

-- ---- rows of forms

abbrev part_of : List (List ℕ) → FormField → Part
part_of names f = named_part names f.number (box_type f.checkbox)

with_part_in : (p : Part) (r : List Part) (x : Part) → In x (with_part p r) → (p ≡ x) ⊎ In x r
with_part_in p [] x i = i
with_part_in p (q ∷ r) x i = choose (stands_before p q) (λ j. with_part_in p r x j) i where
  further : (p ≡ x) ⊎ In x r → (p ≡ x) ⊎ In x (q ∷ r)
  further (inl e) = inl e
  further (inr k) = inr (inr k)

  behind : (In x (with_part p r) → (p ≡ x) ⊎ In x r) → In x (q ∷ with_part p r) → (p ≡ x) ⊎ In x (q ∷ r)
  behind f (inl e) = inr (inl e)
  behind f (inr j) = further (f j)

  choose : (b : Bool) → (In x (with_part p r) → (p ≡ x) ⊎ In x r) → In x (if b then p ∷ q ∷ r else q ∷ with_part p r) → (p ≡ x) ⊎ In x (q ∷ r)
  choose true f j = j
  choose false f j = behind f j

with_part_more : (p : Part) (r : List Part) → (q : Part) × (s : List Part) × (with_part p r ≡ q ∷ s)
with_part_more p [] = (p, [], refl)
with_part_more p (q ∷ r) = choose (stands_before p q) where
  choose : (b : Bool) → (x : Part) × (s : List Part) × ((if b then p ∷ q ∷ r else q ∷ with_part p r) ≡ x ∷ s)
  choose true = (p, q ∷ r, refl)
  choose false = (q, with_part p r, refl)

form_in : (names : List (List ℕ)) (fs : List FormField) (f : FormField) → In f fs → In (part_of names f) (form_row names fs)
form_in names [] f i = absurd i
form_in names (g ∷ fs) f (inl e) = subst (λ z. In (part_of names z) (form_row names (g ∷ fs))) e (own_in (part_of names g) (form_row names fs))
form_in names (g ∷ fs) f (inr i) = further_in (part_of names g) (form_row names fs) (part_of names f) (form_in names fs f i)

-- a field whose part stands in a row
record FieldAt (names : List (List ℕ)) (fs : List FormField) (x : Part) : Type 0 where
  field : FormField
  there : In field fs
  is : part_of names field ≡ x

row_from : (names : List (List ℕ)) (fs : List FormField) (x : Part) → In x (form_row names fs) → FieldAt names fs x
row_from names [] x i = absurd i
row_from names (g ∷ fs) x i = by_place (λ j. row_from names fs x j) (with_part_in (part_of names g) (form_row names fs) x i) where
  by_place : (In x (form_row names fs) → FieldAt names fs x) → (part_of names g ≡ x) ⊎ In x (form_row names fs) → FieldAt names (g ∷ fs) x
  by_place f (inl e) = record { field = g; there = inl refl; is = e }
  by_place f (inr j) = let k : FieldAt names fs x = f j in record { field = k.field; there = inr k.there; is = k.is }

abbrev part_name : Part → Option (List ℕ)
part_name (part.Field' (label.Literal a) _ t) = Some a
part_name _ = None

abbrev checks : NormalType → Bool
checks ty.Bool = true
checks _ = false

box_back : (b : Bool) → checks (box_type b) ≡ b
box_back true = refl
box_back false = refl

abbrev a_field : ℕ → List ℕ → Bool → FormField
a_field n x c = record { number = record { 0 = n }; name = x; checkbox = c }

-- the names of a form's fields have their numbers
abbrev pub AreNumbered : List (List ℕ) → List FormField → Type 0
AreNumbered names fs = All (λ f. slice_get names f.number.0 ≡ Some f.name) fs

in_numbered : (names : List (List ℕ)) (fs : List FormField) (f : FormField) → AreNumbered names fs → In f fs → slice_get names f.number.0 ≡ Some f.name
in_numbered names fs f a i = let c : Contains fs f = contains-in f fs i in subst (λ z. slice_get names z.number.0 ≡ Some z.name) c.2 (All-get_or (λ z. slice_get names z.number.0 ≡ Some z.name) fs c.0 f c.1 a)

name_is : (names : List (List ℕ)) (f : FormField) → slice_get names f.number.0 ≡ Some f.name → part_name (part_of names f) ≡ Some f.name
name_is names f h = ap (λ z. Some z) (get_or_from_slice_get names f.number.0 f.name [] h)

one_field : (names : List (List ℕ)) → AllPairs NameBefore names → (f g : FormField) → slice_get names f.number.0 ≡ Some f.name → slice_get names g.number.0 ≡ Some g.name → part_of names f ≡ part_of names g → f ≡ g
one_field names rise f g hf hg e =
    let n : f.name ≡ g.name = some_of (sym (name_is names f hf) ∙ (ap part_name e ∙ name_is names g hg)) in
    let t : box_type f.checkbox ≡ box_type g.checkbox = some_of (ap part_type e) in
    let c : f.checkbox ≡ g.checkbox = sym (box_back f.checkbox) ∙ (ap checks t ∙ box_back g.checkbox) in
    let i : f.number.0 ≡ g.number.0 = one_place NameBefore names_turn names (rises NameBefore names rise) f.number.0 g.number.0 g.name (hf ∙ ap (λ z. Some z) n) hg in
    ap (λ z. a_field z f.name f.checkbox) i ∙ (ap (λ z. a_field g.number.0 z f.checkbox) n ∙ ap (λ z. a_field g.number.0 g.name z) c)

one_form : (names : List (List ℕ)) → AllPairs NameBefore names → (fs gs : List FormField) → AreNumbered names fs → AreNumbered names gs → AllPairs FieldBefore fs → AllPairs FieldBefore gs → form_row names fs ≡ form_row names gs → fs ≡ gs
one_form names rise fs gs nf ng rf rg e = same_rising FieldBefore fields_turn fs gs (rises FieldBefore fs rf) (rises FieldBefore gs rg) (forth fs gs nf ng e) (forth gs fs ng nf (sym e)) where
  forth : (xs ys : List FormField) → AreNumbered names xs → AreNumbered names ys → form_row names xs ≡ form_row names ys → (f : FormField) → In f xs → In f ys
  forth xs ys nx ny h f i =
      let k : FieldAt names ys (part_of names f) = row_from names ys (part_of names f) (subst (In (part_of names f)) h (form_in names xs f i)) in
      subst (λ z. In z ys) (one_field names rise k.field f (in_numbered names ys k.field ny k.there) (in_numbered names xs f nx i) k.is) k.there

-- ---- arguments of a route

abbrev param_from : NormalType → Option RouteParam
param_from ty.Int = Some route_param.Int
param_from ty.Str = Some route_param.Str
param_from ty.Bool = Some route_param.Bool
param_from (ty.Record' [] r) = Some route_param.Unit
param_from _ = None

param_back : (p : RouteParam) → param_from (param_type p) ≡ Some p
param_back route_param.Int = refl
param_back route_param.Str = refl
param_back route_param.Bool = refl
param_back route_param.Unit = refl

one_param : (p q : RouteParam) → param_type p ≡ param_type q → p ≡ q
one_param p q h = some_of (sym (param_back p) ∙ (ap param_from h ∙ param_back q))

-- the record of a form with fields is no argument of a path
no_param : (names : List (List ℕ)) (f : FormField) (fs : List FormField) (q : RouteParam) → record_of (form_row names (f ∷ fs)) ≡ param_type q → ⊥
no_param names f fs q h =
    let m : (x : Part) × (s : List Part) × (form_row names (f ∷ fs) ≡ x ∷ s) = with_part_more (part_of names f) (form_row names fs) in
    let n : param_from (record_of (form_row names (f ∷ fs))) ≡ None = ap (λ z. param_from (record_of z)) m.2 in
    some_none (sym (param_back q) ∙ (ap param_from (sym h) ∙ n))

one_record : (r s : List Part) → record_of r ≡ record_of s → r ≡ s
one_record r s h = sym (parts-row r) ∙ (some_of (ap row_of h) ∙ parts-row s)

head_is : {A : Type 0} {x y : A} {xs ys : List A} → x ∷ xs ≡ y ∷ ys → x ≡ y
head_is e = cc

tail_is : {A : Type 0} {x y : A} {xs ys : List A} → x ∷ xs ≡ y ∷ ys → xs ≡ ys
tail_is e = cc

one_argument : (names : List (List ℕ)) (fs gs : List FormField) → (form_row names fs ≡ form_row names gs → fs ≡ gs) → form_argument names fs ≡ form_argument names gs → fs ≡ gs
one_argument names [] [] k h = refl
one_argument names [] (g ∷ gs) k h = cc
one_argument names (f ∷ fs) [] k h = cc
one_argument names (f ∷ fs) (g ∷ gs) k h = k (one_record (form_row names (f ∷ fs)) (form_row names (g ∷ gs)) (head_is h))

no_argument : (names : List (List ℕ)) (fs : List FormField) (q : RouteParam) (ts : List NormalType) → form_argument names fs ≡ param_type q ∷ ts → ⊥
no_argument names [] q ts h = cc
no_argument names (f ∷ fs) q ts h = no_param names f fs q (head_is h)

one_arguments : (names : List (List ℕ)) (fs gs : List FormField) → (form_row names fs ≡ form_row names gs → fs ≡ gs) → (ps qs : List RouteParam) → map param_type ps ++ form_argument names fs ≡ map param_type qs ++ form_argument names gs → (ps ≡ qs) × (fs ≡ gs)
one_arguments names fs gs k [] [] h = (refl, one_argument names fs gs k h)
one_arguments names fs gs k [] (q ∷ qs) h = absurd (no_argument names fs q (map param_type qs ++ form_argument names gs) h)
one_arguments names fs gs k (p ∷ ps) [] h = absurd (no_argument names gs p (map param_type ps ++ form_argument names fs) (sym h))
one_arguments names fs gs k (p ∷ ps) (q ∷ qs) h =
    let i : (ps ≡ qs) × (fs ≡ gs) = one_arguments names fs gs k ps qs (tail_is h) in
    (ap (λ z. z ∷ ps) (one_param p q (head_is h)) ∙ ap (λ z. q ∷ z) i.0, i.1)

-- ---- which functions have routes

entry_moves : (a b : Typed) → a.functions ≡ b.functions → (after : Place) (main : ℕ) (s : Option Signature) (f : ℕ) → IsEntry a after main s f → IsEntry b after main s f
entry_moves a b e after main _ f (source.IsEntry.signed {d = d} c l g) = source.IsEntry.signed c l (subst (λ z. slice_get z f ≡ Some d) e g)
entry_moves a b e after main _ f (source.IsEntry.unsigned {d = d} g m p l) = source.IsEntry.unsigned (subst (λ z. slice_get z f ≡ Some d) e g) m p l

got_moves : (a b : Typed) → a.functions ≡ b.functions → (after : Place) (main : ℕ) (s : Option Signature) (all : List Occurrence) (f : ℕ) → IsGot a after main s all f → IsGot b after main s all f
got_moves a b e after main s all f (source.IsGot.entry i) = source.IsGot.entry (entry_moves a b e after main s f i)
got_moves a b e after main s all f (source.IsGot.linked c) = source.IsGot.linked c

pub one_targets : (a b : Typed) → a.functions ≡ b.functions → (after : Place) (main : ℕ) (s : Option Signature) (all : List Occurrence) → RoutesFit a after main s all → RoutesFit b after main s all → a.targets ≡ b.targets
one_targets a b e after main s all x y = same_rising Below below_turn a.targets b.targets (rises Below a.targets x.rising) (rises Below b.targets y.rising) (λ f i. in-contains f b.targets (forth f (x.used f (contains-in f a.targets i)))) (λ f i. in-contains f a.targets (back f (y.used f (contains-in f b.targets i)))) where
  forth : (f : ℕ) → IsGot a after main s all f ⊎ Contains all (action f) → Contains b.targets f
  forth f (inl g) = y.gets f (got_moves a b e after main s all f g)
  forth f (inr p) = y.posts f p

  back : (f : ℕ) → IsGot b after main s all f ⊎ Contains all (action f) → Contains a.targets f
  back f (inl g) = x.gets f (got_moves b a (sym e) after main s all f g)
  back f (inr p) = x.posts f p

-- ---- routes

one_bool : {P Q : Type 0} (x y : Bool) → (IsTrue x ↔ P) → (IsTrue y ↔ Q) → (P → Q) → (Q → P) → x ≡ y
one_bool true true p q f g = refl
one_bool true false p q f g = absurd (true≢false (sym (q.1 (f (p.0 refl)))))
one_bool false true p q f g = absurd (true≢false (sym (p.1 (g (q.0 refl)))))
one_bool false false p q f g = refl

-- a route in a source: its methods, and that it fits its function
record Fits (app : Typed) (after : Place) (main : ℕ) (s : Option Signature) (all : List Occurrence) (r : Route) (f : ℕ) : Type 0 where
  get : IsTrue r.get ↔ IsGot app after main s all f
  post : IsTrue r.post ↔ Contains all (action f)
  fits : RouteFits app r f

fits_all : (app : Typed) (after : Place) (main : ℕ) (s : Option Signature) (all : List Occurrence) → RoutesFit app after main s all → AllZip (RouteFits app) app.handlers.routes app.targets → AllZip (Fits app after main s all) app.handlers.routes app.targets
fits_all app after main s all x z =
    zip_three (λ r f. IsTrue r.get ↔ IsGot app after main s all f) (λ r f. IsTrue r.post ↔ Contains all (action f)) (RouteFits app) (Fits app after main s all) (λ r f g p i. record { get = g; post = p; fits = i }) app.handlers.routes app.targets x.get x.post z

abbrev a_route : List ℕ → List ℕ → List RouteParam → List FormField → Bool → Bool → Route
a_route m n p f g t = record { module_name = m; function_name = n; params = p; form = f; get = g; post = t }

abbrev home_of : List (List ℕ) → Function → Option (List ℕ)
home_of modules f = slice_get modules f.«module»

-- two sources with the same functions, modules and names
pub record SameTold (a b : Typed) : Type 0 where
  pub functions : a.functions ≡ b.functions
  pub modules : a.modules ≡ b.modules
  pub names : a.names ≡ b.names
  pub rise : AllPairs NameBefore a.names

one_route : (a b : Typed) → SameTold a b → (after : Place) (main : ℕ) (s : Option Signature) (all : List Occurrence) (r t : Route) (k : ℕ) → Fits a after main s all r k → Fits b after main s all t k → r ≡ t
one_route a b u after main s all r t k x y =
    let fx : RouteFits a r k = x.fits in let fy : RouteFits b t k = y.fits in
    let f : fx.function ≡ fy.function = some_of (sym fx.declared ∙ (ap (λ z. slice_get z k) u.functions ∙ fy.declared)) in
    let m : r.module_name ≡ t.module_name = some_of (sym fx.home ∙ (ap₂ home_of u.modules f ∙ fy.home)) in
    let n : r.function_name ≡ t.function_name = sym fx.name ∙ (ap (λ z. z.name) f ∙ fy.name) in
    let e : route_types a.names r ≡ route_types a.names t = sym fx.types ∙ (ap (λ z. types_of z.params) f ∙ (fy.types ∙ ap (λ z. route_types z t) (sym u.names))) in
    let nt : AreNumbered a.names t.form = subst (λ z. AreNumbered z t.form) (sym u.names) fy.fields in
    let p : (r.params ≡ t.params) × (r.form ≡ t.form) = one_arguments a.names r.form t.form (one_form a.names u.rise r.form t.form fx.fields nt fx.rising fy.rising) r.params t.params e in
    let g : r.get ≡ t.get = one_bool r.get t.get x.get y.get (got_moves a b u.functions after main s all k) (got_moves b a (sym u.functions) after main s all k) in
    let h : r.post ≡ t.post = one_bool r.post t.post x.post y.post (λ z. z) (λ z. z) in
    ap (λ z. a_route z r.function_name r.params r.form r.get r.post) m ∙ (ap (λ z. a_route t.module_name z r.params r.form r.get r.post) n ∙ (ap (λ z. a_route t.module_name t.function_name z r.form r.get r.post) p.0 ∙ (ap (λ z. a_route t.module_name t.function_name t.params z r.get r.post) p.1
    ∙ (ap (λ z. a_route t.module_name t.function_name t.params t.form z r.post) g ∙ ap (λ z. a_route t.module_name t.function_name t.params t.form t.get z) h))))

pub one_routes : (a b : Typed) → SameTold a b → (after : Place) (main : ℕ) (s : Option Signature) (all : List Occurrence) → RoutesFit a after main s all → RoutesFit b after main s all → AllZip (RouteFits a) a.handlers.routes a.targets → AllZip (RouteFits b) b.handlers.routes b.targets → a.handlers.routes ≡ b.handlers.routes
one_routes a b u after main s all x y zx zy =
    let e : a.targets ≡ b.targets = one_targets a b u.functions after main s all x y in
    same_zipped (Fits a after main s all) (Fits b after main s all) (one_route a b u after main s all) a.handlers.routes b.handlers.routes a.targets (fits_all a after main s all x zx)
    (subst (AllZip (Fits b after main s all) b.handlers.routes) (sym e) (fits_all b after main s all y zy))
