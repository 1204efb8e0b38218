-- Entries and routes, as the functions find them, are those by the rules.
use Rattle.std.proofs.Common.{inl, inr, ◌⊎◌, ◌≡◌, ◌∙◌, refl, sym, ap, subst, true, Option, Some, None, List, [], ◌∷◌, ℕ, map}
use Rattle.std.specs.Prelude.{nat_le, IsTrue, Contains, All, option_map, option_and_then, slice_get}
use Rattle.std.specs.List.{AllZip}
use Rattle.ur_syntax.specs.declared.con.Con.{Con}
use Rattle.ur_syntax.specs.declared.decl.ValDecl.{ValDecl}
use Rattle.ur_syntax.specs.declared.decl.Signature.{Signature}
use Rattle.ur_syntax.specs.Names.{looked_up}
use Rattle.ur_tags.specs.declared.routes.Route.{Route}
use Rattle.ur_rows.specs.Nodes.{nodes}
use Rattle.ur_rows.specs.Normal.{nf}
use Rattle.ur_rows.specs.Put.{as_type}
use Rattle.ur_disjoint.proofs.Members.{In, in-contains}
use Rattle.ur_sqltype.specs.Lists.{all_of}
use Rattle.ur_tree.specs.declared.typed.Typed.{Typed}
use Rattle.ur_tree.specs.declared.typed.Function.{Function}
use Rattle.ur_tree.specs.Heads.{function_type, head_of}
use Rattle.ur_tree.specs.App.{RouteFits}
use Rattle.ur_tree.specs.Routes.{route_types}
use Rattle.ur_tree.specs.Occurrences.{Occurrence, action}
use Rattle.ur_tree.specs.Typing.{IsPage, are_linkable, types_of}
use Rattle.ur_typed_rules.specs.Names.{WritesType}
use Rattle.ur_typed_rules.specs.Names as here
use Rattle.ur_typed_rules.specs.Tests.{same_type, is_page}
use Rattle.ur_typed_rules.proofs.Lists.{both_of}
use Rattle.ur_typed_rules.proofs.Rows.{told}
use Rattle.ur_typed_rules.proofs.Decided.{pages_decided}
use Rattle.ur_typed_rules.specs.Rules.{if_so}
use Rattle.ur_typed_rules.proofs.Options.{opened, opened_if, mapped}
use Rattle.ur_typed.specs.Project.{Place, env_at, at}
use Rattle.ur_typed.specs.Typed.{SignatureFits, IsGot, RoutesFit}
use Rattle.ur_typed.specs.Declaring.{FunctionHead, Sofar, is_entry, is_signed, entry_by, entry_out, entries_out}
use Rattle.ur_typed_laws.proofs.Written.{headed}
use Rattle.ur_typed.specs.Routing.{IsLinked, IsRouteAt, AreRoutes}
use Rattle.ur_typed_laws.proofs.Made.{Entered, zip_map, got_linked, linked_got}
use Rattle.ur_typed_laws.proofs.Walking.{map_got}
use Rattle.ur_typed_laws.proofs.Writing.{is_written}

-- ---- a name of the signature

-- what a name stands for is a function that is an entry of that type
record EntryIs (app : Typed) (most : ℕ) (z : Sofar) (c : Con) (o : Option here.Declared) : Type 0 where
  number : ℕ
  function : Function
  found : o ≡ Some (here.function number)
  got : slice_get app.functions number ≡ Some function
  writes : WritesType most (env_at z.place) c (function_type (head_of function))
  page : IsPage (head_of function)
  linkable : IsTrue (are_linkable (types_of function.params))

function_is : (app : Typed) (z : Sofar) → map headed app.functions ≡ z.functions → (f : ℕ) (g : FunctionHead) → slice_get z.functions f ≡ Some g → (d : Function) × (slice_get app.functions f ≡ Some d) × (headed d ≡ g)
function_is app z e f g h = map_got headed app.functions f g (ap (λ fs. slice_get fs f) e ∙ h)

entry_told : (app : Typed) (most : ℕ) (z : Sofar) → map headed app.functions ≡ z.functions → (c : Con) (o : Option here.Declared) (n : ℕ) → entry_by most z c o ≡ Some n → EntryIs app most z c o
entry_told app most z e c None n h = cc
entry_told app most z e c (Some (here.val v)) n h = cc
entry_told app most z e c (Some (here.function f)) n h =
    let i : (nat_le (nodes (nf (env_at z.place) c)) most ≡ true) × (option_and_then (λ (g : FunctionHead). if_so (is_signed z c g.head) (Some f)) (slice_get z.functions f) ≡ Some n) =
    opened_if (nat_le (nodes (nf (env_at z.place) c)) most) (option_and_then (λ (g : FunctionHead). if_so (is_signed z c g.head) (Some f)) (slice_get z.functions f)) n h in
    let j : (g : FunctionHead) × (slice_get z.functions f ≡ Some g) × (if_so (is_signed z c g.head) (Some f) ≡ Some n) = opened _ _ n i.1 in
    let d : (d : Function) × (slice_get app.functions f ≡ Some d) × (headed d ≡ j.0) = function_is app z e f j.0 j.1 in
    let k : is_signed z c (head_of d.0) ≡ true = ap (λ (g : FunctionHead). is_signed z c g.head) d.2 ∙ (opened_if (is_signed z c j.0.head) (Some f) n j.2).0 in
    let l : (same_type (function_type (head_of d.0)) (as_type (nf (env_at z.place) c)) ≡ true) × (is_entry (head_of d.0) ≡ true) = both_of (same_type (function_type (head_of d.0)) (as_type (nf (env_at z.place) c))) (is_entry (head_of d.0)) k in
    let p : (is_page (head_of d.0) ≡ true) × (are_linkable (types_of d.0.params) ≡ true) = both_of (is_page (head_of d.0)) (are_linkable (types_of d.0.params)) l.1 in
    record {
      number = f;
      function = d.0;
      found = refl;
      got = d.1;
      writes = (nf (env_at z.place) c, is_written most (env_at z.place) c i.0, (told (function_type (head_of d.0)) (as_type (nf (env_at z.place) c))).0 l.0);
      page = (pages_decided (head_of d.0)).0 p.0;
      linkable = p.1;
    }

-- each of a list has its value
one_of_all : {A B : Type 0} (f : A → Option B) (xs : List A) (ys : List B) → all_of f xs ≡ Some ys → (x : A) → In x xs → (y : B) × (f x ≡ Some y)
one_of_all f [] ys h x i = absurd i
one_of_all {A} {B} f (z ∷ xs) ys h x i =
    let j : (a : B) × (f z ≡ Some a) × (option_map (λ rest. a ∷ rest) (all_of f xs) ≡ Some ys) = opened _ _ ys h in
    let k : (rest : List B) × (all_of f xs ≡ Some rest) × (j.0 ∷ rest ≡ ys) = mapped _ _ ys j.2 in
    by_place j.0 j.1 (λ l. one_of_all f xs k.0 k.1 x l) i where
      by_place : (a : B) → f z ≡ Some a → (In x xs → (y : B) × (f x ≡ Some y)) → (z ≡ x) ⊎ In x xs → (y : B) × (f x ≡ Some y)
      by_place a e g (inl q) = (a, ap f (sym q) ∙ e)
      by_place a e g (inr l) = g l

pub signature_told : (app : Typed) (most : ℕ) (z : Sofar) (main : ℕ) → map headed app.functions ≡ z.functions → (s : Signature) (entries : List ℕ) → entries_out most z main (Some s) ≡ Some entries → SignatureFits app most z.place s
signature_told app most z main e s entries h = record { fits = fits } where
  fits : (v : ValDecl) → Contains s.vals v → (f : ℕ) × (d : Function) × (looked_up (at z.place v.name) z.place.globals.values ≡ Some (here.function f)) × (slice_get app.functions f ≡ Some d) × WritesType most (env_at z.place) v.con (function_type (head_of d)) × IsPage (head_of d) × IsTrue (are_linkable (types_of d.params))
  fits v c =
      let i : (f : ℕ) × (entry_out most z v ≡ Some f) = one_of_all (entry_out most z) s.vals entries h v (in-contains v s.vals c) in
      let k : EntryIs app most z v.con (looked_up (at z.place v.name) z.place.globals.values) = entry_told app most z e v.con (looked_up (at z.place v.name) z.place.globals.values) i.0 i.1 in
      (k.number, k.function, k.found, k.got, k.writes, k.page, k.linkable)

-- ---- routes

module _ (app : Typed) (most : ℕ) (p : Place) (main : ℕ) (signature : Option Signature) (k : Entered app most p main signature) (os all : List Occurrence) (there : (o : Occurrence) → Contains os o → Contains all o) (back : (o : Occurrence) → Contains all o → Contains os o) where
  forth_used : (f : ℕ) → IsLinked k.entries all f ⊎ Contains all (action f) → IsGot app p main signature os f ⊎ Contains os (action f)
  forth_used f (inl i) = inl (linked_got app most p main signature k os all there back f i)
  forth_used f (inr c) = inr (back (action f) c)

  pub routes_told : (names fields : List (List ℕ)) (functions : List FunctionHead) → AreRoutes names fields functions k.entries all app.handlers.routes app.targets → RoutesFit app p main signature os
  routes_told names fields functions a = record {
    rising = a.rising;
    get = zip_map _ _ (λ r f h. (λ i. linked_got app most p main signature k os all there back f (h.0 i), λ i. h.1 (got_linked app most p main signature k os all there back f i))) app.handlers.routes app.targets a.get;
    post = zip_map _ _ (λ r f h. (λ i. back (action f) (h.0 i), λ i. h.1 (there (action f) i))) app.handlers.routes app.targets a.post;
    gets = λ f i. a.gets f (got_linked app most p main signature k os all there back f i);
    posts = λ f i. a.posts f (there (action f) i);
    used = λ f i. forth_used f (a.used f i);
  }

pub routes_fit : (app : Typed) (names fields : List (List ℕ)) (z : Sofar) (entries : List ℕ) (all : List Occurrence) → app.modules ≡ names → app.names ≡ fields → map headed app.functions ≡ z.functions → AreRoutes names fields z.functions entries all app.handlers.routes app.targets → AllZip (RouteFits app) app.handlers.routes app.targets
routes_fit app names fields z entries all m n e a = zip_map (IsRouteAt names fields z.functions) (RouteFits app) one app.handlers.routes app.targets a.fit where
  one : (r : Route) (f : ℕ) → IsRouteAt names fields z.functions r f → RouteFits app r f
  one r f h =
      let d : (d : Function) × (slice_get app.functions f ≡ Some d) × (headed d ≡ h.0) = function_is app z e f h.0 h.1 in
      record {
        function = d.0;
        declared = d.1;
        page = subst (λ (g : FunctionHead). IsPage g.head) (sym d.2) h.2.page;
        home = ap (λ w. slice_get w d.0.«module») m ∙ (ap (λ (g : FunctionHead). slice_get names g.«module») d.2 ∙ h.2.home);
        name = ap (λ (g : FunctionHead). g.name) d.2 ∙ h.2.name;
        types = ap (λ (g : FunctionHead). types_of g.head.params) d.2 ∙ (h.2.types ∙ ap (λ w. route_types w r) (sym n));
        fields = subst (λ w. All (λ y. slice_get w y.number.0 ≡ Some y.name) r.form) (sym n) h.2.fields;
        rising = h.2.rising;
      }
