-- A typed source is put together of what the function of its project gives.
use Rattle.std.proofs.lemmas.List.{length-map}
use Rattle.std.proofs.lemmas.Option.{slice_get-map}
use Rattle.std.proofs.lemmas.Bool.Decides.{nat_tests}
use Rattle.std.proofs.Common.{arith, inl, inr, ◌⊎◌, ◌≡◌, ◌∙◌, refl, sym, ap, ap₂, subst, Bool, true, false, Option, Some, None, List, [], ◌∷◌, ◌++◌, ℕ, zero, suc, ◌+◌, length, map, take}
use Rattle.std.specs.Prelude.{All, ◌&&◌, nat_eq, pred, Contains, option_map, slice_get}
use Rattle.std.specs.List.{AllZip}
use Rattle.ur_syntax.specs.declared.decl.Module.{Module}
use Rattle.ur_syntax.specs.declared.decl.ValDecl.{ValDecl}
use Rattle.ur_syntax.specs.declared.decl.Signature.{Signature}
use Rattle.ur_disjoint.proofs.Members.{In, in-contains, contains-in}
use Rattle.ur_sqltype.specs.Lists.{all_of}
use Rattle.ur_tree.specs.declared.typed.Typed.{Typed}
use Rattle.ur_tree.specs.declared.typed.Function.{Function}
use Rattle.ur_tree.specs.Heads.{head_of}
use Rattle.ur_tree.specs.Occurrences.{Occurrence, link, action}
use Rattle.ur_tree.specs.App.{RouteFits}
use Rattle.ur_tree.specs.Routes.{route_types}
use Rattle.ur_tree.specs.Typing.{are_linkable, types_of}
use Rattle.ur_typed_rules.specs.Names as here
use Rattle.ur_typed_rules.specs.Tests.{is_page}
use Rattle.ur_typed_rules.proofs.Lists.{both_of, of_both}
use Rattle.ur_typed_rules.proofs.Decided.{pages_decided}
use Rattle.ur_typed_rules.proofs.Options.{some_of, then_some, opened, mapped, some_none}
use Rattle.ur_typed_laws.specs.Judged.{AreFilled}
use Rattle.ur_typed.specs.Project.{Place}
use Rattle.ur_typed.specs.Typed.{nothing_declared, all_decls, SignatureFits, IsEntry, IsGot, RoutesFit, all_occurrences, IsTypedWithin}
use Rattle.ur_typed.specs.Typed as source
use Rattle.ur_typed.specs.Rules.{Sites}
use Rattle.ur_typed.specs.Declaring.{Checked, is_entry, entry_out, if_entry, entries_of, entries_out, ended, modules_out, project_out}
use Rattle.ur_typed_laws.proofs.Lists.{rises, same_rising}
use Rattle.ur_typed_laws.proofs.Routes.{NameBefore, names_turn}
use Rattle.ur_typed_laws.proofs.Written.{headed}
use Rattle.ur_typed_laws.proofs.Declared.{val_of}
use Rattle.ur_typed_laws.proofs.Bodies.{bodies_end}
use Rattle.ur_typed_laws.proofs.Going.{body_of, right_side}
use Rattle.ur_typed.specs.Made.{occurring, IsMadeOf}
use Rattle.ur_typed.specs.Routing.{IsLinked, AreRoutes}
use Rattle.ur_typed.specs.Source.{AreFieldNames, begun}
use Rattle.ur_typed_laws.specs.Given.{IsGiven, TypedIsGiven, NoneHasNoSource, SourceIsMade}
use Rattle.ur_typed_laws.proofs.Standing.{sofar}
use Rattle.ur_typed_laws.proofs.Bodying.{Held}
use Rattle.ur_typed_laws.proofs.Given.{checked, Through, whole, entry_is, all_have, no_statement, all_through}
use Rattle.ur_typed_laws.proofs.Among.{all_bodies, occurs_there, occurs_back}

-- ---- lists of values

value_from : {A B : Type 0} (f : A → Option B) (xs : List A) (ys : List B) → all_of f xs ≡ Some ys → (y : B) → In y ys → (x : A) × In x xs × (f x ≡ Some y)
value_from f [] ys h y i = absurd (subst (In y) (sym (some_of h)) i)
value_from {A} {B} f (x ∷ xs) ys h y i =
    let j = opened (λ a. option_map (λ rest. a ∷ rest) (all_of f xs)) (f x) ys h in
    let k = mapped (λ rest. j.0 ∷ rest) (all_of f xs) ys j.2 in
    by_place k.0 j.0 j.1 (λ l. value_from f xs k.0 k.1 y l) (subst (In y) (sym k.2) i) where
      by_place : (zs : List B) (a : B) → f x ≡ Some a → (In y zs → (z : A) × In z xs × (f z ≡ Some y)) → (a ≡ y) ⊎ In y zs → (z : A) × In z (x ∷ xs) × (f z ≡ Some y)
      by_place zs a e g (inl q) = (x, inl refl, e ∙ ap (λ z. Some z) q)
      by_place zs a e g (inr l) = let m = g l in (m.0, inr m.1, m.2)

value_in : {A B : Type 0} (f : A → Option B) (xs : List A) (ys : List B) → all_of f xs ≡ Some ys → (x : A) (y : B) → In x xs → f x ≡ Some y → In y ys
value_in f [] ys h x y i e = absurd i
value_in {A} {B} f (z ∷ xs) ys h x y i e =
    let j = opened (λ a. option_map (λ rest. a ∷ rest) (all_of f xs)) (f z) ys h in
    let k = mapped (λ rest. j.0 ∷ rest) (all_of f xs) ys j.2 in
    subst (In y) k.2 (by_place k.0 j.0 j.1 (λ l. value_in f xs k.0 k.1 x y l e) i) where
      by_place : (zs : List B) (a : B) → f z ≡ Some a → (In x xs → In y zs) → (z ≡ x) ⊎ In x xs → (a ≡ y) ⊎ In y zs
      by_place zs a e' g (inl q) = inl (some_of (sym e' ∙ (ap f q ∙ e)))
      by_place zs a e' g (inr l) = inr (g l)

-- ---- entries of a signature

abbrev function_number : here.Declared → ℕ
function_number (here.function n) = n
function_number (here.val n) = n

-- the entries, as the rules have them
pub record Entered (app : Typed) (most : ℕ) (p : Place) (main : ℕ) (signature : Option Signature) : Type 0 where
  pub entries : List ℕ
  pub out : entries_out most (sofar app p) main signature ≡ Some entries
  pub forth : (f : ℕ) → In f entries → IsEntry app p main signature f
  pub back : (f : ℕ) → IsEntry app p main signature f → In f entries

signed_entries : (app : Typed) (most : ℕ) (p : Place) (main : ℕ) → length app.functions ≡ p.functions → (s : Signature) → SignatureFits app most p s → Entered app most p main (Some s)
signed_entries app most p main e s k = record { entries = all.0; out = all.1; forth = forth; back = back } where
  outs : (v : ValDecl) → In v s.vals → (f : ℕ) × (entry_out most (sofar app p) v ≡ Some f)
  outs v i = let x = k.fits v (contains-in v s.vals i) in (x.0, entry_is app most p v x.0 x.1 e x.2 x.3 x.4 x.5 x.6)

  all : (es : List ℕ) × (all_of (entry_out most (sofar app p)) s.vals ≡ Some es)
  all = all_have (entry_out most (sofar app p)) s.vals outs

  forth : (f : ℕ) → In f all.0 → IsEntry app p main (Some s) f
  forth f i =
      let j = value_from (entry_out most (sofar app p)) s.vals all.0 all.1 f i in
      let c : Contains s.vals j.0 = contains-in j.0 s.vals j.1 in
      let x = k.fits j.0 c in
      let q : x.0 ≡ f = some_of (sym (entry_is app most p j.0 x.0 x.1 e x.2 x.3 x.4 x.5 x.6) ∙ j.2) in
      source.IsEntry.signed c (x.2 ∙ ap (λ z. Some (here.function z)) q) (subst (λ z. slice_get app.functions z ≡ Some x.1) q x.3)

  back : (f : ℕ) → IsEntry app p main (Some s) f → In f all.0
  back f (source.IsEntry.signed {v = v} c l g) =
      let x = k.fits v c in
      let q : x.0 ≡ f = ap function_number (some_of (sym x.2 ∙ l)) in
      value_in (entry_out most (sofar app p)) s.vals all.0 all.1 v f (in-contains v s.vals c) (entry_is app most p v x.0 x.1 e x.2 x.3 x.4 x.5 x.6 ∙ ap (λ z. Some z) q)

-- ---- entries of the main module

-- a function that is an entry, behind others
record Enters (main n : ℕ) (fs : List Function) (f : ℕ) : Type 0 where
  place : ℕ
  number : f ≡ n + place
  function : Function
  there : slice_get fs place ≡ Some function
  home : nat_eq function.«module» main ≡ true
  entry : is_entry (head_of function) ≡ true

enters_later : (main n : ℕ) (g : Function) (fs : List Function) (f : ℕ) → Enters main (n + 1) fs f → Enters main n (g ∷ fs) f
enters_later main n g fs f x = let h = x.number in record { place = suc x.place; number = omega (arith, h); function = x.function; there = x.there; home = x.home; entry = x.entry }

entries_from : (main n : ℕ) (fs : List Function) (f : ℕ) → In f (entries_of main n (map headed fs)) → Enters main n fs f
entries_from main n [] f i = absurd i
entries_from main n (g ∷ fs) f i = by_test (nat_eq g.«module» main && is_entry (head_of g)) refl (entries_from main (n + 1) fs f) i where
  by_test : (b : Bool) → (nat_eq g.«module» main && is_entry (head_of g)) ≡ b → (In f (entries_of main (n + 1) (map headed fs)) → Enters main (n + 1) fs f) → In f (if_entry b n (entries_of main (n + 1) (map headed fs))) → Enters main n (g ∷ fs) f
  by_test true h k (inl e) =
      let j = both_of (nat_eq g.«module» main) (is_entry (head_of g)) h in
      record { place = zero; number = omega (arith, e); function = g; there = refl; home = j.0; entry = j.1 }
  by_test true h k (inr j) = enters_later main n g fs f (k j)
  by_test false h k j = enters_later main n g fs f (k j)

entries_have : (main n : ℕ) (fs : List Function) (k : ℕ) (d : Function) → slice_get fs k ≡ Some d → (nat_eq d.«module» main && is_entry (head_of d)) ≡ true → (f : ℕ) → f ≡ n + k → In f (entries_of main n (map headed fs))
entries_have main n [] k d g h f e = cc
entries_have main n (x ∷ fs) zero d g h f e =
    let i : (nat_eq x.«module» main && is_entry (head_of x)) ≡ true = ap (λ z. nat_eq z.«module» main && is_entry (head_of z)) (some_of g) ∙ h in
    let q : n ≡ f = omega (arith, e) in
    subst (λ b. In f (if_entry b n (entries_of main (n + 1) (map headed fs)))) (sym i) (inl q)
entries_have main n (x ∷ fs) (suc k) d g h f e = by_test (nat_eq x.«module» main && is_entry (head_of x)) (entries_have main (n + 1) fs k d g h f (omega (arith, e))) where
  by_test : (b : Bool) → In f (entries_of main (n + 1) (map headed fs)) → In f (if_entry b n (entries_of main (n + 1) (map headed fs)))
  by_test true i = inr i
  by_test false i = i

same_number : (n m : ℕ) → nat_eq n m ≡ true → n ≡ m
same_number n m h = grind (arith, nat_tests, h)

number_same : (n m : ℕ) → n ≡ m → nat_eq n m ≡ true
number_same n m h = grind (arith, nat_tests, h)

unsigned_entries : (app : Typed) (most : ℕ) (p : Place) (main : ℕ) → length app.functions ≡ p.functions → Entered app most p main None
unsigned_entries app most p main e = record { entries = entries_of main 0 (take p.functions (map headed app.functions)); out = refl; forth = forth; back = back } where
  all : take p.functions (map headed app.functions) ≡ map headed app.functions
  all = whole p.functions (map headed app.functions) (length-map app.functions headed ∙ e)

  forth : (f : ℕ) → In f (entries_of main 0 (take p.functions (map headed app.functions))) → IsEntry app p main None f
  forth f i =
      let x : Enters main 0 app.functions f = entries_from main 0 app.functions f (subst (λ z. In f (entries_of main 0 z)) all i) in
      let h = x.number in
      let n : x.place ≡ f = omega (arith, h) in
      let j = both_of (is_page (head_of x.function)) (are_linkable (types_of x.function.params)) x.entry in
      source.IsEntry.unsigned (subst (λ z. slice_get app.functions z ≡ Some x.function) n x.there) (same_number x.function.«module» main x.home) ((pages_decided (head_of x.function)).0 j.0) j.1

  back : (f : ℕ) → IsEntry app p main None f → In f (entries_of main 0 (take p.functions (map headed app.functions)))
  back f (source.IsEntry.unsigned {d = d} g m page l) =
      let q : f ≡ 0 + f = omega arith in
      subst (λ z. In f (entries_of main 0 z)) (sym all)
      (entries_have main 0 app.functions f d g (of_both (nat_eq d.«module» main) (is_entry (head_of d)) (number_same d.«module» main m) (of_both (is_page (head_of d)) (are_linkable (types_of d.params)) ((pages_decided (head_of d)).1 page) l)) f q)

pub entered_by : (app : Typed) (most : ℕ) (p : Place) (main : ℕ) → length app.functions ≡ p.functions → (signature : Option Signature) → ((s : Signature) → signature ≡ Some s → SignatureFits app most p s) → Entered app most p main signature
entered_by app most p main e None k = unsigned_entries app most p main e
entered_by app most p main e (Some s) k = signed_entries app most p main e s (k s refl)

-- ---- routes

pub zip_map : {A B : Type 0} (P Q : A → B → Type 0) → ((x : A) (y : B) → P x y → Q x y) → (xs : List A) (ys : List B) → AllZip P xs ys → AllZip Q xs ys
zip_map P Q f [] [] a = tt
zip_map P Q f [] (y ∷ ys) a = absurd a
zip_map P Q f (x ∷ xs) [] a = absurd a
zip_map P Q f (x ∷ xs) (y ∷ ys) a = (f x y a.0, zip_map P Q f xs ys a.1)

module _ (app : Typed) (most : ℕ) (p : Place) (main : ℕ) (signature : Option Signature) (k : Entered app most p main signature) (os all : List Occurrence) (there : (o : Occurrence) → Contains os o → Contains all o) (back : (o : Occurrence) → Contains all o → Contains os o) where
  pub got_linked : (f : ℕ) → IsGot app p main signature os f → IsLinked k.entries all f
  got_linked f (source.IsGot.entry i) = inl (contains-in f k.entries (k.back f i))
  got_linked f (source.IsGot.linked c) = inr (there (link f) c)

  pub linked_got : (f : ℕ) → IsLinked k.entries all f → IsGot app p main signature os f
  linked_got f (inl c) = source.IsGot.entry (k.forth f (in-contains f k.entries c))
  linked_got f (inr c) = source.IsGot.linked (back (link f) c)

  used_by : (f : ℕ) → IsGot app p main signature os f ⊎ Contains os (action f) → IsLinked k.entries all f ⊎ Contains all (action f)
  used_by f (inl g) = inl (got_linked f g)
  used_by f (inr c) = inr (there (action f) c)

  posted : (f : ℕ) → Contains all (action f) → Contains os (action f)
  posted f c = back (action f) c

  routes_are : (names : List (List ℕ)) → app.modules ≡ names → p.fields ≡ app.names → length app.functions ≡ p.functions → RoutesFit app p main signature os → AllZip (RouteFits app) app.handlers.routes app.targets →
      AreRoutes names p.fields (take p.functions (map headed app.functions)) k.entries all app.handlers.routes app.targets
  routes_are names home fields e x z =
      let same : map headed app.functions ≡ take p.functions (map headed app.functions) = sym (whole p.functions (map headed app.functions) (length-map app.functions headed ∙ e)) in
      record {
        rising = x.rising;
        get = zip_map _ _ (λ r f h. (λ i. got_linked f (h.0 i), λ i. h.1 (linked_got f i))) app.handlers.routes app.targets x.get;
        post = zip_map _ _ (λ r f h. (λ i. there (action f) (h.0 i), λ i. h.1 (posted f i))) app.handlers.routes app.targets x.post;
        gets = λ f i. x.gets f (linked_got f i);
        posts = λ f i. x.posts f (posted f i);
        used = λ f i. used_by f (x.used f i);
        fit = zip_map (RouteFits app) _ (λ r f h. (
          headed h.function,
          ap (λ w. slice_get w f) (sym same) ∙ (slice_get-map headed app.functions f ∙ ap (option_map headed) h.declared),
          record {
            page = h.page;
            home = ap (λ w. slice_get w h.function.«module») (sym home) ∙ h.home;
            name = h.name;
            types = h.types ∙ ap (λ w. route_types w r) (sym fields);
            fields = subst (λ w. All (λ y. slice_get w y.number.0 ≡ Some y.name) r.form) (sym fields) h.fields;
            rising = h.rising;
          },
        )) app.handlers.routes app.targets z;
      }

-- ---- statements

-- A list that has what stands in the filled places, and is as long.
filled_is : {A : Type 0} (os : List (Option A)) (xs : List A) → AreFilled os → ((n : ℕ) (a : A) → slice_get os n ≡ Some (Some a) → slice_get xs n ≡ Some a) → length os ≡ length xs → map (λ x. Some x) xs ≡ os
filled_is [] [] f h l = refl
filled_is [] (x ∷ xs) f h l = cc
filled_is (None ∷ os) xs f h l = absurd f
filled_is (Some a ∷ os) [] f h l = cc
filled_is (Some a ∷ os) (x ∷ xs) f h l = ap₂ (λ u v. Some u ∷ v) (some_of (h 0 a refl)) (filled_is os xs f (λ n b e. h (suc n) b e) (omega (arith, l)))

all_there : (n m : ℕ) → n + 0 ≡ m → n ≡ m
all_there n m h = omega (arith, h)

-- ---- the source

pub record IsPut (most : ℕ) (names : List (List ℕ)) (modules : List Module) (signature : Option Signature) (app : Typed) (behind : Checked) : Type 0 where
  pub entries : List ℕ
  pub out : entries_out most behind.0 (pred (length names)) signature ≡ Some entries
  pub made : IsMadeOf names behind entries app

pub put_together : (most : ℕ) (names : List (List ℕ)) (modules : List Module) (signature : Option Signature) (app : Typed) (x : IsTypedWithin most names modules signature app) (st : Sites) →
    (l : Through app most 0 names modules (nothing_declared app.names) x.after st (length app.functions) (length app.vals)) → IsPut most names modules signature app (checked app x.after l.sites)
put_together most names modules signature app x st l =
    let k : Entered app most x.after (pred (length names)) signature = entered_by app most x.after (pred (length names)) x.functions signature x.entries in
    let end : l.left ≡ [] = bodies_end app x.after.functions x.after.vals (length app.functions) (length app.vals) l.left l.are_bodies in
    let h : Held app l.sites [] = subst (Held app l.sites) end l.held in
    let vs : take x.after.vals (map right_side app.vals) ≡ map right_side app.vals = whole x.after.vals (map right_side app.vals) (length-map app.vals right_side ∙ x.vals) in
    let fs : take x.after.functions (map body_of app.functions) ≡ map body_of app.functions = whole x.after.functions (map body_of app.functions) (length-map app.functions body_of ∙ x.functions) in
    let all : occurring (checked app x.after l.sites) ≡ all_occurrences (all_bodies app) = ap₂ (λ a b. all_occurrences (a ++ b)) vs fs in
    record {
      entries = k.entries;
      out = k.out;
      made = record {
        modules = x.home;
        fields = sym l.fields;
        datatypes = sym (whole x.after.datatypes app.datatypes x.datatypes);
        variants = sym (whole x.after.variants app.variants x.variants);
        tables = x.tables;
        sequences = sym (whole (length x.after.globals.sequences) app.schema.sequences x.sequences);
        cookies = sym (whole (length x.after.globals.cookies) app.cookies x.cookies);
        val_types = sym (whole x.after.vals (map val_of app.vals) (length-map app.vals val_of ∙ x.vals));
        val_bodies = sym vs;
        heads = sym (whole x.after.functions (map headed app.functions) (length-map app.functions headed ∙ x.functions));
        bodies = sym fs;
        queries = filled_is l.sites.queries app.queries h.queries h.carried.queries (all_there (length l.sites.queries) (length app.queries) h.carried.many_queries);
        changes = filled_is l.sites.changes app.changes h.changes h.carried.changes (all_there (length l.sites.changes) (length app.changes) h.carried.many_changes);
        routes = subst (λ z. AreRoutes names x.after.fields (take x.after.functions (map headed app.functions)) k.entries z app.handlers.routes app.targets) (sym all)
            (routes_are app most x.after (pred (length names)) signature k (all_occurrences x.bodies) (all_occurrences (all_bodies app)) (occurs_there app (all_decls modules) x.bodies x.are_bodies) (occurs_back app (all_decls modules) x.bodies x.are_bodies) names x.home l.fields x.functions x.routes x.typed.routes);
      };
    }

pub typed_is_given : TypedIsGiven
typed_is_given most names modules signature app x =
    let l : Through app most 0 names modules (nothing_declared app.names) x.after no_statement (length app.functions) (length app.vals) = all_through most names modules signature app x in
    let k : IsPut most names modules signature app (checked app x.after l.sites) = put_together most names modules signature app x no_statement l in
    record {
      behind = checked app x.after l.sites;
      entries = k.entries;
      given = then_some (λ (p : Checked). option_map (ended p) (entries_out most p.0 (pred (length names)) signature)) (modules_out most 0 names modules (checked app (nothing_declared app.names) no_statement)) (checked app x.after l.sites) _ l.out (ap (option_map (ended (checked app x.after l.sites))) k.out);
      made = k.made;
    }

-- ---- what follows

same_names : (most : ℕ) (names : List (List ℕ)) (modules : List Module) (signature : Option Signature) (fields : List (List ℕ)) (app : Typed) → AreFieldNames modules fields → IsTypedWithin most names modules signature app → app.names ≡ fields
same_names most names modules signature fields app n x =
    same_rising NameBefore names_turn app.names fields (rises NameBefore app.names x.names_rise) (rises NameBefore fields n.rise) (λ z i. in-contains z fields ((n.occur z).1 ((x.names_occur z).0 (contains-in z app.names i)))) (λ z i. in-contains z app.names ((x.names_occur z).1 ((n.occur z).0 (contains-in z fields i))))

given_at : (most : ℕ) (names : List (List ℕ)) (modules : List Module) (signature : Option Signature) (fields : List (List ℕ)) (app : Typed) → AreFieldNames modules fields → (x : IsTypedWithin most names modules signature app) →
    (k : IsGiven most names modules signature app) → project_out most (begun fields) names modules signature ≡ Some (k.behind, k.entries)
given_at most names modules signature fields app n x k = subst (λ z. project_out most (begun z) names modules signature ≡ Some (k.behind, k.entries)) (same_names most names modules signature fields app n x) k.given

pub none_has_no_source : NoneHasNoSource
none_has_no_source most names modules signature fields app n h x = some_none (sym (given_at most names modules signature fields app n x (typed_is_given most names modules signature app x)) ∙ h)

pub source_is_made : SourceIsMade
source_is_made most names modules signature fields app behind entries n h x =
    let k : IsGiven most names modules signature app = typed_is_given most names modules signature app x in
    let e : (k.behind, k.entries) ≡ (behind, entries) = some_of (sym (given_at most names modules signature fields app n x k) ∙ h) in
    subst (λ (z : Checked × List ℕ). IsMadeOf names z.0 z.1 app) e k.made
