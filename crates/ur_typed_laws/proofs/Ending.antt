-- What is checked by the functions is typed by the rules.
use Rattle.std.proofs.lemmas.List.{length-map}
use Rattle.std.proofs.lemmas.List.Elements.{All-from_recursion}
use Rattle.std.proofs.lemmas.Option.{slice_get-get_or, slice_get_within}
use Rattle.std.proofs.Common.{arith, ◌≡◌, ◌∙◌, refl, sym, ap, ap₂, subst, Some, Option, List, [], ◌++◌, ℕ, length, map, take}
use Rattle.std.specs.Prelude.{◌<◌, pred, All, option_map, slice_get}
use Rattle.ur_syntax.specs.declared.decl.Module.{Module}
use Rattle.ur_syntax.specs.declared.decl.Signature.{Signature}
use Rattle.ur_kinds.specs.KindedFaults.{ProjectIsKinded}
use Rattle.ur_sql.specs.Typing.{QueryFits, ChangeFits}
use Rattle.ur_tree.specs.declared.typed.Typed.{Typed}
use Rattle.ur_tree.specs.Heads.{declared_of}
use Rattle.ur_tree.specs.App.{VariantIsTyped, FunctionIsTyped, IsBasicCookie}
use Rattle.ur_typed_rules.proofs.Options.{some_of, opened, mapped}
use Rattle.ur_typed.specs.Typed.{all_decls, AreBodies, SignatureFits, sites_in, updates_in, all_occurrences, IsTypedWithin}
use Rattle.ur_typed.specs.Declaring.{Sofar, Checked, entries_out, ended, modules_out, project_out}
use Rattle.ur_typed_laws.specs.Judged.{TypedIsSound}
use Rattle.ur_typed_laws.proofs.Written.{headed}
use Rattle.ur_typed_laws.proofs.Declared.{val_of}
use Rattle.ur_typed_laws.proofs.Going.{body_of, right_side}
use Rattle.ur_typed.specs.Made.{occurring, IsMadeOf}
use Rattle.ur_typed.specs.Routing.{AreRoutes}
use Rattle.ur_typed.specs.Source.{begun, IsChecked}
use Rattle.ur_typed_laws.specs.Fitting.{ProjectStatementsFit}
use Rattle.ur_typed_laws.proofs.Extending.{IsSofar, nothing_is_sofar, Extends, extends_self}
use Rattle.ur_typed_laws.proofs.Standing.{sofar}
use Rattle.ur_typed_laws.proofs.Made.{Entered, entered_by}
use Rattle.ur_typed_laws.proofs.Among.{all_bodies, occurs_there, occurs_back}
use Rattle.ur_typed_laws.specs.Sound.{CheckedIsTyped}
use Rattle.ur_typed_laws.proofs.Begun.{begins_whole, take_begun}
use Rattle.ur_typed_laws.proofs.Holding.{Holds, Tallied}
use Rattle.ur_typed_laws.proofs.Cookies.{none_below, modules_basic}
use Rattle.ur_typed_laws.proofs.Kinding.{kinded_is_plain}
use Rattle.ur_typed_laws.proofs.SoundLawsBodying.{HoldsBodies}
use Rattle.ur_typed_laws.proofs.Stepping.{Counts, TypedTo}
use Rattle.ur_typed_laws.proofs.Moduling.{Steady, Stands, modules_stand, ModulesGo, modules_go}
use Rattle.ur_typed_laws.proofs.Widening.{steady_up}
use Rattle.ur_typed_laws.proofs.Routing.{signature_told, routes_told, routes_fit}

-- ---- the end

pub all_held : (names : List (List ℕ)) (p : Checked) (entries : List ℕ) (app : Typed) → IsMadeOf names p entries app → Holds app p.0
all_held names p entries app m = record {
  datatypes = begins_whole p.0.datatypes app.datatypes m.datatypes;
  variants = begins_whole p.0.variants app.variants m.variants;
  tables = begins_whole p.0.place.globals.tables.tables app.schema.tables m.tables;
  sequences = begins_whole p.0.sequences app.schema.sequences m.sequences;
  cookies = begins_whole p.0.cookies app.cookies m.cookies;
  vals = begins_whole p.0.vals (map val_of app.vals) m.val_types;
  functions = begins_whole p.0.functions (map headed app.functions) m.heads;
}

pub all_bodies_held : (names : List (List ℕ)) (p : Checked) (entries : List ℕ) (app : Typed) → IsMadeOf names p entries app → HoldsBodies app p.1
all_bodies_held names p entries app m = record {
  functions = begins_whole p.1.functions (map body_of app.functions) m.bodies;
  vals = begins_whole p.1.vals (map right_side app.vals) m.val_bodies;
  statements = record { queries = begins_whole p.1.sites.queries (map (λ q. Some q) app.queries) m.queries; changes = begins_whole p.1.sites.changes (map (λ u. Some u) app.changes) m.changes };
}

-- what is declared is what the source declares before its last place
pub is_sofar : (app : Typed) (z : Sofar) → Holds app z → Tallied z → z ≡ sofar app z.place
is_sofar app z h t =
    let d : z.datatypes ≡ take z.place.datatypes app.datatypes = sym (take_begun z.datatypes app.datatypes z.place.datatypes h.datatypes t.datatypes) in
    let v : z.variants ≡ take z.place.variants app.variants = sym (take_begun z.variants app.variants z.place.variants h.variants t.variants) in
    let l : z.vals ≡ take z.place.vals (map val_of app.vals) = sym (take_begun z.vals (map val_of app.vals) z.place.vals h.vals t.vals) in
    let f : z.functions ≡ take z.place.functions (map headed app.functions) = sym (take_begun z.functions (map headed app.functions) z.place.functions h.functions t.functions) in
    let c : z.cookies ≡ take (length z.place.globals.cookies) app.cookies = sym (take_begun z.cookies app.cookies (length z.place.globals.cookies) h.cookies t.cookies) in
    let s : z.sequences ≡ take (length z.place.globals.sequences) app.schema.sequences = sym (take_begun z.sequences app.schema.sequences (length z.place.globals.sequences) h.sequences t.sequences) in
    λ i. record { place = z.place; datatypes = d i; variants = v i; vals = l i; functions = f i; cookies = c i; sequences = s i }

nothing_below : (k : ℕ) → k < 0 → ⊥
nothing_below k l = omega (arith, l)

typed_to_none : (app : Typed) (most : ℕ) (fields : List (List ℕ)) → TypedTo app most (begun fields).0
typed_to_none app most fields = record { variants = tt; functions = λ k d l g. absurd (nothing_below k l); vals = λ k d l g. absurd (nothing_below k l) }

counts_none : (fields : List (List ℕ)) → Counts (begun fields).0 (begun fields).1
counts_none fields = record { tallied = record { functions = refl; vals = refl; datatypes = refl; variants = refl; cookies = refl; sequences = refl }; functions = refl; vals = refl }

-- a property of each element that is told by its place
by_place : {A : Type 0} (P : A → Type 0) (xs : List A) (n : ℕ) → length xs ≡ n → ((k : ℕ) (x : A) → k < n → slice_get xs k ≡ Some x → P x) → All P xs
by_place P xs n e f k d l = f k _ (subst (λ m. k < m) e l) (slice_get-get_or xs k d l)

-- ---- the project

-- what the modules, and then the entries, come to
record ProjectIs (most : ℕ) (start : Checked) (names : List (List ℕ)) (modules : List Module) (signature : Option Signature) (p : Checked) (entries : List ℕ) : Type 0 where
  modules_are : modules_out most 0 names modules start ≡ Some p
  entries_are : entries_out most p.0 (pred (length names)) signature ≡ Some entries

project_is : (most : ℕ) (start : Checked) (names : List (List ℕ)) (modules : List Module) (signature : Option Signature) (p : Checked) (entries : List ℕ) → project_out most start names modules signature ≡ Some (p, entries) → ProjectIs most start names modules signature p entries
project_is most start names modules signature p entries h =
    let i : (q : Checked) × (modules_out most 0 names modules start ≡ Some q) × (option_map (ended q) (entries_out most q.0 (pred (length names)) signature) ≡ Some (p, entries)) = opened _ _ (p, entries) h in
    let j : (es : List ℕ) × (entries_out most i.0.0 (pred (length names)) signature ≡ Some es) × (ended i.0 es ≡ (p, entries)) = mapped _ _ (p, entries) i.2 in
    subst (λ (x : Checked × List ℕ). ProjectIs most start names modules signature x.0 x.1) j.2 (record { modules_are = i.1; entries_are = j.1 })

-- the statements of bodies that begin with none are all of them
how_many : {A : Type 0} (os more all : List (Option A)) (xs : List A) (ns : List ℕ) → all ≡ [] ++ more → length ns ≡ length more → map (λ x. Some x) xs ≡ all → length ns ≡ length xs
how_many os more all xs ns e l m = l ∙ (ap length (sym e) ∙ (ap length (sym m) ∙ length-map xs (λ x. Some x)))

-- a source with the bodies, as the rules have them
record Given (Leads : Sofar → Type 0) (app : Typed) (most : ℕ) (names : List (List ℕ)) (modules : List Module) (p : Checked) : Type 0 where
  tallied : Tallied p.0
  go : ModulesGo Leads app most 0 names modules (begun app.names).0 p.0 (begun app.names).1 p.1
  typed : TypedTo app most p.0

given : TypedIsSound → (Keeps Leads : Sofar → Type 0) (app : Typed) (most : ℕ) → Steady Keeps Leads app most → Keeps (begun app.names).0 → (names : List (List ℕ)) (modules : List Module) (signature : Option Signature) → length names ≡ length modules → ProjectIsKinded names modules signature → (p : Checked) (entries : List ℕ) →
    modules_out most 0 names modules (begun app.names) ≡ Some p → IsMadeOf names p entries app → Leads p.0 → Given Leads app most names modules p
given sound Keeps Leads app most steady first names modules signature l kinded p entries h m leads =
    let s : Stands Keeps app (begun app.names).0 (begun app.names).1 = record { counts = counts_none app.names; fields = refl; keeps = first } in
    let g : ModulesGo Leads app most 0 names modules (begun app.names).0 p.0 (begun app.names).1 p.1 =
    modules_go sound Keeps Leads app most steady 0 names modules (begun app.names) p l (record { front = []; many = refl; are = m.modules }) h s (kinded_is_plain names modules signature kinded) leads (all_held names p entries app m) (all_bodies_held names p entries app m) in
    record { tallied = (modules_stand Keeps Leads app most steady 0 names modules (begun app.names) p h s).counts.tallied; go = g; typed = g.typed (typed_to_none app most app.names) }

pub checked_typed : TypedIsSound → (Keeps Leads : Sofar → Type 0) → (most : ℕ) (names : List (List ℕ)) (modules : List Module) (signature : Option Signature) (app : Typed) (x : IsChecked most names modules signature app) → Steady Keeps Leads app most → Keeps (begun app.names).0 → Leads x.behind.0 →
    ((behind : Checked) (entries : List ℕ) → project_out most (begun app.names) names modules signature ≡ Some (behind, entries) → IsMadeOf names behind entries app → All (QueryFits app.schema) app.queries × All (ChangeFits app.schema) app.changes) →
    length names ≡ length modules → IsTypedWithin most names modules signature app
checked_typed sound Keeps Leads most names modules signature app x steady first leads fitting l =
    let p : Checked = x.behind in
    let m : IsMadeOf names p x.entries app = x.made in
    let i : ProjectIs most (begun app.names) names modules signature p x.entries = project_is most (begun app.names) names modules signature p x.entries x.typed in
    let g : Given Leads app most names modules p = given sound Keeps Leads app most steady first names modules signature l x.kinded p x.entries i.modules_are m leads in
    let t : Tallied p.0 = g.tallied in
    let functions : length app.functions ≡ p.0.place.functions = sym (length-map app.functions headed) ∙ (ap length m.heads ∙ t.functions) in
    let vals : length app.vals ≡ p.0.place.vals = sym (length-map app.vals val_of) ∙ (ap length m.val_types ∙ t.vals) in
    let main : ℕ = pred (length names) in
    let bodies : AreBodies app 0 0 (all_decls modules) (length app.functions) (length app.vals) g.go.own =
    subst (λ k. AreBodies app 0 0 (all_decls modules) k (length app.vals) g.go.own) (sym functions) (subst (λ k. AreBodies app 0 0 (all_decls modules) p.0.place.functions k g.go.own) (sym vals) g.go.bodies) in
    let signed : (s : Signature) → signature ≡ Some s → SignatureFits app most p.0.place s = λ s e. signature_told app most p.0 main m.heads s x.entries (subst (λ o. entries_out most p.0 main o ≡ Some x.entries) e i.entries_are) in
    let k : Entered app most p.0.place main signature = entered_by app most p.0.place main functions signature signed in
    let same : k.entries ≡ x.entries = some_of (sym k.out ∙ (ap (λ z. entries_out most z main signature) (sym (is_sofar app p.0 (all_held names p x.entries app m) t)) ∙ i.entries_are)) in
    let all : occurring p ≡ all_occurrences (all_bodies app) = ap₂ (λ a b. all_occurrences (a ++ b)) (sym m.val_bodies) (sym m.bodies) in
    let r : AreRoutes names p.0.place.fields p.0.functions k.entries (all_occurrences (all_bodies app)) app.handlers.routes app.targets =
    subst (λ es. AreRoutes names p.0.place.fields p.0.functions es (all_occurrences (all_bodies app)) app.handlers.routes app.targets) (sym same) (subst (λ os. AreRoutes names p.0.place.fields p.0.functions x.entries os app.handlers.routes app.targets) all m.routes) in
    let n = g.go.numbered in
    let fits : All (QueryFits app.schema) app.queries × All (ChangeFits app.schema) app.changes = fitting p x.entries x.typed m in
    record {
      after = p.0.place;
      home = m.modules;
      resolved = g.go.resolve;
      functions = functions;
      vals = vals;
      datatypes = ap length m.datatypes ∙ t.datatypes;
      variants = ap length m.variants ∙ t.variants;
      cookies = ap length m.cookies ∙ t.cookies;
      tables = m.tables;
      sequences = ap length m.sequences ∙ t.sequences;
      bodies = g.go.own;
      are_bodies = bodies;
      sites = (n.sites, how_many [] n.queries p.1.sites.queries app.queries (sites_in (all_occurrences g.go.own)) n.all_queries n.how_many_sites m.queries);
      updates = (n.updates, how_many [] n.changes p.1.sites.changes app.changes (updates_in (all_occurrences g.go.own)) n.all_changes n.how_many_updates m.changes);
      entries = signed;
      routes = routes_told app most p.0.place main signature k (all_occurrences g.go.own) (all_occurrences (all_bodies app)) (occurs_there app (all_decls modules) g.go.own bodies) (occurs_back app (all_decls modules) g.go.own bodies) names p.0.place.fields p.0.functions r;
      names_occur = x.fields.occur;
      names_rise = x.fields.rise;
      typed = record {
        variants = subst (All (VariantIsTyped app)) (sym m.variants) (All-from_recursion (VariantIsTyped app) p.0.variants g.typed.variants);
        vals = λ k v e. g.typed.vals k v (subst (λ n. k < n) vals (slice_get_within app.vals k v e)) e;
        functions = by_place (FunctionIsTyped (declared_of app) most) app.functions p.0.place.functions functions g.typed.functions;
        queries = fits.0;
        changes = fits.1;
        routes = routes_fit app names p.0.place.fields p.0 x.entries (occurring p) m.modules m.fields m.heads m.routes;
        cookies =
            by_place IsBasicCookie app.cookies (length p.0.place.globals.cookies) (ap length m.cookies ∙ t.cookies)
            (modules_basic app most 0 (begun app.names).0.place names modules p.0.place g.go.resolve (none_below app));
      };
    }

pub checked_is_typed : TypedIsSound → ProjectStatementsFit → CheckedIsTyped
checked_is_typed sound fit most names modules signature app l x =
    checked_typed sound IsSofar (λ z. Extends z x.behind.0) most names modules signature app x (steady_up most x.made) (nothing_is_sofar app.names) (extends_self x.behind.0)
    (λ behind entries given made. fit most app.names names modules signature behind entries app.schema app.queries app.changes given made.tables made.queries made.changes) l
