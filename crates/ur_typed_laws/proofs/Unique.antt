-- Two typed sources of one project are equal.
use Rattle.std.proofs.lemmas.List.{length-map}
use Rattle.std.proofs.Common.{arith, ◌≡◌, ◌∙◌, refl, sym, ap, ap₂, subst, Bool, true, false, Option, Some, List, [], ◌∷◌, ℕ, ◌+◌, length, map}
use Rattle.std.proofs.lemmas.Bool.Decides.{nat_tests}
use Rattle.std.specs.Prelude.{◌≤◌, nat_le, pred, slice_get}
use Rattle.ur_syntax.specs.declared.decl.Module.{Module}
use Rattle.ur_syntax.specs.declared.decl.Signature.{Signature}
use Rattle.ur_values.specs.declared.schema.ColumnKind.{ColumnKind}
use Rattle.ur_values.specs.declared.schema.TableShape.{TableShape}
use Rattle.ur_sql.specs.declared.query.Query.{Query}
use Rattle.ur_sql.specs.declared.change.Change.{Change}
use Rattle.ur_tags.specs.declared.routes.Route.{Route}
use Rattle.ur_disjoint.proofs.Members.{in-contains, contains-in}
use Rattle.ur_rows.specs.declared.normal.NormalType.{NormalType}
use Rattle.ur_tree.specs.declared.exp.Exp.{Exp}
use Rattle.ur_tree.specs.declared.typed.Typed.{Typed}
use Rattle.ur_tree.specs.declared.typed.Datatype.{Datatype}
use Rattle.ur_tree.specs.declared.typed.Variant.{Variant}
use Rattle.ur_tree.specs.declared.typed.Function.{Function}
use Rattle.ur_tree.specs.declared.typed.ModuleVal.{ModuleVal}
use Rattle.ur_tree.specs.Heads.{Head, Declared as Heads, head_of}
use Rattle.ur_tree.specs.Occurrences.{Occurrence}
use Rattle.ur_typed.specs.Project.{Place, ModulesResolve}
use Rattle.ur_typed.specs.Typed.{IsTypedWithin, RoutesFit, nothing_declared, sites_in, updates_in, all_occurrences}
use Rattle.ur_typed.specs.Declaring.{FunctionHead}
use Rattle.ur_typed.specs.Rules.{Sites}
use Rattle.ur_typed_laws.specs.One.{OneTypedSource}
use Rattle.ur_typed_laws.proofs.Lists.{rises, same_rising, agree_whole, same_filled, same_parts}
use Rattle.ur_typed_laws.proofs.Written.{headed}
use Rattle.ur_typed_laws.proofs.Declared.{val_of, Agreed, Step, modules_step, SameHeads}
use Rattle.ur_typed_laws.proofs.Bodies.{bare, Carried, bodies_end}
use Rattle.ur_typed_laws.proofs.Going.{body_of, right_side, Both, Going, Gone, modules_going}
use Rattle.ur_typed_laws.proofs.Larger.{larger_limit}
use Rattle.ur_typed_laws.proofs.Routes.{NameBefore, names_turn, SameTold, one_targets, one_routes}

-- ---- names

abbrev pub IsSource : ℕ → List (List ℕ) → List Module → Option Signature → Typed → Type 0
IsSource most names modules signature app = IsTypedWithin most names modules signature app

one_names : (most : ℕ) (names : List (List ℕ)) (modules : List Module) (signature : Option Signature) (a b : Typed) → IsSource most names modules signature a → IsSource most names modules signature b → a.names ≡ b.names
one_names most names modules signature a b x y = same_rising NameBefore names_turn a.names b.names (rises NameBefore a.names x.names_rise) (rises NameBefore b.names y.names_rise) (λ z i. in-contains z b.names ((y.names_occur z).1 ((x.names_occur z).0 (contains-in z a.names i))))
    (λ z i. in-contains z a.names ((x.names_occur z).1 ((y.names_occur z).0 (contains-in z b.names i))))

-- ---- what is declared

-- what is declared, and where the last declaration ends
record SameDeclared (a b : Typed) (p q : Place) : Type 0 where
  heads : SameHeads a b
  end : p ≡ q
  tables : a.schema.tables ≡ b.schema.tables

same_declared : (most : ℕ) (names : List (List ℕ)) (modules : List Module) (signature : Option Signature) (a b : Typed) (x : IsSource most names modules signature a) (y : IsSource most names modules signature b) → SameDeclared a b x.after y.after
same_declared most names modules signature a b x y =
    let n : a.names ≡ b.names = one_names most names modules signature a b x y in
    let m : a.modules ≡ b.modules = x.home ∙ sym y.home in
    let r : ModulesResolve b most 0 (nothing_declared a.names) names modules y.after = subst (λ z. ModulesResolve b most 0 (nothing_declared z) names modules y.after) (sym n) y.resolved in
    let g : Agreed a b (nothing_declared a.names) = record { functions = refl; vals = refl; datatypes = refl; variants = refl; cookies = refl; sequences = refl } in
    let s : Step a b x.after y.after = modules_step a b m most 0 (nothing_declared a.names) names modules x.after y.after x.resolved r g in
    let e : y.after ≡ x.after = sym s.same in
    record {
      heads = record {
        modules = m;
        names = n;
        functions = agree_whole x.after.functions (map headed a.functions) (map headed b.functions) s.agreed.functions (length-map a.functions headed ∙ x.functions) (length-map b.functions headed ∙ (y.functions ∙ ap (λ z. z.functions) e));
        vals = agree_whole x.after.vals (map val_of a.vals) (map val_of b.vals) s.agreed.vals (length-map a.vals val_of ∙ x.vals) (length-map b.vals val_of ∙ (y.vals ∙ ap (λ z. z.vals) e));
        datatypes = agree_whole x.after.datatypes a.datatypes b.datatypes s.agreed.datatypes x.datatypes (y.datatypes ∙ ap (λ z. z.datatypes) e);
        variants = agree_whole x.after.variants a.variants b.variants s.agreed.variants x.variants (y.variants ∙ ap (λ z. z.variants) e);
        cookies = agree_whole (length x.after.globals.cookies) a.cookies b.cookies s.agreed.cookies x.cookies (y.cookies ∙ ap (λ z. length z.globals.cookies) e);
        sequences = agree_whole (length x.after.globals.sequences) a.schema.sequences b.schema.sequences s.agreed.sequences x.sequences (y.sequences ∙ ap (λ z. length z.globals.sequences) e);
      };
      end = s.same;
      tables = x.tables ∙ (ap (λ z. z.globals.tables.tables) s.same ∙ sym y.tables);
    }

pub heads_of : (fs : List Function) → map (λ h. h.head) (map headed fs) ≡ map head_of fs
heads_of [] = refl
heads_of (f ∷ fs) = ap (λ z. head_of f ∷ z) (heads_of fs)

abbrev a_bare : List (ℕ × Option NormalType) → List ColumnKind → List NormalType → List Head → ℕ → Heads
a_bare v c l f n = record { variants = v; cookies = c; vals = l; functions = f; sequences = n; queries = []; changes = [] }

same_bare : (a b : Typed) → SameHeads a b → bare a ≡ bare b
same_bare a b s =
    let f : map head_of a.functions ≡ map head_of b.functions = sym (heads_of a.functions) ∙ (ap (map (λ h. h.head)) s.functions ∙ heads_of b.functions) in
    ap (λ z. a_bare (map (λ v. (v.datatype, v.arg)) z) (map (λ c. c.1) a.cookies) (map val_of a.vals) (map head_of a.functions) (length a.schema.sequences)) s.variants
    ∙ (ap (λ z. a_bare (map (λ v. (v.datatype, v.arg)) b.variants) (map (λ c. c.1) z) (map val_of a.vals) (map head_of a.functions) (length a.schema.sequences)) s.cookies
    ∙ (ap (λ z. a_bare (map (λ v. (v.datatype, v.arg)) b.variants) (map (λ c. c.1) b.cookies) z (map head_of a.functions) (length a.schema.sequences)) s.vals
    ∙ (ap (λ z. a_bare (map (λ v. (v.datatype, v.arg)) b.variants) (map (λ c. c.1) b.cookies) (map val_of b.vals) z (length a.schema.sequences)) f
    ∙ ap (λ z. a_bare (map (λ v. (v.datatype, v.arg)) b.variants) (map (λ c. c.1) b.cookies) (map val_of b.vals) (map head_of b.functions) (length z)) s.sequences)))

-- ---- bodies and statements

record SameBodies (a b : Typed) (xs ys : List Exp) : Type 0 where
  bodies : xs ≡ ys
  functions : a.functions ≡ b.functions
  vals : a.vals ≡ b.vals
  queries : a.queries ≡ b.queries
  changes : a.changes ≡ b.changes

abbrev pub no_statement : Sites
no_statement = record { queries = []; changes = [] }

from_nothing : (n : ℕ) {m : ℕ} → n ≡ m → 0 + n ≡ m
from_nothing n h = omega (arith, h)

no_more : {A : Type 0} (n : ℕ) (a : A) → slice_get [] n ≡ Some a → ⊥
no_more n a h = cc

pub at_start : (most : ℕ) (names : List (List ℕ)) (modules : List Module) (signature : Option Signature) (app : Typed) (ff : List (List ℕ)) → app.names ≡ ff → (x : IsSource most names modules signature app) → Carried app ff no_statement x.bodies
at_start most names modules signature app ff e x = record {
  names = e;
  queries = λ n q h. absurd (no_more n (Some q) h);
  changes = λ n u h. absurd (no_more n (Some u) h);
  starts = record { sites = x.sites.0; updates = x.updates.0 };
  many_queries = from_nothing (length (sites_in (all_occurrences x.bodies))) x.sites.1;
  many_changes = from_nothing (length (updates_in (all_occurrences x.bodies))) x.updates.1;
}

-- at the end all are filled
all_there : (n m : ℕ) → n + 0 ≡ m → n ≡ m
all_there n m h = omega (arith, h)

abbrev a_function : FunctionHead → Exp → Function
a_function h e = record { «module» = h.«module»; name = h.name; cons = h.head.cons; params = h.head.params; result = h.head.result; body = e }

abbrev a_val : NormalType → Exp → ModuleVal
a_val t e = record { of = t; body = e }

same_bodies : (most : ℕ) (names : List (List ℕ)) (modules : List Module) (signature : Option Signature) (a b : Typed) (x : IsSource most names modules signature a) (y : IsSource most names modules signature b) → SameDeclared a b x.after y.after → SameBodies a b x.bodies y.bodies
same_bodies most names modules signature a b x y s =
    let n : a.names ≡ b.names = s.heads.names in
    let u : Both a b most a.names (bare a) = record { same = s.heads; of_a = record { names = refl; heads = refl }; of_b = record { names = n; heads = same_bare a b s.heads }; typed_a = x.typed; typed_b = y.typed } in
    let r : ModulesResolve b most 0 (nothing_declared a.names) names modules y.after = subst (λ z. ModulesResolve b most 0 (nothing_declared z) names modules y.after) (sym n) y.resolved in
    let g : Going a b a.names 0 0 no_statement x.bodies y.bodies = record { left = at_start most names modules signature a a.names refl x; right = at_start most names modules signature b a.names (sym n) y; filled_queries = tt; filled_changes = tt; functions = refl; vals = refl } in
    let k : Gone a b a.names x.after.functions x.after.vals [] (length a.functions) (length a.vals) (length b.functions) (length b.vals) x.bodies y.bodies = modules_going a b most a.names (bare a) u 0 (nothing_declared a.names) names modules x.after y.after x.resolved r (length a.functions) (length a.vals) (length b.functions) (length b.vals) x.bodies y.bodies no_statement x.are_bodies y.are_bodies g in
    let ea : k.in_a ≡ [] = bodies_end a x.after.functions x.after.vals (length a.functions) (length a.vals) k.in_a k.bodies_a in
    let eb : k.in_b ≡ [] = bodies_end b x.after.functions x.after.vals (length b.functions) (length b.vals) k.in_b k.bodies_b in
    let ca : Carried a a.names k.sites [] = subst (Carried a a.names k.sites) ea k.going.left in
    let cb : Carried b a.names k.sites [] = subst (Carried b a.names k.sites) eb k.going.right in
    let e : y.after ≡ x.after = sym s.end in
    record {
      bodies = k.back (ea ∙ sym eb);
      functions = same_parts headed body_of (λ f h i j. ap₂ a_function i j) a.functions b.functions s.heads.functions (agree_whole x.after.functions (map body_of a.functions) (map body_of b.functions) k.going.functions (length-map a.functions body_of ∙ x.functions) (length-map b.functions body_of ∙ (y.functions ∙ ap (λ z. z.functions) e)));
      vals = same_parts val_of right_side (λ f h i j. ap₂ a_val i j) a.vals b.vals s.heads.vals (agree_whole x.after.vals (map right_side a.vals) (map right_side b.vals) k.going.vals (length-map a.vals right_side ∙ x.vals) (length-map b.vals right_side ∙ (y.vals ∙ ap (λ z. z.vals) e)));
      queries = same_filled k.sites.queries a.queries b.queries k.going.filled_queries ca.queries cb.queries (all_there (length k.sites.queries) (length a.queries) ca.many_queries) (all_there (length k.sites.queries) (length b.queries) cb.many_queries);
      changes = same_filled k.sites.changes a.changes b.changes k.going.filled_changes ca.changes cb.changes (all_there (length k.sites.changes) (length a.changes) ca.many_changes) (all_there (length k.sites.changes) (length b.changes) cb.many_changes);
    }

-- ---- all parts

abbrev a_source : List (List ℕ) → List (List ℕ) → List Datatype → List Variant → List TableShape → List (List ℕ) → List (List ℕ × ColumnKind) → List ModuleVal → List Function → List Query → List Change → List Route → List ℕ → Typed
a_source m n d v t s c l f q u r g = record { modules = m; names = n; datatypes = d; variants = v; schema = record { tables = t; sequences = s }; cookies = c; vals = l; functions = f; queries = q; changes = u; handlers = record { routes = r }; targets = g }

all_parts : (a b : Typed) → SameHeads a b → a.schema.tables ≡ b.schema.tables → a.vals ≡ b.vals → a.functions ≡ b.functions → a.queries ≡ b.queries → a.changes ≡ b.changes → a.handlers.routes ≡ b.handlers.routes → a.targets ≡ b.targets → a ≡ b
all_parts a b s t l f q u r g =
    ap (λ z. a_source z a.names a.datatypes a.variants a.schema.tables a.schema.sequences a.cookies a.vals a.functions a.queries a.changes a.handlers.routes a.targets) s.modules
    ∙ (ap (λ z. a_source b.modules z a.datatypes a.variants a.schema.tables a.schema.sequences a.cookies a.vals a.functions a.queries a.changes a.handlers.routes a.targets) s.names
    ∙ (ap (λ z. a_source b.modules b.names z a.variants a.schema.tables a.schema.sequences a.cookies a.vals a.functions a.queries a.changes a.handlers.routes a.targets) s.datatypes
    ∙ (ap (λ z. a_source b.modules b.names b.datatypes z a.schema.tables a.schema.sequences a.cookies a.vals a.functions a.queries a.changes a.handlers.routes a.targets) s.variants
    ∙ (ap (λ z. a_source b.modules b.names b.datatypes b.variants z a.schema.sequences a.cookies a.vals a.functions a.queries a.changes a.handlers.routes a.targets) t
    ∙ (ap (λ z. a_source b.modules b.names b.datatypes b.variants b.schema.tables z a.cookies a.vals a.functions a.queries a.changes a.handlers.routes a.targets) s.sequences
    ∙ (ap (λ z. a_source b.modules b.names b.datatypes b.variants b.schema.tables b.schema.sequences z a.vals a.functions a.queries a.changes a.handlers.routes a.targets) s.cookies
    ∙ (ap (λ z. a_source b.modules b.names b.datatypes b.variants b.schema.tables b.schema.sequences b.cookies z a.functions a.queries a.changes a.handlers.routes a.targets) l
    ∙ (ap (λ z. a_source b.modules b.names b.datatypes b.variants b.schema.tables b.schema.sequences b.cookies b.vals z a.queries a.changes a.handlers.routes a.targets) f
    ∙ (ap (λ z. a_source b.modules b.names b.datatypes b.variants b.schema.tables b.schema.sequences b.cookies b.vals b.functions z a.changes a.handlers.routes a.targets) q
    ∙ (ap (λ z. a_source b.modules b.names b.datatypes b.variants b.schema.tables b.schema.sequences b.cookies b.vals b.functions b.queries z a.handlers.routes a.targets) u
    ∙ (ap (λ z. a_source b.modules b.names b.datatypes b.variants b.schema.tables b.schema.sequences b.cookies b.vals b.functions b.queries b.changes z a.targets) r
    ∙ ap (λ z. a_source b.modules b.names b.datatypes b.variants b.schema.tables b.schema.sequences b.cookies b.vals b.functions b.queries b.changes b.handlers.routes z) g)))))))))))

one_within : (most : ℕ) (names : List (List ℕ)) (modules : List Module) (signature : Option Signature) (a b : Typed) → IsSource most names modules signature a → IsSource most names modules signature b → a ≡ b
one_within most names modules signature a b x y =
    let s : SameDeclared a b x.after y.after = same_declared most names modules signature a b x y in
    let k : SameBodies a b x.bodies y.bodies = same_bodies most names modules signature a b x y s in
    let main : ℕ = pred (length names) in
    let all : List Occurrence = all_occurrences x.bodies in
    let r : RoutesFit b x.after main signature all = subst (λ z. RoutesFit b z main signature all) (sym s.end) (subst (λ z. RoutesFit b y.after main signature (all_occurrences z)) (sym k.bodies) y.routes) in
    let u : SameTold a b = record { functions = k.functions; modules = s.heads.modules; names = s.heads.names; rise = x.names_rise } in
    all_parts a b s.heads s.tables k.vals k.functions k.queries k.changes (one_routes a b u x.after main signature all x.routes r x.typed.routes y.typed.routes) (one_targets a b k.functions x.after main signature all x.routes r)

-- the greater one of two limits
one_by : (names : List (List ℕ)) (modules : List Module) (signature : Option Signature) (a b : Typed) (m n : ℕ) → IsSource m names modules signature a → IsSource n names modules signature b → (r : Bool) → nat_le m n ≡ r → a ≡ b
one_by names modules signature a b m n x y true h = let l : m ≤ n = grind (arith, nat_tests, h) in one_within n names modules signature a b (larger_limit m n l names modules signature a x) y
one_by names modules signature a b m n x y false h = let l : n ≤ m = grind (arith, nat_tests, h) in one_within m names modules signature a b x (larger_limit n m l names modules signature b y)

pub one_typed_source : OneTypedSource
one_typed_source names modules signature a b x y = one_by names modules signature a b x.0 y.0 x.1 y.1 (nat_le x.0 y.0) refl
