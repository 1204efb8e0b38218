-- The routes of a loaded project's source are named and apart.
use Rattle.std.proofs.Common.{arith, inl, inr, ◌⊎◌, ◌≡◌, ◌∙◌, refl, sym, ap, subst, Bool, true, false, ◌==◌, Some, List, [], ◌∷◌, ℕ, suc, ◌+◌, ◌<◌, ◌≤◌, length, map, get_or, All, AllPairs}
use Rattle.std.specs.Prelude.{slice_get, option_map}
use Rattle.std.specs.List.{AllZip}
use Rattle.std.proofs.lemmas.Bool.Decides.{nat_tests}
use Rattle.std.proofs.lemmas.Option.{slice_get-map}
use Rattle.ur_syntax.specs.declared.decl.FunDef.{FunDef}
use Rattle.ur_syntax.specs.declared.decl.Module.{Module}
use Rattle.ur_tags.specs.declared.routes.Route.{Route}
use Rattle.ur_tags.specs.Routes.{IsNamed, AreApart}
use Rattle.ur_disjoint.proofs.Members.{In, in-map, map-in}
use Rattle.ur_tree.specs.declared.typed.Typed.{Typed}
use Rattle.ur_tree.specs.App.{RouteFits}
use Rattle.ur_typed.specs.Typed.{nothing_declared}
use Rattle.ur_typed.specs.Source.{IsSourceWithin}
use Rattle.ur_load.specs.Project.{AreModules}
use Rattle.ur_load.specs.declared.loaded.Loaded.{Loaded}
use Rattle.ur_load.specs.declared.source.Source.{Source}
use Rattle.ur_load.specs.Names.{module_name}
use Rattle.ur_load.specs.Sources.{AreSources, HaveTrees}
use Rattle.ur_load.specs.Loaded.{IsLoaded}
use Rattle.ur_load.specs.Loaded as loaded
use Rattle.ur_io.specs.Files.{Files}
use Rattle.ur_compile_laws.specs.Served.{RoutesCanBeServed}
use Rattle.ur_compile_laws.proofs.Places.{Distinct, distinct_both, in_either, got_in, one_place, zip_at, zip_long}
use Rattle.ur_compile_laws.proofs.Words.{IsName, lower_name, modules_apart, modules_named}
use Rattle.ur_compile_laws.proofs.Spelled.{IsLower, AreLower, functions_in, module_lower, function_lower}
use Rattle.ur_compile_laws.proofs.Giving.{names_of, AreApartIn, functions_apart}
use Rattle.ur_compile_laws.proofs.Numbered.{Title, title_of, titles, all_titles, titles_are}

-- ---- the modules

sources_names : (files : Files) (project : List ℕ) (k : ℕ) (names : List (List ℕ)) (sources : List Source) → AreSources files project k names sources → loaded.names_of sources ≡ map module_name names
sources_names files project k [] [] h = refl
sources_names files project k [] (s ∷ sources) h = absurd h
sources_names files project k (name ∷ names) [] h = absurd h
sources_names files project k (name ∷ names) (s ∷ sources) h =
    ap (λ z. module_name z ∷ loaded.names_of sources) h.0.name_is ∙ ap (λ z. module_name name ∷ z) (sources_names files project (suc k) names sources h.1)

-- the functions of all modules have names in small letters
abbrev AllAreLower : List Module → Type 0
AllAreLower [] = Unit {0}
AllAreLower (x ∷ modules) = AreLower (functions_in x.decls) × AllAreLower modules

trees_lower : (sources : List Source) (trees : List Module) → HaveTrees sources trees → AllAreLower trees
trees_lower [] [] h = tt
trees_lower [] (x ∷ trees) h = absurd h
trees_lower (s ∷ sources) [] h = absurd h
trees_lower (s ∷ sources) (x ∷ trees) h = (module_lower h.0.cut.1 h.0.spelled, trees_lower sources trees h.1)

-- ---- the functions

-- a definition of these functions, by its title
abbrev IsTitleOf : ℕ → List FunDef → Title → FunDef → Type 0
IsTitleOf n fs t f = In f fs × (◌≡◌ {A = Title} (n, f.name) t)

in_titles : (n : ℕ) (fs : List FunDef) (t : Title) → In t (titles n fs) → (f : FunDef) × IsTitleOf n fs t f
in_titles n fs t i = there (map-in (λ (f : FunDef). (n, f.name)) t fs i) where
  there : (f : FunDef) × In f fs × (◌≡◌ {A = Title} (n, f.name) t) → (f : FunDef) × IsTitleOf n fs t f
  there (f, j, e) = (f, (j, e))

lower_of : (n : ℕ) (fs : List FunDef) (t : Title) → AreLower fs → (f : FunDef) × IsTitleOf n fs t f → IsLower t.1
lower_of n fs t h (f, (j, e)) = subst (λ (z : Title). IsLower z.1) e (function_lower fs f h j)

number_of : (n : ℕ) (fs : List FunDef) (t : Title) → (f : FunDef) × IsTitleOf n fs t f → n ≡ t.0
number_of n fs t (f, (j, e)) = ap (λ (z : Title). z.0) e

title_lower : (n : ℕ) (names : List (List ℕ)) (modules : List Module) → AllAreLower modules → (t : Title) → In t (all_titles n names modules) → IsLower t.1
title_lower n [] modules h t i = absurd i
title_lower n (m ∷ names) [] h t i = absurd i
title_lower n (m ∷ names) (x ∷ modules) h t i = either (λ j. title_lower (n + 1) names modules h.1 t j) (in_either t (titles n (functions_in x.decls)) (all_titles (n + 1) names modules) i) where
  either : (In t (all_titles (n + 1) names modules) → IsLower t.1) → In t (titles n (functions_in x.decls)) ⊎ In t (all_titles (n + 1) names modules) → IsLower t.1
  either f (inl j) = lower_of n (functions_in x.decls) t h.0 (in_titles n (functions_in x.decls) t j)
  either f (inr j) = f j

from_number : (n : ℕ) (names : List (List ℕ)) (modules : List Module) (t : Title) → In t (all_titles n names modules) → n ≤ t.0
from_number n [] modules t i = absurd i
from_number n (m ∷ names) [] t i = absurd i
from_number n (m ∷ names) (x ∷ modules) t i = either (λ j. from_number (n + 1) names modules t j) (in_either t (titles n (functions_in x.decls)) (all_titles (n + 1) names modules) i) where
  either : (In t (all_titles (n + 1) names modules) → n + 1 ≤ t.0) → In t (titles n (functions_in x.decls)) ⊎ In t (all_titles (n + 1) names modules) → n ≤ t.0
  either f (inl j) = let same : n ≡ t.0 = number_of n (functions_in x.decls) t (in_titles n (functions_in x.decls) t j) in omega (arith, same)
  either f (inr j) = let later : n + 1 ≤ t.0 = f j in omega (arith, later)

-- the titles of one module are its names with its number
name_there : (n : ℕ) (x : List ℕ) (fs : List FunDef) → (g : FunDef) × IsTitleOf n fs (n, x) g → In x (names_of fs)
name_there n x fs (g, (j, e)) = subst (λ z. In z (names_of fs)) (ap (λ (z : Title). z.1) e) (in-map (λ (h : FunDef). h.name) g fs j)

titles_apart : (n : ℕ) (fs : List FunDef) → Distinct (names_of fs) → Distinct (titles n fs)
titles_apart n [] d = tt
titles_apart n (f ∷ fs) d = (λ i. d.0 (name_there n f.name fs (in_titles n fs (n, f.name) i)), titles_apart n fs d.1)

not_both : (n : ℕ) (fs : List FunDef) (names : List (List ℕ)) (modules : List Module) (t : Title) → In t (titles n fs) → In t (all_titles (n + 1) names modules) → ⊥
not_both n fs names modules t i j =
    let same : n ≡ t.0 = number_of n fs t (in_titles n fs t i) in
    let later : n + 1 ≤ t.0 = from_number (n + 1) names modules t j in
    omega (arith, same, later)

all_apart : (n : ℕ) (names : List (List ℕ)) (modules : List Module) → AreApartIn names modules → Distinct (all_titles n names modules)
all_apart n [] modules h = tt
all_apart n (m ∷ names) [] h = tt
all_apart n (m ∷ names) (x ∷ modules) h =
    let fs : List FunDef = functions_in x.decls in
    distinct_both (titles n fs) (all_titles (n + 1) names modules) (titles_apart n fs h.0) (all_apart (n + 1) names modules h.1) (not_both n fs names modules)

-- ---- the routes

-- what is known of the modules and functions of a source
record IsTold (app : Typed) : Type 0 where
  modules : Distinct app.modules
  module_names : (x : List ℕ) → In x app.modules → IsName x
  functions : Distinct (map title_of app.functions)
  function_names : (t : Title) → In t (map title_of app.functions) → IsLower t.1

title_at : (app : Typed) (r : Route) (f : ℕ) (h : RouteFits app r f) → slice_get (map title_of app.functions) f ≡ Some (h.function.«module», r.function_name)
title_at app r f h = slice_get-map title_of app.functions f ∙ (ap (option_map title_of) h.declared ∙ ap (λ z. Some (h.function.«module», z)) h.name)

named_route : (app : Typed) → IsTold app → (r : Route) (f : ℕ) → RouteFits app r f → IsNamed r
named_route app k r f h =
    let m : IsName r.module_name = k.module_names r.module_name (got_in app.modules h.function.«module» r.module_name h.home) in
    let n : IsName r.function_name = lower_name r.function_name (k.function_names (h.function.«module», r.function_name) (got_in (map title_of app.functions) f (h.function.«module», r.function_name) (title_at app r f h))) in
    (m.0, m.1, n.0, n.1)

equal_told : (a b : ℕ) → (a == b) ≡ true → a ≡ b
equal_told a b e = grind (arith, nat_tests)

not_told : (a b : ℕ) → (a == b) ≡ false → a ≡ b → ⊥
not_told a b e h = grind (arith, nat_tests)

-- routes of two functions
apart_routes : (app : Typed) → IsTold app → (r s : Route) (f g : ℕ) → f < g → RouteFits app r f → RouteFits app s g → AreApart r s
apart_routes app k r s f g less h i = choose (h.function.«module» == i.function.«module») refl where
  same_function : h.function.«module» ≡ i.function.«module» → r.function_name ≡ s.function_name → f ≡ g
  same_function e n = one_place (map title_of app.functions) k.functions f g (i.function.«module», s.function_name)
      (title_at app r f h ∙ (ap (λ z. Some (z, r.function_name)) e ∙ ap (λ z. Some (i.function.«module», z)) n)) (title_at app s g i)

  same_module : r.module_name ≡ s.module_name → h.function.«module» ≡ i.function.«module»
  same_module e = one_place app.modules k.modules h.function.«module» i.function.«module» s.module_name (h.home ∙ ap (λ z. Some z) e) i.home

  choose : (b : Bool) → (h.function.«module» == i.function.«module») ≡ b → AreApart r s
  choose true e = let same : h.function.«module» ≡ i.function.«module» = equal_told h.function.«module» i.function.«module» e in inr (λ n. let q : f ≡ g = same_function same n in omega (arith, q, less))
  choose false e = inl (λ n. not_told h.function.«module» i.function.«module» e (same_module n))

all_named : (app : Typed) → IsTold app → (rs : List Route) (fs : List ℕ) → AllZip (RouteFits app) rs fs → All IsNamed rs
all_named app k rs fs h i d below = named_route app k (get_or rs i d) (get_or fs i 0) (zip_at (RouteFits app) rs fs h i d 0 below)

all_routes_apart : (app : Typed) → IsTold app → (rs : List Route) (fs : List ℕ) → AllZip (RouteFits app) rs fs → AllPairs (λ f g. f < g) fs → AllPairs AreApart rs
all_routes_apart app k rs fs h rising i j d less below =
    let long : length fs ≡ length rs = zip_long (RouteFits app) rs fs h in
    apart_routes app k (get_or rs i d) (get_or rs j d) (get_or fs i 0) (get_or fs j 0) (rising i j 0 less (omega (arith, long, below)))
    (zip_at (RouteFits app) rs fs h i d 0 (omega (arith, less, below))) (zip_at (RouteFits app) rs fs h j d 0 below)

told : (files : Files) (project : List ℕ) (l : Loaded) (most : ℕ) (app : Typed) → IsLoaded files project l → IsSourceWithin most l.names l.modules l.signature app → IsTold app
told files project l most app h s =
    let words : List (List ℕ) = h.has.names in
    let fit : AreModules words = h.has.named.0.2.fit in
    let modules_are : app.modules ≡ map module_name words = s.typed.home ∙ (h.from_sources.names ∙ sources_names files project 1 words h.sources.modules h.has.modules) in
    let functions_are : map title_of app.functions ≡ all_titles 0 l.names l.modules = titles_are app most (nothing_declared app.names) l.names l.modules s.typed.after s.typed.resolved refl s.typed.functions in
    record {
      modules = subst Distinct (sym modules_are) (modules_apart words fit.words fit.differ);
      module_names = λ x i. modules_named words fit.words x (subst (In x) modules_are i);
      functions = subst Distinct (sym functions_are) (all_apart 0 l.names l.modules (functions_apart l.names l.modules l.signature s.named));
      function_names = λ t i. title_lower 0 l.names l.modules (trees_lower h.sources.modules l.modules h.from_sources.spelled.modules) t (subst (In t) functions_are i);
    }

pub routes_can_be_served : RoutesCanBeServed
routes_can_be_served files project l most app h s few =
    let k : IsTold app = told files project l most app h s in
    record {
      few = few;
      named = all_named app k app.handlers.routes app.targets s.typed.typed.routes;
      apart = all_routes_apart app k app.handlers.routes app.targets s.typed.typed.routes s.typed.routes.rising;
    }
