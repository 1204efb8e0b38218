-- The routes of a project: which functions have one, and what each route says.
use Rattle.std.specs.Prelude.{◌≡◌, ◌<◌, ◌↔◌, ◌⊎◌, ℕ, IsTrue, List, Some, slice_get, Contains, All, AllPairs}
use Rattle.std.specs.List.{AllZip}
use Rattle.ur_tags.specs.declared.routes.Route.{Route}
use Rattle.ur_tree.specs.Occurrences.{Occurrence, link, action}
use Rattle.ur_tree.specs.Routes.{route_types}
use Rattle.ur_tree.specs.Typing.{IsPage, types_of}
use Rattle.ur_typed.specs.Declaring.{FunctionHead}

-- a function that is an entry or that a link leads to
abbrev pub IsLinked : List ℕ → List Occurrence → ℕ → Type 0
IsLinked entries all f = Contains entries f ⊎ Contains all (link f)

-- A route is of a page function, and has its module's and its own name and the types of its parameters; the fields of its form
-- have their names and stand by them.
pub record IsRouteOf (modules names : List (List ℕ)) (f : FunctionHead) (r : Route) : Type 0 where
  pub page : IsPage f.head
  pub home : slice_get modules f.«module» ≡ Some r.module_name
  pub name : f.name ≡ r.function_name
  pub types : types_of f.head.params ≡ route_types names r
  pub fields : All (λ x. slice_get names x.number.0 ≡ Some x.name) r.form
  pub rising : AllPairs (λ x y. x.number.0 < y.number.0) r.form

abbrev pub IsRouteAt : List (List ℕ) → List (List ℕ) → List FunctionHead → Route → ℕ → Type 0
IsRouteAt modules names functions r f = (h : FunctionHead) × (slice_get functions f ≡ Some h) × IsRouteOf modules names h r

-- The routes are those of the functions with a method, by rising number: entries and targets of links have GET, targets of
-- actions POST.
pub record AreRoutes (modules names : List (List ℕ)) (functions : List FunctionHead) (entries : List ℕ) (all : List Occurrence) (routes : List Route) (targets : List ℕ) : Type 0 where
  pub rising : AllPairs (λ f g. f < g) targets
  pub get : AllZip (λ r f. IsTrue r.get ↔ IsLinked entries all f) routes targets
  pub post : AllZip (λ r f. IsTrue r.post ↔ Contains all (action f)) routes targets
  pub gets : (f : ℕ) → IsLinked entries all f → Contains targets f
  pub posts : (f : ℕ) → Contains all (action f) → Contains targets f
  pub used : (f : ℕ) → Contains targets f → IsLinked entries all f ⊎ Contains all (action f)
  pub fit : AllZip (IsRouteAt modules names functions) routes targets
