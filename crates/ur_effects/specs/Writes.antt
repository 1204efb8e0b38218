-- Routes with GET that write.
use Rattle.std.specs.Prelude.{◌≡◌, ℕ, true, List, Some, slice_get}
use Rattle.ur_tags.specs.declared.routes.Route.{Route}
use Rattle.ur_terms.specs.Shape.{Deed, dml, nextval, set_cookie, WritesFrom}
use Rattle.ur_code.specs.declared.code.Code.{Code}

-- a change, a sequence that is raised, or a cookie that is set
pub data IsWrite : Deed → Type 0 where
  a_change : IsWrite dml
  a_number : IsWrite nextval
  a_cookie : IsWrite set_cookie

-- the function of a route that answers GET
pub record IsGetTarget (code : Code) (target : ℕ) : Type 0 where
  pub number : ℕ
  pub route : Route
  pub is_route : slice_get code.handlers.routes number ≡ Some route
  pub has_get : route.get ≡ true
  pub is_target : slice_get code.targets number ≡ Some target

-- From a route that answers GET a chain of calls leads to a write.
pub record GetWrites (code : Code) (chain : List ℕ) (w : Deed) : Type 0 where
  pub target : ℕ
  pub is_target : IsGetTarget code target
  pub is_write : IsWrite w
  pub writes : WritesFrom code.functions w target chain
