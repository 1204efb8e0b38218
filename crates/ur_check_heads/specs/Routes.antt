-- Routes with the numbers of their functions.
use Rattle.std.specs.Prelude.{ℕ, List, [], map}
use Rattle.std.specs.List.{AllZip}
use Rattle.ur_check_scopes.specs.declared.world.FunctionHead.{FunctionHead as HeldFunction}
use Rattle.ur_check_heads.specs.Views.{function_in}
use Rattle.ur_typed.specs.Routing.{IsRouteAt}
use Rattle.ur_check_heads.specs.declared.routes.Routes.{Routes}

abbrev pub no_routes : Routes
no_routes = record { handlers = record { routes = [] }; targets = [] }

abbrev pub AreAt : List (List ℕ) → List (List ℕ) → List HeldFunction → Routes → Type 0
AreAt modules names functions r = AllZip (IsRouteAt modules names (map function_in functions)) r.handlers.routes r.targets
