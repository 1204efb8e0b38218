-- The routes of a loaded project can be served.
use Rattle.std.specs.Prelude.{◌<◌, ◌^◌, ℕ, List, length}
use Rattle.ur_io.specs.Files.{Files}
use Rattle.ur_tags.specs.Routes.{AreRoutes}
use Rattle.ur_tree.specs.declared.typed.Typed.{Typed}
use Rattle.ur_typed.specs.Source.{IsSourceWithin}
use Rattle.ur_load.specs.declared.loaded.Loaded.{Loaded}
use Rattle.ur_load.specs.Loaded.{IsLoaded}

-- The typed source of a project that is loaded from files, if it has not too many routes, has routes with names that are text and not
-- empty, and no two of the same names.
abbrev pub RoutesCanBeServed : Type 0
RoutesCanBeServed = (files : Files) (project : List ℕ) (loaded : Loaded) (most : ℕ) (app : Typed) → IsLoaded files project loaded →
    IsSourceWithin most loaded.names loaded.modules loaded.signature app → length app.handlers.routes < 2 ^ 32 → AreRoutes app.handlers
