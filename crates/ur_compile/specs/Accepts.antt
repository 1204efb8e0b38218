-- Which application the files of a project are.
use Rattle.std.specs.Prelude.{◌≡◌, ℕ, List}
use Rattle.ur_io.specs.Files.{Files}
use Rattle.ur_rows.specs.Nodes.{most_nodes}
use Rattle.ur_tree.specs.declared.typed.Typed.{Typed}
use Rattle.ur_typed.specs.Source.{IsSourceWithin}
use Rattle.ur_load.specs.declared.loaded.Loaded.{Loaded}
use Rattle.ur_load.specs.Loaded.{IsLoaded}

-- The files spell trees, and the application is their source, no normal form having too many nodes.
pub record Accepts (files : Files) (project : List ℕ) (app : Typed) : Type 0 where
  pub loaded : Loaded
  pub is_loaded : IsLoaded files project loaded
  pub is_source : IsSourceWithin most_nodes loaded.names loaded.modules loaded.signature app

-- The files are one application at most.
abbrev pub HasOneApplication : Files → List ℕ → Type 0
HasOneApplication files project = (app other : Typed) → Accepts files project app → Accepts files project other → app ≡ other

abbrev pub OneApplication : Type 0
OneApplication = (files : Files) (project : List ℕ) → HasOneApplication files project
