-- The trees that the files of a project spell.
use Rattle.std.specs.Prelude.{◌≡◌, ℕ, zero, suc, List, [], ◌∷◌, ◌++◌, map, get_or, Option, Some, None}
use Rattle.ur_io.specs.Files.{Files}
use Rattle.ur_load.specs.Names.{project_file, module_name}
use Rattle.ur_load.specs.Sources.{HasSources, AreSpelled}
use Rattle.ur_load.specs.declared.loaded.Loaded.{Loaded}
use Rattle.ur_load.specs.declared.source.Source.{Source}
use Rattle.ur_load.specs.declared.source.Sources.{Sources}

-- these files, and then that of the signature where there is one
abbrev pub with_signature : List (List ℕ) → Option Source → List (List ℕ)
with_signature files None = files
with_signature files (Some s) = files ++ s.file ∷ []

-- the files of the modules, in order, and then that of the signature
abbrev pub files_of : Sources → List (List ℕ)
files_of sources = with_signature (map (λ s. s.file) sources.modules) sources.signature

-- the modules' names in programs
abbrev pub names_of : List Source → List (List ℕ)
names_of = map (λ s. module_name s.name)

-- what is loaded of these sources of a project
pub record IsLoadedFrom (project : List ℕ) (sources : Sources) (l : Loaded) : Type 0 where
  pub own : l.project ≡ project_file project
  pub files : l.files ≡ files_of sources
  pub names : l.names ≡ names_of sources.modules
  pub spelled : AreSpelled sources l.modules l.signature

-- the files of the project spell these trees
pub record IsLoaded (files : Files) (project : List ℕ) (l : Loaded) : Type 0 where
  pub sources : Sources
  pub has : HasSources files project sources
  pub from_sources : IsLoadedFrom project sources l

-- The file of the number that a place carries: 1 is that of the first module. The number 0, and one that is no file's, stand for
-- the project file.
abbrev pub file_at : Loaded → ℕ → List ℕ
file_at l zero = l.project
file_at l (suc k) = get_or l.files k l.project
