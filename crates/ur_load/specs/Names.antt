-- The names of a project's files and modules.
use Rattle.std.specs.Prelude.{ℕ, nat_eq, ◌-◌, ◌==◌, List, [], ◌∷◌, ◌++◌, length, get_or, if◌then◌else◌, codes}
use Rattle.std.specs.List.{list_any, ends_with}

-- the project file: `.urp` is added where it is not there
abbrev pub project_file : List ℕ → List ℕ
project_file name = if ends_with nat_eq name (codes ".urp") then name else name ++ codes ".urp"

-- the folder of a file, with its slash
abbrev pub folder : List ℕ → List ℕ
folder [] = []
folder (b ∷ bytes) = if list_any (λ c. c == 47) (b ∷ bytes) then b ∷ folder bytes else []

-- the file of a module of the project
abbrev pub module_file : List ℕ → List ℕ → List ℕ
module_file project name = folder project ++ name ++ codes ".ur"

-- the file of a module's signature
abbrev pub signature_file : List ℕ → List ℕ → List ℕ
signature_file project name = folder project ++ name ++ codes ".urs"

-- a module's name in programs: its first letter is a capital
abbrev pub module_name : List ℕ → List ℕ
module_name [] = []
module_name (b ∷ bytes) = (b - 32) ∷ bytes

-- the last of the modules is the main module
abbrev pub main_of : List (List ℕ) → List ℕ
main_of names = get_or names (length names - 1) []
