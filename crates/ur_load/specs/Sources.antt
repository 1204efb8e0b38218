-- The files of a project, with what they spell.
use Rattle.std.specs.Prelude.{◌≡◌, ℕ, ◌≤◌, ◌<◌, suc, List, [], ◌∷◌, length, Option, Some, None, ⊤, codes}
use Rattle.ur_base.specs.declared.refusal.Refusal.{Refusal}
use Rattle.ur_base.specs.Stopping.{Says}
use Rattle.ur_io.specs.Files.{Files}
use Rattle.ur_lex.specs.declared.token.Lexeme.{Lexeme}
use Rattle.ur_lex.specs.Lexing.{IsTokens}
use Rattle.ur_syntax.specs.declared.decl.Module.{Module}
use Rattle.ur_syntax.specs.declared.decl.Signature.{Signature}
use Rattle.ur_parse_rules.specs.Language.{IsModule, IsSignature, max_nesting}
use Rattle.ur_load.specs.Project.{IsProject, module_limit}
use Rattle.ur_load.specs.Names.{project_file, module_file, signature_file, main_of}
use Rattle.ur_load.specs.declared.source.Source.{Source}
use Rattle.ur_load.specs.declared.source.Sources.{Sources}

-- the greatest number of bytes of a source or project file
abbrev pub file_limit : ℕ
file_limit = 1048576

-- ---- files

-- the file is there and has these bytes, not too many
abbrev pub HasFile : Files → List ℕ → List ℕ → Type 0
HasFile files name bytes = (files name ≡ Some bytes) × (length bytes ≤ file_limit)

abbrev pub IsThere : Files → List ℕ → Type 0
IsThere files name = (bytes : List ℕ) × HasFile files name bytes

-- the refusal has this code and these texts, and its place is empty, at the begin of its file
abbrev pub SaysOfFile : Refusal → ℕ → List ℕ → List ℕ → Type 0
SaysOfFile r code left right = Says r code left right × ((r.span.«from» ≡ 0) × (r.span.to ≡ 0))

-- the refusal of a file that is there and has too many bytes
abbrev pub IsTooLong : Files → List ℕ → Refusal → Type 0
IsTooLong files name r = ((bytes : List ℕ) × (files name ≡ Some bytes) × (file_limit < length bytes))
    × SaysOfFile r 20 (codes "bytes of a source or project file") (codes "1048576")

-- the refusal of a file that is needed, and is not there or has too many bytes
pub data Lacks (files : Files) (name : List ℕ) (r : Refusal) : Type 0 where
  missing : files name ≡ None → SaysOfFile r 2 name [] → Lacks files name r
  long : IsTooLong files name r → Lacks files name r

-- the project file names these modules
abbrev pub NamesModules : Files → List ℕ → List (List ℕ) → Type 0
NamesModules files project names = ((bytes : List ℕ) × HasFile files (project_file project) bytes × IsProject bytes names) × (length names ≤ module_limit)

-- the files of these modules are there
abbrev pub AreThere : Files → List ℕ → List (List ℕ) → Type 0
AreThere files project [] = ⊤
AreThere files project (name ∷ names) = IsThere files (module_file project name) × AreThere files project names

-- ---- what is read of a project

-- the source is that of the module of this name
pub record IsSource (files : Files) (project : List ℕ) (number : ℕ) (name : List ℕ) (s : Source) : Type 0 where
  pub number_is : s.number ≡ number
  pub name_is : s.name ≡ name
  pub file_is : s.file ≡ module_file project name
  pub has : HasFile files s.file s.bytes

-- the sources are those of these modules, numbered from here on
abbrev pub AreSources : Files → List ℕ → ℕ → List (List ℕ) → List Source → Type 0
AreSources files project k [] [] = ⊤
AreSources files project k (name ∷ names) (s ∷ sources) = IsSource files project k name s × AreSources files project (suc k) names sources
AreSources files project k _ _ = ⊥

-- the signature of the main module, where the file is there
abbrev pub HasSignature : Files → List ℕ → List (List ℕ) → Option Source → Type 0
HasSignature files project names None = files (signature_file project (main_of names)) ≡ None
HasSignature files project names (Some s) = (s.number ≡ suc (length names)) × (s.name ≡ main_of names)
    × (s.file ≡ signature_file project (main_of names)) × HasFile files s.file s.bytes

-- the sources are those of the project
pub record HasSources (files : Files) (project : List ℕ) (sources : Sources) : Type 0 where
  pub names : List (List ℕ)
  pub named : NamesModules files project names
  pub modules : AreSources files project 1 names sources.modules
  pub signature : HasSignature files project names sources.signature

-- ---- what the sources spell

-- the bytes have tokens, which this tree spells
pub record HasTree (s : Source) (tree : Module) : Type 0 where
  pub tokens : List Lexeme
  pub cut : IsTokens s.number s.bytes tokens
  pub spelled : IsModule max_nesting tokens tree

abbrev pub HaveTrees : List Source → List Module → Type 0
HaveTrees [] [] = ⊤
HaveTrees (s ∷ sources) (tree ∷ trees) = HasTree s tree × HaveTrees sources trees
HaveTrees _ _ = ⊥

pub record HasSignatureTree (s : Source) (tree : Signature) : Type 0 where
  pub tokens : List Lexeme
  pub cut : IsTokens s.number s.bytes tokens
  pub spelled : IsSignature max_nesting tokens tree

-- the signature's tree, where there is a signature, and none where there is none
abbrev pub IsSignatureTree : Option Source → Option Signature → Type 0
IsSignatureTree None None = ⊤
IsSignatureTree (Some s) (Some tree) = HasSignatureTree s tree
IsSignatureTree _ _ = ⊥

-- the sources are spelled by these trees
pub record AreSpelled (sources : Sources) (trees : List Module) (signature : Option Signature) : Type 0 where
  pub modules : HaveTrees sources.modules trees
  pub signed : IsSignatureTree sources.signature signature
