-- Why the files of a project spell no trees, and in which file.
use Rattle.std.specs.Prelude.{◌≡◌, ℕ, List, [], ◌∷◌, ◌++◌, Some, IsUtf8}
use Rattle.ur_base.specs.declared.refusal.Refusal.{Refusal}
use Rattle.ur_base.specs.Stopping.{Says}
use Rattle.ur_io.specs.Files.{Files}
use Rattle.ur_lex.specs.declared.token.Lexeme.{Lexeme}
use Rattle.ur_lex.specs.Lexing.{IsTokens}
use Rattle.ur_syntax.specs.declared.decl.Module.{Module}
use Rattle.ur_parse_rules.specs.DeclParts.{DeclPart, whole, signature}
use Rattle.ur_parse_rules.specs.Parts.{of_decl}
use Rattle.ur_parse_rules.specs.Language.{max_nesting}
use Rattle.ur_parse.specs.Wholes.{RefusesWhole}
use Rattle.ur_load.specs.Project.{RefusesProject}
use Rattle.ur_load.specs.Names.{project_file, module_file, signature_file, main_of}
use Rattle.ur_load.specs.Sources.{SaysOfFile, HasFile, IsTooLong, Lacks, NamesModules, AreThere, HasSources, HaveTrees}
use Rattle.ur_load.specs.declared.source.Source.{Source}
use Rattle.ur_load.specs.declared.source.Sources.{Sources}

-- why the bytes have no tokens: they are not UTF-8, or something in them is no token
pub data RefusesTokens (s : Source) (r : Refusal) : Type 0 where
  not_text : (IsUtf8 s.bytes → ⊥) → r.span.file ≡ s.number → SaysOfFile r 3 s.file [] → RefusesTokens s r
  no_token : IsUtf8 s.bytes → ((tokens : List Lexeme) → IsTokens s.number s.bytes tokens → ⊥) → Says r 4 [] [] → RefusesTokens s r

-- why the bytes are spelled by no tree of this part of the grammar
pub data RefusesSource (p : DeclPart) (s : Source) (r : Refusal) : Type 0 where
  no_tokens : RefusesTokens s r → RefusesSource p s r
  no_tree : (tokens : List Lexeme) → IsTokens s.number s.bytes tokens → RefusesWhole max_nesting (of_decl p) tokens r → RefusesSource p s r

-- Why the sources have no trees, and in which file: the first module that no tree spells; where all modules have trees, the
-- signature.
pub data RefusesSources (sources : Sources) : List ℕ → Refusal → Type 0 where
  no_module : (before behind : List Source) (s : Source) (trees : List Module) (r : Refusal) → sources.modules ≡ before ++ s ∷ behind → HaveTrees before trees
      → RefusesSource whole s r → RefusesSources sources s.file r
  no_signature : (s : Source) (trees : List Module) (r : Refusal) → sources.signature ≡ Some s → HaveTrees sources.modules trees
      → RefusesSource signature s r → RefusesSources sources s.file r

-- Why the files spell no trees, and in which file: the project file is not there, is too long or names no modules; then
-- the first of the modules' files that is not there or is too long; then the signature, where it is too long; and then the
-- sources.
pub data RefusesFiles (files : Files) (project : List ℕ) : List ℕ → Refusal → Type 0 where
  no_project : (r : Refusal) → Lacks files (project_file project) r → RefusesFiles files project (project_file project) r
  bad_project : (bytes : List ℕ) (r : Refusal) → HasFile files (project_file project) bytes → RefusesProject (project_file project) bytes r
      → RefusesFiles files project (project_file project) r
  no_file : (before behind : List (List ℕ)) (name : List ℕ) (r : Refusal) → NamesModules files project (before ++ name ∷ behind)
      → AreThere files project before → Lacks files (module_file project name) r → RefusesFiles files project (module_file project name) r
  long_signature : (names : List (List ℕ)) (r : Refusal) → NamesModules files project names → AreThere files project names
      → IsTooLong files (signature_file project (main_of names)) r → RefusesFiles files project (signature_file project (main_of names)) r
  of_sources : (sources : Sources) (file : List ℕ) (r : Refusal) → HasSources files project sources → RefusesSources sources file r
      → RefusesFiles files project file r
