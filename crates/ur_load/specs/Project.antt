-- Which modules a project file names, and why it names none.
use Rattle.std.specs.Prelude.{◌≡◌, ◌≢◌, ◌⊎◌, ℕ, ◌+◌, ◌<◌, ◌≤◌, Bool, true, false, not, ◌||◌, List, [], ◌∷◌, ◌++◌, length, take, slice_range, Contains, IsUtf8, codes, bytes_eq, nat_eq}
use Rattle.std.specs.List.{list_all, starts_with}
use Rattle.ur_base.specs.declared.refusal.Refusal.{Refusal}
use Rattle.ur_base.specs.Stopping.{Says}
use Rattle.ur_load.specs.Words.{is_module_name, is_one_of, are_distinct}
use Rattle.ur_load.specs.Lines.{is_empty, line_ends, project_lines}

-- `database` or `sql` with a space and any text, `debug`, or what begins with `#`
abbrev pub is_directive : List ℕ → Bool
is_directive line = starts_with nat_eq line (codes "database ") || starts_with nat_eq line (codes "sql ")
    || bytes_eq line (codes "debug") || starts_with nat_eq line (codes "#")

-- The lines that are to name modules: all of them where none is empty, and else those behind the first empty one, the
-- lines before it being directives.
pub data AreToName : List (List ℕ) → List (List ℕ) → Type 0 where
  alone : (lines : List (List ℕ)) → list_all (λ line. not (is_empty line)) lines ≡ true → AreToName lines lines
  behind : (directives names : List (List ℕ)) → list_all is_directive directives ≡ true → AreToName (directives ++ [] ∷ names) names

-- these are names of modules, and none stands twice
pub record AreModules (names : List (List ℕ)) : Type 0 where
  pub words : list_all is_module_name names ≡ true
  pub differ : are_distinct names ≡ true

-- The file names these modules, the last one being the main module.
pub record IsProject (bytes : List ℕ) (modules : List (List ℕ)) : Type 0 where
  pub text : IsUtf8 bytes
  pub named : AreToName (project_lines bytes) modules
  pub fit : AreModules modules
  pub some : modules ≢ []

-- The first line, from the top, that stands wrong where it stands, with its number, which is how many lines stand before it.
pub data IsBadLine : List (List ℕ) → ℕ → List ℕ → Type 0 where
  -- no directive, before an empty line
  no_directive : (before behind : List (List ℕ)) (number : ℕ) (line : List ℕ) → number ≡ length before → list_all is_directive before ≡ true → line ≢ []
      → is_directive line ≡ false → Contains behind [] → IsBadLine (before ++ line ∷ behind) number line
  -- no name of a module, or one that stands above
  no_name : (lines before behind : List (List ℕ)) (number : ℕ) (line : List ℕ) → AreToName lines (before ++ line ∷ behind)
      → number + length (line ∷ behind) ≡ length lines → AreModules before → (is_module_name line ≡ false) ⊎ (is_one_of before line ≡ true)
      → IsBadLine lines number line
  -- an empty one in place of a module's name, where no line is to name one
  no_modules : (lines : List (List ℕ)) (number : ℕ) → number ≡ 0 → AreToName lines [] → IsBadLine lines number []

-- The refusal is E01 with the line of this number, and its place is that of the line: as many lines end before it as stand
-- before the line, whose bytes stand there.
pub record SaysOfLine (bytes : List ℕ) (number : ℕ) (line : List ℕ) (r : Refusal) : Type 0 where
  pub says : Says r 1 line []
  pub file : r.span.file ≡ 0
  pub before : line_ends (take r.span.«from» bytes) ≡ number
  pub ends : r.span.to ≡ r.span.«from» + length line
  pub within : r.span.to ≤ length bytes
  pub place : slice_range bytes r.span.«from» r.span.to ≡ line

-- the refusal is this code with these texts, and its place is empty, at the begin of the project file
abbrev pub SaysOfFile : ℕ → List ℕ → List ℕ → Refusal → Type 0
SaysOfFile code left right r = Says r code left right × (r.span ≡ record { file = 0; from = 0; to = 0 })

-- how many modules a project has at most
abbrev pub module_limit : ℕ
module_limit = 64

-- Why the file of this name gives no modules: it is not UTF-8, a line is wrong, or there are too many.
pub data RefusesProject (file bytes : List ℕ) (r : Refusal) : Type 0 where
  not_text : (IsUtf8 bytes → ⊥) → SaysOfFile 3 file [] r → RefusesProject file bytes r
  bad_line : (number : ℕ) (line : List ℕ) → IsUtf8 bytes → IsBadLine (project_lines bytes) number line → SaysOfLine bytes number line r
      → RefusesProject file bytes r
  too_many : (modules : List (List ℕ)) → IsProject bytes modules → module_limit < length modules → SaysOfFile 20 (codes "modules") (codes "64") r
      → RefusesProject file bytes r
