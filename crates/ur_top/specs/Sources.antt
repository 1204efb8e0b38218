-- The files and the project that a command compiles, and what the compiler says of them.
use Rattle.std.specs.Prelude.{ℕ, List, Option, Some, None, String, string_bytes, map, ⊤}
use Rattle.ur_base.specs.Told.{WhereTold}
use Rattle.ur_io.specs.Files.{Files}
use Rattle.ur_words.specs.Words.{read}
use Rattle.ur_words.specs.declared.reading.Reading.{Reading}
use Rattle.ur_words.specs.declared.reading.Reading.TheVariants.{Check, Sites, Replay, Serve, Load}
use Rattle.ur_tree.specs.declared.typed.Typed.{Typed}
use Rattle.ur_code.specs.declared.code.Code.{Code}
use Rattle.ur_compile.specs.Accepts.{Accepts}
use Rattle.ur_compile.specs.Passes.{Passes}
use Rattle.ur_compile.specs.Kept.{IsCodeFor}
use Rattle.ur_headline.specs.Readings.{Serving, ForServing}
use Rattle.ur_top.specs.Notes.{notes_files, notes_word}

-- what the words ask
abbrev pub asked : {Z : Type 0} → List (String Z) → Option Reading
asked words = read (map string_bytes words)

-- P of the project that is compiled and reported of
abbrev pub ForReport : Option Reading → (List ℕ → Type 0) → Type 0
ForReport (Some (Check p)) P = P p
ForReport (Some (Sites p)) P = P p
ForReport reading P = ⊤

-- P of the files and the project that are compiled: those that the words name, where the files are told; `load` has its own
abbrev pub ForSource : Option Files → Option Reading → (Files → List ℕ → Type 0) → Type 0
ForSource told None P = ⊤
ForSource told (Some (Check p)) P = WhereTold told (λ files. P files p)
ForSource told (Some (Sites p)) P = WhereTold told (λ files. P files p)
ForSource told (Some (Replay p s)) P = WhereTold told (λ files. P files p)
ForSource told (Some (Serve p port s n)) P = WhereTold told (λ files. P files p)
ForSource told (Some (Load seed n)) P = P notes_files notes_word

-- the same, where there is a command at all
abbrev pub OfSource : Option Files → Option Reading → (Files → List ℕ → Type 0) → Type 0
OfSource told None P = ⊥
OfSource told (Some r) P = ForSource told (Some r) P

-- the files are an application of this name of which P holds
abbrev pub OfFiles : Option Files → List ℕ → (Typed → Type 0) → Type 0
OfFiles told word P = WhereTold told (λ files. (app : Typed) × Accepts files word app × P app)

-- the files are an application of which P holds
abbrev pub OfApplication : Option Files → Option Reading → (Typed → Type 0) → Type 0
OfApplication told reading P = OfSource told reading (λ files word. (app : Typed) × Accepts files word app × P app)

-- the files are this application, and it passes all that the compiler asks
abbrev pub Compiles : Files → List ℕ → Typed → Type 0
Compiles files project app = Accepts files project app × Passes app

-- code that is to be run for the application
pub record IsCoded (app : Typed) : Type 0 where
  pub code : Code
  pub is_code : IsCodeFor app code

-- an application of the files has such code
abbrev pub IsCompiled : Option Files → Option Reading → Type 0
IsCompiled told reading = OfApplication told reading IsCoded

-- no application of the files has code that is to be run
abbrev pub HasNoCode : Files → List ℕ → Type 0
HasNoCode files project = (app : Typed) (code : Code) → Accepts files project app → IsCodeFor app code → ⊥

-- ---- what is served

-- P of what is served and of the application that the files are
abbrev pub ForApplication : Option Files → Option Reading → (Serving → Typed → Type 0) → Type 0
ForApplication told reading P = WhereTold told (λ files. ForServing reading (λ s. (app : Typed) → Accepts files s.project app → P s app))

-- the same of an application that passes all that the compiler asks
abbrev pub ForCompiled : Option Files → Option Reading → (Serving → Typed → Type 0) → Type 0
ForCompiled told reading P = WhereTold told (λ files. ForServing reading (λ s. (app : Typed) → Compiles files s.project app → P s app))

-- P of an application that is reported of and passes all that the compiler asks
abbrev pub ForReported : Option Files → Option Reading → (Typed → Type 0) → Type 0
ForReported told reading P = WhereTold told (λ files. ForReport reading (λ p. (app : Typed) → Compiles files p app → P app))
