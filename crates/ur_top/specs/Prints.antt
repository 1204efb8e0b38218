-- What a run prints.
use Rattle.std.specs.Prelude.{◌≡◌, ◌⊎◌, ℕ, false, List, [], ◌++◌, length, Option, Some, None, ⊤}
use Rattle.ur_base.specs.declared.refusal.Refusal.{Refusal}
use Rattle.ur_io.specs.Files.{Files}
use Rattle.ur_io.specs.Fronts.{IsFront}
use Rattle.ur_io.specs.declared.session.SessionEnd.{SessionEnd}
use Rattle.ur_words.specs.declared.reading.Reading.{Reading}
use Rattle.ur_words.specs.declared.reading.Reading.TheVariants.{Check, Sites, Replay, Serve, Load}
use Rattle.ur_words.specs.declared.reading.Settings.{Settings}
use Rattle.ur_values.specs.declared.schema.Schema.{Schema}
use Rattle.ur_values.specs.SchemaText.{schema_text}
use Rattle.ur_values.specs.Extends.{extends}
use Rattle.ur_keeper.specs.Tables.{KeptSchema, Keeps, Spells}
use Rattle.ur_conditions.specs.declared.patterns.Patterns.{Patterns}
use Rattle.ur_conditions.specs.Patterns.{AreAllPatterns}
use Rattle.ur_invalidate.specs.Texts.{sites_text}
use Rattle.ur_sql.specs.declared.query.Query.{Query}
use Rattle.ur_sql.specs.declared.change.Change.{Change}
use Rattle.ur_words.specs.declared.counts.LoadReport.{LoadReport}
use Rattle.ur_words.specs.Texts as texts
use Rattle.ur_compile.specs.Explains.{Refuses}
use Rattle.ur_headline.specs.Counting.{IsWireStatus}
use Rattle.ur_top.specs.Sources.{OfSource, OfApplication}
use Rattle.ur_top.specs.Loads.{IsLoadReport}

-- what is printed before serving
abbrev pub first_line : Option Reading → List ℕ
first_line (Some (Serve p port s n)) = texts.serving_line port
first_line reading = []

-- the schema is the kept one, where that or its text is told
abbrev pub IsKept : KeptSchema → Schema → Type 0
IsKept (Keeps k) schema = k ≡ schema
IsKept (Spells text tables) schema = text ≡ schema_text schema
IsKept kept schema = ⊤

-- whether the counts of faults of the shelf, the wire and the keeper rose
pub record Rises : Type 1 where
  pub shelf : Type 0
  pub wire : Type 0
  pub keeper : Type 0

-- What a run prints at each status, with its cause. At status 5 a write failed within the text that was due, which is one of the
-- others. `kept` is the schema that the keeper told before.
pub data Prints (told : Option Files) (kept : KeptSchema) (reading : Option Reading) (rises : Rises) (sessions : List SessionEnd) : ℕ → List ℕ → Type 0 where
  served : (p : List ℕ) (port : ℕ) (s : Settings) (n : ℕ) → reading ≡ Some (Serve p port s n) → Prints told kept reading rises sessions 0 (texts.serving_line port)
  replayed : (p : List ℕ) (s : Settings) → reading ≡ Some (Replay p s) → Prints told kept reading rises sessions 0 []
  checked : (p : List ℕ) (routes : ℕ) → reading ≡ Some (Check p) → OfApplication told reading (λ app. routes ≡ length app.handlers.routes)
      → Prints told kept reading rises sessions 0 (texts.check_report routes)
  listed : (p : List ℕ) (queries : List Query) (changes : List Change) (patterns : Patterns) → reading ≡ Some (Sites p)
      → OfApplication told reading (λ app. (queries ≡ app.queries) × (changes ≡ app.changes)) → AreAllPatterns queries changes patterns
      → Prints told kept reading rises sessions 0 (sites_text queries changes patterns)
  loaded : (seed : ℕ) (r : LoadReport) → reading ≡ Some (Load seed r.requests) → IsLoadReport seed r → Prints told kept reading rises sessions 0 (texts.load_report r)
  no_command : reading ≡ None → Prints told kept reading rises sessions 1 texts.usage
  refused : (file : List ℕ) (r : Refusal) → OfSource told reading (λ files word. Refuses files word file r) → Prints told kept reading rises sessions 2 (texts.refusal_line file r)
  other_schema : (other application : Schema) → OfApplication told reading (λ app. application ≡ app.schema) → extends application other ≡ false → IsKept kept other
      → Prints told kept reading rises sessions 3 (texts.schema_report other application)
  shelf_fault : rises.shelf → Prints told kept reading rises sessions 4 texts.shelf_fault
  wire_fault : rises.wire → IsWireStatus reading sessions → Prints told kept reading rises sessions 6 (first_line reading ++ texts.wire_fault)
  keeper_fault : rises.keeper → sessions ≡ [] → Prints told kept reading rises sessions 7 texts.keeper_fault
  -- before serving, or while serving
  memory : (before : List ℕ) → (before ≡ []) ⊎ (before ≡ first_line reading) → Prints told kept reading rises sessions 8 (before ++ texts.memory)
  cut : (status : ℕ) (text printed : List ℕ) → Prints told kept reading rises sessions status text → IsFront printed text → Prints told kept reading rises sessions 5 printed
