-- What a run of generated requests comes to.
use Rattle.std.specs.Prelude.{◌≡◌, ℕ, List, length, All}
use Rattle.ur_io.specs.declared.session.SessionEnd.{SessionEnd}
use Rattle.ur_io.specs.declared.session.Mark.TheVariants as mark
use Rattle.ur_values.specs.Store.{empty_store}
use Rattle.ur_conditions.specs.declared.patterns.Patterns.{Patterns}
use Rattle.ur_conditions.specs.Patterns.{AreAllPatterns}
use Rattle.ur_tree.specs.declared.typed.Typed.{Typed}
use Rattle.ur_serve.specs.Program.{Holding, fresh}
use Rattle.ur_top.specs.Requests.{requests}
use Rattle.ur_words.specs.declared.counts.LoadReport.{LoadReport}
use Rattle.ur_compile.specs.Accepts.{Accepts}
use Rattle.ur_headline.specs.Source.{AreCachedSessions}
use Rattle.ur_top.specs.Notes.{notes_files, notes_word}

-- So many scans: each of these requests, alone on its connection, is answered by the application on tables that are empty at first,
-- with a cache of this capacity.
pub record Scans (app : Typed) (connections : List (List ℕ)) (capacity reads : ℕ) : Type 0 where
  pub patterns : Patterns
  pub all_patterns : AreAllPatterns app.queries app.changes patterns
  pub sessions : List SessionEnd
  pub given : List (List ℕ)
  pub end : Holding
  pub each : length sessions ≡ length connections
  pub done : All (λ s. All (λ m. m ≡ mark.Done) s.marks) sessions
  pub served : AreCachedSessions app 100000 patterns capacity (fresh (empty_store app.schema) 0) connections sessions given end
  pub count : end.reads ≡ reads

-- the report of the requests generated from a seed
pub record IsLoadReport (seed : ℕ) (r : LoadReport) : Type 0 where
  pub app : Typed
  pub accepted : Accepts notes_files notes_word app
  pub plain : Scans app (requests r.requests seed) 0 r.plain
  pub cached : Scans app (requests r.requests seed) 64 r.cached
