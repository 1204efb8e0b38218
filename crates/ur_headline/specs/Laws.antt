-- What is proved of code that means what a source means.
use Rattle.std.specs.Prelude.{◌≡◌, ◌≤◌, ◌*◌, ℕ, List, length, Option, Some}
use Rattle.ur_io.specs.declared.session.SessionEnd.{SessionEnd}
use Rattle.ur_io.specs.Traffic.{Traffic}
use Rattle.ur_words.specs.declared.reading.Settings.{Settings}
use Rattle.ur_values.specs.Store.{Store, FitsSchema}
use Rattle.ur_terms.specs.Sound.{NumbersLast}
use Rattle.ur_keeper.specs.Tables.{Tables, KeptSchema, AreSound, store_of}
use Rattle.ur_tags.specs.Routes.{AreRoutes}
use Rattle.ur_code.specs.declared.code.Code.{Code}
use Rattle.ur_code.specs.Fits.{Fits}
use Rattle.ur_tree.specs.declared.typed.Typed.{Typed}
use Rattle.ur_mono.specs.Mono.{IsMeaningOf}
use Rattle.ur_conditions.specs.declared.patterns.Patterns.{Patterns}
use Rattle.ur_conditions.specs.Patterns.{AreAllPatterns}
use Rattle.ur_serve.specs.Serving.{ServerState}
use Rattle.ur_serve.specs.Sessions.{most_requests}
use Rattle.ur_serve.specs.Programs as sessions
use Rattle.ur_serve.specs.Program.{Holding, ServedProgram, ServedAnswers, ServedReaches}
use Rattle.ur_headline.specs.Served.{HasServed}
use Rattle.ur_headline.specs.Serves.{AttachLeaves, Serves}
use Rattle.ur_headline.specs.Source.{cookies_of, AreSessions, AreCachedSessions, LinksLead}

-- Code of a source: its routes can be told apart, its routes, cookies, tables, queries and changes are the source's, it fits its
-- types, and each request means by the source what it comes to by the code, and nothing else.
pub record IsCodeOfSource (app : Typed) (code : Code) : Type 0 where
  pub routes : AreRoutes code.handlers
  pub handlers : code.handlers ≡ app.handlers
  pub cookies : code.cookies ≡ cookies_of app
  pub schema : code.schema ≡ app.schema
  pub queries : code.queries ≡ app.queries
  pub changes : code.changes ≡ app.changes
  pub fits : Fits code
  pub meaning : IsMeaningOf app code

-- A store of the code's tables, whose sequences' numbers stay ints while so many requests of so many units are answered.
pub record LastsFor (code : Code) (steps requests : ℕ) (store : Store) : Type 0 where
  pub fits : FitsSchema code.schema store
  pub numbers : NumbersLast (length code.schema.sequences) (steps * requests) store

-- the runs of what a server holds of a program
abbrev pub AreServedSessions : ServedProgram → Holding → List (List ℕ) → List SessionEnd → List (List ℕ) → Holding → Type 0
AreServedSessions p = sessions.AreSessions (ServedAnswers p) (ServedReaches p) (λ h. h.store)

-- The sessions of the code with a cache are those of the source, with the cache and without it.
abbrev pub CodeServesSource : Type 0
CodeServesSource = (app : Typed) (code : Code) (patterns : Patterns) (steps capacity : ℕ) → IsCodeOfSource app code
    → (start end : Holding) (connections : List (List ℕ)) (done : List SessionEnd) (given : List (List ℕ)) → LastsFor code steps most_requests start.store
    → AreServedSessions (record { code = code; patterns = patterns; steps = steps; capacity = capacity }) start connections done given end
    → AreCachedSessions app steps patterns capacity start connections done given end × AreSessions app steps start.store connections done given end.store

-- tables that `attach` leaves last for a run
abbrev pub SoundTablesLast : Type 0
SoundTablesLast = (code : Code) (steps : ℕ) (t : Tables) → steps ≤ 4294967295 → AreSound code.schema t → LastsFor code steps most_requests (store_of t)

-- What a server that began with an empty cache has served, from tables that `attach` left, is what the headline says.
abbrev pub ServedRunServes : Type 0
ServedRunServes = (app : Typed) (s : ServerState) → IsCodeOfSource app s.code → AreAllPatterns s.code.queries s.code.changes s.patterns → s.steps ≤ 4294967295
    → (settings : Settings) → settings.steps ≡ s.steps → settings.cache ≡ s.cache.capacity
    → (kept : KeptSchema) (saved : Option Tables) (tables : Tables) → AttachLeaves app.schema kept saved tables → AreSound app.schema tables
    → (t u : Traffic) (done : List SessionEnd) (after : Store) (reads reads' : ℕ) → HasServed s (store_of tables) reads t done after reads' u
    → Serves app settings kept saved t done (Some u) after reads reads'

abbrev pub LinksOfSourceLead : Type 0
LinksOfSourceLead = (app : Typed) (code : Code) → IsCodeOfSource app code → LinksLead app
