-- Requests asked of a server of the notes, each alone on its connection.
use Rattle.std.specs.Prelude.{◌≡◌, ℕ, min, List, [], ◌∷◌, length, All, Some, None, ⊤}
use Rattle.ur_io.specs.declared.session.SessionEnd.{SessionEnd}
use Rattle.ur_io.specs.declared.session.Mark.TheVariants as mark
use Rattle.ur_keeper.specs.Tables.{store_of}
use Rattle.ur_keeper.specs.Memory.{Memory, kept_of}
use Rattle.ur_conditions.specs.Patterns.{AreAllPatterns}
use Rattle.ur_tree.specs.declared.typed.Typed.{Typed}
use Rattle.ur_words.specs.declared.reading.Settings.{Settings}
use Rattle.ur_serve.specs.Sessions.{most_of_one}
use Rattle.ur_serve.specs.Programs.{IsSession}
use Rattle.ur_serve.specs.Program.{Holding, ServedProgram, ServedAnswers, ServedReaches}
use Rattle.ur_serve.specs.Serving.{ServerState, IsReadyWithin}
use Rattle.ur_compile.specs.Accepts.{Accepts}
use Rattle.ur_compile.specs.Explains.{Refuses}
use Rattle.ur_compile.specs.Kept.{IsCodeFor}
use Rattle.ur_headline.specs.Laws.{AreServedSessions}
use Rattle.ur_top.specs.declared.reporting.RunEnd.{RunEnd}
use Rattle.ur_top.specs.declared.reporting.RunEnd.TheVariants as end
use Rattle.ur_top.specs.Loads.{Scans}
use Rattle.ur_top.specs.Notes.{notes_files, notes_word}
use Rattle.ur_top.specs.Sources.{IsCoded}
use Rattle.ur_top.specs.Starting.{Held, IsAttachedServer}

-- ---- what a keeper in memory tells

abbrev pub held_in : Memory → Held
held_in m = record { kept = kept_of m.kept; saved = Some m.saved; faults = m.plan.faults }

-- what a server and its keeper hold
abbrev pub holding_in : ServerState → Memory → Holding
holding_in s m = record { store = store_of m.saved; entries = s.cache.entries; reads = m.reads }

-- so many requests may still be answered
abbrev pub IsReadyFor : ℕ → ServerState → Memory → ℕ → Type 0
IsReadyFor bound s m n = IsReadyWithin bound s (kept_of m.kept) m.under_way (Some m.saved) n

-- ---- requests

-- The request was answered, alone on its connection, and memory was not wanting.
pub record IsAnswered (p : ServedProgram) (left : ℕ) (now : Holding) (bytes : List ℕ) (after : Holding) : Type 0 where
  pub session : SessionEnd
  pub given : List ℕ
  pub one : session.marks ≡ mark.Done ∷ []
  pub is : IsSession (ServedAnswers p) (ServedReaches p) (λ (h : Holding). h.store) (min most_of_one left) now bytes session given after

-- All of them were answered so, with so many scans in the end.
pub record AreAnswered (p : ServedProgram) (start : Holding) (connections : List (List ℕ)) (reads : ℕ) : Type 0 where
  pub sessions : List SessionEnd
  pub given : List (List ℕ)
  pub end : Holding
  pub each : length sessions ≡ length connections
  pub done : All (λ s. All (λ m. m ≡ mark.Done) s.marks) sessions
  pub served : AreServedSessions p start connections sessions given end
  pub count : end.reads ≡ reads

-- ---- the notes

-- how the notes are served with a cache of this capacity
abbrev pub notes_settings : ℕ → Settings
notes_settings cache = record { db = None; cache = cache; steps = 100000 }

-- A server of the notes, attached to a keeper, that has answered nothing yet.
pub record IsNotesServer (app : Typed) (cache : ℕ) (old : Memory) (s : ServerState) (new : Memory) : Type 0 where
  pub accepted : Accepts notes_files notes_word app
  pub is_code : IsCodeFor app s.code
  pub all_patterns : AreAllPatterns s.code.queries s.code.changes s.patterns
  pub server : IsAttachedServer s.code s.patterns (notes_settings cache) (held_in old) (held_in new) new.under_way s

-- the notes are such an application, and their scans are so many with a cache of this capacity
pub record HasScansOf (connections : List (List ℕ)) (cache reads : ℕ) : Type 0 where
  pub app : Typed
  pub accepted : Accepts notes_files notes_word app
  pub coded : IsCoded app
  pub scans : Scans app connections cache reads

-- where the end is a refusal, it is one of the notes
abbrev pub IsUnloaded : RunEnd → Type 0
IsUnloaded (end.Refused file r) = Refuses notes_files notes_word file r
IsUnloaded e = ⊤
