-- A program's answers, sessions and runs, by what its calls come to.
use Rattle.std.specs.Prelude.{◌≡◌, ℕ, Bool, List, []}
use Rattle.ur_io.specs.declared.session.SessionEnd.{SessionEnd}
use Rattle.ur_values.specs.declared.value.Value.{Value}
use Rattle.ur_values.specs.Event.{Event}
use Rattle.ur_values.specs.Store.{Store}
use Rattle.ur_terms.specs.State.{Outcome, Done, Error, Spent, Stuck}
use Rattle.ur_code.specs.declared.code.Cookie.{Cookie}
use Rattle.ur_machine.specs.Cookies.{carried}
use Rattle.ur_machine_frames.specs.Plays.{held as state_held}
use Rattle.ur_tags.specs.declared.routes.Handlers.{Handlers}
use Rattle.ur_http.specs.declared.request.Method.{Method}
use Rattle.ur_http.specs.declared.request.Method.TheVariants.{Post}
use Rattle.ur_http.specs.declared.request.HttpRequest.{HttpRequest}
use Rattle.ur_cache.specs.declared.cache.Settle.{Settle}
use Rattle.ur_cache.specs.declared.cache.Settle.TheVariants.{Commit, Rollback}
use Rattle.ur_cache.specs.Entries.{Entry}
use Rattle.ur_cache.specs.Cached.{Sites, cached}
use Rattle.ur_code.specs.declared.code.Code.{Code}
use Rattle.ur_code.specs.Meaning.{outcome}
use Rattle.ur_conditions.specs.declared.patterns.Patterns.{Patterns}
use Rattle.ur_machine.specs.Answers.{sites_of, scanned}
use Rattle.ur_serve.specs.Sessions.{Answer}
use Rattle.ur_serve.specs.Programs as sessions
use Rattle.ur_serve.specs.Replies.{Meaning, Replies, ReachesHandler}

-- a program as its requests see it: its routes, its cookies, and what its calls come to
pub record Program : Type 1 where
  pub handlers : Handlers
  pub cookies : List Cookie
  pub means : Meaning

-- first-order code, with so many units for each request
abbrev pub code_program : Code → ℕ → Program
code_program code steps = record {
  handlers = code.handlers;
  cookies = code.cookies;
  means = λ store call pairs o. o ≡ outcome code call (state_held (carried code.cookies pairs) [] store [] steps);
}

-- ---- without a cache

-- the store of a POST that is done is kept, and any other store is as before
abbrev pub kept_store : Method → Outcome Value → Store → Store
kept_store Post (Done x s) old = s.store
kept_store m o old = old

-- the answer to a request at a store
abbrev pub Answers : Program → Store → HttpRequest → Bool → Answer Store → Type 0
Answers p = Replies p.handlers p.cookies p.means (λ store. store) (λ q. kept_store q.method)

-- a session, and a run's sessions
abbrev pub IsSession : Program → ℕ → Store → List ℕ → SessionEnd → List ℕ → Store → Type 0
IsSession p = sessions.IsSession (Answers p) (ReachesHandler p.handlers) (λ store. store)

abbrev pub AreSessions : Program → Store → List (List ℕ) → List SessionEnd → List (List ℕ) → Store → Type 0
AreSessions p = sessions.AreSessions (Answers p) (ReachesHandler p.handlers) (λ store. store)

-- ---- with a cache

-- the store, the entries of the cache, and the count of scans
pub record Holding : Type 0 where
  pub store : Store
  pub entries : List Entry
  pub reads : ℕ

abbrev pub events_of : Outcome Value → List Event
events_of (Done x s) = s.events
events_of (Error body events) = events
events_of (Spent events) = events
events_of Stuck = []

-- a POST that is done commits
abbrev pub settle_of : Method → Outcome Value → Settle
settle_of Post (Done x s) = Commit
settle_of m o = Rollback

-- What a request that came to this outcome makes of them: the count goes through one step for each scan of its events.
abbrev pub held : Sites → ℕ → HttpRequest → Outcome Value → Holding → Holding
held sites capacity q o h =
    let end = cached sites capacity h.entries (events_of o) (settle_of q.method o) in
    record { store = kept_store q.method o h.store; entries = end.0; reads = scanned end.1 h.reads }

-- the same answers, sessions and runs, with what they make of a cache of this capacity
abbrev pub CachedAnswers : Program → Sites → ℕ → Holding → HttpRequest → Bool → Answer Holding → Type 0
CachedAnswers p sites capacity = Replies p.handlers p.cookies p.means (λ h. h.store) (held sites capacity)

abbrev pub IsCachedSession : Program → Sites → ℕ → ℕ → Holding → List ℕ → SessionEnd → List ℕ → Holding → Type 0
IsCachedSession p sites capacity = sessions.IsSession (CachedAnswers p sites capacity) (ReachesHandler p.handlers) (λ h. h.store)

abbrev pub AreCachedSessions : Program → Sites → ℕ → Holding → List (List ℕ) → List SessionEnd → List (List ℕ) → Holding → Type 0
AreCachedSessions p sites capacity = sessions.AreSessions (CachedAnswers p sites capacity) (ReachesHandler p.handlers) (λ h. h.store)

-- a store with an empty cache, and a count of scans
abbrev pub fresh : Store → ℕ → Holding
fresh store reads = record { store = store; entries = []; reads = reads }

-- ---- what a server holds of a program

-- the code, its patterns, the units of each request, and the capacity of the cache
pub record ServedProgram : Type 0 where
  pub code : Code
  pub patterns : Patterns
  pub steps : ℕ
  pub capacity : ℕ

abbrev pub ServedAnswers : ServedProgram → Holding → HttpRequest → Bool → Answer Holding → Type 0
ServedAnswers p = CachedAnswers (code_program p.code p.steps) (sites_of p.code p.patterns) p.capacity

abbrev pub ServedReaches : ServedProgram → HttpRequest → Type 0
ServedReaches p = ReachesHandler p.code.handlers
