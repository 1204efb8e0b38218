-- A checked source as a program that requests see.
use Rattle.std.specs.Prelude.{ℕ, List, [], length, map, slice_get, slice_index_or}
use Rattle.std.specs.List.{AllZip}
use Rattle.ur_io.specs.declared.session.SessionEnd.{SessionEnd}
use Rattle.ur_values.specs.declared.value.Value.{Value}
use Rattle.ur_values.specs.declared.value.Call.{Call}
use Rattle.ur_values.specs.Store.{Store, FitsSchema}
use Rattle.ur_terms.specs.State.{State, Done}
use Rattle.ur_terms.specs.Sound.{NumbersLast}
use Rattle.ur_machine_frames.specs.Plays.{held}
use Rattle.ur_sql.specs.declared.query.Query.{Query}
use Rattle.ur_tags.specs.declared.routes.Handlers.{Handlers}
use Rattle.ur_tags.specs.Paths.{RoutesBack}
use Rattle.ur_tree.specs.declared.typed.Typed.{Typed}
use Rattle.ur_source.specs.Source.{HandlerMeans}
use Rattle.ur_code.specs.declared.code.Cookie.{Cookie}
use Rattle.ur_code.specs.Links.{HasOwnCalls}
use Rattle.ur_code.specs.RouteTypes.{IsRequestOf}
use Rattle.ur_code.specs.Sound.{FitsCookie}
use Rattle.ur_mono.specs.Mono.{cookie_of}
use Rattle.ur_machine.specs.Cookies.{carried}
use Rattle.ur_conditions.specs.declared.patterns.Patterns.{Patterns}
use Rattle.ur_conditions.specs.Masks.{update_masks}
use Rattle.ur_cache.specs.Cached.{Sites}
use Rattle.ur_machine.specs.Answers.{items_in}
use Rattle.ur_serve.specs.Program.{Program, Holding}
use Rattle.ur_serve.specs.Program as serve

-- routes and cookies with what calls mean by a source, each request having so many units
abbrev pub program_with : Typed → ℕ → Handlers → List Cookie → Program
program_with app steps handlers cookies = record {
  handlers = handlers;
  cookies = cookies;
  means = λ store call pairs o. HandlerMeans app call (held (carried cookies pairs) [] store [] steps) o;
}

abbrev pub cookies_of : Typed → List Cookie
cookies_of app = map cookie_of app.cookies

-- the source, with so many units for each request
abbrev pub source_program : Typed → ℕ → Program
source_program app steps = program_with app steps app.handlers (cookies_of app)

-- what the list of entries needs of queries and their patterns
abbrev pub sites_with : List Query → Patterns → Sites
sites_with queries patterns = record {
  masks = λ update args. update_masks args (slice_index_or patterns.updates update []);
  items = λ site. items_in (slice_get queries site);
}

-- ---- runs

-- The sessions of the source with so many units for each request, on the first of these connections: from a store to a store,
-- with the bytes that are given on each. No cache is in sight.
abbrev pub AreSessions : Typed → ℕ → Store → List (List ℕ) → List SessionEnd → List (List ℕ) → Store → Type 0
AreSessions app steps = serve.AreSessions (source_program app steps)

-- The same sessions, with what they make of a cache of this capacity and of the count of scans. After a fault these two may be
-- anything.
abbrev pub AreCachedSessions : Typed → ℕ → Patterns → ℕ → Holding → List (List ℕ) → List SessionEnd → List (List ℕ) → Holding → Type 0
AreCachedSessions app steps patterns capacity = serve.AreCachedSessions (source_program app steps) (sites_with app.queries patterns) capacity

-- ---- states and links

-- A state of the source: its tables have their shapes, its sequences' numbers stay ints while units are left, and its cookies
-- have their kinds.
pub record FitsSource (app : Typed) (s : State) : Type 0 where
  pub store : FitsSchema app.schema s.store
  pub numbers : NumbersLast (length app.schema.sequences) s.units s.store
  pub carries : AllZip FitsCookie s.carried (cookies_of app)

-- Every page that a request comes to has links that lead to routes that answer GET and buttons that lead to routes that answer
-- POST, with arguments of the routes' types; and the path of each call of a route names that call.
pub record LinksLead (app : Typed) : Type 0 where
  pub own : (call : Call) (s after : State) (page : Value) → IsRequestOf app.handlers call → FitsSource app s
      → HandlerMeans app call s (Done page after) → HasOwnCalls app.handlers page
  pub back : RoutesBack app.handlers
