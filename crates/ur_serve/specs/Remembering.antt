-- How a server answers from pages that are remembered, and what becomes of them.
use Rattle.std.specs.Prelude.{◌≡◌, ◌⊎◌, ℕ, Bool, true, false, ◌||◌, List, [], ◌∷◌, map, take, remove, Option, Some, None, slice_get}
use Rattle.ur_http.specs.declared.request.HttpRequest.{HttpRequest}
use Rattle.ur_http.specs.Answers.{respond}
use Rattle.ur_cacheindex.specs.Matching.{KeyMask}
use Rattle.ur_cache.specs.Entries.{Cached}
use Rattle.ur_code.specs.declared.code.Code.{Code}
use Rattle.ur_machine.specs.declared.turn.Turn.{Turn}
use Rattle.ur_machine.specs.declared.turn.Turn.TheVariants as turn
use Rattle.ur_pure.specs.Acts.{OnlyAsks}
use Rattle.ur_pages.specs.declared.page.Ask.{Ask}
use Rattle.ur_pages.specs.Pages.{Remembered, read_ask, are_there, brought, unmasked}
use Rattle.ur_serve.specs.declared.responder.Reply.{Reply}
use Rattle.ur_serve.specs.declared.responder.Reply.TheVariants as reply
use Rattle.ur_serve.specs.Replies.{is_head, is_post}
use Rattle.ur_serve.specs.Pages.{only_shows}

-- ---- which functions only ask

-- a function of which this says no only asks
abbrev pub AreTouching : Code → List Bool → Type 0
AreTouching code touching = (f : ℕ) → slice_get touching f ≡ Some false → OnlyAsks code.functions f

-- the function of the route only asks
abbrev pub CallsOnlyAsks : Code → ℕ → Type 0
CallsOnlyAsks code route = (f : ℕ) × (slice_get code.targets route ≡ Some f) × OnlyAsks code.functions f

-- ---- the answer from a page

-- The bytes are the page's with its status, and the entries of its queries go to the front; without memory nothing is changed.
abbrev pub FromPage : HttpRequest → Bool → (c c' : Cached) → Remembered → Reply → Type 0
FromPage q close c c' r (reply.Done own) = (own ≡ respond 200 [] [] r.page (is_head q.method) (q.close || close)) × (c' ≡ brought r.asks c)
FromPage q close c c' r reply.Keeper = ⊥
FromPage q close c c' r reply.Memory = c' ≡ c

-- The page at this place, each of whose queries has an entry, answers and goes to the front; or it is dropped.
abbrev pub IsRecalledAt : HttpRequest → Bool → (c c' : Cached) → (old new : List Remembered) → ℕ → Option Reply → Type 0
IsRecalledAt q close c c' old new place (Some r) = (page : Remembered) × (slice_get old place ≡ Some page) × (are_there c.entries page.asks ≡ true)
    × (new ≡ page ∷ remove old place) × FromPage q close c c' page r
IsRecalledAt q close c c' old new place None = (c' ≡ c) × (new ≡ remove old place)

-- A page at the request's path answers a GET or HEAD; or none does.
abbrev pub IsRecalled : HttpRequest → Bool → (c c' : Cached) → (old new : List Remembered) → Option Reply → Type 0
IsRecalled q close c c' old new (Some r) = (only_shows q.method ≡ true)
    × ((place : ℕ) × IsRecalledAt q close c c' old new place (Some r) × ((page : Remembered) → slice_get old place ≡ Some page → page.path ≡ q.path))
IsRecalled q close c c' old new None = (c' ≡ c) × ((new ≡ old) ⊎ ((place : ℕ) × (new ≡ remove old place)))

-- ---- what becomes of the pages

-- all stay, or one whose queries were noted is in front
abbrev pub IsPut : (path page : List ℕ) → Option (List Ask) → (old new : List Remembered) → Type 0
IsPut path page asks old new = (new ≡ old)
    ⊎ ((list : List Ask) × (most : ℕ) × (asks ≡ Some list) × (new ≡ take most (record { path = path; asks = map read_ask list; page = page } ∷ old)))

-- after the page of a POST the pages are gone of which a mask matches a query, and another page may be remembered
abbrev pub IsRenewedBy : Bool → List KeyMask → (path page : List ℕ) → Option (List Ask) → (old new : List Remembered) → Type 0
IsRenewedBy true masks path page asks old new = new ≡ unmasked masks old
IsRenewedBy false masks path page asks old new = IsPut path page asks old new

-- after a last turn that is no page all stay
abbrev pub IsRenewed : List KeyMask → HttpRequest → Turn → Option (List Ask) → (old new : List Remembered) → Type 0
IsRenewed masks q (turn.Page page cookies) asks old new = IsRenewedBy (is_post q.method) masks q.path page asks old new
IsRenewed masks q t asks old new = new ≡ old
