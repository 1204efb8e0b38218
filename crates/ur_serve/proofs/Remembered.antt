-- A page that is remembered is the program's answer, and stays worth it.
use Rattle.std.proofs.Common.{◌≡◌, ℕ, zero, suc, ◌<◌, ◌||◌, Bool, true, false, not, All, if◌then◌else◌, List, [], ◌∷◌, ◌++◌, map, length, position}
use Rattle.std.proofs.Common.{remove, take, Option, Some, None, slice_get, refl, sym, ap, subst, ◌∙◌, true≢false, inl, inr, arith}
use Rattle.std.specs.Prelude.{◌⊎◌, IfSome}
use Rattle.std.specs.List.{AllByRecursion}
use Rattle.std.proofs.lemmas.List.Elements.{recursion_from_All, All-from_recursion, All-get_or, All-take, All-filter}
use Rattle.std.proofs.lemmas.List.Quantifiers.{position-Some}
use Rattle.std.proofs.lemmas.Slice.Eq.{bytes_eq-Decides}
use Rattle.std.proofs.lemmas.Option.{slice_get_within, get_or_from_slice_get}
use Rattle.ur_base.specs.Told.{WhereTold, Tells}
use Rattle.ur_values.specs.declared.value.Value.{Value}
use Rattle.ur_values.specs.declared.value.Call.{Call}
use Rattle.ur_values.specs.Event.{Event}
use Rattle.ur_keeper.specs.Tables.{Tables, KeptSchema, Keeps, store_of}
use Rattle.ur_terms.specs.State.{State, Outcome, Done}
use Rattle.ur_machine_frames.specs.Plays.{held as state_held}
use Rattle.ur_tags.specs.declared.routes.Handlers.{Handlers}
use Rattle.ur_tags.specs.declared.routes.Route.{Route}
use Rattle.ur_tags.specs.Paths.{route_path}
use Rattle.ur_tags.specs.Show.{show}
use Rattle.ur_http.specs.declared.request.Method.{Method}
use Rattle.ur_http.specs.declared.request.Method.TheVariants.{Get, Head, Post, Other}
use Rattle.ur_http.specs.declared.request.HttpRequest.{HttpRequest}
use Rattle.ur_http.specs.Answers.{respond}
use Rattle.ur_conditions.specs.declared.patterns.Patterns.{Patterns}
use Rattle.ur_cacheindex.specs.Matching.{KeyMask}
use Rattle.ur_cache.specs.declared.cache.Settle.TheVariants.{Rollback}
use Rattle.ur_cache.specs.Entries.{Cached}
use Rattle.ur_cache.specs.Cached.{Sites, cached}
use Rattle.ur_code.specs.declared.code.Code.{Code}
use Rattle.ur_code.specs.Meaning.{outcome}
use Rattle.ur_pure.proofs.Fixing.{pure_is_fixed}
use Rattle.ur_machine.specs.declared.machine.Machine.{Machine}
use Rattle.ur_machine.specs.declared.turn.Turn.{Turn}
use Rattle.ur_machine.specs.declared.turn.Turn.TheVariants as turn
use Rattle.ur_machine.specs.Cookies.{carried}
use Rattle.ur_machine.specs.Left.{Starts}
use Rattle.ur_machine.specs.Answers.{AreSavedAnswers, AreCurrentAnswers, AgreeUnmasked, sites_of, scanned}
use Rattle.ur_machine.specs.Turning.{IsKeeperUndone}
use Rattle.ur_machine.proofs.Lists.{all_passing}
use Rattle.ur_machine.proofs.Told.{where_told, told_all, raised_none}
use Rattle.ur_pages.specs.declared.page.Ask.{Ask}
use Rattle.ur_pages.specs.Pages.{Asked, Remembered, IsToFront, is_at, read_ask, are_there, brought, some_masked, unmasked}
use Rattle.ur_memo.specs.Remembered.{asked_of, ask_of, IsRemembered}
use Rattle.ur_memo.proofs.Bringing.{request_brings, bringing_keeps}
use Rattle.ur_memo.proofs.Remembering.{may_be_remembered, is_answer, stays_remembered}
use Rattle.ur_serve.specs.declared.responder.Reply.{Reply}
use Rattle.ur_serve.specs.declared.responder.Reply.TheVariants as reply
use Rattle.ur_serve.specs.Replies.{Routed, routed, handled, turned_away, routed_to, routed_at, by_method, if_answered, if_known, is_head, is_post}
use Rattle.ur_serve.specs.Replies as replies
use Rattle.ur_serve.specs.Program.{held, settle_of, kept_store, Holding}
use Rattle.ur_serve.specs.Handling.{HandledAs}
use Rattle.ur_serve.specs.Handling as handling
use Rattle.ur_serve.specs.Noting.{IsNoted}
use Rattle.ur_serve.specs.Finishing.{Finishes, IsDone, IsAnswered}
use Rattle.ur_serve.specs.Serving.{AreServable}
use Rattle.ur_serve.specs.Pages.{only_shows, CallsAt, IsPageOf, ArePagesOf}
use Rattle.ur_serve.specs.Remembering.{CallsOnlyAsks, FromPage, IsRecalledAt, IsRecalled, IsPut, IsRenewedBy, IsRenewed}
use Rattle.ur_serve.proofs.Starting.{starts_call}

-- ---- the call of a path

-- what GET and HEAD make of a path
abbrev at_route : Option Route → Call → Routed
at_route None call = turned_away 404 []
at_route (Some r) call = if_answered r.get r call

abbrev at_path : Handlers → Option Call → Routed
at_path handlers None = turned_away 404 []
at_path handlers (Some call) = at_route (slice_get handlers.routes call.route) call

shown_at : (handlers : Handlers) (q : HttpRequest) (m : Method) → q.method ≡ m → only_shows m ≡ true
    → routed handlers q ≡ at_path handlers (route_path handlers q.path)
shown_at handlers q m is shows =
    ap (λ n. if_known n (routed_to handlers q (route_path handlers q.path))) is ∙ known m shows (routed_to handlers q (route_path handlers q.path)) ∙ to
    (route_path handlers q.path)
  where
    known : (m : Method) → only_shows m ≡ true → (r : Routed) → if_known m r ≡ r
    known Get s r = refl
    known Head s r = refl
    known Post s r = absurd (true≢false (sym s))
    known Other s r = absurd (true≢false (sym s))

    by : (m : Method) → only_shows m ≡ true → (r : Route) (pairs : List (List ℕ × List ℕ)) (call : Call) → by_method m r pairs call ≡ if_answered r.get r call
    by Get s r pairs call = refl
    by Head s r pairs call = refl
    by Post s r pairs call = absurd (true≢false (sym s))
    by Other s r pairs call = absurd (true≢false (sym s))

    at : (o : Option Route) (call : Call) → routed_at q call o ≡ at_route o call
    at None call = refl
    at (Some r) call = ap (λ n. by_method n r q.form call) is ∙ by m shows r q.form call

    to : (o : Option Call) → routed_to handlers q o ≡ at_path handlers o
    to None = refl
    to (Some call) = at (slice_get handlers.routes call.route) call

-- a call that one GET or HEAD of a path makes all of them make
pub calls_at : (handlers : Handlers) (q : HttpRequest) (call : Call) → only_shows q.method ≡ true → routed handlers q ≡ handled call
    → CallsAt handlers q.path call
calls_at handlers q call shows is other same other_shows =
    shown_at handlers other other.method refl other_shows ∙ ap (λ p. at_path handlers (route_path handlers p)) same ∙ sym
    (shown_at handlers q q.method refl shows) ∙ is

-- ---- the answer

settles : (m : Method) → only_shows m ≡ true → (o : Outcome Value) → settle_of m o ≡ Rollback
settles Get s o = refl
settles Head s o = refl
settles Post s o = absurd (true≢false (sym s))
settles Other s o = absurd (true≢false (sym s))

keeps : (m : Method) → only_shows m ≡ true → (x : Value) (st : State) (t : Tables) → store_of t ≡ kept_store m (Done x st) (store_of t)
keeps Get s x st t = refl
keeps Head s x st t = refl
keeps Post s x st t = absurd (true≢false (sym s))
keeps Other s x st t = absurd (true≢false (sym s))

module _ (code : Code) where
  -- Where each query of a page has an entry, the page is the program's answer, the entries of its queries are in front, and nothing
  -- was scanned.
  pub remembered_done : (patterns : Patterns) (steps : ℕ) (q : HttpRequest) (close : Bool) (c : Cached) (t : Tables) (saved : Option Tables) (reads : ℕ)
      (r : Remembered) (own : List ℕ)
      → IsPageOf code steps t r → r.path ≡ q.path → only_shows q.method ≡ true → saved ≡ Some t → c.masks ≡ [] → are_there c.entries r.asks ≡ true
      → own ≡ respond 200 [] [] r.page (is_head q.method) (q.close || close)
      → IsDone code patterns steps q close c (brought r.asks c) t saved reads reads own
  remembered_done patterns steps q close c t saved reads r own h at shows told none there same = (
    record {
      bytes = respond 200 [] [] (show code.handlers x) (is_head q.method)
          (q.close || close);
      closes = q.close || close;
      after = held sites c.capacity q o before;
    },
    replies.answered h.call o (respond 200 [] [] (show code.handlers x) (is_head q.method) (q.close || close)) (h.is_call q (sym at) shows) (sym comes)
        (replies.page x st),
    same ∙ ap (λ p. respond 200 [] [] p (is_head q.method) (q.close || close)) h.worth.comes.shown,
    refl,
    subst (λ z. Tells z (λ u. store_of u ≡ kept_store q.method o (store_of t))) (sym told) (keeps q.method shows x st t),
    sym (ap (λ p. p.0) tally ∙ ap (λ l. (brought l c).entries) h.worth.asked),
    sym (ap (λ p. scanned p.1 reads) tally),
  )
    where
      sites : Sites
      sites = sites_of code patterns

      x : Value
      x = h.worth.comes.value

      st : State
      st = state_held (carried code.cookies q.cookies) [] (store_of t) (map ask_of h.worth.entries) h.worth.comes.left

      o : Outcome Value
      o = Done x st

      before : Holding
      before = record { store = store_of t; entries = c.entries; reads = reads }

      comes : outcome code h.call (state_held (carried code.cookies q.cookies) [] (store_of t) [] steps) ≡ o
      comes = is_answer code steps h.call (store_of t) r h.worth (carried code.cookies q.cookies)

      tally : cached sites c.capacity c.entries (map ask_of h.worth.entries) (settle_of q.method o) ≡ ((brought (map asked_of h.worth.entries) c).entries, 0)
      tally = ap (λ w. cached sites c.capacity c.entries (map ask_of h.worth.entries) w) (settles q.method shows o)
          ∙ request_brings code sites c h.worth.entries none h.worth.typed (subst (λ l. are_there c.entries l ≡ true) (sym h.worth.asked) there)

-- ---- lists

at_place : (P : Remembered → Type 0) (pages : List Remembered) (place : ℕ) (page : Remembered) → All P pages → slice_get pages place ≡ Some page → P page
at_place P pages place page h at =
    subst P (get_or_from_slice_get pages place page page at) (All-get_or P pages place page (slice_get_within pages place page at) h)

in_front : (P : Remembered → Type 0) (page : Remembered) (pages : List Remembered) → P page → All P pages → All P (page ∷ pages)
in_front P page pages p h = All-from_recursion P (page ∷ pages) (p, recursion_from_All P pages h)

less_by_one : (P : Remembered → Type 0) (pages : List Remembered) (place : ℕ) → All P pages → All P (remove pages place)
less_by_one P pages place h = All-from_recursion P (remove pages place) (go pages place (recursion_from_All P pages h))
  where
    go : (pages : List Remembered) (place : ℕ) → AllByRecursion P pages → AllByRecursion P (remove pages place)
    go [] zero h = tt
    go [] (suc place) h = tt
    go (page ∷ pages) zero h = h.1
    go (page ∷ pages) (suc place) h = (h.0, go pages place h.1)

-- ---- steps of the code

-- the page at a place that was found
pub found_within : (path : List ℕ) (pages : List Remembered) (place : ℕ) → position (is_at path) pages ≡ Some place → place < length pages
found_within path pages place e = (position-Some (is_at path) pages place (record { path = []; asks = []; page = [] }) e).0

pub found_at : (path : List ℕ) (pages : List Remembered) (place : ℕ) → position (is_at path) pages ≡ Some place → (page : Remembered)
    → slice_get pages place ≡ Some page → page.path ≡ path
found_at path pages place e page at =
    (bytes_eq-Decides page.path path).0
    (ap (is_at path) (sym (get_or_from_slice_get pages place page page at)) ∙ (position-Some (is_at path) pages place page e).1)

-- what was done with it
pub recalled_by : (q : HttpRequest) (close : Bool) (c c' : Cached) (old new : List Remembered) (place : ℕ) (r : Option Reply) → only_shows q.method ≡ true
    → position (is_at q.path) old ≡ Some place → IsRecalledAt q close c c' old new place r → IsRecalled q close c c' old new r
recalled_by q close c c' old new place None shows at h = (h.0, inr (place, h.1))
recalled_by q close c c' old new place (Some r) shows at h = (shows, (place, h, found_at q.path old place at))

-- a page that went to the front
pub recalled_front : (q : HttpRequest) (close : Bool) (c c' : Cached) (old new : List Remembered) (place : ℕ) (page front : Remembered) (r : Reply)
    → slice_get old place ≡ Some page
    → are_there c.entries page.asks ≡ true → IsToFront old place new → slice_get new 0 ≡ Some front → FromPage q close c c' front r
    → IsRecalledAt q close c c' old new place (Some r)
recalled_front q close c c' old new place page front r at there moved first from =
    let is : new ≡ page ∷ remove old place = moved page at in
    (page, at, there, is, subst (λ z. FromPage q close c c' z r) (same_page front page (sym first ∙ ap (λ l. slice_get l 0) is)) from)
  where
    same_page : (a b : Remembered) → Some a ≡ Some b → a ≡ b
    same_page a b e = cc

pub front_there : (old new : List Remembered) (place : ℕ) (page : Remembered) → slice_get old place ≡ Some page → IsToFront old place new → 0 < length new
front_there old new place page at moved =
    let some : 0 < length (page ∷ remove old place) = omega arith in
    subst (λ (l : List Remembered). 0 < length l) (sym (moved page at)) some

-- a page in front, or none
pub put_one : (path page : List ℕ) (asks : List Ask) (put : Remembered) (old new : List Remembered) (most : ℕ)
    → put ≡ record { path = path; asks = map read_ask asks; page = page }
    → new ≡ take most (put ∷ old) → IsPut path page (Some asks) old new
put_one path page asks put old new most is e = inr (asks, most, refl, e ∙ ap (λ (r : Remembered). take most (r ∷ old)) is)

pub put_if : (path page : List ℕ) (asks : Option (List Ask)) (list : List Ask) (old new : List Remembered) → asks ≡ Some list
    → IsPut path page (Some list) old new → IsPut path page asks old new
put_if path page asks list old new e h = subst (λ o. IsPut path page o old new) (sym e) h

pub put_as : (path path' page page' : List ℕ) (asks : Option (List Ask)) (old new : List Remembered) → path' ≡ path → page' ≡ page
    → IsPut path' page' asks old new → IsPut path page asks old new
put_as path path' page page' asks old new e f h = subst (λ p. IsPut p page asks old new) e (subst (λ p. IsPut path' p asks old new) f h)

-- what becomes of the pages by the last turn
pub renewed_page : (masks : List KeyMask) (q : HttpRequest) (t : Turn) (page : List ℕ) (cookies : List (List ℕ × List ℕ)) (asks : Option (List Ask))
    (old new : List Remembered) → t ≡ turn.Page page cookies
    → IsRenewedBy (is_post q.method) masks q.path page asks old new → IsRenewed masks q t asks old new
renewed_page masks q t page cookies asks old new e h = subst (λ z. IsRenewed masks q z asks old new) (sym e) h

pub renewed_post : (masks : List KeyMask) (path page : List ℕ) (post : Bool) (asks : Option (List Ask)) (old new : List Remembered) → post ≡ true
    → new ≡ unmasked masks old → IsRenewedBy post masks path page asks old new
renewed_post masks path page post asks old new e h = subst (λ b. IsRenewedBy b masks path page asks old new) (sym e) h

pub renewed_put : (masks : List KeyMask) (path page : List ℕ) (post : Bool) (asks : Option (List Ask)) (old new : List Remembered) → post ≡ false
    → IsPut path page asks old new → IsRenewedBy post masks path page asks old new
renewed_put masks path page post asks old new e h = subst (λ b. IsRenewedBy b masks path page asks old new) (sym e) h

-- ---- as long as answers stay

passes : (b : Bool) → not b ≡ true → b ≡ false
passes true h = absurd (true≢false (sym h))
passes false h = refl

module _ (code : Code) (steps : ℕ) where
  page_stays : (s t : Tables) (masks : List KeyMask) → AgreeUnmasked code (store_of s) (store_of t) masks → (r : Remembered)
      → not (some_masked masks r.asks) ≡ true → IsPageOf code steps s r → IsPageOf code steps t r
  page_stays s t masks agree r clear h = record {
    call = h.call;
    is_call = h.is_call;
    worth = stays_remembered code steps h.call (store_of s) (store_of t) masks r agree (passes (some_masked masks r.asks) clear) h.worth;
  }

  no_tables : (t : Tables) → Some t ≡ None → ⊥
  no_tables t e = cc

  -- The pages none of whose queries a mask matches stay worth it at the current tables of a transaction, which are told only where the
  -- saved ones are.
  pub pages_stay : (saved current : Option Tables) (masks : List KeyMask) (pages : List Remembered)
      → WhereTold saved (λ s. Tells current (λ t. AgreeUnmasked code (store_of s) (store_of t) masks)) → (saved ≡ None → current ≡ None)
      → ArePagesOf code steps saved pages → ArePagesOf code steps current (unmasked masks pages)
  pages_stay None None masks pages agree told h = tt
  pages_stay None (Some t) masks pages agree told h = absurd (no_tables t (told refl))
  pages_stay (Some s) None masks pages agree told h = tt
  pages_stay (Some s) (Some t) masks pages agree told h =
      All-from_recursion (IsPageOf code steps t) (unmasked masks pages)
      (all_passing (IsPageOf code steps s) (IsPageOf code steps t) (λ r. not (some_masked masks r.asks))
      (λ r clear p. page_stays s t masks agree r clear p) pages
      (recursion_from_All (IsPageOf code steps s) pages h))

  -- fewer of them are worth it still
  pub fewer_pages : (saved : Option Tables) (masks : List KeyMask) (pages : List Remembered) → ArePagesOf code steps saved pages
      → ArePagesOf code steps saved (unmasked masks pages)
  fewer_pages None masks pages h = tt
  fewer_pages (Some s) masks pages h = All-filter (λ r. not (some_masked masks r.asks)) (IsPageOf code steps s) pages h

  pub without_one : (saved : Option Tables) (place : ℕ) (pages : List Remembered) → ArePagesOf code steps saved pages
      → ArePagesOf code steps saved (remove pages place)
  without_one None place pages h = tt
  without_one (Some s) place pages h = less_by_one (IsPageOf code steps s) pages place h

  pub front_again : (saved : Option Tables) (place : ℕ) (page : Remembered) (pages : List Remembered) → slice_get pages place ≡ Some page
      → ArePagesOf code steps saved pages → ArePagesOf code steps saved (page ∷ remove pages place)
  front_again None place page pages at h = tt
  front_again (Some s) place page pages at h =
      in_front (IsPageOf code steps s) page (remove pages place) (at_place (IsPageOf code steps s) pages place page h at)
      (less_by_one (IsPageOf code steps s) pages place h)

  -- where no page answered
  pub unrecalled_pages : (q : HttpRequest) (close : Bool) (c c' : Cached) (saved : Option Tables) (old new : List Remembered)
      → IsRecalled q close c c' old new None → ArePagesOf code steps saved old → ArePagesOf code steps saved new
  unrecalled_pages q close c c' saved old new h pages = go h.1
    where
      go : (new ≡ old) ⊎ ((place : ℕ) × (new ≡ remove old place)) → ArePagesOf code steps saved new
      go (inl e) = subst (ArePagesOf code steps saved) (sym e) pages
      go (inr (place, e)) = subst (ArePagesOf code steps saved) (sym e) (without_one saved place old pages)

-- ---- the answer from a page

answered_from : (code : Code) (patterns : Patterns) (steps : ℕ) (q : HttpRequest) (close : Bool) (c c' : Cached) (saved : Option Tables) (kept : KeptSchema)
    (under_way : Bool) (reads : ℕ) (r : Reply) (old new : List Remembered)
    → only_shows q.method ≡ true → (place : ℕ) (page : Remembered) → slice_get old place ≡ Some page → page.path ≡ q.path → are_there c.entries page.asks ≡ true
    → new ≡ page ∷ remove old place → FromPage q close c c' page r
    → WhereTold saved (AreServable code.schema) → kept ≡ Keeps code.schema → under_way ≡ false → AreSavedAnswers code saved c → c.masks ≡ []
    → ArePagesOf code steps saved old
    → IsAnswered code patterns steps q close c c' new saved saved kept under_way reads reads r
answered_from code patterns steps q close c c' saved kept under_way reads (reply.Done own) old new shows place page at path there front
    (is, moved) servable schema rest answers none pages =
    let keeps = bringing_keeps code page.asks saved c answers in
    record {
      done = where_told saved _ _ pages (λ t told h. subst (λ z. IsDone code patterns steps q close c z t saved reads reads own) (sym moved)
          (remembered_done code patterns steps q close c t saved reads page own
          (at_place (IsPageOf code steps t) old place page h at) path shows told none there is));
      unsaved = tt;
      schema = schema;
      at_rest = rest;
      tables = servable;
      answers = subst (AreSavedAnswers code saved) (sym moved) keeps.0;
      no_mask = subst (λ z. z.masks ≡ []) (sym moved) (keeps.1 ∙ none);
      capacity = subst (λ z. z.capacity ≡ c.capacity) (sym moved) keeps.2;
      growth = raised_none steps saved;
      pages = subst (ArePagesOf code steps saved) (sym front) (front_again code steps saved place page old at pages);
    }
answered_from code patterns steps q close c c' saved kept under_way reads reply.Keeper old new shows place page at path there front h servable schema rest answers none pages = absurd h
answered_from code patterns steps q close c c' saved kept under_way reads reply.Memory old new shows place page at path there front same servable schema rest answers none pages = record {
  done = told_all saved _ (λ t e. tt);
  unsaved = refl;
  schema = schema;
  at_rest = rest;
  tables = servable;
  answers = subst (AreSavedAnswers code saved) (sym same) answers;
  no_mask = subst (λ z. z.masks ≡ []) (sym same) none;
  capacity = ap (λ (z : Cached). z.capacity) same;
  growth = raised_none steps saved;
  pages = subst (ArePagesOf code steps saved) (sym front) (front_again code steps saved place page old at pages);
}

pub answered_recalled : (code : Code) (patterns : Patterns) (steps : ℕ) (q : HttpRequest) (close : Bool) (c c' : Cached) (saved : Option Tables)
    (kept : KeptSchema) (under_way : Bool) (reads : ℕ) (r : Reply) (old new : List Remembered)
    → IsRecalled q close c c' old new (Some r)
    → WhereTold saved (AreServable code.schema) → kept ≡ Keeps code.schema → under_way ≡ false → AreSavedAnswers code saved c → c.masks ≡ []
    → ArePagesOf code steps saved old
    → IsAnswered code patterns steps q close c c' new saved saved kept under_way reads reads r
answered_recalled code patterns steps q close c c' saved kept under_way reads r old new
    (shows, (place, (page, at, there, front, from), path)) servable schema rest answers none pages =
    answered_from code patterns steps q close c c' saved kept under_way reads r old new shows place page at
    (path page at) there front from servable schema rest answers none pages

-- no keeper is called
pub recalled_keeper : (q : HttpRequest) (close : Bool) (c c' : Cached) (r : Reply) (old new : List Remembered) → IsRecalled q close c c' old new (Some r)
    → r ≡ reply.Keeper → ⊥
recalled_keeper q close c c' r old new (shows, (place, (page, at, there, front, from), path)) e = subst (FromPage q close c c' page) e from

-- ---- what becomes of the pages after a run

-- P of the bytes of a page
abbrev OnPage : Turn → (List ℕ → Type 0) → Type 0
OnPage (turn.Page page cookies) P = P page
OnPage t P = Unit {0}

module _ (code : Code) (sites : Sites) (steps : ℕ) (q : HttpRequest) (close : Bool) (call : Call) (is_handled : routed code.handlers q ≡ handled call) where
  abbrev its_page : List ℕ → List Ask → Remembered
  its_page page list = record { path = q.path; asks = map read_ask list; page = page }

  -- before the first turn
  abbrev pub IsBegin : Option (List Ask) → Type 0
  IsBegin asks = IfSome asks (λ list. (list ≡ []) × (only_shows q.method ≡ true) × CallsOnlyAsks code call.route)

  begun : (s : Tables) (x : Value) (st : State) (events : List Event) (asks₀ : Option (List Ask)) (list : List Ask) → IsBegin asks₀
      → outcome code call (state_held (carried code.cookies q.cookies) [] (store_of s) [] steps) ≡ Done x st → st.events ≡ events
      → IsNoted code asks₀ (Some list) events → IsPageOf code steps s (its_page (show code.handlers x) list)
  begun s x st events None list b run same n = absurd n
  begun s x st events (Some before) list (none, shows, (f, at, only)) run same (es, typed, noted, are) =
      let asked : map read_ask list ≡ map asked_of es = noted ∙ ap (λ (l : List Ask). map read_ask l ++ map asked_of es) none in
      record {
        call = call;
        is_call = calls_at code.handlers q call shows is_handled;
        worth =
            subst (λ (l : List Asked). IsRemembered code steps call (store_of s) (record { path = q.path; asks = l; page = show code.handlers x })) (sym asked)
            (may_be_remembered code pure_is_fixed steps q.path call f (carried code.cookies q.cookies) (store_of s) x st es at only run (same ∙ are) typed).2;
      }

  -- a page that a run showed is worth its call
  worth : (m m' : Machine) (s : Tables) (current : Option Tables) (c c₁ : Cached) (reads reads₁ : ℕ) (asks₀ asks : Option (List Ask)) (t : Turn)
      → Starts code call q.cookies steps m → IsBegin asks₀
      → HandledAs sites code m m' (store_of s) current c c₁ reads reads₁ asks₀ asks t
      → OnPage t (λ page. (list : List Ask) → asks ≡ Some list → IsPageOf code steps s (its_page page list))
  worth m m' s current c c₁ reads reads₁ asks₀ asks t starts b (handling.page x u events after is follows noted) = λ list e.
      begun s x (state_held m'.frames.carried m'.frames.sent (store_of u) events m'.frames.units) events asks₀ list b
      (sym (starts_call code call q.cookies steps m starts (store_of s)) ∙ is) refl
      (subst (λ o. IsNoted code asks₀ o events) e noted)
  worth m m' s current c c₁ reads reads₁ asks₀ asks t starts b (handling.failure body events is follows) = tt
  worth m m' s current c c₁ reads reads₁ asks₀ asks t starts b handling.keeper = tt
  worth m m' s current c c₁ reads reads₁ asks₀ asks t starts b handling.memory = tt

  put_pages : (s : Tables) (page : List ℕ) (asks : Option (List Ask)) (old new : List Remembered)
      → ((list : List Ask) → asks ≡ Some list → IsPageOf code steps s (its_page page list))
      → IsPut q.path page asks old new → All (IsPageOf code steps s) old → All (IsPageOf code steps s) new
  put_pages s page asks old new made (inl e) h = subst (All (IsPageOf code steps s)) (sym e) h
  put_pages s page asks old new made (inr (list, most, noted, e)) h =
      subst (All (IsPageOf code steps s)) (sym e)
      (All-take (IsPageOf code steps s) most (its_page page list ∷ old) (in_front (IsPageOf code steps s) (its_page page list) old (made list noted) h))

  put_told : (saved : Option Tables) (page : List ℕ) (asks : Option (List Ask)) (old new : List Remembered)
      → WhereTold saved (λ s. (list : List Ask) → asks ≡ Some list → IsPageOf code steps s (its_page page list))
      → IsPut q.path page asks old new → ArePagesOf code steps saved old → ArePagesOf code steps saved new
  put_told None page asks old new made p h = tt
  put_told (Some s) page asks old new made p h = put_pages s page asks old new made p h

  module _ (saved current saved' : Option Tables) (c c' : Cached) (under_way : Bool) (asks : Option (List Ask)) (old new : List Remembered)
      (untold : under_way ≡ true → saved ≡ None
      → current ≡ None) (current_ones : AreCurrentAnswers code saved current c) (pages : ArePagesOf code steps saved old) where
    -- the page of a POST, or another
    on_saved : (page : List ℕ) (post : Bool) → WhereTold saved (λ s. (list : List Ask) → asks ≡ Some list → IsPageOf code steps s (its_page page list))
        → under_way ≡ true
        → saved' ≡ (if post then current else saved) → IsRenewedBy post c.masks q.path page asks old new → ArePagesOf code steps saved' new
    on_saved page true made goes e r = subst (λ o. ArePagesOf code steps o new) (sym e) (subst (ArePagesOf code steps current) (sym r)
        (pages_stay code steps saved current c.masks old current_ones.agree (untold goes) pages))
    on_saved page false made goes e r = subst (λ o. ArePagesOf code steps o new) (sym e) (put_told saved page asks old new made r pages)

    on_unsaved : (page : List ℕ) (post : Bool) → WhereTold saved (λ s. (list : List Ask) → asks ≡ Some list → IsPageOf code steps s (its_page page list))
        → saved' ≡ saved → IsRenewedBy post c.masks q.path page asks old new → ArePagesOf code steps saved' new
    on_unsaved page true made e r =
        subst (λ o. ArePagesOf code steps o new) (sym e) (subst (ArePagesOf code steps saved) (sym r) (fewer_pages code steps saved c.masks old pages))
    on_unsaved page false made e r = subst (λ o. ArePagesOf code steps o new) (sym e) (put_told saved page asks old new made r pages)

    as_before : saved' ≡ saved → new ≡ old → ArePagesOf code steps saved' new
    as_before e r = subst (λ o. ArePagesOf code steps o new) (sym e) (subst (ArePagesOf code steps saved) (sym r) pages)

    after_turn : (t : Turn) (r : Reply)
        → WhereTold saved (λ s. OnPage t (λ page. (list : List Ask) → asks ≡ Some list → IsPageOf code steps s (its_page page list)))
        → IsKeeperUndone t saved current under_way → Finishes q close saved current saved' c c' t r → IsRenewed c.masks q t asks old new
        → ArePagesOf code steps saved' new
    after_turn (turn.Page page cookies) (reply.Done own) made u f n = on_saved page (is_post q.method) made u f.1 n
    after_turn (turn.Page page cookies) reply.Keeper made u f n = on_unsaved page (is_post q.method) made f n
    after_turn (turn.Page page cookies) reply.Memory made u f n = on_unsaved page (is_post q.method) made f n
    after_turn (turn.Failed page) (reply.Done own) made u f n = as_before f.1 n
    after_turn (turn.Failed page) reply.Keeper made u f n = as_before f n
    after_turn (turn.Failed page) reply.Memory made u f n = as_before f n
    after_turn turn.More (reply.Done own) made u f n = absurd f
    after_turn turn.More reply.Keeper made u f n = as_before f n
    after_turn turn.More reply.Memory made u f n = as_before f n
    after_turn turn.Keeper (reply.Done own) made u f n = absurd f
    after_turn turn.Keeper reply.Keeper made u f n = as_before f n
    after_turn turn.Keeper reply.Memory made u f n = as_before f n
    after_turn turn.Memory (reply.Done own) made u f n = absurd f
    after_turn turn.Memory reply.Keeper made u f n = as_before f n
    after_turn turn.Memory reply.Memory made u f n = as_before f n

  -- The pages after the answer of a call.
  pub pages_after : (m m' : Machine) (c c₁ c' : Cached) (saved saved₁ current₁ current saved' : Option Tables) (under_way : Bool) (reads reads₁ : ℕ)
      (asks₀ asks : Option (List Ask)) (t : Turn) (r : Reply) (old new : List Remembered)
      → Starts code call q.cookies steps m → current₁ ≡ saved → saved₁ ≡ saved → IsBegin asks₀
      → WhereTold current₁ (λ s. HandledAs sites code m m' (store_of s) current c c₁ reads reads₁ asks₀ asks t) → IsKeeperUndone t saved₁ current under_way
      → (under_way ≡ true → current₁ ≡ None → current ≡ None) → AreCurrentAnswers code saved₁ current c₁
      → Finishes q close saved₁ current saved' c₁ c' t r → IsRenewed c₁.masks q t asks old new → ArePagesOf code steps saved old
      → ArePagesOf code steps saved' new
  pages_after m m' c c₁ c' saved saved₁ current₁ current saved' under_way reads reads₁ asks₀ asks t r old new starts ec es b h u untold n f renewed pages =
      after_turn saved₁ current saved' c₁ c' under_way asks old new (λ g e. untold g (ec ∙ sym es ∙ e)) n
      (subst (λ o. ArePagesOf code steps o old) (sym es) pages) t r
      (subst (λ o. WhereTold o (λ s. OnPage t (λ page. (list : List Ask) → asks ≡ Some list → IsPageOf code steps s (its_page page list)))) (ec ∙ sym es)
      (where_told current₁ _ _ h (λ s e k. worth m m' s current c c₁ reads reads₁ asks₀ asks t starts b k))) u f renewed
