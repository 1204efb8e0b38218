-- What a request is answered with.
use Rattle.std.proofs.Common.{◌≡◌, ℕ, ◌-◌, ◌≤◌, Bool, true, false, ◌||◌, if◌then◌else◌, List, [], Option, Some, None, refl, sym, ap, subst, ◌∙◌}
use Rattle.std.proofs.Common.{arith, inl, inr}
use Rattle.std.specs.Prelude.{◌⊎◌}
use Rattle.ur_base.specs.Told.{WhereTold, Tells}
use Rattle.ur_values.specs.declared.schema.Schema.{Schema}
use Rattle.ur_values.specs.declared.value.Value.{Value}
use Rattle.ur_values.specs.declared.value.Call.{Call}
use Rattle.ur_values.specs.Event.{Event}
use Rattle.ur_values.specs.Store.{Store}
use Rattle.ur_keeper.specs.Tables.{Tables, KeptSchema, Keeps, NumbersUpTo, store_of}
use Rattle.ur_terms.specs.State.{State, Outcome, Done, Error, Spent}
use Rattle.ur_machine_frames.specs.Plays.{held as state_held}
use Rattle.ur_http.specs.declared.request.Method.{Method}
use Rattle.ur_http.specs.declared.request.Method.TheVariants.{Get, Head, Post, Other}
use Rattle.ur_http.specs.declared.request.HttpRequest.{HttpRequest}
use Rattle.ur_http.specs.Answers.{status_answer}
use Rattle.ur_code.specs.declared.code.Code.{Code}
use Rattle.ur_code.specs.Meaning.{does_code, outcome}
use Rattle.ur_conditions.specs.declared.patterns.Patterns.{Patterns}
use Rattle.ur_cache.specs.declared.cache.Settle.TheVariants.{Rollback}
use Rattle.ur_cache.specs.Entries.{Cached, settled}
use Rattle.ur_cache.specs.Cached.{after_events}
use Rattle.ur_machine.specs.declared.machine.Machine.{Machine}
use Rattle.ur_machine.specs.Cookies.{carried}
use Rattle.ur_machine.specs.Left.{Starts, left}
use Rattle.ur_machine.specs.Answers.{AreSavedAnswers, AreCurrentAnswers, AreEntriesOf, AreAnswersOver, Follows, sites_of, scanned}
use Rattle.ur_machine.proofs.Kept.{kept_at_begin}
use Rattle.ur_machine.specs.declared.turn.Turn.{Turn}
use Rattle.ur_machine.specs.declared.turn.Turn.TheVariants as turn
use Rattle.ur_machine.specs.Ready.{AreReady, RaisedBy}
use Rattle.ur_machine.specs.Turning.{IsKeeperUndone, failed}
use Rattle.ur_machine.proofs.Told.{where_told, told_all, numbers_more, raised_more, raised_none}
use Rattle.ur_serve.specs.declared.responder.Reply.{Reply}
use Rattle.ur_serve.specs.declared.responder.Reply.TheVariants as reply
use Rattle.ur_serve.specs.Replies.{routed, handled, turned_away, is_head, is_post, Shows}
use Rattle.ur_serve.specs.Replies as replies
use Rattle.ur_serve.specs.Program.{held, events_of, settle_of, kept_store}
use Rattle.ur_serve.specs.Ending.{settle_for}
use Rattle.ur_serve.specs.Handling.{HandledAs}
use Rattle.ur_serve.specs.Handling as handling
use Rattle.ur_serve.specs.Finishing.{Finishes, IsDone, IsAnswered}
use Rattle.ur_serve.specs.Served.{IfDone, UnlessDone}
use Rattle.ur_serve.specs.Serving.{ServerState, AreServable, GrowBy}
use Rattle.ur_pages.specs.declared.page.Ask.{Ask}
use Rattle.ur_pages.specs.Pages.{Remembered}
use Rattle.ur_serve.specs.Pages.{ArePagesOf}
use Rattle.ur_serve.proofs.Starting.{starts_call}

-- ---- the begin of a transaction

pub ready_at_begin : (schema : Schema) (units : ℕ) (saved current : Option Tables) → current ≡ saved → units ≤ 4294967295
    → WhereTold saved (AreServable schema) → WhereTold saved (NumbersUpTo 9223300000000000000) → WhereTold current (AreReady schema units)
ready_at_begin schema units saved current same few h n = subst (λ o. WhereTold o (AreReady schema units)) (sym same) (go saved h n)
  where
    go : (o : Option Tables) → WhereTold o (AreServable schema) → WhereTold o (NumbersUpTo 9223300000000000000) → WhereTold o (AreReady schema units)
    go None h n = tt
    go (Some t) h n = record { fits = h.fits; commits = h.commits; numbers = numbers_more 9223300000000000000 (9223372036854775806 - units) t (omega (arith, few)) n }

pub current_at_begin : (code : Code) (saved saved' current' : Option Tables) (c : Cached) → saved' ≡ saved → current' ≡ saved → AreSavedAnswers code saved c → AreCurrentAnswers code saved' current' c
current_at_begin code saved saved' current' c s t h = subst (λ o. AreCurrentAnswers code o current' c) (sym s) (subst (λ o. AreCurrentAnswers code saved o c) (sym t) (kept_at_begin code saved c h))

pub saved_at : (code : Code) (saved saved' : Option Tables) (c : Cached) → saved' ≡ saved → AreSavedAnswers code saved c → AreSavedAnswers code saved' c
saved_at code saved saved' c s h = subst (λ o. AreSavedAnswers code o c) (sym s) h

-- ---- the end of a transaction

module _ (q : HttpRequest) (close : Bool) (saved current saved' : Option Tables) (c c' : Cached) where
  -- what is saved where nothing is answered
  pub unsaved_at : (t : Turn) (r : Reply) → Finishes q close saved current saved' c c' t r → UnlessDone r (saved' ≡ saved)
  unsaved_at t (reply.Done own) h = tt
  unsaved_at turn.More reply.Keeper h = h
  unsaved_at (turn.Page page cookies) reply.Keeper h = h
  unsaved_at (turn.Failed page) reply.Keeper h = h
  unsaved_at turn.Keeper reply.Keeper h = h
  unsaved_at turn.Memory reply.Keeper h = h
  unsaved_at turn.More reply.Memory h = h
  unsaved_at (turn.Page page cookies) reply.Memory h = h
  unsaved_at (turn.Failed page) reply.Memory h = h
  unsaved_at turn.Keeper reply.Memory h = h
  unsaved_at turn.Memory reply.Memory h = h

  -- the saved tables stay, or they are now the current ones of a transaction that was under way
  abbrev pub SavedAs : Bool → Type 0
  SavedAs under_way = (saved' ≡ saved) ⊎ ((saved' ≡ current) × (under_way ≡ true))

  either : (post under_way : Bool) → saved' ≡ (if post then current else saved) → under_way ≡ true → SavedAs under_way
  either true under_way h u = inr (h, u)
  either false under_way h u = inl h

  pub saved_as : (t : Turn) (r : Reply) (before : Option Tables) (under_way : Bool) → IsKeeperUndone t before current under_way → Finishes q close saved current saved' c c' t r → SavedAs under_way
  saved_as (turn.Page page cookies) (reply.Done own) before under_way u h = either (is_post q.method) under_way h.1 u
  saved_as (turn.Failed page) (reply.Done own) before under_way u h = inl h.1
  saved_as turn.More (reply.Done own) before under_way u h = absurd h
  saved_as turn.Keeper (reply.Done own) before under_way u h = absurd h
  saved_as turn.Memory (reply.Done own) before under_way u h = absurd h
  saved_as t reply.Keeper before under_way u h = inl (unsaved_at t reply.Keeper h)
  saved_as t reply.Memory before under_way u h = inl (unsaved_at t reply.Memory h)

-- ---- that the answer is the program's

settle_page : (m : Method) (x : Value) (s : State) → settle_for (is_post m) ≡ settle_of m (Done x s)
settle_page Get x s = refl
settle_page Head x s = refl
settle_page Post x s = refl
settle_page Other x s = refl

settle_failed : (m : Method) (body : Option Value) (events : List Event) → Rollback ≡ settle_of m (failed body events)
settle_failed Get (Some body) events = refl
settle_failed Head (Some body) events = refl
settle_failed Post (Some body) events = refl
settle_failed Other (Some body) events = refl
settle_failed Get None events = refl
settle_failed Head None events = refl
settle_failed Post None events = refl
settle_failed Other None events = refl

store_failed : (m : Method) (body : Option Value) (events : List Event) (old : Store) → old ≡ kept_store m (failed body events) old
store_failed Get (Some body) events old = refl
store_failed Head (Some body) events old = refl
store_failed Post (Some body) events old = refl
store_failed Other (Some body) events old = refl
store_failed Get None events old = refl
store_failed Head None events old = refl
store_failed Post None events old = refl
store_failed Other None events old = refl

tells_at : (o : Option Tables) (u : Tables) (P : Tables → Type 0) → o ≡ Some u → P u → Tells o P
tells_at o u P e h = subst (λ z. Tells z P) (sym e) h

tells_page : (m : Method) (saved' current : Option Tables) (s u : Tables) (x : Value) (st : State) → saved' ≡ (if is_post m then current else Some s) → current ≡ Some u → st.store ≡ store_of u
    → Tells saved' (λ v. store_of v ≡ kept_store m (Done x st) (store_of s))
tells_page Get saved' current s u x st h e f = tells_at saved' s (λ v. store_of v ≡ store_of s) h refl
tells_page Head saved' current s u x st h e f = tells_at saved' s (λ v. store_of v ≡ store_of s) h refl
tells_page Other saved' current s u x st h e f = tells_at saved' s (λ v. store_of v ≡ store_of s) h refl
tells_page Post saved' current s u x st h e f = tells_at saved' u (λ v. store_of v ≡ st.store) (h ∙ e) (sym f)

unmasked : (c : Cached) → c.masks ≡ [] → c ≡ record { capacity = c.capacity; entries = c.entries; masks = [] }
unmasked c e = ap (λ ms. record c { masks = ms }) e

module _ (code : Code) (patterns : Patterns) (steps : ℕ) (q : HttpRequest) (close : Bool) (call : Call) (is_handled : routed code.handlers q ≡ handled call) where
  -- an answer of this outcome
  done_by : (o : Outcome Value) (bytes own : List ℕ) (c c₁ c' : Cached) (s : Tables) (saved' : Option Tables) (reads reads' : ℕ)
      → o ≡ outcome code call (state_held (carried code.cookies q.cookies) [] (store_of s) [] steps)
      → Shows code.handlers code.cookies q (q.close || close) o bytes → own ≡ bytes → c.masks ≡ []
      → Follows (sites_of code patterns) c c₁ reads reads' (events_of o) → c' ≡ settled c₁ (settle_of q.method o)
      → Tells saved' (λ u. store_of u ≡ kept_store q.method o (store_of s))
      → IsDone code patterns steps q close c c' s saved' reads reads' own
  done_by o bytes own c c₁ c' s saved' reads reads' means shows same no_mask follows settles tells = (
    record { bytes = bytes; closes = q.close || close; after = held (sites_of code patterns) c.capacity q o (record { store = store_of s; entries = c.entries; reads = reads }) },
    replies.answered call o bytes is_handled means shows,
    same,
    refl,
    tells,
    ap (λ (z : Cached). z.entries) (settles ∙ ap (λ z. settled z (settle_of q.method o)) (follows.0 ∙ ap (λ z. (after_events (sites_of code patterns) z (events_of o)).list) (unmasked c no_mask))),
    follows.1 ∙ ap (λ n. scanned n reads) (ap (λ z. (after_events (sites_of code patterns) z (events_of o)).scans) (unmasked c no_mask)),
  )

  -- what the last turn says of its answer
  done_at : (m m' : Machine) (c c₁ c' : Cached) (s : Tables) (current saved' : Option Tables) (reads reads' : ℕ) (asks₀ asks : Option (List Ask)) (t : Turn) (r : Reply)
      → left (does_code code) code m (store_of s) [] ≡ outcome code call (state_held (carried code.cookies q.cookies) [] (store_of s) [] steps) → c.masks ≡ []
      → HandledAs (sites_of code patterns) code m m' (store_of s) current c c₁ reads reads' asks₀ asks t → Finishes q close (Some s) current saved' c₁ c' t r
      → IfDone r (IsDone code patterns steps q close c c' s saved' reads reads')
  done_at m m' c c₁ c' s current saved' reads reads' asks₀ asks t reply.Keeper starts no_mask h f = tt
  done_at m m' c c₁ c' s current saved' reads reads' asks₀ asks t reply.Memory starts no_mask h f = tt
  done_at m m' c c₁ c' s current saved' reads reads' asks₀ asks t (reply.Done own) starts no_mask (handling.page x u events after is follows noted) f =
      let st : State = state_held m'.frames.carried m'.frames.sent (store_of u) events m'.frames.units in
      done_by (Done x st) _ own c c₁ c' s saved' reads reads' (sym is ∙ starts) (replies.page x st) f.0 no_mask follows
      (f.2 ∙ ap (settled c₁) (settle_page q.method x st)) (tells_page q.method saved' current s u x st f.1 after refl)
  done_at m m' c c₁ c' s current saved' reads reads' asks₀ asks t (reply.Done own) starts no_mask (handling.failure (Some body) events is follows) f =
      done_by (Error body events) _ own c c₁ c' s saved' reads reads' (sym is ∙ starts) (replies.error body events) f.0 no_mask follows
      (f.2 ∙ ap (settled c₁) (settle_failed q.method (Some body) events)) (tells_at saved' s _ f.1 (store_failed q.method (Some body) events (store_of s)))
  done_at m m' c c₁ c' s current saved' reads reads' asks₀ asks t (reply.Done own) starts no_mask (handling.failure None events is follows) f =
      done_by (Spent events) _ own c c₁ c' s saved' reads reads' (sym is ∙ starts) (replies.spent events) f.0 no_mask follows
      (f.2 ∙ ap (settled c₁) (settle_failed q.method None events)) (tells_at saved' s _ f.1 (store_failed q.method None events (store_of s)))
  done_at m m' c c₁ c' s current saved' reads reads' asks₀ asks t (reply.Done own) starts no_mask handling.keeper f = absurd f
  done_at m m' c c₁ c' s current saved' reads reads' asks₀ asks t (reply.Done own) starts no_mask handling.memory f = absurd f

  done_told : (m m' : Machine) (c c₁ c' : Cached) (saved saved₁ current₁ current saved' : Option Tables) (reads reads₁ reads₂ reads' : ℕ) (asks₀ asks : Option (List Ask)) (t : Turn) (r : Reply)
      → Starts code call q.cookies steps m → c.masks ≡ [] → current₁ ≡ saved → saved₁ ≡ saved → reads₁ ≡ reads → reads' ≡ reads₂
      → WhereTold current₁ (λ s. HandledAs (sites_of code patterns) code m m' (store_of s) current c c₁ reads₁ reads₂ asks₀ asks t) → Finishes q close saved₁ current saved' c₁ c' t r
      → WhereTold saved (λ s. IfDone r (IsDone code patterns steps q close c c' s saved' reads reads'))
  done_told m m' c c₁ c' None saved₁ current₁ current saved' reads reads₁ reads₂ reads' asks₀ asks t r starts no_mask ec es er eq h f = tt
  done_told m m' c c₁ c' (Some s) saved₁ current₁ current saved' reads reads₁ reads₂ reads' asks₀ asks t r starts no_mask ec es er eq h f =
      subst (λ n. IfDone r (IsDone code patterns steps q close c c' s saved' reads n)) (sym eq)
      (done_at m m' c c₁ c' s current saved' reads reads₂ asks₀ asks t r (starts_call code call q.cookies steps m starts (store_of s)) no_mask
      (subst (λ n. HandledAs (sites_of code patterns) code m m' (store_of s) current c c₁ n reads₂ asks₀ asks t) er
      (subst (λ o. WhereTold o (λ z. HandledAs (sites_of code patterns) code m m' (store_of z) current c c₁ reads₁ reads₂ asks₀ asks t)) ec h))
      (subst (λ o. Finishes q close o current saved' c₁ c' t r) es f))

  -- a request whose call was handled
  pub answered_call : (m m' : Machine) (c c₁ c' : Cached) (saved saved₁ current₁ current saved' : Option Tables) (kept₁ kept' : KeptSchema) (under_way under_way' : Bool) (reads reads₁ reads₂ reads' : ℕ) (asks₀ asks : Option (List Ask)) (t : Turn) (r : Reply) (pages' : List Remembered)
      → Starts code call q.cookies steps m → m.frames.units ≡ steps → c.masks ≡ [] → WhereTold saved (AreServable code.schema)
      → current₁ ≡ saved → saved₁ ≡ saved → reads₁ ≡ reads
      → WhereTold current₁ (λ s. HandledAs (sites_of code patterns) code m m' (store_of s) current c c₁ reads₁ reads₂ asks₀ asks t)
      → IsKeeperUndone t saved₁ current under_way → kept₁ ≡ Keeps code.schema → c₁.capacity ≡ c.capacity
      → (under_way ≡ true → WhereTold current (AreReady code.schema m'.frames.units))
      → (under_way ≡ true → RaisedBy (m.frames.units - m'.frames.units) current₁ current)
      → Finishes q close saved₁ current saved' c₁ c' t r
      → AreSavedAnswers code saved' c' → c'.masks ≡ [] → c'.capacity ≡ c₁.capacity → under_way' ≡ false → kept' ≡ kept₁ → reads' ≡ reads₂ → ArePagesOf code steps saved' pages'
      → IsAnswered code patterns steps q close c c' pages' saved saved' kept' under_way' reads reads' r
  answered_call m m' c c₁ c' saved saved₁ current₁ current saved' kept₁ kept' under_way under_way' reads reads₁ reads₂ reads' asks₀ asks t r pages'
      starts units no_mask servable ec es er h undone ek cap₁ ready raised f answers masks cap rest same_kept eq pages = record {
        done = done_told m m' c c₁ c' saved saved₁ current₁ current saved' reads reads₁ reads₂ reads' asks₀ asks t r starts no_mask ec es er eq h f;
        unsaved = still r (unsaved_at q close saved₁ current saved' c₁ c' t r f);
        schema = same_kept ∙ ek;
        at_rest = rest;
        tables = tables ends_so;
        answers = answers;
        no_mask = masks;
        capacity = cap ∙ cap₁;
        growth = growth ends_so;
        pages = pages;
      }
    where
      ends_so : SavedAs q close saved₁ current saved' c₁ c' under_way
      ends_so = saved_as q close saved₁ current saved' c₁ c' t r saved₁ under_way undone f

      still : (r : Reply) → UnlessDone r (saved' ≡ saved₁) → UnlessDone r (saved' ≡ saved)
      still (reply.Done own) h = tt
      still reply.Keeper h = h ∙ es
      still reply.Memory h = h ∙ es

      tables : SavedAs q close saved₁ current saved' c₁ c' under_way → WhereTold saved' (AreServable code.schema)
      tables (inl e) = subst (λ o. WhereTold o (AreServable code.schema)) (sym (e ∙ es)) servable
      tables (inr e) = subst (λ o. WhereTold o (AreServable code.schema)) (sym e.0) (where_told current _ _ (ready e.1) (λ z is p. record { fits = p.fits; commits = p.commits }))

      grown : (n k : ℕ) → m.frames.units ≡ steps → m.frames.units - m'.frames.units ≤ steps
      grown n k e = subst (λ z. z - m'.frames.units ≤ steps) (sym e) (omega arith)

      growth : SavedAs q close saved₁ current saved' c₁ c' under_way → GrowBy steps saved saved'
      growth (inl e) = subst (GrowBy steps saved) (sym (e ∙ es)) (raised_none steps saved)
      growth (inr e) = subst (GrowBy steps saved) (sym e.0) (subst (λ o. RaisedBy steps o current) ec (raised_more (m.frames.units - m'.frames.units) steps current₁ current (grown 0 0 units) (raised e.1)))

-- ---- other answers

-- want of memory leaves the tables
pub answered_memory : (code : Code) (patterns : Patterns) (steps : ℕ) (q : HttpRequest) (close : Bool) (c c' : Cached) (saved saved' : Option Tables) (kept' : KeptSchema) (under_way' : Bool) (reads reads' : ℕ) (pages' : List Remembered)
    → WhereTold saved (AreServable code.schema) → saved' ≡ saved → kept' ≡ Keeps code.schema → under_way' ≡ false → AreSavedAnswers code saved' c' → c'.masks ≡ [] → c'.capacity ≡ c.capacity → ArePagesOf code steps saved pages'
    → IsAnswered code patterns steps q close c c' pages' saved saved' kept' under_way' reads reads' reply.Memory
answered_memory code patterns steps q close c c' saved saved' kept' under_way' reads reads' pages' servable es ek rest answers masks cap pages = record {
  done = told_all saved _ (λ t e. tt);
  unsaved = es;
  schema = ek;
  at_rest = rest;
  tables = subst (λ o. WhereTold o (AreServable code.schema)) (sym es) servable;
  answers = answers;
  no_mask = masks;
  capacity = cap;
  growth = subst (GrowBy steps saved) (sym es) (raised_none steps saved);
  pages = subst (λ o. ArePagesOf code steps o pages') (sym es) pages;
}

-- a request that is turned away
pub answered_away : (code : Code) (patterns : Patterns) (steps : ℕ) (q : HttpRequest) (close : Bool) (c : Cached) (saved : Option Tables) (kept : KeptSchema) (under_way : Bool) (reads status : ℕ) (allowed own : List ℕ) (head closes : Bool) (pages' : List Remembered)
    → routed code.handlers q ≡ turned_away status allowed → head ≡ is_head q.method → closes ≡ (q.close || close) → own ≡ status_answer status allowed head closes
    → WhereTold saved (AreServable code.schema) → kept ≡ Keeps code.schema → under_way ≡ false → AreSavedAnswers code saved c → c.masks ≡ [] → ArePagesOf code steps saved pages'
    → IsAnswered code patterns steps q close c c pages' saved saved kept under_way reads reads (reply.Done own)
answered_away code patterns steps q close c saved kept under_way reads status allowed own head closes pages' is eh el same servable ek rest answers masks pages = record {
  done = told_all saved _ (λ t e. (
    record { bytes = status_answer status allowed (is_head q.method) (q.close || close); closes = q.close || close; after = record { store = store_of t; entries = c.entries; reads = reads } },
    replies.away status allowed is,
    same ∙ whole,
    refl,
    tells_at saved t (λ u. store_of u ≡ store_of t) e refl,
    refl,
    refl,
  ));
  unsaved = tt;
  schema = ek;
  at_rest = rest;
  tables = servable;
  answers = answers;
  no_mask = masks;
  capacity = refl;
  growth = raised_none steps saved;
  pages = pages;
}
  where
    whole : status_answer status allowed head closes ≡ status_answer status allowed (is_head q.method) (q.close || close)
    whole = cc

-- ---- the server

-- what a server and its keeper promise of the entries
pub server_saved : (s : ServerState) (code : Code) (c : Cached) (saved : Option Tables) → AreEntriesOf s.code s.cache.entries → WhereTold saved (λ t. AreAnswersOver s.code (store_of t) s.cache.entries)
    → code ≡ s.code → c ≡ s.cache → AreSavedAnswers code saved c
server_saved s code c saved typed answers same_code same_cache =
    subst (λ z. AreSavedAnswers z saved c) (sym same_code) (subst (AreSavedAnswers s.code saved) (sym same_cache) (record { entries = typed; over_saved = answers }))

-- and of the pages
pub server_pages : (s : ServerState) (code : Code) (saved : Option Tables) → ArePagesOf s.code s.steps saved s.pages → code ≡ s.code → ArePagesOf code s.steps saved s.pages
server_pages s code saved pages same = subst (λ z. ArePagesOf z s.steps saved s.pages) (sym same) pages
