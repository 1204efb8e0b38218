-- From the sessions of code to those of the source that it means.
use Rattle.std.proofs.Common.{◌≡◌, ℕ, suc, ◌+◌, ◌*◌, Bool, List, [], Option, Some, None, length, refl, sym, ap, subst, arith}
use Rattle.std.specs.Prelude.{slice_get, ⊤}
use Rattle.std.proofs.Math.Nat.{mul-suc}
use Rattle.ur_io.specs.declared.session.SessionEnd.{SessionEnd}
use Rattle.ur_values.specs.declared.types.ValueType.TheVariants as ty
use Rattle.ur_values.specs.declared.value.Value.{Value}
use Rattle.ur_values.specs.declared.value.Call.{Call}
use Rattle.ur_values.specs.Store.{Store}
use Rattle.ur_terms.specs.State.{State, Outcome, Done, Error, Spent, Stuck}
use Rattle.ur_terms.specs.Sound.{Comes, NumbersLast}
use Rattle.ur_machine_frames.specs.Plays.{held as state_held}
use Rattle.ur_tags.specs.declared.routes.Handlers.{Handlers}
use Rattle.ur_tags.specs.Paths.{route_path}
use Rattle.ur_tags.proofs.Owning.{names_own}
use Rattle.ur_code.specs.declared.code.Code.{Code}
use Rattle.ur_code.specs.RouteTypes.{IsRequestOf}
use Rattle.ur_code.specs.Fits.{Fits}
use Rattle.ur_code.specs.Sound.{FitsState, IsOf}
use Rattle.ur_code.proofs.Numbers.{fewer_last}
use Rattle.ur_tree.specs.declared.typed.Typed.{Typed}
use Rattle.ur_source.specs.Source.{HandlerMeans}
use Rattle.ur_mono.specs.Mono.{IsMeaningOf}
use Rattle.ur_machine.specs.Cookies.{carried}
use Rattle.ur_machine.proofs.Fitting.{carried_fits}
use Rattle.ur_conditions.specs.declared.patterns.Patterns.{Patterns}
use Rattle.ur_cache.specs.Cached.{Sites}
use Rattle.ur_http.specs.declared.request.Method.{Method}
use Rattle.ur_http.specs.declared.request.Method.TheVariants.{Get, Head, Post, Other}
use Rattle.ur_http.specs.declared.request.HttpRequest.{HttpRequest}
use Rattle.ur_http.specs.Answers.{fixed}
use Rattle.ur_http.specs.Texts.{IsText}
use Rattle.ur_http.proofs.Texts.{begun_text}
use Rattle.ur_serve.specs.Items.{Item, request, bad, Starts, Ends}
use Rattle.ur_serve.specs.Sessions.{Answer}
use Rattle.ur_serve.specs.Programs as sessions
use Rattle.ur_serve.specs.declared.ends.Routed.TheVariants as routing
use Rattle.ur_serve.specs.Replies.{routed, routed_to, routed_at, if_known, handled, ReachesHandler}
use Rattle.ur_serve.specs.Replies as replies
use Rattle.ur_serve.specs.Served.{IsRoutedAs}
use Rattle.ur_serve.specs.Program.{Program, Holding, ServedProgram, ServedAnswers, ServedReaches, Answers, CachedAnswers, kept_store}
use Rattle.ur_serve.specs.Program as serve
use Rattle.ur_serve.proofs.Requests.{request_at, are_bare}
use Rattle.ur_headline.specs.Source.{program_with, sites_with, source_program, AreSessions, AreCachedSessions}
use Rattle.ur_headline.specs.Laws.{IsCodeOfSource, LastsFor, AreServedSessions}
use Rattle.ur_headline.proofs.Carried as along
use Rattle.ur_headline.proofs.Growing.{kept_by, grows}

-- ---- without a cache

-- the same answer without entries and scans
abbrev at_store : Answer Holding → Answer Store
at_store a = record { bytes = a.bytes; closes = a.closes; after = a.after.store }

abbrev as_it_is : Answer Holding → Answer Holding
as_it_is a = record { bytes = a.bytes; closes = a.closes; after = a.after }

module _ (p : Program) (sites : Sites) (capacity : ℕ) where
  abbrev ReplyOn : Holding → Item → Bool → Answer Holding → Type 0
  ReplyOn = sessions.Replies (CachedAnswers p sites capacity) (ReachesHandler p.handlers) (λ h. h.store)

  abbrev ReplyAt : Store → Item → Bool → Answer Store → Type 0
  ReplyAt = sessions.Replies (Answers p) (ReachesHandler p.handlers) (λ store. store)

  abbrev AlsoAt : Holding → Item → Bool → Answer Holding → Type 0
  AlsoAt h i last a = ReplyAt h.store i last (at_store a) × ⊤

  answer_at : (h : Holding) (q : HttpRequest) (last : Bool) (a : Answer Holding) → CachedAnswers p sites capacity h q last a → AlsoAt h (request q) last a
  answer_at h q last _ (replies.away status allowed is) = (replies.away status allowed is, tt)
  answer_at h q last _ (replies.answered call o bytes is means shows) = (replies.answered call o bytes is means shows, tt)

  reply_at : (n : ℕ) (h : Holding) (i : Item) (last : Bool) (a : Answer Holding) → ⊤ → ⊤ → ReplyOn h i last a → AlsoAt h i last a
  reply_at n h (request q) last a good fine x = answer_at h q last a x
  reply_at n h (bad status) last a good fine x = (ap at_store x, tt)

  abbrev ReachOn : Item → Type 0
  ReachOn = sessions.ReachesHandler (CachedAnswers p sites capacity) (ReachesHandler p.handlers) (λ h. h.store)

  abbrev ReachAt : Item → Type 0
  ReachAt = sessions.ReachesHandler (Answers p) (ReachesHandler p.handlers) (λ store. store)

  reaches_too : (i : Item) → ReachOn i → ReachAt i
  reaches_too (request q) x = x
  reaches_too (bad status) x = x

  -- sessions with a cache are sessions without it
  pub without_cache : (start end : Holding) (connections : List (List ℕ)) (done : List SessionEnd) (given : List (List ℕ))
      → serve.AreCachedSessions p sites capacity start connections done given end → serve.AreSessions p start.store connections done given end.store
  without_cache start end connections done given x =
      along.runs Starts Ends ReplyOn ReplyAt ReachOn ReachAt (λ (h : Holding). h.store) (λ (store : Store). store) (fixed 502) (fixed 503) (λ (h : Holding). h.store)
      (λ (n : ℕ) (h : Holding). ⊤) (λ (i : Item). ⊤) (λ bytes i rest starts. tt) reply_at reaches_too (λ s t same. same) (λ n s t same good. tt)
      done 16777216 start connections given end tt x

-- ---- requests

known : (m : Method) (r : replies.Routed) (own : Call) → if_known m r ≡ handled own → r ≡ handled own
known Get r own e = e
known Head r own e = e
known Post r own e = e
known Other r own e = cc

named : (handlers : Handlers) (q : HttpRequest) (o : Option Call) (own : Call) → routed_to handlers q o ≡ handled own
    → (call : Call) × (o ≡ Some call) × (routed_at q call (slice_get handlers.routes call.route) ≡ handled own)
named handlers q None own e = cc
named handlers q (Some call) own e = (call, refl, e)

-- a request that is handled makes a call of a route
pub is_request : (code : Code) (q : HttpRequest) (call : Call) → Fits code → IsText q → routed code.handlers q ≡ handled call → IsRequestOf code.handlers call
is_request code q call fit text e =
    let at = named code.handlers q (route_path code.handlers q.path) call (known q.method (routed_to code.handlers q (route_path code.handlers q.path)) call e) in
    request_at code.handlers q at.0 (routing.Handled call) (names_own code.handlers q.path at.0 at.1) (are_bare code fit) text.forms (is_as at.2)
  where
    is_as : {r : replies.Routed} → r ≡ handled call → IsRoutedAs r (routing.Handled call)
    is_as {r} e = subst (λ z. IsRoutedAs z (routing.Handled call)) (sym e) refl

-- ---- how long a store lasts

pub fewer : (code : Code) (steps n : ℕ) (store : Store) → LastsFor code steps (suc n) store → LastsFor code steps n store
fewer code steps n store h = record {
  fits = h.fits;
  numbers = fewer_last (length code.schema.sequences) (steps * suc n) (steps * n) store (let e = mul-suc steps n in omega (arith, e)) h.numbers;
}

-- ---- the source with a cache

module _ (app : Typed) (code : Code) (patterns : Patterns) (steps capacity : ℕ) (fit : Fits code) (meaning : IsMeaningOf app code) where
  abbrev served : ServedProgram
  served = record { code = code; patterns = patterns; steps = steps; capacity = capacity }

  -- the source with the code's own routes and cookies
  abbrev program : Program
  program = program_with app steps code.handlers code.cookies

  abbrev sites : Sites
  sites = sites_with code.queries patterns

  abbrev Lasts : ℕ → Holding → Type 0
  Lasts n h = LastsFor code steps n h.store

  abbrev Texts : Item → Type 0
  Texts (request q) = IsText q
  Texts (bad status) = ⊤

  begun : (bytes : List ℕ) (i : Item) (rest : List ℕ) → Starts bytes i rest → Texts i
  begun bytes (request q) rest starts = begun_text bytes q rest starts
  begun bytes (bad status) rest starts = tt

  abbrev state : Store → HttpRequest → State
  state store q = state_held (carried code.cookies q.cookies) [] store [] steps

  in_two : (n : ℕ) → steps * suc n ≡ steps + steps * n
  in_two n = let e = mul-suc steps n in omega (arith, e)

  -- the state that a handler begins with
  begins : (n : ℕ) (store : Store) (q : HttpRequest) → LastsFor code steps (suc n) store → FitsState code (state store q)
  begins n store q h = record {
    store = h.fits;
    numbers = fewer_last (length code.schema.sequences) (steps * suc n) steps store (let e = in_two n in omega (arith, e)) h.numbers;
    carried = carried_fits code.cookies q.cookies;
  }

  kept_after : (n : ℕ) (m : Method) (o : Outcome Value) (old : Store) → LastsFor code steps n old
      → Comes (λ x. IsOf code x ty.Page) (λ t. kept_by code fit (steps * n) t.units t.store) (λ x. IsOf code x ty.Xbody) o → LastsFor code steps n (kept_store m o old)
  kept_after n Post (Done x s) old h c = record {
    fits = c.1.0;
    numbers = fewer_last (length code.schema.sequences) (s.units + steps * n) (steps * n) s.store (omega arith) c.1.1;
  }
  kept_after n Post (Error body events) old h c = h
  kept_after n Post (Spent events) old h c = h
  kept_after n Post Stuck old h c = h
  kept_after n Get o old h c = h
  kept_after n Head o old h c = h
  kept_after n Other o old h c = h

  abbrev CodeReplies : Holding → Item → Bool → Answer Holding → Type 0
  CodeReplies = sessions.Replies (ServedAnswers served) (ServedReaches served) (λ h. h.store)

  abbrev CodeReaches : Item → Type 0
  CodeReaches = sessions.ReachesHandler (ServedAnswers served) (ServedReaches served) (λ h. h.store)

  abbrev SourceReplies : Holding → Item → Bool → Answer Holding → Type 0
  SourceReplies = sessions.Replies (CachedAnswers program sites capacity) (ReachesHandler code.handlers) (λ h. h.store)

  abbrev SourceReaches : Item → Type 0
  SourceReaches = sessions.ReachesHandler (CachedAnswers program sites capacity) (ReachesHandler code.handlers) (λ h. h.store)

  abbrev Also : ℕ → Holding → Item → Bool → Answer Holding → Type 0
  Also n h i last a = SourceReplies h i last (as_it_is a) × Lasts n a.after

  answer_means : (n : ℕ) (h : Holding) (q : HttpRequest) (last : Bool) (a : Answer Holding) → Lasts (suc n) h → IsText q → ServedAnswers served h q last a → Also n h (request q) last a
  answer_means n h q last _ lasts text (replies.away status allowed is) = (replies.away status allowed is, fewer code steps n h.store lasts)
  answer_means n h q last _ lasts text (replies.answered call o bytes is means shows) =
      let asks = is_request code q call fit text is in
      let whole = subst (λ k. NumbersLast (length code.schema.sequences) k h.store) (in_two n) lasts.numbers in (
        replies.answered call o bytes is (subst (HandlerMeans app call (state h.store q)) (sym means) (meaning.meaning call (state h.store q) asks (begins n h.store q lasts))) shows,
        kept_after n q.method o h.store (fewer code steps n h.store lasts)
            (subst (Comes (λ x. IsOf code x ty.Page) (λ t. kept_by code fit (steps * n) t.units t.store) (λ x. IsOf code x ty.Xbody)) (sym means)
            (grows code fit (steps * n) call (state h.store q) asks (lasts.fits, whole) (carried_fits code.cookies q.cookies))),
      )

  reply_means : (n : ℕ) (h : Holding) (i : Item) (last : Bool) (a : Answer Holding) → Lasts (suc n) h → Texts i → CodeReplies h i last a → Also n h i last a
  reply_means n h (request q) last a lasts text x = answer_means n h q last a lasts text x
  reply_means n h (bad status) last a lasts text x = (ap as_it_is x, subst (Lasts n) (sym (ap (λ (b : Answer Holding). b.after) x)) (fewer code steps n h.store lasts))

  reaches_as : (i : Item) → CodeReaches i → SourceReaches i
  reaches_as (request q) x = x
  reaches_as (bad status) x = x

  -- the sessions of the code are those of the source
  pub means_source : (start end : Holding) (connections : List (List ℕ)) (done : List SessionEnd) (given : List (List ℕ)) → LastsFor code steps 16777216 start.store
      → AreServedSessions served start connections done given end → serve.AreCachedSessions program sites capacity start connections done given end
  means_source start end connections done given lasts x =
      along.runs Starts Ends CodeReplies SourceReplies CodeReaches SourceReaches (λ (h : Holding). h.store) (λ (h : Holding). h.store) (fixed 502) (fixed 503) (λ (h : Holding). h)
      Lasts Texts begun reply_means reaches_as (λ s t same. same) (λ n s t same h. subst (LastsFor code steps n) (sym same) (fewer code steps n s.store h))
      done 16777216 start connections given end lasts x

-- ---- with the source's own routes, cookies and queries

pub serves_source : (app : Typed) (code : Code) (patterns : Patterns) (steps capacity : ℕ) → IsCodeOfSource app code
    → (start end : Holding) (connections : List (List ℕ)) (done : List SessionEnd) (given : List (List ℕ)) → LastsFor code steps 16777216 start.store
    → AreServedSessions (record { code = code; patterns = patterns; steps = steps; capacity = capacity }) start connections done given end
    → AreCachedSessions app steps patterns capacity start connections done given end × AreSessions app steps start.store connections done given end.store
serves_source app code patterns steps capacity is start end connections done given lasts x =
    let its = means_source app code patterns steps capacity is.fits is.meaning start end connections done given lasts x in
    let cached : AreCachedSessions app steps patterns capacity start connections done given end =
    subst (λ qs. serve.AreCachedSessions (source_program app steps) (sites_with qs patterns) capacity start connections done given end) is.queries
    (subst (λ cs. serve.AreCachedSessions (program_with app steps app.handlers cs) (sites_with code.queries patterns) capacity start connections done given end) is.cookies
    (subst (λ hs. serve.AreCachedSessions (program_with app steps hs code.cookies) (sites_with code.queries patterns) capacity start connections done given end) is.handlers its)) in
    (cached, without_cache (source_program app steps) (sites_with app.queries patterns) capacity start end connections done given cached)
