-- Generated requests asked of a server of the notes: what one answer adds, and what all of them come to.
use Rattle.std.proofs.Common.{rules, ◌≡◌, ℕ, ◌+◌, ◌-◌, ◌<◌, ◌≤◌, suc, min, List, [], ◌∷◌, ◌++◌, length, map, All, Option, Some, None, Result, Ok, Err}
use Rattle.std.proofs.Common.{IfOk, OnOk, pos, refl, sym, ap, subst, ◌∙◌, arith, length-append, append-nil}
use Rattle.std.proofs.lemmas.List.Elements.{All-append, All-from_recursion}
use Rattle.ur_io.specs.declared.session.SessionEnd.{SessionEnd}
use Rattle.ur_io.specs.declared.session.Mark.TheVariants as mark
use Rattle.ur_io.specs.Traffic.{Traffic, opened}
use Rattle.ur_io.specs.Memory.{file_of}
use Rattle.ur_values.specs.declared.schema.Schema.{Schema}
use Rattle.ur_values.specs.declared.schema.TableShape.{TableShape}
use Rattle.ur_values.specs.Store.{rows_of, empty_store}
use Rattle.ur_keeper.specs.Tables.{Tables, empty_tables, store_of}
use Rattle.ur_keeper.specs.Memory.{Memory, kept_of}
use Rattle.ur_keeper.specs.Keeper.{AttachesTo}
use Rattle.ur_keeper.specs.declared.keeper.Attached.TheVariants.{Ready}
use Rattle.ur_top.specs.Requests.{next_state, request, requests}
use Rattle.ur_tree.specs.declared.typed.Typed.{Typed}
use Rattle.ur_code.specs.declared.code.Code.{Code}
use Rattle.ur_conditions.specs.declared.patterns.Patterns.{Patterns}
use Rattle.ur_conditions.specs.Patterns.{AreAllPatterns}
use Rattle.ur_serve.specs.Programs.{IsSession}
use Rattle.ur_serve.specs.Program.{Holding, ServedProgram, ServedAnswers, ServedReaches, fresh}
use Rattle.ur_serve.specs.Responding.{served_by}
use Rattle.ur_serve.specs.Serving.{ServerState}
use Rattle.ur_compile.specs.Accepts.{OneApplication}
use Rattle.ur_compile.specs.Kept.{IsCodeFor}
use Rattle.ur_headline.specs.Continuing.{RunsFrom, Continues}
use Rattle.ur_headline.specs.Laws.{IsCodeOfSource, LastsFor, CodeServesSource, SoundTablesLast}
use Rattle.ur_headline.specs.Source.{AreCachedSessions}
use Rattle.ur_headline.proofs.Running.{continues_on}
use Rattle.ur_top.specs.Asking.{held_in, holding_in, IsAnswered, AreAnswered, notes_settings, IsNotesServer, HasScansOf}
use Rattle.ur_top.specs.Loads.{Scans, IsLoadReport}
use Rattle.ur_top.specs.Notes.{notes_list, notes_files, notes_word}
use Rattle.ur_top.specs.Serving.{IsNext}
use Rattle.ur_top.specs.Sources.{OfFiles}
use Rattle.ur_top.specs.Starting.{IsLoadEnd, IsAttachedServer, IsStarted}
use Rattle.ur_top.specs.declared.reporting.RunEnd.{RunEnd}
use Rattle.ur_top.specs.declared.reporting.RunEnd.TheVariants as end
use Rattle.ur_top.proofs.Coded.{started}

-- ---- one request

-- what holds where it is done
pub on_done : {A E : Type 0} {P Q : Type 0} (r : Result A E) → (P → Q) → OnOk r P → OnOk r Q
on_done (Ok a) f h = f h
on_done (Err e) f h = tt

-- The session of the only connection that comes is one on its bytes.
pub answered : (p : ServedProgram) (left : ℕ) (now after : Holding) (t u : Traffic) (bytes : List ℕ) (s : SessionEnd) → t.coming ≡ bytes ∷ [] →
    s.marks ≡ mark.Done ∷ []
    → IsNext p left now t s after u → IsAnswered p left now bytes after
answered p left now after t u bytes s coming one h =
    let first : List ℕ = h.opens.0 in
    let rest : List (List ℕ) = h.opens.1 in
    let is_first : first ≡ bytes = first_is (sym h.opens.2 ∙ coming) in
    let is_left : h.opened.left ≡ bytes = left_is t h.opened first rest h.opens.3 ∙ is_first in
    record {
      session = s;
      given = h.session.0;
      one = one;
      is = subst (λ bs. IsSession (ServedAnswers p) (ServedReaches p) (λ (x : Holding). x.store) (min 1000 left) now bs s h.session.0 after) is_left h.session.3;
    }
  where
    first_is : {x y : List ℕ} {xs ys : List (List ℕ)} → x ∷ xs ≡ y ∷ ys → x ≡ y
    first_is e = cc

    left_is : (t v : Traffic) (first : List ℕ) (rest : List (List ℕ)) → Some v ≡ Some (opened t first rest) → v.left ≡ first
    left_is t v first rest e = let same : v ≡ opened t first rest = cc in ap (λ (x : Traffic). x.left) same

-- ---- requests so far

-- From the start on: the first of these connections have their sessions, and from here the others are to come.
pub record Sofar (p : ServedProgram) (start : Holding) (connections coming : List (List ℕ)) (left : ℕ) (now : Holding) : Type 0 where
  pub sessions : List SessionEnd
  pub given : List (List ℕ)
  pub each : length sessions + length coming ≡ length connections
  pub done : All (λ s. All (λ m. m ≡ mark.Done) s.marks) sessions
  pub goes_on : Continues (ServedAnswers p) (ServedReaches p) (λ (h : Holding). h.store) 16777216 start connections sessions given left now coming

pub sofar_none : (p : ServedProgram) (start : Holding) (connections : List (List ℕ)) → Sofar p start connections connections 16777216 start
sofar_none p start connections = record {
  sessions = [];
  given = [];
  each = omega arith;
  done = search rules;
  goes_on = λ more others after h. h;
}

all_last : (sessions : List SessionEnd) (s : SessionEnd) → All (λ s. All (λ m. m ≡ mark.Done) s.marks) sessions → s.marks ≡ mark.Done ∷ []
    → All (λ s. All (λ m. m ≡ mark.Done) s.marks) (sessions ++ s ∷ [])
all_last sessions s all one =
    All-append (λ (s : SessionEnd). All (λ m. m ≡ mark.Done) s.marks) sessions (s ∷ []) all (All-from_recursion (λ (s : SessionEnd). All (λ m. m ≡ mark.Done) s.marks) (s ∷ [])
    (subst (λ ms. All (λ m. m ≡ mark.Done) ms) (sym one) (All-from_recursion (λ m. m ≡ mark.Done) (mark.Done ∷ []) (refl, tt)), tt))

pub sofar_one : (p : ServedProgram) (start now after : Holding) (connections rest : List (List ℕ)) (bytes : List ℕ) (left : ℕ) → 0 < left →
    Sofar p start connections (bytes ∷ rest) left now
    → IsAnswered p left now bytes after → Sofar p start connections rest (left - 1) after
sofar_one p start now after connections rest bytes left some sofar a = record {
  sessions = sofar.sessions ++ a.session ∷ [];
  given = sofar.given ++ a.given ∷ [];
  each = omega (arith, sofar.each, length-append sofar.sessions (a.session ∷ []));
  done = all_last sofar.sessions a.session sofar.done a.one;
  goes_on = subst (λ n. Continues (ServedAnswers p) (ServedReaches p) (λ (h : Holding). h.store) 16777216 start connections (sofar.sessions ++ a.session ∷ []) (sofar.given ++ a.given ∷ []) (left - n) after rest)
      (ap length a.one)
      (continues_on (ServedAnswers p) (ServedReaches p) (λ (h : Holding). h.store) 16777216 start connections sofar.sessions sofar.given left now bytes rest a.session a.given after some sofar.goes_on a.is);
}

pub sofar_all : (p : ServedProgram) (start now : Holding) (connections : List (List ℕ)) (left : ℕ) → Sofar p start connections [] left now →
    AreAnswered p start connections now.reads
sofar_all p start now connections left sofar = record {
  sessions = sofar.sessions ++ [];
  given = sofar.given ++ [];
  end = now;
  each = omega (arith, sofar.each, length-append {A = SessionEnd} sofar.sessions []);
  done = subst (λ es. All (λ (s : SessionEnd). All (λ m. m ≡ mark.Done) s.marks) es) (sym (append-nil sofar.sessions)) sofar.done;
  served = sofar.goes_on [] [] now (nothing left now);
  count = refl;
}
  where
    nothing : (left : ℕ) (now : Holding) → RunsFrom (ServedAnswers p) (ServedReaches p) (λ (h : Holding). h.store) left now [] [] [] now
    nothing left now = (refl, refl)

-- ---- one request after the other

pub sofar_begins : (s : ServerState) (m : Memory) (n seed : ℕ) → s.cache.entries ≡ []
    → Sofar (served_by s) (fresh (store_of m.saved) m.reads) (requests n seed) (requests (n - 0) seed) 16777216 (holding_in s m)
sofar_begins s m n seed none =
    let all : n ≡ n - 0 = omega arith in
    subst (λ k. Sofar (served_by s) (fresh (store_of m.saved) m.reads) (requests n seed) (requests k seed) 16777216 (holding_in s m)) all
    (subst (λ es. Sofar (served_by s) (fresh (store_of m.saved) m.reads) (requests n seed) (requests n seed) 16777216 (record { store = store_of m.saved; entries = es; reads = m.reads })) (sym none)
    (sofar_none (served_by s) (fresh (store_of m.saved) m.reads) (requests n seed)))

-- the request of the next state is the first of those that are to come
coming : (n turn later state next : ℕ) (bytes : List ℕ) → turn < n → later ≡ turn + 1 → next ≡ next_state state → bytes ≡ request next
    → requests (n - turn) state ≡ bytes ∷ requests (n - later) next
coming n turn later state next bytes below is is_next asked =
    let more : n - turn ≡ suc (n - later) = omega (arith, below, is) in
    ap (λ k. requests k state) more ∙ ap (λ x. request x ∷ requests (n - later) x) (sym is_next) ∙ ap (λ bs. bs ∷ requests (n - later) next) (sym asked)

pub sofar_goes_on : (p : ServedProgram) (start now after : Holding) (connections : List (List ℕ)) (n turn later state next left : ℕ) (bytes : List ℕ) →
    0 < left → turn < n → later ≡ turn + 1
    → next ≡ next_state state → bytes ≡ request next → Sofar p start connections (requests (n - turn) state) left now → IsAnswered p left now bytes after
    → Sofar p start connections (requests (n - later) next) (left - 1) after
sofar_goes_on p start now after connections n turn later state next left bytes some below is is_next asked sofar answered =
    sofar_one p start now after connections (requests (n - later) next) bytes left some
    (subst (λ rest. Sofar p start connections rest left now) (coming n turn later state next bytes below is is_next asked) sofar) answered

pub sofar_ends : (p : ServedProgram) (start now : Holding) (connections : List (List ℕ)) (n turn state left : ℕ) → n ≤ turn →
    Sofar p start connections (requests (n - turn) state) left now
    → AreAnswered p start connections now.reads
sofar_ends p start now connections n turn state left all sofar =
    let none : n - turn ≡ 0 = omega (arith, all) in
    sofar_all p start now connections left (subst (λ k. Sofar p start connections (requests k state) left now) none sofar)

-- ---- a server of the notes

-- the empty tables as a store
empty_rows : (shapes : List TableShape) → map rows_of (map (λ s. []) shapes) ≡ map (λ s. []) shapes
empty_rows [] = refl
empty_rows (s ∷ shapes) = ap (λ ts. [] ∷ ts) (empty_rows shapes)

empty_is : (schema : Schema) → store_of (empty_tables schema) ≡ empty_store schema
empty_is schema = ap (λ ts. record { tables = ts; sequences = map (λ n. pos 1) schema.sequences }) (empty_rows schema.tables)

-- a server of the code of the notes' files is one of the notes
pub if_notes_server : (code : Code) (patterns : Patterns) (cache : ℕ) (old new : Memory) (files : List (List ℕ × List ℕ)) (r : Result ServerState RunEnd) →
    files ≡ notes_list
    → OfFiles (Some (file_of files)) notes_word (λ app. IsCodeFor app code) → AreAllPatterns code.queries code.changes patterns
    → IfOk r (IsAttachedServer code patterns (notes_settings cache) (held_in old) (held_in new) new.under_way) → IfOk r (λ s. (app : Typed) × IsNotesServer app cache old s new)
if_notes_server code patterns cache old new files (Ok s) is of all server =
    let its : IsStarted (Some notes_files) notes_word (notes_settings cache) (held_in old) (held_in new) new.under_way s =
    started (Some notes_files) notes_word code patterns (notes_settings cache) (held_in old) (held_in new) new.under_way s
    (subst (λ fs. OfFiles (Some (file_of fs)) notes_word (λ app. IsCodeFor app code)) is of) all server in
    (its.coded.0, record { accepted = its.coded.1; is_code = its.coded.2; all_patterns = its.patterns; server = its.server })
if_notes_server code patterns cache old new files (Err e) is of all server = tt

-- what such a server has answered are scans of the notes
pub scans_of : CodeServesSource → SoundTablesLast → (app : Typed) (cache : ℕ) (old new : Memory) (s : ServerState) (connections : List (List ℕ)) (reads : ℕ) →
    old.kept ≡ None → new.reads ≡ 0
    → IsNotesServer app cache old s new → AreAnswered (served_by s) (fresh (store_of new.saved) new.reads) connections reads → HasScansOf connections cache reads
scans_of serves lasts app cache old new s connections reads none zero_reads h a =
    let code = s.code in
    let its = h.is_code in
    let source : IsCodeOfSource app code = record {
      routes = h.server.routes;
      handlers = its.handlers;
      cookies = its.cookies;
      schema = its.schema;
      queries = its.queries;
      changes = its.changes;
      fits = its.fits;
      meaning = its.meaning;
    } in
    let saved : new.saved ≡ empty_tables app.schema = took code.schema old new none h.server.attached ∙ ap empty_tables its.schema in
    let start : fresh (store_of new.saved) new.reads ≡ fresh (empty_store app.schema) 0 =
    ap (λ t. fresh (store_of t) new.reads) saved ∙ ap (λ x. fresh x new.reads) (empty_is app.schema) ∙ ap (λ n. fresh (empty_store app.schema) n) zero_reads in
    let steps : s.steps ≡ 100000 = ap (λ (x : ServerState). x.steps) h.server.is in
    let capacity : s.cache.capacity ≡ cache = ap (λ (x : ServerState). x.cache.capacity) h.server.is in
    let last : LastsFor code s.steps 16777216 (store_of new.saved) = lasts code s.steps new.saved (omega (arith, steps)) h.server.sound in
    let both = serves app code s.patterns s.steps s.cache.capacity source (fresh (store_of new.saved) new.reads) a.end connections a.sessions a.given last a.served in
    record {
      app = app;
      accepted = h.accepted;
      coded = record { code = code; is_code = its };
      scans = record {
        patterns = s.patterns;
        all_patterns = subst (λ cs. AreAllPatterns app.queries cs s.patterns) its.changes (subst (λ qs. AreAllPatterns qs code.changes s.patterns) its.queries h.all_patterns);
        sessions = a.sessions;
        given = a.given;
        end = a.end;
        each = a.each;
        done = a.done;
        served = subst (λ n. AreCachedSessions app n s.patterns cache (fresh (empty_store app.schema) 0) connections a.sessions a.given a.end) steps
            (subst (λ n. AreCachedSessions app s.steps s.patterns n (fresh (empty_store app.schema) 0) connections a.sessions a.given a.end) capacity
            (subst (λ x. AreCachedSessions app s.steps s.patterns s.cache.capacity x connections a.sessions a.given a.end) start both.0));
        count = a.count;
      };
    }
  where
    took_at : (schema : Schema) (kept : Option Schema) (saved : Tables) (t : Tables) → kept ≡ None → AttachesTo schema (kept_of kept) Ready (Some saved) (Some t) → t ≡ empty_tables schema
    took_at schema None saved t none is = cc
    took_at schema (Some kept) saved t none is = cc

    took : (schema : Schema) (old new : Memory) → old.kept ≡ None → AttachesTo schema (kept_of old.kept) Ready (Some old.saved) (Some new.saved) → new.saved ≡ empty_tables schema
    took schema old new none is = took_at schema old.kept old.saved new.saved none is

-- ---- the report

-- both counts are of one application
pub report_is : OneApplication → (seed n plain cached : ℕ) → HasScansOf (requests n seed) 0 plain → HasScansOf (requests n seed) 64 cached
    → IsLoadReport seed (record { requests = n; plain = plain; cached = cached })
report_is one seed n plain cached a b = record {
  app = a.app;
  accepted = a.accepted;
  plain = a.scans;
  cached = subst (λ app. Scans app (requests n seed) 64 cached) (one notes_files notes_word b.app a.app b.accepted a.accepted) b.scans;
}

-- how such a run ends
pub load_end : OneApplication → (seed n plain cached : ℕ) → HasScansOf (requests n seed) 0 plain → HasScansOf (requests n seed) 64 cached
    → IsLoadEnd seed n (end.Loaded (record { requests = n; plain = plain; cached = cached }))
load_end one seed n plain cached a b = (refl, report_is one seed n plain cached a b, (a.app, a.accepted, a.coded))
