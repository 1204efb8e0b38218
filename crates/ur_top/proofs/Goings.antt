-- A run, connection by connection, at what is told.
use Rattle.std.proofs.Common.{◌≡◌, ◌≢◌, ◌⊎◌, inl, inr, ℕ, ◌+◌, ◌-◌, ◌≤◌, ◌<◌, min, Bool, false, List, [], ◌∷◌, ◌++◌, length, All, Option, Some, None}
use Rattle.std.proofs.Common.{refl, sym, ap, subst, ◌∙◌, arith, length-append}
use Rattle.std.proofs.lemmas.List.Elements.{All-append, All-from_recursion}
use Rattle.ur_base.specs.Counts.{next_count, RoseBy}
use Rattle.ur_base.specs.Told.{WhereTold, Tells}
use Rattle.ur_io.specs.declared.session.SessionEnd.{SessionEnd}
use Rattle.ur_io.specs.Calls.{count_after}
use Rattle.ur_io.specs.Traffic.{Traffic}
use Rattle.ur_keeper.specs.Tables.{Tables, KeptSchema, Keeps, store_of}
use Rattle.ur_serve.specs.Program.{Holding, ServedProgram, ServedAnswers, ServedReaches, fresh}
use Rattle.ur_serve.specs.Responding.{served_by, holding_of}
use Rattle.ur_serve.specs.Serving.{ServerState, IsReadyWithin}
use Rattle.ur_headline.specs.Continuing.{RunSofar}
use Rattle.ur_headline.specs.Counting.{is_wire, wire_faults, marks_of, HasAllMarks}
use Rattle.ur_headline.specs.Served.{HasServed}
use Rattle.ur_headline.proofs.Running.{run_begins, run_goes_on}
use Rattle.ur_headline.proofs.Counting.{sum_last, count_sum, count_one}
use Rattle.ur_top.specs.declared.reporting.RunEnd.{RunEnd}
use Rattle.ur_top.specs.declared.reporting.RunEnd.TheVariants as end
use Rattle.ur_top.specs.declared.serving.EndedServing as serving
use Rattle.ur_top.specs.Serving.{HasNext, IsTaken, IsOver, HasFewRequests, ServesOn}

-- ---- how many requests may be answered

-- where more may be answered, fewer may
pub ready_fewer : (bound : ℕ) (s : ServerState) (kept : KeptSchema) (under_way : Bool) (saved : Option Tables) (m n : ℕ) → m ≤ n →
    IsReadyWithin bound s kept under_way saved n
    → IsReadyWithin bound s kept under_way saved m
ready_fewer bound s kept under_way saved m n few h = record {
  ready = h.ready;
  most = h.most;
  numbers = h.numbers;
  room = λ k below. h.room k (omega (arith, below, few));
  within = h.within;
}

-- the keeper's schema is the code's before and after
pub same_kept : (s s' : ServerState) (kept kept' : KeptSchema) → served_by s' ≡ served_by s → kept ≡ Keeps s.code.schema → kept' ≡ Keeps s'.code.schema →
    kept' ≡ kept
same_kept s s' kept kept' same is is' = is' ∙ ap (λ (p : ServedProgram). Keeps p.code.schema) same ∙ sym is

-- ---- the run so far

abbrev pub SoFar : ServedProgram → Option Traffic → Option Tables → ℕ → List SessionEnd → ℕ → Option Traffic → Option Holding → Type 0
SoFar p told saved reads done left told' held' = WhereTold told (λ t. WhereTold saved (λ tables. Tells told' (λ u. Tells held' (λ now.
    RunSofar (ServedAnswers p) (ServedReaches p) (λ (h : Holding). h.store) 16777216 (fresh (store_of tables) reads) t done left now u))))

pub begun : (s : ServerState) (told : Option Traffic) (saved : Option Tables) (reads : ℕ) → s.cache.entries ≡ [] →
    SoFar (served_by s) told saved reads [] 16777216 told (holding_of s saved reads)
begun s None saved reads e = tt
begun s (Some t) None reads e = tt
begun s (Some t) (Some tables) reads e =
    subst (λ es. RunSofar (ServedAnswers (served_by s)) (ServedReaches (served_by s)) (λ (h : Holding). h.store) 16777216 (fresh (store_of tables) reads) t [] 16777216
    (record { store = store_of tables; entries = es; reads = reads }) t) (sym e)
    (run_begins (ServedAnswers (served_by s)) (ServedReaches (served_by s)) (λ (h : Holding). h.store) 16777216 (fresh (store_of tables) reads) t)

pub goes_on : (p : ServedProgram) (told : Option Traffic) (saved : Option Tables) (reads : ℕ) (done : List SessionEnd) (left : ℕ) (told1 told2 : Option Traffic) (held1 held2 : Option Holding) (s : SessionEnd)
    → 0 < left → SoFar p told saved reads done left told1 held1 → HasNext p left told1 held1 s told2 held2
    → SoFar p told saved reads (done ++ s ∷ []) (left - length s.marks) told2 held2
goes_on p None saved reads done left told1 told2 held1 held2 s some sofar next = tt
goes_on p (Some t) None reads done left told1 told2 held1 held2 s some sofar next = tt
goes_on p (Some t) (Some tables) reads done left None told2 held1 held2 s some sofar next = absurd sofar
goes_on p (Some t) (Some tables) reads done left (Some u) told2 None held2 s some sofar next = absurd sofar
goes_on p (Some t) (Some tables) reads done left (Some u) None (Some now) held2 s some sofar next = absurd next
goes_on p (Some t) (Some tables) reads done left (Some u) (Some w) (Some now) None s some sofar next = absurd next
goes_on p (Some t) (Some tables) reads done left (Some u) (Some w) (Some now) (Some after) s some sofar next =
    run_goes_on (ServedAnswers p) (ServedReaches p) (λ (h : Holding). h.store) 16777216 left (fresh (store_of tables) reads) now after t u next.opened w done s some sofar next.opens next.session

-- what ends the run leaves what the wire tells
pub unmoved : (told told' : Option Traffic) (faults faults' : ℕ) (current current' : Bool) (e : RunEnd) →
    IsOver told told' faults faults' current current' e → WhereTold told (λ t. told' ≡ Some t)
unmoved None told' faults faults' current current' e h = tt
unmoved (Some t) told' faults faults' current current' end.Done h = h.1.1
unmoved (Some t) told' faults faults' current current' end.Wire h = h.1
unmoved (Some t) told' faults faults' current current' end.Memory h = h.1
unmoved (Some t) told' faults faults' current current' end.Usage h = absurd h
unmoved (Some t) told' faults faults' current current' end.Shelf h = absurd h
unmoved (Some t) told' faults faults' current current' end.Sink h = absurd h
unmoved (Some t) told' faults faults' current current' end.Keeper h = absurd h
unmoved (Some t) told' faults faults' current current' (end.Checked routes) h = absurd h
unmoved (Some t) told' faults faults' current current' (end.Listed text) h = absurd h
unmoved (Some t) told' faults faults' current current' (end.Loaded report) h = absurd h
unmoved (Some t) told' faults faults' current current' (end.Refused file refusal) h = absurd h
unmoved (Some t) told' faults faults' current current' (end.Schema kept application) h = absurd h

pub stays : (p : ServedProgram) (told : Option Traffic) (saved : Option Tables) (reads : ℕ) (done : List SessionEnd) (left : ℕ) (told1 told2 : Option Traffic) (held1 held2 : Option Holding)
    → SoFar p told saved reads done left told1 held1 → WhereTold told1 (λ t. told2 ≡ Some t) → held2 ≡ held1 → SoFar p told saved reads done left told2 held2
stays p None saved reads done left told1 told2 held1 held2 sofar same is = tt
stays p (Some t) None reads done left told1 told2 held1 held2 sofar same is = tt
stays p (Some t) (Some tables) reads done left None told2 held1 held2 sofar same is = absurd sofar
stays p (Some t) (Some tables) reads done left (Some u) told2 held1 held2 sofar same is =
    subst (λ h. SoFar p (Some t) (Some tables) reads done left told2 h) (sym is) (subst (λ o. SoFar p (Some t) (Some tables) reads done left o held1) (sym same) sofar)

pub has_served : (s s' : ServerState) (told told' : Option Traffic) (saved saved' : Option Tables) (reads reads' left : ℕ) (done : List SessionEnd)
    → SoFar (served_by s) told saved reads done left told' (holding_of s' saved' reads')
    → WhereTold told (λ t. WhereTold saved (λ tables. Tells told' (λ u. Tells saved' (λ after. HasServed s (store_of tables) reads t done (store_of after) reads' u))))
has_served s s' None told' saved saved' reads reads' left done sofar = tt
has_served s s' (Some t) told' None saved' reads reads' left done sofar = tt
has_served s s' (Some t) None (Some tables) saved' reads reads' left done sofar = absurd sofar
has_served s s' (Some t) (Some u) (Some tables) None reads reads' left done sofar = absurd sofar
has_served s s' (Some t) (Some u) (Some tables) (Some after) reads reads' left done sofar = record {
  now = record { store = store_of after; entries = s'.cache.entries; reads = reads' };
  same_store = refl;
  same_count = refl;
  left = left;
  run = sofar;
}

-- the same of the sessions that serving came to
pub has_served_as : (s s' : ServerState) (told told' : Option Traffic) (saved saved' : Option Tables) (reads reads' left : ℕ) (done : List SessionEnd) (e : RunEnd) (r : serving.EndedServing)
    → r ≡ record { end = e; sessions = done } → SoFar (served_by s) told saved reads done left told' (holding_of s' saved' reads')
    → WhereTold told (λ t. WhereTold saved (λ tables. Tells told' (λ u. Tells saved' (λ after. HasServed s (store_of tables) reads t r.sessions (store_of after) reads' u))))
has_served_as s s' told told' saved saved' reads reads' left done e r is sofar =
    subst (λ (x : serving.EndedServing). WhereTold told (λ t. WhereTold saved (λ tables. Tells told' (λ u. Tells saved' (λ after. HasServed s (store_of tables) reads t x.sessions (store_of after) reads' u)))))
    (sym is) (has_served s s' told told' saved saved' reads reads' left done sofar)

-- ---- how many connections are to come

abbrev pub Comes : Option Traffic → ℕ → Option Traffic → Type 0
Comes told n told' = WhereTold told (λ t. Tells told' (λ u. length t.coming ≡ n + length u.coming))

pub none_came : (told : Option Traffic) → Comes told 0 told
none_came None = tt
none_came (Some t) = omega arith

pub one_came : (told told1 told2 : Option Traffic) (done : List SessionEnd) (s : SessionEnd) → Comes told (length done) told1 → IsTaken told1 told2 →
    Comes told (length (done ++ s ∷ [])) told2
one_came None told1 told2 done s comes taken = tt
one_came (Some t) None told2 done s comes taken = absurd comes
one_came (Some t) (Some u) None done s comes taken = absurd taken
one_came (Some t) (Some u) (Some v) done s comes taken = omega (arith, comes, ap length taken.1, length-append done (s ∷ []))

-- ---- how it ends

abbrev All' : ℕ → Option Traffic → List SessionEnd → Type 0
All' most told done = WhereTold told (λ t. (length done ≡ min most (length t.coming)) ⊎ HasAllMarks done)

-- all that were allowed
pub all_allowed : (most : ℕ) (told told' : Option Traffic) (done : List SessionEnd) → most ≤ length done → length done ≤ most →
    Comes told (length done) told' → All' most told done
all_allowed most None told' done le few comes = tt
all_allowed most (Some t) None done le few comes = absurd comes
all_allowed most (Some t) (Some u) done le few comes = inl (omega (arith, le, few, comes))

-- no request may be answered any more
pub all_marks : (most left : ℕ) (told : Option Traffic) (done : List SessionEnd) → left ≤ 0 → 16777216 ≤ left + marks_of done → All' most told done
all_marks most left None done none marks = tt
all_marks most left (Some t) done none marks = inr (omega (arith, none, marks))

-- no connection was to come
pub all_came : (most : ℕ) (told told' : Option Traffic) (done : List SessionEnd) → length done ≤ most → Comes told (length done) told' →
    WhereTold told' (λ t. t.coming ≡ []) → All' most told done
all_came most None told' done few comes none = tt
all_came most (Some t) None done few comes none = absurd comes
all_came most (Some t) (Some u) done few comes none = inl (omega (arith, few, comes, ap length none))

none_coming : (told told' : Option Traffic) → WhereTold told (λ t. (t.coming ≡ []) × (told' ≡ Some t)) → WhereTold told (λ t. t.coming ≡ [])
none_coming None told' h = tt
none_coming (Some t) told' h = h.0

pub serves_on : (most : ℕ) (told told1 told2 : Option Traffic) (faults faults1 faults2 : ℕ) (current1 current2 : Bool) (e : RunEnd) (done : List SessionEnd) →
    length done < most
    → Comes told (length done) told1 → faults1 ≡ count_after (wire_faults done) faults → (done ≢ [] → current1 ≡ false)
    → IsOver told1 told2 faults1 faults2 current1 current2 e → ServesOn most told faults faults2 current2 e done
serves_on most told told1 told2 faults faults1 faults2 current1 current2 end.Done done few comes counted shut h =
    (λ some. h.0, all_came most told told1 done (omega (arith, few)) comes (none_coming told1 told2 h.1), h.2 ∙ counted)
serves_on most told told1 told2 faults faults1 faults2 current1 current2 end.Wire done few comes counted shut h =
    (few, h.0, h.2 ∙ ap next_count counted ∙ count_one (wire_faults done) faults)
serves_on most told told1 told2 faults faults1 faults2 current1 current2 end.Memory done few comes counted shut h = (λ some. h.0 ∙ shut some, h.2 ∙ counted)
serves_on most told told1 told2 faults faults1 faults2 current1 current2 end.Usage done few comes counted shut h = absurd h
serves_on most told told1 told2 faults faults1 faults2 current1 current2 end.Shelf done few comes counted shut h = absurd h
serves_on most told told1 told2 faults faults1 faults2 current1 current2 end.Sink done few comes counted shut h = absurd h
serves_on most told told1 told2 faults faults1 faults2 current1 current2 end.Keeper done few comes counted shut h = absurd h
serves_on most told told1 told2 faults faults1 faults2 current1 current2 (end.Checked routes) done few comes counted shut h = absurd h
serves_on most told told1 told2 faults faults1 faults2 current1 current2 (end.Listed text) done few comes counted shut h = absurd h
serves_on most told told1 told2 faults faults1 faults2 current1 current2 (end.Loaded report) done few comes counted shut h = absurd h
serves_on most told told1 told2 faults faults1 faults2 current1 current2 (end.Refused file refusal) done few comes counted shut h = absurd h
serves_on most told told1 told2 faults faults1 faults2 current1 current2 (end.Schema kept application) done few comes counted shut h = absurd h

-- each one that was allowed has its session
pub serves_all : (most : ℕ) (told told' : Option Traffic) (faults faults' : ℕ) (current : Bool) (done : List SessionEnd) → most ≤ length done →
    length done ≤ most
    → Comes told (length done) told' → (done ≢ [] → current ≡ false) → faults' ≡ count_after (wire_faults done) faults → ServesOn most told faults faults' current end.Done done
serves_all most told told' faults faults' current done le few comes shut counted =
    (λ some. shut (λ e. omega (arith, some, le, ap length e)), all_allowed most told told' done le few comes, counted)

-- no request may be answered any more
pub serves_out : (most left : ℕ) (told : Option Traffic) (faults faults' : ℕ) (current : Bool) (done : List SessionEnd) → left ≤ 0 →
    16777216 ≤ left + marks_of done
    → (done ≢ [] → current ≡ false) → faults' ≡ count_after (wire_faults done) faults → ServesOn most told faults faults' current end.Done done
serves_out most left told faults faults' current done none marks shut counted =
    (λ some. shut (λ e. omega (arith, none, marks, ap marks_of e)), all_marks most left told done none marks, counted)

-- ---- where memory was wanting before a connection was asked for

abbrev pub IsStill : Option Traffic → Option Traffic → ℕ → ℕ → Bool → Bool → Type 0
IsStill told told' faults faults' current current' = (told' ≡ told) × (faults' ≡ faults) × (current' ≡ current)

pub over_wants : (told told' : Option Traffic) (faults faults' : ℕ) (current current' : Bool) (e : RunEnd) →
    IsOver told told' faults faults' current current' e → e ≡ end.Memory
    → IsStill told told' faults faults' current current'
over_wants told told' faults faults' current current' e over is =
    let h = subst (IsOver told told' faults faults' current current') is over in (h.1, h.2, h.0)

pub not_done : (r : serving.EndedServing) (done : List SessionEnd) (A : Type 0) → r ≡ record { end = end.Done; sessions = done } → r.end ≡ end.Memory → A
not_done r done A is wants = absurd (let two : end.Done ≡ end.Memory = sym (ap (λ (x : serving.EndedServing). x.end) is) ∙ wants in cc)

-- how serving ended, of what it came to
pub ends_as : (most : ℕ) (told : Option Traffic) (faults faults' : ℕ) (current : Bool) (done : List SessionEnd) (e : RunEnd) (r : serving.EndedServing) →
    r ≡ record { end = e; sessions = done }
    → ServesOn most told faults faults' current e done → ServesOn most told faults faults' current r.end r.sessions
ends_as most told faults faults' current done e r is h = subst (λ (x : serving.EndedServing). ServesOn most told faults faults' current x.end x.sessions) (sym is) h

-- ---- counts

-- so many faults and then so many more
pub rose_both : (n m old mid new : ℕ) → RoseBy n old mid → RoseBy m mid new → RoseBy (n + m) old new
rose_both n m old mid new h r = grind arith

pub rose_last : (f : SessionEnd → ℕ) (count : List SessionEnd → ℕ) (done : List SessionEnd) (s : SessionEnd) (old mid new : ℕ) →
    count (done ++ s ∷ []) ≡ count done + f s
    → RoseBy (count done) old mid → RoseBy (f s) mid new → RoseBy (count (done ++ s ∷ [])) old new
rose_last f count done s old mid new is h r = subst (λ n. RoseBy n old new) (sym is) (rose_both (count done) (f s) old mid new h r)

-- the wire's count after one session more
pub counted_last : (done : List SessionEnd) (s : SessionEnd) (old mid new : ℕ) → mid ≡ count_after (wire_faults done) old →
    new ≡ count_after (is_wire s.why) mid
    → new ≡ count_after (wire_faults (done ++ s ∷ [])) old
counted_last done s old mid new before last =
    last ∙ ap (count_after (is_wire s.why)) before ∙ sym (count_sum (wire_faults done) (is_wire s.why) old)
    ∙ ap (λ n. count_after n old) (sym (sum_last (λ (x : SessionEnd). is_wire x.why) done s))

-- the run's requests that are left and its marks
pub marks_on : (left : ℕ) (done : List SessionEnd) (s : SessionEnd) → 16777216 ≤ left + marks_of done →
    16777216 ≤ (left - length s.marks) + marks_of (done ++ s ∷ [])
marks_on left done s h = omega (arith, h, sum_last (λ (x : SessionEnd). length x.marks) done s)

-- as many as the run may have
pub marks_less : (left : ℕ) (done : List SessionEnd) (s : SessionEnd) → length s.marks ≤ left → left + marks_of done ≤ 16777216 →
    (left - length s.marks) + marks_of (done ++ s ∷ []) ≤ 16777216
marks_less left done s few h = omega (arith, few, h, sum_last (λ (x : SessionEnd). length x.marks) done s)

pub short_last : (done : List SessionEnd) (s : SessionEnd) → All (λ x. length x.marks ≤ 1000) done → length s.marks ≤ 1000 →
    All (λ x. length x.marks ≤ 1000) (done ++ s ∷ [])
short_last done s all short =
    All-append (λ (x : SessionEnd). length x.marks ≤ 1000) done (s ∷ []) all (All-from_recursion (λ (x : SessionEnd). length x.marks ≤ 1000) (s ∷ []) (short, tt))

pub none_short : All (λ (x : SessionEnd). length x.marks ≤ 1000) []
none_short = All-from_recursion (λ (x : SessionEnd). length x.marks ≤ 1000) [] tt

pub no_requests : HasFewRequests []
no_requests = (omega arith, none_short)

pub few_requests : (left : ℕ) (done : List SessionEnd) (e : RunEnd) (r : serving.EndedServing) → r ≡ record { end = e; sessions = done } →
    left + marks_of done ≤ 16777216
    → All (λ s. length s.marks ≤ 1000) done → HasFewRequests r.sessions
few_requests left done e r is total short = subst (λ (x : serving.EndedServing). HasFewRequests x.sessions) (sym is) (omega (arith, total), short)

-- ---- the beginning

pub same_told : (told : Option Traffic) → WhereTold told (λ t. told ≡ Some t)
same_told None = tt
same_told (Some t) = refl

pub not_none : (done : List SessionEnd) (s : SessionEnd) → done ++ s ∷ [] ≡ [] → ⊥
not_none [] s e = cc
not_none (x ∷ done) s e = cc
