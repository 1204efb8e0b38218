-- The server as what answers the requests of sessions.
use Rattle.std.proofs.Common.{◌≡◌, ◌≤◌, ℕ, suc, ◌+◌, ◌*◌, Bool, List, Option, Some, None, refl, sym, ap, subst, ◌∙◌, arith}
use Rattle.std.proofs.Math.Nat.{mul-suc, mul-le-mul_left}
use Rattle.ur_base.specs.Told.{WhereTold, Tells}
use Rattle.ur_values.specs.Store.{Store}
use Rattle.ur_keeper.specs.Tables.{Tables, KeptSchema, NumbersUpTo, store_of}
use Rattle.ur_http.specs.declared.request.HttpRequest.{HttpRequest}
use Rattle.ur_conditions.specs.declared.patterns.Patterns.{Patterns}
use Rattle.ur_cache.specs.Entries.{Entry}
use Rattle.ur_code.specs.declared.code.Code.{Code}
use Rattle.ur_machine.proofs.Told.{where_told, numbers_more}
use Rattle.ur_serve.specs.declared.responder.Reply.{Reply}
use Rattle.ur_serve.specs.declared.responder.Reply.TheVariants as reply
use Rattle.ur_serve.specs.Programs.{IsReply}
use Rattle.ur_serve.specs.Finishing.{IsDone}
use Rattle.ur_serve.specs.Program.{Holding, ServedProgram, ServedAnswers}
use Rattle.ur_serve.specs.Responding.{served_by, holding_of}
use Rattle.ur_serve.specs.Served.{IfDone, UnlessDone}
use Rattle.ur_serve.specs.Serving.{ServerState, IsReady, IsReadyWithin, IsSameServer, GrowBy}

-- ---- how many requests may still be answered

one_more : (steps n : ℕ) → steps * suc n ≡ steps * n + steps
one_more steps n = mul-suc steps n

pub numbers_within : (bound : ℕ) (s : ServerState) (kept : KeptSchema) (under_way : Bool) (saved : Option Tables) (n : ℕ) → IsReadyWithin bound s kept under_way saved n
    → WhereTold saved (NumbersUpTo 9223300000000000000)
numbers_within bound s kept under_way saved n x =
    let room = x.room 0 (omega arith) in
    where_told saved _ _ x.numbers (λ t e h. numbers_more x.most 9223300000000000000 t (omega (arith, room, x.within)) h)

-- a server that was just made may answer 16,777,216 requests
pub ready_at_start : (s : ServerState) (kept : KeptSchema) (under_way : Bool) (saved : Option Tables) (n : ℕ) → IsReady s kept under_way saved → WhereTold saved (NumbersUpTo 4611686018427387904)
    → s.steps ≤ 4294967295 → n ≤ 16777216 → IsReadyWithin 9223300000000000000 s kept under_way saved n
ready_at_start s kept under_way saved n r numbers units few = record {
  ready = r;
  most = 4611686018427387904;
  numbers = numbers;
  room = λ k below. room k (omega (arith, below, few));
  within = omega arith;
}
  where
    room : (k : ℕ) → k ≤ 16777216 → 4611686018427387904 + s.steps * k ≤ 9223300000000000000
    room k below = omega (arith, units, mul-le-mul_left s.steps below)

-- an answer takes the room of one
pub ready_next : (bound : ℕ) (s s' : ServerState) (kept kept' : KeptSchema) (under_way under_way' : Bool) (saved saved' : Option Tables) (n : ℕ) → IsReadyWithin bound s kept under_way saved (suc n)
    → IsReady s' kept' under_way' saved' → GrowBy s.steps saved saved' → IsSameServer s s' → IsReadyWithin bound s' kept' under_way' saved' n
ready_next bound s s' kept kept' under_way under_way' saved saved' n x r grows same = record {
  ready = r;
  most = x.most + s.steps;
  numbers = grows x.most x.numbers;
  room = λ k below. subst (λ j. (x.most + s.steps) + j * k ≤ bound) (sym same.same_steps) (room k (x.room (suc k) (omega (arith, below))));
  within = x.within;
}
  where
    room : (k : ℕ) → x.most + s.steps * suc k ≤ bound → (x.most + s.steps) + s.steps * k ≤ bound
    room k h = omega (arith, subst (λ j. x.most + j ≤ bound) (one_more s.steps k) h)

-- ---- the program

abbrev program : Code → Patterns → ℕ → ℕ → ServedProgram
program code patterns steps capacity = record { code = code; patterns = patterns; steps = steps; capacity = capacity }

pub same_program : (s s' : ServerState) → IsSameServer s s' → served_by s' ≡ served_by s
same_program s s' same =
    ap (λ x. program x s'.patterns s'.steps s'.cache.capacity) same.same_code ∙ ap (λ x. program s.code x s'.steps s'.cache.capacity) same.same_patterns
    ∙ ap (λ x. program s.code s.patterns x s'.cache.capacity) same.same_steps ∙ ap (λ x. program s.code s.patterns s.steps x) same.same_capacity

-- ---- replies

abbrev holding : Store → List Entry → ℕ → Holding
holding store entries reads = record { store = store; entries = entries; reads = reads }

held_as : (h : Holding) (store : Store) (entries : List Entry) (reads : ℕ) → store ≡ h.store → entries ≡ h.entries → reads ≡ h.reads → holding store entries reads ≡ h
held_as h store entries reads a b c = ap (λ x. holding x entries reads) a ∙ ap (λ x. holding h.store x reads) b ∙ ap (λ x. holding h.store h.entries x) c

held_after : (s : ServerState) (reads : ℕ) (h : Holding) (saved : Option Tables) → Tells saved (λ t. store_of t ≡ h.store) → s.cache.entries ≡ h.entries → reads ≡ h.reads
    → holding_of s saved reads ≡ Some h
held_after s reads h None told entries count = absurd told
held_after s reads h (Some t) told entries count = ap (λ (x : Holding). Some x) (held_as h (store_of t) s.cache.entries reads told entries count)

-- a fault leaves the store
store_left : (s : ServerState) (reads : ℕ) (t : Tables) (saved : Option Tables) → saved ≡ Some t → Tells (holding_of s saved reads) (λ h. h.store ≡ store_of t)
store_left s reads t saved e = subst (λ o. Tells (holding_of s o reads) (λ h. h.store ≡ store_of t)) (sym e) refl

pub replied : (s s' : ServerState) (q : HttpRequest) (close : Bool) (reads reads' : ℕ) (saved saved' : Option Tables) (r : Reply)
    → WhereTold saved (λ t. IfDone r (IsDone s.code s.patterns s.steps q close s.cache s'.cache t saved' reads reads')) → UnlessDone r (saved' ≡ saved)
    → WhereTold (holding_of s saved reads) (λ h. IsReply (ServedAnswers (served_by s)) (λ (x : Holding). x.store) h q close r (holding_of s' saved' reads'))
replied s s' q close reads reads' None saved' r done unsaved = tt
replied s s' q close reads reads' (Some t) saved' (reply.Done bytes) (a, answers, is, closes, told, entries, count) unsaved =
    (a, answers, sym is, closes, held_after s' reads' a.after saved' told entries count)
replied s s' q close reads reads' (Some t) saved' reply.Keeper done unsaved = store_left s' reads' t saved' unsaved
replied s s' q close reads reads' (Some t) saved' reply.Memory done unsaved = store_left s' reads' t saved' unsaved
