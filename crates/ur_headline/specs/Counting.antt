-- What marks and sessions count up to, and why a run ended as it did.
use Rattle.std.specs.Prelude.{◌≡◌, ◌⊎◌, ℕ, ◌≤◌, ◌==◌, if◌then◌else◌, min, Bool, true, false, List, [], length, Option, Some, sum_by, Any, All, Contains, ⊤}
use Rattle.std.specs.List.{list_any}
use Rattle.ur_io.specs.declared.session.SessionEnd.{SessionEnd}
use Rattle.ur_io.specs.declared.session.Mark.{Mark}
use Rattle.ur_io.specs.declared.session.Mark.TheVariants as mark
use Rattle.ur_io.specs.declared.session.Why.{Why}
use Rattle.ur_io.specs.declared.session.Why.TheVariants.{Wire}
use Rattle.ur_serve.specs.Sessions.{most_requests}
use Rattle.ur_words.specs.declared.reading.Reading.{Reading}
use Rattle.ur_words.specs.declared.reading.Reading.TheVariants.{Replay, Serve}

-- ---- marks

abbrev pub is_keeper : Mark → Bool
is_keeper mark.Keeper = true
is_keeper m = false

-- one for a session that a keeper's fault ended
abbrev pub keeper_fault : SessionEnd → ℕ
keeper_fault s = if list_any is_keeper s.marks then 1 else 0

-- how many sessions a keeper's fault ended: each has one mark Keeper, its last
abbrev pub keeper_faults : List SessionEnd → ℕ
keeper_faults sessions = sum_by keeper_fault sessions

-- how many marks there are
abbrev pub marks_of : List SessionEnd → ℕ
marks_of sessions = sum_by (λ s. length s.marks) sessions

-- ---- faults of the wire

-- a fault of the wire ended the session
abbrev pub IsCutOff : SessionEnd → Type 0
IsCutOff s = s.why ≡ Wire

abbrev pub is_wire : Why → ℕ
is_wire Wire = 1
is_wire why = 0

-- how many sessions a fault of the wire ended
abbrev pub wire_faults : List SessionEnd → ℕ
wire_faults sessions = sum_by (λ s. is_wire s.why) sessions

-- one where `next` failed: status 6 comes of nothing else, but with `replay` of a session that was cut off
abbrev pub next_failed : Option Reading → List SessionEnd → ℕ → ℕ
next_failed (Some (Serve p port s n)) sessions status = if status == 6 then 1 else 0
next_failed (Some (Replay p s)) [] status = if status == 6 then 1 else 0
next_failed reading sessions status = 0

-- where status 6 comes: with `replay` the session was cut off, or `next` failed and there is none
abbrev pub IsWireStatus : Option Reading → List SessionEnd → Type 0
IsWireStatus (Some (Replay p s)) sessions = (sessions ≡ []) ⊎ Any IsCutOff sessions
IsWireStatus (Some (Serve p port s n)) sessions = ⊤
IsWireStatus reading sessions = ⊥

-- ---- what is left out

-- a run's requests are over
abbrev pub HasAllMarks : List SessionEnd → Type 0
HasAllMarks sessions = most_requests ≤ marks_of sessions

-- Every connection up to the number allowed has its session, or there is a cause: the run's last request, or one of these
-- statuses.
abbrev pub LeftOut : List ℕ → ℕ → ℕ → ℕ → List SessionEnd → Type 0
LeftOut causes most connections status sessions =
    (length sessions ≡ min most connections) ⊎ (HasAllMarks sessions ⊎ Contains causes status)

-- memory was wanting for a request
abbrev pub AnyWants : List SessionEnd → Type 0
AnyWants = Any (λ s. Any (λ m. m ≡ mark.Memory) s.marks)

-- every mark is Done
abbrev pub AllDone : List SessionEnd → Type 0
AllDone = All (λ s. All (λ m. m ≡ mark.Done) s.marks)

-- memory was wanting: for the run itself, or for a request
abbrev pub WantsMemory : ℕ → List SessionEnd → Type 0
WantsMemory status sessions = (status ≡ 8) ⊎ AnyWants sessions

-- The run is whole: each connection up to the number allowed has its session, unless the run's requests are over, and every mark
-- is Done.
pub record IsWhole (most connections status : ℕ) (sessions : List SessionEnd) : Type 0 where
  pub done : status ≡ 0
  pub marked : AllDone sessions
  pub all : (length sessions ≡ min most connections) ⊎ HasAllMarks sessions
