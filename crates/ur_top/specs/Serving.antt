-- Connections, served one after the other by a server.
use Rattle.std.specs.Prelude.{◌≡◌, ◌≢◌, ◌⊎◌, ℕ, ◌+◌, ◌<◌, ◌≤◌, min, Bool, true, false, List, [], ◌∷◌, ◌++◌, length, Option, Some, Any, All, ⊤}
use Rattle.ur_base.specs.Counts.{next_count, Rose}
use Rattle.ur_base.specs.Told.{WhereTold, Tells}
use Rattle.ur_io.specs.declared.session.SessionEnd.{SessionEnd}
use Rattle.ur_io.specs.Calls.{count_after}
use Rattle.ur_io.specs.Traffic.{Traffic, Opens}
use Rattle.ur_io.specs.Fronts.{IsFront}
use Rattle.ur_words.specs.Texts as texts
use Rattle.ur_serve.specs.Sessions.{most_requests, most_of_one}
use Rattle.ur_serve.specs.Programs.{IsSessionOn}
use Rattle.ur_serve.specs.Program.{Holding, ServedProgram, ServedAnswers, ServedReaches}
use Rattle.ur_headline.specs.Counting.{wire_faults, marks_of, HasAllMarks, IsCutOff}
use Rattle.ur_top.specs.declared.reporting.RunEnd.{RunEnd}
use Rattle.ur_top.specs.declared.reporting.RunEnd.TheVariants as end
use Rattle.ur_top.specs.declared.next_connection.Next.{Next}
use Rattle.ur_top.specs.declared.next_connection.Next.TheVariants as next

-- ---- one connection

-- P of the session, where there is one
abbrev pub IfServed : Next → (SessionEnd → Type 0) → Type 0
IfServed (next.Served s) P = P s
IfServed (next.Over e) P = ⊤

-- P of how the run ends, where it does
abbrev pub IfOver : Next → (RunEnd → Type 0) → Type 0
IfOver (next.Served s) P = ⊤
IfOver (next.Over e) P = P e

-- The wire's next connection became current, and the session on it is one of what a server holds, by so many answers and no more
-- than a connection has.
pub record IsNext (p : ServedProgram) (left : ℕ) (now : Holding) (t : Traffic) (s : SessionEnd) (after : Holding) (u : Traffic) : Type 0 where
  pub opened : Traffic
  pub opens : Opens t true (Some opened)
  pub session : IsSessionOn (ServedAnswers p) (ServedReaches p) (λ (h : Holding). h.store) (min most_of_one left) now opened s after u

-- the same of what is told before and after, where it is
abbrev pub HasNext : ServedProgram → ℕ → Option Traffic → Option Holding → SessionEnd → Option Traffic → Option Holding → Type 0
HasNext p left told held s told' held' = WhereTold told (λ t. WhereTold held (λ now. Tells told' (λ u. Tells held' (λ after. IsNext p left now t s after u))))

-- one connection was taken
abbrev pub IsTaken : Option Traffic → Option Traffic → Type 0
IsTaken told told' = WhereTold told (λ t. Tells told' (λ u. (first : List ℕ) × (t.coming ≡ first ∷ u.coming)))

-- why no connection is served: none was to come, the wire failed, or memory is wanting
abbrev pub IsOver : Option Traffic → Option Traffic → ℕ → ℕ → Bool → Bool → RunEnd → Type 0
IsOver told told' faults faults' current current' end.Done = (current' ≡ false) × WhereTold told (λ t. (t.coming ≡ []) × (told' ≡ Some t)) × (faults' ≡ faults)
IsOver told told' faults faults' current current' end.Wire = (current' ≡ false) × (told' ≡ told) × (faults' ≡ next_count faults)
IsOver told told' faults faults' current current' end.Memory = (current' ≡ current) × (told' ≡ told) × (faults' ≡ faults)
IsOver told told' faults faults' current current' other = ⊥

-- ---- all of them

-- no more requests than a run and a connection may have
abbrev pub HasFewRequests : List SessionEnd → Type 0
HasFewRequests sessions = (marks_of sessions ≤ most_requests) × All (λ s. length s.marks ≤ most_of_one) sessions

-- Why no connection is served any more: all that were allowed are, the wire failed at `next`, or memory is wanting. The wire's count rose by
-- the sessions that were cut off, and by one more where `next` failed.
abbrev pub ServesOn : ℕ → Option Traffic → ℕ → ℕ → Bool → RunEnd → List SessionEnd → Type 0
ServesOn most told faults faults' current' end.Done sessions =
    (0 < most → current' ≡ false) × WhereTold told (λ t. (length sessions ≡ min most (length t.coming)) ⊎ HasAllMarks sessions) × (faults' ≡ count_after (wire_faults sessions) faults)
ServesOn most told faults faults' current' end.Wire sessions = (length sessions < most) × (current' ≡ false) × (faults' ≡ count_after (wire_faults sessions + 1) faults)
ServesOn most told faults faults' current' end.Memory sessions = (sessions ≢ [] → current' ≡ false) × (faults' ≡ count_after (wire_faults sessions) faults)
ServesOn most told faults faults' current' other sessions = ⊥

-- ---- `replay` and the first line

-- what a replay comes to: a fault of the wire where a session was cut off, else as its serving ended
abbrev pub IsReplayed : RunEnd → List SessionEnd → RunEnd → List SessionEnd → Type 0
IsReplayed e sessions e' sessions' = (sessions' ≡ sessions) × (((e' ≡ end.Wire) × Any IsCutOff sessions) ⊎ ((e' ≡ e) × (Any IsCutOff sessions → ⊥)))

-- why the first line was not printed: the sink failed within it, or memory was wanting before it
abbrev pub IsUnsaid : ℕ → Option (List ℕ) → Option (List ℕ) → ℕ → ℕ → RunEnd → Type 0
IsUnsaid port told told' faults faults' end.Sink = Rose faults faults' × WhereTold told (λ before. (front : List ℕ) × IsFront front (texts.serving_line port) × (told' ≡ Some (before ++ front)))
IsUnsaid port told told' faults faults' end.Memory = (told' ≡ told) × (faults' ≡ faults)
IsUnsaid port told told' faults faults' e = ⊥
