-- A program's sessions, over what it answers to whole requests.
use Rattle.std.specs.Prelude.{◌≡◌, ℕ, Bool, true, false, List, [], Option, Some, ◌||◌}
use Rattle.ur_base.specs.Told.{Tells}
use Rattle.ur_io.specs.declared.session.SessionEnd.{SessionEnd}
use Rattle.ur_io.specs.Traffic.{Traffic, onto_last}
use Rattle.ur_http.specs.declared.request.HttpRequest.{HttpRequest}
use Rattle.ur_http.specs.Answers.{status_answer, fixed}
use Rattle.ur_serve.specs.declared.responder.Reply.{Reply}
use Rattle.ur_serve.specs.declared.responder.Reply.TheVariants as reply
use Rattle.ur_serve.specs.Items.{Item, request, bad, Starts, Ends}
use Rattle.ur_serve.specs.Sessions.{Answer, Session, Runs}

-- `Answers` says what answers a whole request at a state, told whether it is the last that is answered, and `Reaches` which
-- requests reach a handler.
module _ {S T : Type 0} (Answers : S → HttpRequest → Bool → Answer S → Type 0) (Reaches : HttpRequest → Type 0) (kept : S → T) where
  -- the answer to an item: bytes that are refused are answered with the status's own page, which closes
  abbrev pub Replies : S → Item → Bool → Answer S → Type 0
  Replies state (request q) last answer = Answers state q last answer
  Replies state (bad status) last answer = answer ≡ record { bytes = status_answer status [] false true; closes = true; after = state }

  abbrev pub ReachesHandler : Item → Type 0
  ReachesHandler (request q) = Reaches q
  ReachesHandler (bad status) = ⊥

  -- a session, and a run's sessions
  abbrev pub IsSession : ℕ → S → List ℕ → SessionEnd → List ℕ → S → Type 0
  IsSession = Session Starts Ends Replies ReachesHandler kept (fixed 502) (fixed 503)

  abbrev pub AreSessions : S → List (List ℕ) → List SessionEnd → List (List ℕ) → S → Type 0
  AreSessions = Runs Starts Ends Replies ReachesHandler kept (fixed 502) (fixed 503)

  -- the same on a wire that tells: these bytes were given, and no connection was taken
  abbrev pub IsSessionOn : ℕ → S → Traffic → SessionEnd → S → Traffic → Type 0
  IsSessionOn most state t s after u = (given : List ℕ) × (u.given ≡ onto_last t.given given) × (u.coming ≡ t.coming)
      × IsSession most state t.left s given after

-- a reply that is the program's is this answer, and any other leaves what is kept
abbrev pub IsReply : {S T : Type 0} → (S → HttpRequest → Bool → Answer S → Type 0) → (S → T) → S → HttpRequest → Bool → Reply → Option S → Type 0
IsReply Answers kept state q last (reply.Done bytes) after =
    (a : Answer _) × Answers state q last a × (a.bytes ≡ bytes) × (a.closes ≡ (q.close || last)) × (after ≡ Some a.after)
IsReply Answers kept state q last other after = Tells after (λ now. kept now ≡ kept state)
