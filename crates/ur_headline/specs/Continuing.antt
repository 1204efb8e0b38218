-- A run so far, connection by connection.
use Rattle.std.specs.Prelude.{◌≡◌, ℕ, Bool, List, ◌++◌, length, drop}
use Rattle.ur_io.specs.declared.session.SessionEnd.{SessionEnd}
use Rattle.ur_io.specs.Traffic.{Traffic}
use Rattle.ur_http.specs.declared.request.HttpRequest.{HttpRequest}
use Rattle.ur_http.specs.Answers.{fixed}
use Rattle.ur_serve.specs.Items.{Starts, Ends}
use Rattle.ur_serve.specs.Sessions.{Answer}
use Rattle.ur_serve.specs.Sessions as sessions
use Rattle.ur_serve.specs.Programs.{Replies, ReachesHandler}

module _ {S T : Type 0} (Answers : S → HttpRequest → Bool → Answer S → Type 0) (Reaches : HttpRequest → Type 0) (kept : S → T) where
  -- sessions on the first connections while so many requests may be answered
  abbrev pub RunsFrom : ℕ → S → List (List ℕ) → List SessionEnd → List (List ℕ) → S → Type 0
  RunsFrom = sessions.RunsFrom Starts Ends (Replies Answers Reaches kept) (ReachesHandler Answers Reaches kept) kept (fixed 502) (fixed 503)

  -- What is a run from here on, with so many requests left, is a run from the start with these sessions and bytes before it.
  abbrev pub Continues : (requests : ℕ) → S → (connections : List (List ℕ)) → List SessionEnd → (given : List (List ℕ)) → (left : ℕ) → S → (coming : List (List ℕ)) → Type 0
  Continues requests start connections done given left now coming =
      (more : List SessionEnd) (others : List (List ℕ)) (after : S) → RunsFrom left now coming more others after
      → RunsFrom requests start connections (done ++ more) (given ++ others) after

  -- A run so far: the wire took as many connections as there are sessions, gave this more on them, and the run goes on from here.
  pub record RunSofar (requests : ℕ) (start : S) (t : Traffic) (done : List SessionEnd) (left : ℕ) (now : S) (u : Traffic) : Type 0 where
    pub given : List (List ℕ)
    pub same_given : u.given ≡ t.given ++ given
    pub same_coming : u.coming ≡ drop (length done) t.coming
    pub continues : Continues requests start t.coming done given left now u.coming
