-- What a server has served.
use Rattle.std.specs.Prelude.{◌≡◌, ℕ, List}
use Rattle.ur_io.specs.declared.session.SessionEnd.{SessionEnd}
use Rattle.ur_io.specs.Traffic.{Traffic}
use Rattle.ur_values.specs.Store.{Store}
use Rattle.ur_serve.specs.Program.{Holding, fresh, ServedAnswers, ServedReaches}
use Rattle.ur_serve.specs.Responding.{served_by}
use Rattle.ur_serve.specs.Serving.{ServerState}
use Rattle.ur_serve.specs.Sessions.{most_requests}
use Rattle.ur_headline.specs.Continuing.{RunSofar}

-- The sessions are a run of what the server holds, from a store to a store, the cache being empty at first; so many requests
-- may still be answered.
pub record HasServed (s : ServerState) (store : Store) (reads : ℕ) (t : Traffic) (done : List SessionEnd) (after : Store) (reads' : ℕ) (u : Traffic) : Type 0 where
  pub now : Holding
  pub same_store : now.store ≡ after
  pub same_count : now.reads ≡ reads'
  pub left : ℕ
  pub run : RunSofar (ServedAnswers (served_by s)) (ServedReaches (served_by s)) (λ h. h.store) most_requests (fresh store reads) t done left now u
