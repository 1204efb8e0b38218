-- The project file's refusal.
use Rattle.std.proofs.Common.{◌≡◌, ℕ, List, subst, rules}
use Rattle.ur_load.specs.Loads.{IsStopIn}
use Rattle.ur_load.proofs.Found.{stop_refused, stop_no_fault}
use Rattle.ur_load.proofs.loading.names_in.Goals as goal

pub returns-in-Err-clause-refused : goal.returns-in-Err-clause-refused
returns-in-Err-clause-refused c = stop_refused (List (List ℕ)) (List (List ℕ)) c.args.file.now c.args.bytes.now c.in-Err.stop c.stopped_in.result c.in-Err.ensures.refused
    (let same : c.as_bytes.result.now ≡ c.args.file.now = search rules in subst (λ z. IsStopIn z c.in-Err.stop c.stopped_in.result) same c.stopped_in.ensures)

pub returns-in-Err-clause-no_shelf : goal.returns-in-Err-clause-no_shelf
returns-in-Err-clause-no_shelf c = stop_no_fault (List (List ℕ)) _ c.as_bytes.result.now c.in-Err.stop c.stopped_in.result c.stopped_in.ensures
