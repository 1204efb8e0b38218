use Rattle.ur_http.proofs.Fronts.{old_within}
use Rattle.ur_http.proofs.sought.lines_seen.Goals as goal

pub returns-clause-within : goal.returns-clause-within
returns-clause-within c = rw c.window.ensures.is (old_within c.args.bytes.now c.args.seen)
