-- What is known shows that the bytes need more.
use Rattle.ur_http.proofs.Buffered.{still_waits}
use Rattle.ur_http.proofs.splitter.found.Goals as goal

pub returns-then-left-length : goal.returns-then-left-length
returns-then-left-length c = still_waits c.args.left.now c.in-Waits.length (rw c.in-Waits.is at c.requires.known) c.if-left-length.true
