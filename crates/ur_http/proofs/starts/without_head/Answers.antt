use Rattle.ur_http.specs.Items.{Begins}
use Rattle.ur_http.proofs.starts.without_head.Goals as goal

pub returns-then-bytes-lt-GREATEST_HEAD : goal.returns-then-bytes-lt-GREATEST_HEAD
returns-then-bytes-lt-GREATEST_HEAD c = Begins.no_head c.requires c.if-bytes-lt-GREATEST_HEAD.true

pub returns-else-bytes-lt-GREATEST_HEAD : goal.returns-else-bytes-lt-GREATEST_HEAD
returns-else-bytes-lt-GREATEST_HEAD c = Begins.too_long c.requires c.if-bytes-lt-GREATEST_HEAD.false
