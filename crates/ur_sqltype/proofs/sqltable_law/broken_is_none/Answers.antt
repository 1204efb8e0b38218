use Rattle.ur_sqltype.proofs.Broken.{broken}
use Rattle.ur_sqltype.proofs.sqltable_law.broken_is_none.Goals as goal

pub returns : goal.returns
returns c = broken
