use Rattle.std.proofs.Common.{◌≡◌, length, map, bytes_eq}
use Rattle.ur_sqltype.specs.Lists.{repeated}
use Rattle.ur_sqltype.proofs.sqltable_columns.repeated_column.Given as goal

abbrev pub invariant-loop-column : goal.invariant-loop-column
invariant-loop-column l = repeated bytes_eq (map (λ c. c.0) l.columns) ≡ repeated bytes_eq (map (λ c. c.0) l.left)

abbrev pub decreases-loop-column : goal.decreases-loop-column
decreases-loop-column l = length l.left
