use Rattle.std.proofs.Common.{◌≡◌, length}
use Rattle.ur_sqltype.specs.Lists.{repeated}
use Rattle.ur_sqltype.specs.Query.{same_column}
use Rattle.ur_sqltype_statements.proofs.columns.repeated_column.Given as goal

abbrev pub invariant-loop-at : goal.invariant-loop-at
invariant-loop-at l = repeated same_column l.columns ≡ repeated same_column l.left

abbrev pub decreases-loop-at : goal.decreases-loop-at
decreases-loop-at l = length l.left
