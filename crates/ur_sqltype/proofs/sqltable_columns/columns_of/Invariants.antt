use Rattle.std.proofs.Common.{◌≡◌, drop}
use Rattle.ur_sqltype.specs.Lists.{behind, all_of}
use Rattle.ur_sqltype.specs.Table.{column_from}
use Rattle.ur_sqltype.proofs.sqltable_columns.columns_of.Given as goal

abbrev pub invariant-loop-i : goal.invariant-loop-i
invariant-loop-i l = all_of column_from l.row ≡ behind l.columns (all_of column_from (drop l.i l.row))
