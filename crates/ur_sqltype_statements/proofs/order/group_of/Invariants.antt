use Rattle.std.proofs.Common.{◌≡◌, drop}
use Rattle.ur_sqltype.specs.Lists.{behind, all_of}
use Rattle.ur_sqltype.specs.Query.{column_in}
use Rattle.ur_sqltype_statements.proofs.order.group_of.Given as goal

abbrev pub invariant-loop-i : goal.invariant-loop-i
invariant-loop-i l = all_of (column_in l.within) l.columns ≡ behind l.group (all_of (column_in l.within) (drop l.i l.columns))
