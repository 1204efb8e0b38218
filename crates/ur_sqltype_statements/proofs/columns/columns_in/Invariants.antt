use Rattle.std.proofs.Common.{◌≡◌, drop}
use Rattle.std.specs.List.{flat_map}
use Rattle.ur_sqltype.specs.Lists.{behind, all_of}
use Rattle.ur_sqltype.specs.Query.{column_in, column_form}
use Rattle.ur_sqltype_statements.proofs.columns.columns_in.Given as goal

abbrev pub invariant-loop-i : goal.invariant-loop-i
invariant-loop-i l = all_of (column_in l.within) (flat_map column_form l.items) ≡ behind l.columns (all_of (column_in l.within) (flat_map column_form (drop l.i l.items)))
