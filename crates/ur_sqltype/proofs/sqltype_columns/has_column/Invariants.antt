use Rattle.std.proofs.Common.{◌≡◌, drop}
use Rattle.std.specs.List.{list_any}
use Rattle.ur_sqltype.specs.Query.{is_column}
use Rattle.ur_sqltype.proofs.sqltype_columns.has_column.Given as goal

abbrev pub invariant-loop-at : goal.invariant-loop-at
invariant-loop-at l = list_any (is_column l.item l.column) (drop l.at-index l.columns) ≡ list_any (is_column l.item l.column) (l.columns)
