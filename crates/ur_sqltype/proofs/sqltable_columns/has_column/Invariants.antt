use Rattle.std.proofs.Common.{◌≡◌, drop, map, bytes_eq}
use Rattle.std.specs.List.{list_any}
use Rattle.ur_sqltype.proofs.sqltable_columns.has_column.Given as goal

abbrev pub invariant-loop-column : goal.invariant-loop-column
invariant-loop-column l = list_any (bytes_eq l.name) (map (λ c. c.0) (drop l.column-index l.columns)) ≡ list_any (bytes_eq l.name) (map (λ c. c.0) l.columns)
