use Rattle.std.proofs.Common.{◌≡◌, false, take}
use Rattle.std.specs.List.{list_any}
use Rattle.ur_sql.specs.NewKeys.{is_set}
use Rattle.ur_sql.proofs.planning.set_one.Given as goal

abbrev pub invariant-loop-column : goal.invariant-loop-column
invariant-loop-column l = list_any (is_set l.sets) (take l.column-index l.key) ≡ false
