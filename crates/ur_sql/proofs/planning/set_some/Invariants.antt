use Rattle.std.proofs.Common.{◌≡◌, false, take}
use Rattle.std.specs.List.{list_any}
use Rattle.ur_sql.specs.NewKeys.{is_set}
use Rattle.ur_sql.proofs.planning.set_some.Given as goal

abbrev pub invariant-loop-key : goal.invariant-loop-key
invariant-loop-key l = list_any (list_any (is_set l.sets)) (take l.key-index l.keys) ≡ false
