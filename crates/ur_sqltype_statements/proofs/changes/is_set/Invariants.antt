use Rattle.std.proofs.Common.{◌≡◌, drop, map, nat_eq}
use Rattle.std.specs.List.{list_any}
use Rattle.ur_sqltype.specs.Change.{set_number}
use Rattle.ur_sqltype_statements.proofs.changes.is_set.Given as goal

abbrev pub invariant-loop-set : goal.invariant-loop-set
invariant-loop-set l = list_any (nat_eq l.column) (map set_number (drop l.set-index l.sets)) ≡ list_any (nat_eq l.column) (map set_number l.sets)
