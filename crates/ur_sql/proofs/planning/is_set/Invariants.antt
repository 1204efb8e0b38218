use Rattle.std.proofs.Common.{◌≡◌, ◌==◌, false, take}
use Rattle.std.specs.List.{list_any}
use Rattle.ur_sql.proofs.planning.is_set.Given as goal

abbrev pub invariant-loop-set : goal.invariant-loop-set
invariant-loop-set l = list_any (λ set. set.0 == l.column) (take l.set-index l.sets) ≡ false
