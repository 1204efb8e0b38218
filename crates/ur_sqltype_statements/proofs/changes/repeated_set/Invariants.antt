use Rattle.std.proofs.Common.{◌≡◌, length, map, nat_eq}
use Rattle.ur_sqltype.specs.Lists.{repeated}
use Rattle.ur_sqltype.specs.Change.{set_number}
use Rattle.ur_sqltype_statements.proofs.changes.repeated_set.Given as goal

abbrev pub invariant-loop-set : goal.invariant-loop-set
invariant-loop-set l = repeated nat_eq (map set_number l.sets) ≡ repeated nat_eq (map set_number l.left)

abbrev pub decreases-loop-set : goal.decreases-loop-set
decreases-loop-set l = length l.left
