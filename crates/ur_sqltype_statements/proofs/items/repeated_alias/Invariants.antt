use Rattle.std.proofs.Common.{◌≡◌, length, map, bytes_eq}
use Rattle.ur_sqltype.specs.Lists.{repeated}
use Rattle.ur_sqltype_statements.proofs.items.repeated_alias.Given as goal

abbrev pub invariant-loop-source : goal.invariant-loop-source
invariant-loop-source l = repeated bytes_eq (map (λ s. s.alias) l.sources) ≡ repeated bytes_eq (map (λ s. s.alias) l.left)

abbrev pub decreases-loop-source : goal.decreases-loop-source
decreases-loop-source l = length l.left
