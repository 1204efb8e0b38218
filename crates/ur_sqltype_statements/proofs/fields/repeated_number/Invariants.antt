use Rattle.std.proofs.Common.{◌≡◌, length, map, nat_eq}
use Rattle.ur_sqltype.specs.Lists.{repeated}
use Rattle.ur_sqltype.specs.Query.{field_number}
use Rattle.ur_sqltype_statements.proofs.fields.repeated_number.Given as goal

abbrev pub invariant-loop-field : goal.invariant-loop-field
invariant-loop-field l = repeated nat_eq (map field_number l.fields) ≡ repeated nat_eq (map field_number l.left)

abbrev pub decreases-loop-field : goal.decreases-loop-field
decreases-loop-field l = length l.left
