use Rattle.std.proofs.Common.{◌≡◌, drop}
use Rattle.ur_check_rules.specs.Written.{some_of_fields}
use Rattle.ur_check_rules.proofs.lacking.+lacking.Given as goal

abbrev pub invariant-some_lacks_type-loop-i : goal.invariant-some_lacks_type-loop-i
invariant-some_lacks_type-loop-i l = some_of_fields (drop l.i l.fields) ≡ some_of_fields l.fields
