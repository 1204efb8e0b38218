use Rattle.std.proofs.Common.{◌≡◌, drop}
use Rattle.ur_check_scopes.specs.Given.{first_in_fields, first_in_record}
use Rattle.ur_check_scopes.proofs.given.+given.Given as goal

abbrev pub invariant-in_fields-loop-i : goal.invariant-in_fields-loop-i
invariant-in_fields-loop-i l = first_in_fields (drop l.i l.fields) ≡ first_in_fields l.fields

abbrev pub invariant-in_record_fields-loop-i : goal.invariant-in_record_fields-loop-i
invariant-in_record_fields-loop-i l = first_in_record (drop l.i l.fields) ≡ first_in_record l.fields
