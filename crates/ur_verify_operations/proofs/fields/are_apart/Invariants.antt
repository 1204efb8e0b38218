-- The fields from here on tell whether all are apart.
use Rattle.std.proofs.Common.{◌≡◌, drop}
use Rattle.ur_verify_operations.specs.Fields.{are_apart}
use Rattle.ur_verify_operations.proofs.fields.are_apart.Given as goal

abbrev pub invariant-loop-field : goal.invariant-loop-field
invariant-loop-field l = are_apart (drop l.field-index l.fields) l.others ≡ are_apart l.fields l.others
