-- The fields from here on tell what is found.
use Rattle.std.proofs.Common.{◌≡◌, drop}
use Rattle.ur_verify_operations.specs.Fields.{type_at}
use Rattle.ur_verify_operations.proofs.fields.type_at.Given as goal

abbrev pub invariant-loop-field : goal.invariant-loop-field
invariant-loop-field l = type_at l.name (drop l.field-index l.fields) ≡ type_at l.name l.fields
