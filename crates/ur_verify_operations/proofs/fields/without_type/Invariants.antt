-- The fields so far but the one with the name.
use Rattle.std.proofs.Common.{◌≡◌, take}
use Rattle.ur_verify_operations.specs.Fields.{without_type}
use Rattle.ur_verify_operations.proofs.fields.without_type.Given as goal

abbrev pub invariant-loop-field : goal.invariant-loop-field
invariant-loop-field l = l.kept ≡ without_type l.name (take l.field-index l.fields)
