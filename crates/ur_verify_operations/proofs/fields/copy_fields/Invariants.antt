-- The fields so far.
use Rattle.std.proofs.Common.{◌≡◌, take}
use Rattle.ur_verify_operations.proofs.fields.copy_fields.Given as goal

abbrev pub invariant-loop-field : goal.invariant-loop-field
invariant-loop-field l = l.copied ≡ take l.field-index l.fields
