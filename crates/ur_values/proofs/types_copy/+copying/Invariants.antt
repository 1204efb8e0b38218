-- The loop has copied the fields so far.
use Rattle.std.proofs.Common.{◌≡◌, take}
use Rattle.ur_values.proofs.types_copy.+copying.Given as goal

abbrev pub invariant-copy_fields-loop-field : goal.invariant-copy_fields-loop-field
invariant-copy_fields-loop-field l = l.copied ≡ take l.field-index l.field-items
