-- The loop has written the fields so far.
use Rattle.std.proofs.Common.{◌≡◌, ◌++◌, take}
use Rattle.ur_values.specs.Texts.{fields_text}
use Rattle.ur_values.proofs.types_text.+writing.Given as goal

abbrev pub invariant-write_fields-loop-field : goal.invariant-write_fields-loop-field
invariant-write_fields-loop-field l = l.out ≡ l.initial.out ++ fields_text l.names (take l.field-index l.field-items)
