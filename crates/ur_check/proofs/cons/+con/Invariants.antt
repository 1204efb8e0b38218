-- The loops have told the fields so far.
use Rattle.std.proofs.Common.{◌≡◌, ◌++◌, take, flat_map}
use Rattle.ur_tree.specs.FieldNames.{of_field}
use Rattle.ur_check.specs.Parts.{of_record_field}
use Rattle.ur_check.proofs.cons.+con.Given as goal

abbrev pub invariant-row-loop-field : goal.invariant-row-loop-field
invariant-row-loop-field l = l.out ≡ l.initial.out ++ flat_map of_field (take l.field-index l.fields)

abbrev pub invariant-record-loop-field : goal.invariant-record-loop-field
invariant-record-loop-field l = l.out ≡ l.initial.out ++ flat_map of_record_field (take l.field-index l.fields)
