-- The types so far, with those of the fields that are left, are all.
use Rattle.std.proofs.Common.{◌≡◌, ◌++◌, drop}
use Rattle.ur_unfold_pieces.specs.Reading.{row_field_types}
use Rattle.ur_unfold_pieces.proofs.reading.+reading.Given as goal

abbrev pub invariant-field_types-loop-i : goal.invariant-field_types-loop-i
invariant-field_types-loop-i l = l.fields ++ row_field_types l.names (drop l.i l.parts) ≡ row_field_types l.names l.parts
