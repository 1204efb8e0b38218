-- The fields so far have these types.
use Rattle.std.proofs.Common.{◌≡◌, take, map, Some}
use Rattle.ur_sql.specs.Typing.{kinds_in}
use Rattle.ur_code.specs.RowType.{all_there, field_type}
use Rattle.ur_verify_operations.specs.Fields.{pair}
use Rattle.ur_verify_operations.proofs.rows.typed_row.Given as goal

abbrev pub invariant-loop-field : goal.invariant-loop-field
invariant-loop-field l = all_there (map (field_type (kinds_in l.query)) (take l.field-index l.field-items)) ≡ Some (map pair l.fields)
