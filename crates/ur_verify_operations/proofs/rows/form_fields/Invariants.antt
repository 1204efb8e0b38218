-- The fields so far.
use Rattle.std.proofs.Common.{◌≡◌, take, map}
use Rattle.ur_code.specs.RouteTypes.{form_field_type}
use Rattle.ur_verify_operations.specs.Fields.{pair}
use Rattle.ur_verify_operations.proofs.rows.form_fields.Given as goal

abbrev pub invariant-loop-field : goal.invariant-loop-field
invariant-loop-field l = map pair l.fields ≡ map form_field_type (take l.field-index l.form)
