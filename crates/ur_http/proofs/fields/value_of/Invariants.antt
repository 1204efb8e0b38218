use Rattle.std.proofs.Common.{take, map}
use Rattle.ur_http.specs.Fields.{values_of}
use Rattle.ur_http.specs.Reading.{field_pair, IsOnly}
use Rattle.ur_http.proofs.fields.value_of.Given as goal

abbrev pub invariant-loop-field : goal.invariant-loop-field
invariant-loop-field l = IsOnly l.found (values_of l.name (map field_pair (take l.field-index l.fields)))
