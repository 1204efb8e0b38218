-- The fields so far read only these columns.
use Rattle.std.proofs.Common.{take, All}
use Rattle.ur_sql.specs.Typing.{FieldReadsOnly}
use Rattle.ur_verify.proofs.queries.fields_read_only.Given as goal

abbrev pub invariant-loop-field : goal.invariant-loop-field
invariant-loop-field l = All (FieldReadsOnly l.group) (take l.field-index l.fields)
