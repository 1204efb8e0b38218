-- The fields so far fit.
use Rattle.std.proofs.Common.{take, All}
use Rattle.ur_sql.specs.Typing.{FieldFits}
use Rattle.ur_verify.specs.Scope.{scope}
use Rattle.ur_verify.proofs.queries.fields_fit.Given as goal

abbrev pub invariant-loop-field : goal.invariant-loop-field
invariant-loop-field l = All (FieldFits (scope l.params l.items)) (take l.field-index l.fields)
