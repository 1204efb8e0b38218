-- The conditions so far are bools.
use Rattle.std.proofs.Common.{take, All}
use Rattle.ur_values.specs.declared.schema.ColumnKind.TheVariants as kind
use Rattle.ur_sql.specs.Typing.{HasKind}
use Rattle.ur_verify.specs.Scope.{scope}
use Rattle.ur_verify.proofs.queries.are_conditions.Given as goal

abbrev pub invariant-loop-by : goal.invariant-loop-by
invariant-loop-by l = All (λ e. HasKind (scope l.params l.items) e kind.Bool) (take l.by-index l.conditions)
