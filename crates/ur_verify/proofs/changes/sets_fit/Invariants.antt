-- The columns so far are there and their values have their kinds.
use Rattle.std.proofs.Common.{take, All}
use Rattle.std.specs.Prelude.{IfSome, IsSome, slice_get}
use Rattle.ur_sql.specs.Typing.{HasKind}
use Rattle.ur_verify.specs.Scope.{scope}
use Rattle.ur_verify.proofs.changes.sets_fit.Given as goal

abbrev pub invariant-loop-set : goal.invariant-loop-set
invariant-loop-set l = All (λ set. IfSome (slice_get l.columns set.0) (HasKind (scope l.params l.items) set.1) × IsSome (slice_get l.columns set.0)) (take l.set-index l.sets)
