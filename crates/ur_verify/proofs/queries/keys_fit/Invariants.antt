-- The keys so far have kinds.
use Rattle.std.proofs.Common.{take, All}
use Rattle.ur_sql.specs.Typing.{HasSomeKind}
use Rattle.ur_verify.specs.Scope.{scope}
use Rattle.ur_verify.proofs.queries.keys_fit.Given as goal

abbrev pub invariant-loop-key : goal.invariant-loop-key
invariant-loop-key l = All (λ k. HasSomeKind (scope l.params l.items) k.by) (take l.key-index l.keys)
