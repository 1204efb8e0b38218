-- The columns so far are there.
use Rattle.std.proofs.Common.{take, All, IsSome}
use Rattle.ur_verify.specs.Scope.{kind_in}
use Rattle.ur_verify.proofs.queries.columns_are_there.Given as goal

abbrev pub invariant-loop-at : goal.invariant-loop-at
invariant-loop-at l =
    All (λ at. IsSome (kind_in l.items at.item at.column)) (take l.at-index l.columns)
