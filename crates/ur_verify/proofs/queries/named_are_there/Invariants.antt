-- The columns so far are there.
use Rattle.std.proofs.Common.{take, All, IsSome}
use Rattle.ur_verify.specs.Scope.{kind_in}
use Rattle.ur_verify.proofs.queries.named_are_there.Given as goal

abbrev pub invariant-loop-column : goal.invariant-loop-column
invariant-loop-column l =
    All (λ c. IsSome (kind_in l.items c.1.item c.1.column)) (take l.column-index l.columns)
