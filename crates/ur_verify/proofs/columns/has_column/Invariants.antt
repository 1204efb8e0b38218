-- No column so far is the one that is looked for.
use Rattle.std.proofs.Common.{take, Contains}
use Rattle.ur_verify.proofs.columns.has_column.Given as goal

abbrev pub invariant-loop-at : goal.invariant-loop-at
invariant-loop-at l = Contains (take l.at-index l.group) (record { item = l.item; column = l.column }) → ⊥
