use Rattle.std.proofs.Common.{◌≡◌, map, take}
use Rattle.ur_sqltype_statements.proofs.items.item_of.Given as goal

abbrev pub invariant-loop-column : goal.invariant-loop-column
invariant-loop-column l = l.columns ≡ map (λ c. c.1) (take l.column-index l.column-items)
