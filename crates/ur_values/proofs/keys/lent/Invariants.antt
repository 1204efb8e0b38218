-- The rows so far are lent.
use Rattle.std.proofs.Common.{◌≡◌, take}
use Rattle.ur_values.specs.Store.{rows_of}
use Rattle.ur_values.specs.KeyOrder.{lent_rows}
use Rattle.ur_values.proofs.keys.lent.Given as goal

abbrev pub invariant-loop-row : goal.invariant-loop-row
invariant-loop-row l = lent_rows l.lent.items ≡ rows_of (take l.row-index l.rows)
