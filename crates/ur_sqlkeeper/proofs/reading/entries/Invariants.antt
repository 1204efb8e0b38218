use Rattle.std.proofs.Common.{take}
use Rattle.ur_sqlkeeper.proofs.Orders.{SoFar}
use Rattle.ur_sqlkeeper.proofs.reading.entries.Given as goal

abbrev pub invariant-loop-row : goal.invariant-loop-row
invariant-loop-row l = SoFar (take l.row-index l.rows) l.found.items l.last
