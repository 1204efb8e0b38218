use Rattle.std.proofs.Common.{All, take}
use Rattle.ur_values.specs.Store.{IsStorable}
use Rattle.ur_sql.specs.Plan.{OfNewRow}
use Rattle.ur_machine.proofs.writes.are_storable.Given as goal

abbrev pub invariant-loop-change : goal.invariant-loop-change
invariant-loop-change l = All (OfNewRow (All IsStorable)) (take l.change-index l.changes)
