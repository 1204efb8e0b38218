use Rattle.std.proofs.Common.{All, take}
use Rattle.ur_values.specs.Store.{IsStorable}
use Rattle.ur_machine.proofs.writes.is_storable.Given as goal

abbrev pub invariant-loop-value : goal.invariant-loop-value
invariant-loop-value l = All IsStorable (take l.value-index l.row)
