-- The first ones are changed.
use Rattle.std.proofs.Common.{◌≡◌, ◌++◌, map, take, drop}
use Rattle.ur_keeper.specs.Versions.{rolled_back}
use Rattle.ur_keeper.proofs.held.roll_back_tables.Given as goal

abbrev pub invariant-loop-i : goal.invariant-loop-i
invariant-loop-i l = l.tables.items ≡ map rolled_back (take l.i l.fn.tables.items) ++ drop l.i l.fn.tables.items
