-- The first ones are changed.
use Rattle.std.proofs.Common.{◌≡◌, ◌++◌, map, take, drop}
use Rattle.ur_keeper.specs.Versions.{committed}
use Rattle.ur_keeper.proofs.held.commit_tables.Given as goal

abbrev pub invariant-loop-i : goal.invariant-loop-i
invariant-loop-i l = l.tables.items ≡ map committed (take l.i l.fn.tables.items) ++ drop l.i l.fn.tables.items
