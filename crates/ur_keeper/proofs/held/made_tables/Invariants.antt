use Rattle.std.proofs.Common.{◌≡◌, map, take}
use Rattle.ur_keeper.specs.Versions.{no_rows}
use Rattle.ur_keeper.proofs.held.made_tables.Given as goal

abbrev pub invariant-loop-shape : goal.invariant-loop-shape
invariant-loop-shape l = l.tables.items ≡ map (λ _. no_rows) (take l._shape-index l._shape-items)
