use Rattle.std.proofs.Common.{◌≡◌, ◌≤◌, ◌+◌, ◌-◌, ◌^◌, min, drop}
use Rattle.ur_values.specs.Size.{sizes}
use Rattle.ur_cache.proofs.size.rows_size.Given as goal

abbrev pub invariant-loop-row : goal.invariant-loop-row
invariant-loop-row l = (min (l.total + sizes (drop l.row-index l.rows)) (2 ^ 64 - 1) ≡ min (sizes l.rows) (2 ^ 64 - 1)) × (l.total ≤ 2 ^ 64 - 1)
