use Rattle.std.proofs.Common.{◌≡◌, ◌≤◌, ◌+◌, ◌-◌, ◌^◌, min, drop}
use Rattle.ur_values.specs.Atom.{atom_values}
use Rattle.ur_values.specs.Size.{sizes}
use Rattle.ur_cache.proofs.size.key_size.Given as goal

abbrev pub invariant-loop-atom : goal.invariant-loop-atom
invariant-loop-atom l = (min (l.total + sizes (atom_values (drop l.atom-index l.key))) (2 ^ 64 - 1) ≡ min (sizes (atom_values l.key)) (2 ^ 64 - 1)) × (l.total ≤ 2 ^ 64 - 1)
