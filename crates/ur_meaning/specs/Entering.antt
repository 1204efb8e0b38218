-- Room for a node, and a level within it.
use Rattle.std.specs.Prelude.{◌≡◌, ◌<◌, ◌≤◌, ◌+◌, ℕ, suc, Result, Ok, Err}
use Rattle.ur_meaning.specs.declared.halt.Halt.{Halt}
use Rattle.ur_meaning.specs.declared.halt.Halt.TheVariants as halt

abbrev pub Enters : ℕ → ℕ → ℕ → Result ℕ Halt → Type 0
Enters old levels new (Ok l) = (levels ≡ suc l) × (old ≡ suc new)
Enters old levels new (Err halt.Nodes) = old ≡ 0
Enters old levels new (Err halt.Nesting) = levels ≡ 0
Enters old levels new (Err (halt.Instances name)) = ⊥
Enters old levels new (Err halt.Large) = ⊥
Enters old levels new (Err halt.Memory) = ⊥

abbrev pub EntersStuck : ℕ → ℕ → ℕ → Result (Unit {0}) Halt → Type 0
EntersStuck old levels new (Ok done) = (2 ≤ levels) × (old ≡ 4 + new)
EntersStuck old levels new (Err halt.Nodes) = old < 4
EntersStuck old levels new (Err halt.Nesting) = levels < 2
EntersStuck old levels new (Err (halt.Instances name)) = ⊥
EntersStuck old levels new (Err halt.Large) = ⊥
EntersStuck old levels new (Err halt.Memory) = ⊥
