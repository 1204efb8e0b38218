-- The nodes that a `map` of a row variable takes where something is put in its place.
use Rattle.std.specs.Prelude.{◌≡◌, ℕ, suc, ◌+◌, ◌≤◌, if◌then◌else◌, Bool, true, false, []}
use Rattle.ur_rows.specs.declared.normal.Var.{Var}
use Rattle.ur_rows.specs.declared.normal.NormalType.{NormalType}
use Rattle.ur_rows.specs.IsNormal.{is_identity}
use Rattle.ur_rows.specs.Nodes.{type_nodes, row_nodes}
use Rattle.ur_rows.specs.Put.{Putting, put_type}

-- the nodes of `map f` of a row variable
abbrev pub mapped_nodes : NormalType → ℕ
mapped_nodes f = if is_identity f then 1 else type_nodes f + 1

-- nothing takes the place of a map of the variable, or else what does has no fewer nodes than the function there
abbrev pub Drops : Putting → ℕ → Var → Bool → Type 0
Drops σ d v true = (f : NormalType) → σ.maps d v f ≡ []
Drops σ d v false = (f : NormalType) → type_nodes (put_type σ (suc d) f) ≤ row_nodes (σ.maps d v (put_type σ (suc d) f))
