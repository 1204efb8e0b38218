-- Constructors that have no more nodes than a normal form may have.
use Rattle.std.specs.Prelude.{◌≤◌, ℕ}
use Rattle.std.specs.List.{AllByRecursion}
use Rattle.ur_rows.specs.Nodes.{most_nodes, nodes}
use Rattle.ur_unfold_static.specs.Held.{Held, con_at}
use Rattle.ur_unfold_pieces.specs.declared.opening.Key.{Key}

abbrev pub ConIsSmall : Held → ℕ → Type 0
ConIsSmall held j = nodes (con_at held.cons j) ≤ most_nodes

-- none of its constructors has more
abbrev pub KeyIsSmall : Held → Key → Type 0
KeyIsSmall held key = AllByRecursion (ConIsSmall held) key.cons
