-- Constructors that have more nodes than a normal form may have.
use Rattle.std.specs.Prelude.{◌≡◌, ◌<◌, ℕ, List, Some, slice_get}
use Rattle.ur_rows.specs.declared.normal.Normal.{Normal}
use Rattle.ur_rows.specs.Nodes.{most_nodes, nodes}

-- one of them has more
pub record SomeLarge (cons : List Normal) : Type 0 where
  pub place : ℕ
  pub con : Normal
  pub there : slice_get cons place ≡ Some con
  pub more : most_nodes < nodes con
