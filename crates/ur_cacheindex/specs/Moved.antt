-- What one step of a walk moves out.
use Rattle.std.specs.Prelude.{◌≡◌, ℕ, ◌-◌, false, true, [], ◌∷◌, ◌++◌, Some}
use Rattle.std.specs.FinMap.{get, remove}
use Rattle.ur_base.specs.Rooms.{RoomOf}
use Rattle.ur_cacheindex.specs.declared.node.Mask.{Mask}
use Rattle.ur_cacheindex.specs.declared.node.Node.{Node}
use Rattle.ur_cacheindex.specs.declared.node.NodeId.{NodeId}
use Rattle.ur_cacheindex.specs.Nodes.{Nodes}
use Rattle.ur_cacheindex.specs.Matching.{node_matches}
use Rattle.ur_cacheindex.specs.Calls.{passes}

abbrev pub Dropped : Type 0
Dropped = RoomOf (NodeId × Node)

-- the room with one node more
abbrev pub with_node : Dropped → ℕ → Node → Dropped
with_node room n node = record { items = room.items ++ (record { number = n }, node) ∷ []; spare = room.spare - 1 }

-- the node with this number is moved out where the mask matches it
pub record DropsAt (mask : Mask) (n : ℕ) (old : Nodes) (before : Dropped) (new : Nodes) (after : Dropped) : Type 0 where
  pub kept : passes (node_matches mask) (get old n) ≡ false → (new ≡ old) × (after ≡ before)
  pub taken : passes (node_matches mask) (get old n) ≡ true
      → (node : Node) × (get old n ≡ Some node) × (node_matches mask node ≡ true) × (new ≡ remove old n) × (after ≡ with_node before n node)
