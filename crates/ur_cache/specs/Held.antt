-- Rows by the numbers of the nodes that they belong to, the most recent first.
use Rattle.std.specs.Prelude.{◌≡◌, ℕ, ◌+◌, ◌-◌, ◌≤◌, Bool, true, not, ◌&&◌, nat_eq, List, [], ◌∷◌, length, map, take, Option, Some, None, is_some}
use Rattle.std.specs.List.{list_any, filter}
use Rattle.std.specs.Map.{remove_entry}
use Rattle.std.specs.FinMap.{get, insert, len}
use Rattle.ur_base.specs.Rooms.{RoomOf}
use Rattle.ur_values.specs.declared.value.Value.{Value}
use Rattle.ur_values.specs.Atom.{atom_values}
use Rattle.ur_cacheindex.specs.declared.node.Mask.{Mask}
use Rattle.ur_cacheindex.specs.declared.node.Node.{Node}
use Rattle.ur_cacheindex.specs.declared.node.NodeId.{NodeId}
use Rattle.ur_cacheindex.specs.Nodes.{Nodes}
use Rattle.ur_cacheindex.specs.Matching.{read_mask}
use Rattle.ur_cacheindex.specs.Calls.{node_is_at}
use Rattle.ur_cache.specs.Entries.{Entry, is_masked}

abbrev pub Rows : Type 0
Rows = List (ℕ × List Value)

-- the entry of a node and its rows
abbrev pub entry_of : Option Node → List Value → Entry
entry_of None rows = record { site = 0; key = []; rows = rows }
entry_of (Some node) rows = record { site = node.site; key = atom_values node.key; rows = rows }

abbrev pub entries_of : Nodes → Rows → List Entry
entries_of nodes = map (λ p. entry_of (get nodes p.0) p.1)

abbrev pub has_number : Rows → ℕ → Bool
has_number held n = list_any (λ p. nat_eq n p.0) held

-- no number stands twice
abbrev pub no_repeat : Rows → Bool
no_repeat [] = true
no_repeat (p ∷ ps) = not (has_number ps p.0) && no_repeat ps

-- each node has its rows, and no two nodes have the same site and key
pub record IsHeld (nodes : Nodes) (held : Rows) : Type 0 where
  pub known : (n : ℕ) → is_some (get nodes n) ≡ has_number held n
  pub single : (m n : ℕ) (x y : Node) → get nodes m ≡ Some x → get nodes n ≡ Some y → node_is_at x.site (atom_values x.key) y ≡ true → m ≡ n
  pub distinct : no_repeat held ≡ true
  pub count : len nodes ≡ length held

-- the entries are at most as many as the capacity, and there is room to move them all out
pub record IsKept (capacity : ℕ) (nodes : Nodes) (held : Rows) (room : RoomOf (NodeId × Node)) : Type 0 where
  pub kept : IsHeld nodes held
  pub fits : length held ≤ capacity
  pub spare : capacity ≤ room.spare
  pub empty : length room.items ≡ 0

-- a node that was not there, with its rows
abbrev pub PutsIn : Node → List Value → Nodes → Rows → Nodes → Rows → Type 0
PutsIn node rows nodes held new_nodes new_held =
    (n : ℕ) × (get nodes n ≡ None) × (new_nodes ≡ insert nodes n node) × (IsHeld nodes held → new_held ≡ (n, rows) ∷ held)

-- rows without those of these numbers
abbrev pub without_all : List (NodeId × Node) → Rows → Rows
without_all [] held = held
without_all (e ∷ es) held = without_all es (remove_entry (nat_eq e.0.number) held)

-- the entries that no mask matches
abbrev pub unmasked : List Mask → List Entry → List Entry
unmasked masks = filter (λ e. not (is_masked (map read_mask masks) e.site e.key))

-- exactly the entries that do not pass the test are dropped
pub record Keeps (keep : Entry → Bool) (nodes : Nodes) (held : Rows) (room : RoomOf (NodeId × Node)) (new_nodes : Nodes) (new_held : Rows) (new_room : RoomOf (NodeId × Node)) : Type 0 where
  pub entries : entries_of new_nodes new_held ≡ filter keep (entries_of nodes held)
  pub kept : IsHeld new_nodes new_held
  pub fewer : length new_held ≤ length held
  pub spare : new_room.spare ≡ room.spare
  pub empty : length new_room.items ≡ 0

-- the masks that are left drop the rest of what all of them drop
pub record DropsSoFar (all left : List Mask) (nodes : Nodes) (held : Rows) (room : RoomOf (NodeId × Node)) (new_nodes : Nodes) (new_held : Rows) (new_room : RoomOf (NodeId × Node)) : Type 0 where
  pub entries : unmasked left (entries_of new_nodes new_held) ≡ unmasked all (entries_of nodes held)
  pub kept : IsHeld new_nodes new_held
  pub fewer : length new_held ≤ length held
  pub spare : new_room.spare ≡ room.spare
  pub empty : length new_room.items ≡ 0

-- the last rows go, with their node
abbrev pub DropsLast : Nodes → Rows → Nodes → Rows → Type 0
DropsLast nodes held new_nodes new_held =
    IsHeld nodes held → IsHeld new_nodes new_held × (entries_of new_nodes new_held ≡ take (length held - 1) (entries_of nodes held)) × (length new_held + 1 ≡ length held)
