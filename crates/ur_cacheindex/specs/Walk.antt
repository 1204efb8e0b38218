-- A walk along a list.
use Rattle.std.specs.Prelude.{◌≡◌, ℕ, ◌+◌, ◌<◌, ◌≤◌, Bool, true, List, ◌∷◌, ◌++◌, length, sum_by, Some}
use Rattle.std.specs.FinMap.{get, len}
use Rattle.ur_cacheindex.specs.Chains.{lists_number}
use Rattle.ur_cacheindex.specs.declared.node.Mask.{Mask}
use Rattle.ur_cacheindex.specs.declared.node.Node.{Node}
use Rattle.ur_cacheindex.specs.declared.node.NodeId.{NodeId}
use Rattle.ur_cacheindex.specs.declared.heads.Heads.{Heads}
use Rattle.ur_cacheindex.specs.declared.walk.Listed.{Listed}
use Rattle.ur_cacheindex.specs.declared.wanted.Wanted.{Wanted}
use Rattle.ur_values.specs.declared.atom.Atom.{Atom}
use Rattle.ur_cacheindex.specs.Nodes.{Nodes}
use Rattle.ur_cacheindex.specs.Matching.{node_matches}
use Rattle.ur_cacheindex.specs.Calls.{passes, TakesOut, shortest, fixed_lens, site_len, drop_cost}
use Rattle.ur_cacheindex.specs.Moved.{Dropped}
use Rattle.ur_cacheindex.specs.Lists.{head_at, is_on, every}
use Rattle.ur_cacheindex.specs.Linked.{Look, IsListAt}
use Rattle.ur_cacheindex.specs.Wanted.{wanted_site, wanted_count, wanted_fixed, wanted_takes}

-- a list that each node that is looked for is on
pub record Leads (wanted : Wanted) (heads : Heads) (listed : Listed) : Type 0 where
  pub atom : Atom
  pub is : listed.head ≡ head_at heads (wanted_site wanted) listed.slot atom
  pub on : (node : Node) → wanted_takes wanted node ≡ true → is_on (wanted_site wanted) listed.slot atom node ≡ true

-- a list with all that is looked for, which is no longer than the site's or than those at the first fixed positions
pub record IsShortestBelow (wanted : Wanted) (heads : Heads) (positions : ℕ) (best : Listed) : Type 0 where
  pub leads : Leads wanted heads best
  pub site : best.head.len ≤ (head_at heads (wanted_site wanted) 0 every).len
  pub fixed : (p : ℕ) (a : Atom) → p < positions → wanted_fixed wanted p ≡ Some a → best.head.len ≤ (head_at heads (wanted_site wanted) (p + 1) a).len

abbrev pub IsShortest : Wanted → Heads → Listed → Type 0
IsShortest wanted heads = IsShortestBelow wanted heads (wanted_count wanted)

-- one position more
abbrev pub IsShorterAt : Wanted → Heads → ℕ → Listed → Listed → Type 0
IsShorterAt wanted heads position old new = IsShortestBelow wanted heads position old → IsShortestBelow wanted heads (position + 1) new

-- the length of the shortest list that serves
abbrev pub least_len : Nodes → Mask → ℕ
least_len nodes mask = shortest (fixed_lens nodes mask) (site_len nodes mask.site)

-- each node that passes the test has one of these numbers
abbrev pub Covers : (Node → Bool) → Nodes → List ℕ → Type 0
Covers test nodes numbers = (n : ℕ) → passes test (get nodes n) ≡ true → lists_number numbers n ≡ true

-- each list stays or loses n
abbrev pub DropsLists : ℕ → Heads → Look → Heads → Look → Type 0
DropsLists n heads look heads' look' =
    (s k : ℕ) (a : Atom) (front rest : List ℕ) → IsListAt heads look s k a (front ++ n ∷ rest) → (kept : List ℕ) × IsListAt heads' look' s k a (kept ++ rest)

-- the nodes that the mask matches are moved out, but for some of those with the numbers that are left, at a step for
-- each of them besides those that are allowed and those for each node that was moved out
pub record Dropping (mask : Mask) (old : Nodes) (before : Dropped) (allowed : ℕ) (left : List ℕ) (new : Nodes) (after : Dropped) (steps : ℕ) : Type 0 where
  pub dropped : List (NodeId × Node)
  pub items : after.items ≡ before.items ++ dropped
  pub out : TakesOut (node_matches mask) old dropped new
  pub fits : len new ≤ after.spare
  pub sum : after.spare + length after.items ≡ before.spare + length before.items
  pub covers : Covers (node_matches mask) new left
  pub count : steps + length left ≤ allowed + sum_by drop_cost dropped
