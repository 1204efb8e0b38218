-- Nodes with their links, and the lists that the links make.
use Rattle.std.specs.Prelude.{◌≡◌, ◌≢◌, ℕ, ◌+◌, ◌-◌, Bool, true, false, ◌&&◌, cond, nat_lt, List, ◌∷◌, length, map, Option, Some, None, option_map, IsSome, slice_index_or, slice_set}
use Rattle.std.specs.FinMap.{get, entries, from_sorted}
use Rattle.ur_cacheindex.specs.Items.{Items}
use Rattle.ur_values.specs.declared.atom.Atom.{Atom}
use Rattle.ur_cacheindex.specs.Chains.{same_number, lists_number, without, Links, IsChain}
use Rattle.ur_cacheindex.specs.declared.node.Node.{Node}
use Rattle.ur_cacheindex.specs.declared.linked.Link.{Link}
use Rattle.ur_cacheindex.specs.declared.linked.Linked.{Linked}
use Rattle.ur_cacheindex.specs.declared.heads.Head.{Head}
use Rattle.ur_cacheindex.specs.declared.heads.Heads.{Heads}
use Rattle.ur_cacheindex.specs.Nodes.{Nodes}
use Rattle.ur_cacheindex.specs.Lists.{same_place, same_atom, kept_at, head_at, atom_at, is_on_below, slots_of, KeptBelow, AreFilledBut}

abbrev pub Store : Type 0
Store = Items Linked

-- the nodes without their links
abbrev pub nodes_of : Store → Nodes
nodes_of store = from_sorted (map (λ e. (e.0, e.1.node)) (entries store))

-- what stands at each number
abbrev pub Look : Type 0
Look = ℕ → Option Linked

abbrev pub look_at : Store → Look
look_at store n = get store n

-- with one more, which is held elsewhere
abbrev pub beside : Look → ℕ → Linked → Look
beside look n held m = cond (same_number n m) (Some held) (look m)

abbrev pub stands : (Linked → Bool) → Option Linked → Bool
stands test None = false
stands test (Some x) = test x

abbrev pub has_slot : ℕ → Linked → Bool
has_slot slot x = nat_lt slot (length x.links)

-- on the list by a slot that it has a link of
abbrev pub is_there : ℕ → ℕ → Atom → Linked → Bool
is_there site slot a x = is_on_below (length x.links) site slot a x.node

-- ---- links

abbrev pub no_link : Link
no_link = record { prev = None; next = None }

abbrev pub link_of : Linked → ℕ → Link
link_of x slot = slice_index_or x.links slot no_link

abbrev pub link_in : Option Linked → ℕ → Link
link_in None slot = no_link
link_in (Some x) slot = link_of x slot

abbrev pub links_of : Look → ℕ → Links
links_of look slot = record { next = λ m. (link_in (look m) slot).next; prev = λ m. (link_in (look m) slot).prev }

abbrev pub relinked : ℕ → Link → Linked → Linked
relinked slot link x = record { node = x.node; links = slice_set x.links slot link }

abbrev pub with_next : ℕ → Option ℕ → Linked → Linked
with_next slot next x = relinked slot (record { prev = (link_of x slot).prev; next = next }) x

abbrev pub with_prev : ℕ → Option ℕ → Linked → Linked
with_prev slot prev x = relinked slot (record { prev = prev; next = (link_of x slot).next }) x

abbrev pub is_number : Option ℕ → ℕ → Bool
is_number None m = false
is_number (Some n) m = same_number n m

-- there is a link of this slot at the number, if there is a number
abbrev pub CanLink : Option ℕ → ℕ → Look → Type 0
CanLink at slot look = (m : ℕ) → at ≡ Some m → stands (has_slot slot) (look m) ≡ true

abbrev pub SetsNext : Option ℕ → ℕ → Option ℕ → Look → Look → Type 0
SetsNext at slot next old new = (m : ℕ) → new m ≡ cond (is_number at m) (option_map (with_next slot next) (old m)) (old m)

abbrev pub SetsPrev : Option ℕ → ℕ → Option ℕ → Look → Look → Type 0
SetsPrev at slot prev old new = (m : ℕ) → new m ≡ cond (is_number at m) (option_map (with_prev slot prev) (old m)) (old m)

-- the same nodes with as many links
abbrev pub Alike : Look → Look → Type 0
Alike old new = (m : ℕ) → (option_map (λ x. x.node) (new m) ≡ option_map (λ x. x.node) (old m)) × (option_map (λ x. length x.links) (new m) ≡ option_map (λ x. length x.links) (old m))

-- ---- lists

-- the list that the links make from the head of a site, a slot and an atom
pub record IsListAt (heads : Heads) (look : Look) (site slot : ℕ) (a : Atom) (numbers : List ℕ) : Type 0 where
  pub chain : IsChain (links_of look slot) (head_at heads site slot a).first (head_at heads site slot a).len numbers
  pub on : (m : ℕ) → lists_number numbers m ≡ true → stands (is_there site slot a) (look m) ≡ true

-- with all the nodes that belong there
pub record IsWholeAt (heads : Heads) (look : Look) (site slot : ℕ) (a : Atom) : Type 0 where
  pub numbers : List ℕ
  pub is : IsListAt heads look site slot a numbers
  pub all : (m : ℕ) → stands (is_there site slot a) (look m) ≡ true → lists_number numbers m ≡ true

-- each node is on all of its lists, by a link for each slot
pub record AreLinked (heads : Heads) (look : Look) : Type 0 where
  pub whole : (site slot : ℕ) (a : Atom) → IsWholeAt heads look site slot a
  pub shaped : (m : ℕ) (x : Linked) → look m ≡ Some x → length x.links ≡ slots_of x.node

-- ---- changes of lists

abbrev pub is_list : ℕ → ℕ → Atom → ℕ → ℕ → Atom → Bool
is_list site slot at s k a = same_place (site, slot) (s, k) && same_atom at a

-- n goes from this list, and the other lists stay
abbrev pub Unhooks : ℕ → ℕ → Atom → ℕ → Heads → Look → Heads → Look → Type 0
Unhooks site slot at n heads look heads' look' =
    (s k : ℕ) (a : Atom) (numbers : List ℕ) → IsListAt heads look s k a numbers → IsListAt heads' look' s k a (cond (is_list site slot at s k a) (without n numbers) numbers)

-- n comes to the front of this list, and the other lists stay
abbrev pub Hooks : ℕ → ℕ → Atom → ℕ → Heads → Look → Heads → Look → Type 0
Hooks site slot at n heads look heads' look' =
    (s k : ℕ) (a : Atom) (numbers : List ℕ) → IsListAt heads look s k a numbers → IsListAt heads' look' s k a (cond (is_list site slot at s k a) (n ∷ numbers) numbers)

-- the same for the lists of a node's first slots
abbrev pub UnhooksBelow : ℕ → Node → ℕ → Heads → Look → Heads → Look → Type 0
UnhooksBelow slots node n heads look heads' look' =
    (s k : ℕ) (a : Atom) (numbers : List ℕ) → IsListAt heads look s k a numbers → IsListAt heads' look' s k a (cond (is_on_below slots s k a node) (without n numbers) numbers)

abbrev pub HooksBelow : ℕ → Node → ℕ → Heads → Look → Heads → Look → Type 0
HooksBelow slots node n heads look heads' look' =
    (s k : ℕ) (a : Atom) (numbers : List ℕ) → IsListAt heads look s k a numbers → IsListAt heads' look' s k a (cond (is_on_below slots s k a node) (n ∷ numbers) numbers)

-- this list has n, or has it not
pub record IsHooked (heads : Heads) (look : Look) (site slot : ℕ) (a : Atom) (n : ℕ) (there : Bool) : Type 0 where
  pub numbers : List ℕ
  pub is : IsListAt heads look site slot a numbers
  pub here : lists_number numbers n ≡ there

-- ---- a node that comes

-- the head of a list whose first number this becomes
abbrev pub longer : ℕ → Head → Head
longer n head = record { first = Some n; len = head.len + 1 }

-- the node with this number
abbrev pub HasNode : Look → ℕ → Node → Type 0
HasNode look n node = option_map (λ x. x.node) (look n) ≡ Some node

-- the node n has links for all of its slots, and n is not on its list by this slot, whose head is kept
pub record CanHook (slot : ℕ) (heads : Heads) (look : Look) (n : ℕ) : Type 0 where
  pub node : Node
  pub stands_there : HasNode look n node
  pub links : option_map (λ x. length x.links) (look n) ≡ Some (slots_of node)
  pub within : nat_lt slot (slots_of node) ≡ true
  pub kept : IsSome (kept_at heads node.site slot (atom_at node slot))
  pub off : IsHooked heads look node.site slot (atom_at node slot) n false

abbrev pub HooksAt : ℕ → ℕ → Heads → Look → Heads → Look → Type 0
HooksAt slot n heads look heads' look' = (node : Node) → HasNode look n node → Hooks node.site slot (atom_at node slot) n heads look heads' look'

abbrev pub FillsAt : ℕ → ℕ → Heads → Look → Heads → Type 0
FillsAt slot n heads look heads' = (node : Node) → HasNode look n node → AreFilledBut slot node heads → AreFilledBut (slot + 1) node heads'

abbrev pub StillKept : Heads → Heads → Type 0
StillKept old new = (s k : ℕ) (a : Atom) → IsSome (kept_at old s k a) → IsSome (kept_at new s k a)

-- each list but for n, which is on none
pub record IsWithoutAt (heads : Heads) (look : Look) (n site slot : ℕ) (a : Atom) : Type 0 where
  pub numbers : List ℕ
  pub is : IsListAt heads look site slot a numbers
  pub off : lists_number numbers n ≡ false
  pub all : (m : ℕ) → m ≢ n → stands (is_there site slot a) (look m) ≡ true → lists_number numbers m ≡ true

-- the node n is on none of its lists yet, whose heads are kept
pub record CanHookAll (heads : Heads) (look : Look) (n : ℕ) : Type 0 where
  pub node : Node
  pub stands_there : HasNode look n node
  pub kept : KeptBelow (slots_of node) node heads
  pub without_it : (site slot : ℕ) (a : Atom) → IsWithoutAt heads look n site slot a
  pub shaped : (m : ℕ) (x : Linked) → look m ≡ Some x → length x.links ≡ slots_of x.node

-- ---- a node that goes

-- the first number of a list once a number with this link goes
abbrev pub first_without : Option ℕ → Option ℕ → Option ℕ → Option ℕ
first_without None next first = next
first_without (Some prev) next first = first

-- the head of a list once a number with this link goes
abbrev pub shorter : Link → Head → Head
shorter link head = record { first = first_without link.prev link.next head.first; len = head.len - 1 }

-- n goes from all lists
abbrev pub UnhooksAll : ℕ → Heads → Look → Heads → Look → Type 0
UnhooksAll n heads look heads' look' = (s k : ℕ) (a : Atom) (numbers : List ℕ) → IsListAt heads look s k a numbers → IsListAt heads' look' s k a (without n numbers)
