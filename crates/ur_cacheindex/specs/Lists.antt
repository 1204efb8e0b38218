-- The lists of an index, by site, slot and atom, and which of them a node is on.
use Rattle.std.specs.Prelude.{◌≡◌, ◌≢◌, ◌≤◌, ◌<◌, ℕ, ◌+◌, ◌-◌, ◌==◌, Bool, true, false, ◌&&◌, cond, nat_lt, length, Option, Some, None, IsSome, slice_index_or}
use Rattle.std.specs.declared.cmp.Ordering.{Ordering}
use Rattle.std.specs.Ordering.{nat_cmp, ordering_then}
use Rattle.std.specs.BTreeMap.{BTreeMap, is_at, get}
use Rattle.ur_values.specs.declared.atom.Atom.{Atom}
use Rattle.ur_values.specs.declared.atom.Atom.TheVariants as atom
use Rattle.ur_values.specs.AtomLaws.{atom_cmp}
use Rattle.ur_cacheindex.specs.Chains.{same_number}
use Rattle.ur_cacheindex.specs.declared.node.Node.{Node}
use Rattle.ur_cacheindex.specs.declared.heads.Head.{Head}
use Rattle.ur_cacheindex.specs.declared.heads.Heads.{Heads}

-- the order of pairs of a site and a slot
abbrev pub place_cmp : ℕ × ℕ → ℕ × ℕ → Ordering
place_cmp x y = ordering_then (nat_cmp x.0 y.0) (nat_cmp x.1 y.1)

abbrev pub same_atom : Atom → Atom → Bool
same_atom a = is_at (atom_cmp a)

abbrev pub same_place : ℕ × ℕ → ℕ × ℕ → Bool
same_place p = is_at (place_cmp p)

-- ---- heads

abbrev pub Atoms : Type 0
Atoms = BTreeMap Atom Head

abbrev pub head_among : Option Atoms → Atom → Option Head
head_among None a = None
head_among (Some atoms) a = get atom_cmp atoms a

-- the head that is kept for a site, a slot and an atom
abbrev pub kept_at : Heads → ℕ → ℕ → Atom → Option Head
kept_at heads site slot a = head_among (get place_cmp heads.places (site, slot)) a

abbrev pub empty_head : Head
empty_head = record { first = None; len = 0 }

-- a list without a head is empty
abbrev pub head_of : Option Head → Head
head_of None = empty_head
head_of (Some head) = head

abbrev pub head_at : Heads → ℕ → ℕ → Atom → Head
head_at heads site slot a = head_of (kept_at heads site slot a)

-- this head is kept, and the others stay
abbrev pub KeepsHead : ℕ → ℕ → Atom → Head → Heads → Heads → Type 0
KeepsHead site slot at head old new =
    (s k : ℕ) (a : Atom) → kept_at new s k a ≡ cond (same_place (site, slot) (s, k) && same_atom at a) (Some head) (kept_at old s k a)

abbrev pub KeepsAmong : Atom → Head → Atoms → Atoms → Type 0
KeepsAmong at head old new = (a : Atom) → get atom_cmp new a ≡ cond (same_atom at a) (Some head) (get atom_cmp old a)

abbrev pub StaysAmong : Atoms → Atoms → Type 0
StaysAmong old new = (a : Atom) → get atom_cmp new a ≡ get atom_cmp old a

-- this list has this head, and the others stay
abbrev pub SetsHead : ℕ → ℕ → Atom → Head → Heads → Heads → Type 0
SetsHead site slot at head old new =
    (s k : ℕ) (a : Atom) → head_at new s k a ≡ cond (same_place (site, slot) (s, k) && same_atom at a) head (head_at old s k a)

abbrev pub SameKept : Heads → Heads → Type 0
SameKept old new = (s k : ℕ) (a : Atom) → kept_at new s k a ≡ kept_at old s k a

abbrev pub SameHeads : Heads → Heads → Type 0
SameHeads old new = (s k : ℕ) (a : Atom) → head_at new s k a ≡ head_at old s k a

abbrev pub SameAmong : Atoms → Atoms → Type 0
SameAmong old new = (a : Atom) → head_of (get atom_cmp new a) ≡ head_of (get atom_cmp old a)

-- the heads of empty lists that are kept stood before, and not at this list
abbrev pub TidiesHead : ℕ → ℕ → Atom → Heads → Heads → Type 0
TidiesHead site slot at old new =
    (s k : ℕ) (a : Atom) → kept_at new s k a ≡ Some empty_head → (kept_at old s k a ≡ Some empty_head) × ((same_place (site, slot) (s, k) && same_atom at a) ≡ false)

abbrev pub TidiesAmong : Atom → Atoms → Atoms → Type 0
TidiesAmong at old new = (a : Atom) → get atom_cmp new a ≡ Some empty_head → (get atom_cmp old a ≡ Some empty_head) × (same_atom at a ≡ false)

-- no empty list has its head kept
abbrev pub AreFilled : Heads → Type 0
AreFilled heads = (s k : ℕ) (a : Atom) → kept_at heads s k a ≢ Some empty_head

abbrev pub StayFilled : Heads → Heads → Type 0
StayFilled old new = AreFilled old → AreFilled new

-- ---- which lists a node is on

-- the atom of the lists of whole sites
abbrev pub every : Atom
every = atom.Bool false

-- slot 0 is the list of a site, and slot p + 1 that of position p
abbrev pub atom_at : Node → ℕ → Atom
atom_at node slot = cond (slot == 0) every (slice_index_or node.key (slot - 1) every)

-- the node is on the list by one of its first slots
abbrev pub is_on_below : ℕ → ℕ → ℕ → Atom → Node → Bool
is_on_below slots site slot a node = same_number node.site site && (nat_lt slot slots && same_atom (atom_at node slot) a)

abbrev pub slots_of : Node → ℕ
slots_of node = length node.key + 1

abbrev pub is_on : ℕ → ℕ → Atom → Node → Bool
is_on site slot a node = is_on_below (slots_of node) site slot a node

-- a head is kept for each of the node's lists by its first slots
abbrev pub KeptBelow : ℕ → Node → Heads → Type 0
KeptBelow slots node heads = (k : ℕ) → nat_lt k slots ≡ true → IsSome (kept_at heads node.site k (atom_at node k))

-- no empty list has its head kept but those of the node by its slots from this one on
abbrev pub AreFilledBut : ℕ → Node → Heads → Type 0
AreFilledBut slot node heads = (s k : ℕ) (a : Atom) → kept_at heads s k a ≡ Some empty_head → (node.site ≡ s) × (slot ≤ k) × (k < slots_of node) × (atom_at node k ≡ a)
