-- A head goes with the last node of its list.
use Rattle.std.proofs.Common.{◌≡◌, ◌≢◌, ℕ, ◌+◌, ◌<◌, ◌≤◌, Bool, true, false, ◌&&◌, cond, [], Option, Some, None, IsSome, refl, sym, ap, subst, ◌∙◌, arith}
use Rattle.std.specs.BTreeMap.{get, Updates, WritesThrough}
use Rattle.std.specs.Map.{lookup}
use Rattle.ur_cacheindex.proofs.Chains.{true_false}
use Rattle.ur_values.specs.declared.atom.Atom.{Atom}
use Rattle.ur_values.specs.AtomLaws.{atom_cmp}
use Rattle.ur_cacheindex.specs.declared.node.Node.{Node}
use Rattle.ur_cacheindex.specs.declared.heads.Head.{Head}
use Rattle.ur_cacheindex.specs.declared.heads.Heads.{Heads}
use Rattle.ur_cacheindex.specs.Lists.{place_cmp, same_atom, same_place, Atoms, empty_head, head_among, kept_at, head_of, KeepsHead, SameKept, TidiesHead, TidiesAmong, AreFilled, StayFilled, AreFilledBut, atom_at, slots_of}
use Rattle.ur_cacheindex.specs.Linked.{longer}
use Rattle.ur_cacheindex.proofs.Listing.{some_same, atom_is, place_is, place_of, is_itself}

pub none_some : {X : Type 0} (x : X) → None ≡ Some x → ⊥
none_some x e = absurd (cc)

-- ---- the head of an empty list is let go

pub gone_among : (old new : Atoms) (at : Atom) → Updates atom_cmp old new at None → TidiesAmong at old new
gone_among old new at updates a e = by (same_atom at a) refl
  where
    by : (t : Bool) → same_atom at a ≡ t → (get atom_cmp old a ≡ Some empty_head) × (same_atom at a ≡ false)
    by true is = absurd (none_some empty_head (sym (updates.0 a ∙ ap (λ t. cond t None (get atom_cmp old a)) is) ∙ e))
    by false is = (sym (updates.0 a ∙ ap (λ t. cond t None (get atom_cmp old a)) is) ∙ e, is)

-- it is not that of an empty list
pub stays_among : (atoms : Atoms) (at : Atom) → head_of (get atom_cmp atoms at) ≢ empty_head → TidiesAmong at atoms atoms
stays_among atoms at filled a e = (e, by (same_atom at a) refl)
  where
    by : (t : Bool) → same_atom at a ≡ t → t ≡ false
    by true is = absurd (filled (ap (λ b. head_of (get atom_cmp atoms b)) (atom_is at a is) ∙ ap head_of e))
    by false is = refl

module _ (old : Heads) (site slot : ℕ) (at : Atom) where
  gone_turned : (new : Heads) (atoms : Option Atoms)
      → ((q : ℕ × ℕ) → get place_cmp new.places q ≡ cond (same_place (site, slot) q) atoms (get place_cmp old.places q))
      → ((a : Atom) → head_among atoms a ≡ Some empty_head → (head_among (get place_cmp old.places (site, slot)) a ≡ Some empty_head) × (same_atom at a ≡ false))
      → TidiesHead site slot at old new
  gone_turned new atoms turns goes s k a e = by (same_place (site, slot) (s, k)) refl
    where
      by : (t : Bool) → same_place (site, slot) (s, k) ≡ t → (kept_at old s k a ≡ Some empty_head) × ((same_place (site, slot) (s, k) && same_atom at a) ≡ false)
      by true is =
          let g = goes a (sym (ap (λ o. head_among o a) (turns (s, k) ∙ ap (λ t. cond t atoms (get place_cmp old.places (s, k))) is)) ∙ e) in
          (ap (λ q. head_among (get place_cmp old.places q) a) (sym (place_is (site, slot) (s, k) is)) ∙ g.0, ap (λ t. t && same_atom at a) is ∙ g.1)
      by false is =
          (sym (ap (λ o. head_among o a) (turns (s, k) ∙ ap (λ t. cond t atoms (get place_cmp old.places (s, k))) is)) ∙ e, ap (λ t. t && same_atom at a) is)

  pub gone_absent : None ≡ get place_cmp old.places (site, slot) → TidiesHead site slot at old old
  gone_absent absent s k a e = (e, by (same_place (site, slot) (s, k)) refl)
    where
      by : (t : Bool) → same_place (site, slot) (s, k) ≡ t → (t && same_atom at a) ≡ false
      by true is = absurd (none_some empty_head (ap (λ o. head_among o a) absent ∙ ap (λ q. head_among (get place_cmp old.places q) a) (place_is (site, slot) (s, k) is) ∙ e))
      by false is = refl

  pub gone_written : (new : Heads) (was is : Atoms) → Some was ≡ get place_cmp old.places (site, slot) → WritesThrough place_cmp (place_cmp (site, slot)) old.places is new.places
      → TidiesAmong at was is → TidiesHead site slot at old new
  gone_written new was is found wrote goes =
      gone_turned new (Some is) (wrote.3 (subst IsSome found refl)).0 (λ a e. let g = goes a e in (sym (ap (λ o. head_among o a) found) ∙ g.0, g.1))

  twice : {X : Type 0} (t : Bool) (last there was : Option X) → cond t last (cond t there was) ≡ cond t last was
  twice true last there was = refl
  twice false last there was = refl

  pub gone_removed : (mid new : Heads) (was is : Atoms) → Some was ≡ get place_cmp old.places (site, slot) → WritesThrough place_cmp (place_cmp (site, slot)) old.places is mid.places
      → Updates place_cmp mid.places new.places (site, slot) None → TidiesHead site slot at old new
  gone_removed mid new was is found wrote updates =
      gone_turned new None
      (λ q. updates.0 q ∙ ap (cond (same_place (site, slot) q) None) ((wrote.3 (subst IsSome found refl)).0 q) ∙ twice (same_place (site, slot) q) None (Some is) (get place_cmp old.places q))
      (λ a e. absurd (none_some empty_head e))

-- ---- the heads that are kept

pub filled_none : (heads : Heads) → heads.places.entries ≡ [] → AreFilled heads
filled_none heads none s k a e = none_some empty_head (sym (ap (λ es. head_among (lookup (same_place (s, k)) es) a) none) ∙ e)

-- a head that is written and then let go if its list is empty
pub filled_tidied : (site slot : ℕ) (at : Atom) (head : Head) (old mid new : Heads) → KeepsHead site slot at head old mid → TidiesHead site slot at mid new → StayFilled old new
filled_tidied site slot at head old mid new keeps tidies filled s k a e =
    let g = tidies s k a e in
    filled s k a (sym (keeps s k a ∙ ap (λ t. cond t (Some head) (kept_at old s k a)) g.1) ∙ g.0)

pub filled_start : (node : Node) (heads : Heads) → AreFilled heads → AreFilledBut 0 node heads
filled_start node heads filled s k a e = absurd (filled s k a e)

pub filled_end : (slot : ℕ) (node : Node) (heads : Heads) → slots_of node ≤ slot → AreFilledBut slot node heads → AreFilled heads
filled_end slot node heads all but s k a e = let b = but s k a e in let x = b.1 in let y = b.2 in absurd (omega (arith, all, x, y))

pub but_same : (slot : ℕ) (node : Node) (old new : Heads) → SameKept old new → AreFilledBut slot node old → AreFilledBut slot node new
but_same slot node old new same but s k a e = but s k a (sym (same s k a) ∙ e)

-- a list that is not the one of this slot
past_slot : (node : Node) (slot s k : ℕ) (a : Atom) → node.site ≡ s → slot ≤ k → atom_at node k ≡ a → (same_place (node.site, slot) (s, k) && same_atom (atom_at node slot) a) ≡ false → slot + 1 ≤ k
past_slot node slot s k a site from atom off =
    let differs : slot ≢ k = λ here. true_false (sym (same here) ∙ off) in
    omega (arith, from, differs)
  where
    same : slot ≡ k → (same_place (node.site, slot) (s, k) && same_atom (atom_at node slot) a) ≡ true
    same here =
        subst (λ b. (same_place (node.site, slot) (s, k) && same_atom (atom_at node slot) b) ≡ true) (ap (atom_at node) here ∙ atom)
        (subst (λ j. (same_place (node.site, slot) (s, j) && same_atom (atom_at node slot) (atom_at node slot)) ≡ true) here
        (subst (λ v. (same_place (node.site, slot) (v, slot) && same_atom (atom_at node slot) (atom_at node slot)) ≡ true) site (is_itself node.site slot (atom_at node slot))))

-- a head is kept for one list more
pub but_kept : (slot : ℕ) (node : Node) (at : Atom) (head : Head) (old new : Heads) → at ≡ atom_at node slot → slot < slots_of node → KeepsHead node.site slot at head old new
    → AreFilledBut 0 node old → AreFilledBut 0 node new
but_kept slot node at head old new its within keeps but s k a e = by (same_place (node.site, slot) (s, k) && same_atom at a) refl
  where
    by : (t : Bool) → (same_place (node.site, slot) (s, k) && same_atom at a) ≡ t → (node.site ≡ s) × (0 ≤ k) × (k < slots_of node) × (atom_at node k ≡ a)
    by true is =
        let p = place_of node.site slot s k at a is in
        (p.0, omega arith, subst (λ j. j < slots_of node) p.1 within, ap (atom_at node) (sym p.1) ∙ sym its ∙ p.2)
    by false is = but s k a (sym (keeps s k a ∙ ap (λ t. cond t (Some head) (kept_at old s k a)) is) ∙ e)

pub longer_filled : (n : ℕ) (head : Head) → longer n head ≢ empty_head
longer_filled n head e = none_some n (sym (ap (λ h. h.first) e))

-- one list more has a node
pub but_longer : (slot : ℕ) (node : Node) (head : Head) (old new : Heads) → KeepsHead node.site slot (atom_at node slot) head old new → head ≢ empty_head
    → AreFilledBut slot node old → AreFilledBut (slot + 1) node new
but_longer slot node head old new keeps filled but s k a e = by (same_place (node.site, slot) (s, k) && same_atom (atom_at node slot) a) refl
  where
    by : (t : Bool) → (same_place (node.site, slot) (s, k) && same_atom (atom_at node slot) a) ≡ t → (node.site ≡ s) × (slot + 1 ≤ k) × (k < slots_of node) × (atom_at node k ≡ a)
    by true is = absurd (filled (some_same head empty_head (sym (keeps s k a ∙ ap (λ t. cond t (Some head) (kept_at old s k a)) is) ∙ e)))
    by false is =
        let b = but s k a (sym (keeps s k a ∙ ap (λ t. cond t (Some head) (kept_at old s k a)) is) ∙ e) in
        (b.0, past_slot node slot s k a b.0 b.1 b.3 is, b.2, b.3)

-- the head of one list more is let go if it is empty
pub but_tidied : (slot : ℕ) (node : Node) (at : Atom) (old new : Heads) → at ≡ atom_at node slot → TidiesHead node.site slot at old new → AreFilledBut slot node old → AreFilledBut (slot + 1) node new
but_tidied slot node at old new its tidies but s k a e =
    let g = tidies s k a e in
    let b = but s k a g.0 in
    (b.0, past_slot node slot s k a b.0 b.1 b.3 (subst (λ x. (same_place (node.site, slot) (s, k) && same_atom x a) ≡ false) its g.1), b.2, b.3)
