-- Which lists a node is on, and what is kept of their heads.
use Rattle.std.proofs.Common.{◌≡◌, ◌≢◌, ℕ, ◌+◌, Bool, true, false, ◌&&◌, ◌||◌, cond, nat_lt, [], length, Option, Some, None, IsSome, refl, sym, ap, subst, ◌∙◌, inl, inr, arith}
use Rattle.std.proofs.lemmas.Bool.{cases_eq}
use Rattle.std.proofs.lemmas.List.{nil_from_length}
use Rattle.std.specs.declared.cmp.Ordering.{Ordering}
use Rattle.std.specs.declared.cmp.Ordering.TheVariants as ordering
use Rattle.std.specs.Ordering.{nat_cmp, is_eq, ordering_then}
use Rattle.std.specs.BTreeMap.{get, Updates, WritesThrough}
use Rattle.std.specs.Map.{lookup}
use Rattle.ur_cacheindex.specs.Chains.{same_number}
use Rattle.ur_cacheindex.proofs.Chains.{number_self, number_apart, number_is}
pub use Rattle.ur_cacheindex.proofs.Chains.{true_false}
pub use Rattle.ur_cacheindex.proofs.Stored.{inserted_removed}
use Rattle.ur_values.specs.declared.atom.Atom.{Atom}
use Rattle.ur_values.specs.AtomLaws.{atom_cmp}
use Rattle.ur_values.specs.contracts.atom.AtomOrd.TheImpl.Laws as laws
use Rattle.ur_values.proofs.Equal.{atom_decides}
use Rattle.ur_cacheindex.specs.declared.node.Node.{Node}
use Rattle.ur_cacheindex.specs.declared.heads.Head.{Head}
use Rattle.ur_cacheindex.specs.declared.heads.Heads.{Heads}
use Rattle.ur_cacheindex.specs.Lists.{place_cmp, same_atom, same_place, Atoms, empty_head, head_among, kept_at, head_of, head_at, KeepsHead, KeepsAmong, StaysAmong, SetsHead, SameKept, SameHeads, SameAmong, atom_at, is_on_below, KeptBelow}

-- ---- what ties

pub atom_is : (a b : Atom) → same_atom a b ≡ true → a ≡ b
atom_is a b e = (atom_decides a b).0 (laws.matches_eq-law a b ∙ e)

pub atom_self : (a : Atom) → same_atom a a ≡ true
atom_self a = sym (laws.matches_eq-law a a) ∙ (atom_decides a a).1 refl

pub some_same : {X : Type 0} (a b : X) → Some a ≡ Some b → a ≡ b
some_same a b e = cc

both_equal : (r q : Ordering) → is_eq (ordering_then r q) ≡ (is_eq r && is_eq q)
both_equal ordering.Less q = refl
both_equal ordering.Equal q = refl
both_equal ordering.Greater q = refl

pub place_both : (p q : ℕ × ℕ) → same_place p q ≡ (same_number p.0 q.0 && same_number p.1 q.1)
place_both p q = both_equal (nat_cmp p.0 q.0) (nat_cmp p.1 q.1)

and_left : (a b : Bool) → (a && b) ≡ true → a ≡ true
and_left true b e = refl
and_left false b e = e

and_right : (a b : Bool) → (a && b) ≡ true → b ≡ true
and_right true b e = e
and_right false b e = absurd (true_false (sym e))

pub both_true : (a b : Bool) → (a && b) ≡ true → (a ≡ true) × (b ≡ true)
both_true a b e = (and_left a b e, and_right a b e)

pub place_is : (p q : ℕ × ℕ) → same_place p q ≡ true → p ≡ q
place_is p q e =
    let b = both_true (same_number p.0 q.0) (same_number p.1 q.1) (sym (place_both p q) ∙ e) in
    let x = number_is p.0 q.0 b.0 in
    let y = number_is p.1 q.1 b.1 in
    λ i. (x i, y i)

-- ---- heads

pub kept_among : (atoms : Atoms) (at : Atom) (head : Head) → Some head ≡ get atom_cmp atoms at → KeepsAmong at (head_of (get atom_cmp atoms at)) atoms atoms
kept_among atoms at head found a = by (same_atom at a) refl
  where
    by : (t : Bool) → same_atom at a ≡ t → get atom_cmp atoms a ≡ cond t (Some (head_of (get atom_cmp atoms at))) (get atom_cmp atoms a)
    by true e = ap (get atom_cmp atoms) (sym (atom_is at a e)) ∙ sym found ∙ ap (λ o. Some (head_of o)) found
    by false e = refl

gone_head : (t : Bool) (o p : Option Head) → (t ≡ true → head_of o ≡ head_of None) → head_of (cond t None o) ≡ head_of o
gone_head true o p f = sym (f refl)
gone_head false o p f = refl

pub tidied_among : (old new : Atoms) (at : Atom) → Updates atom_cmp old new at None → head_of (get atom_cmp old at) ≡ head_of None → SameAmong old new
tidied_among old new at updates empty a =
    ap head_of (updates.0 a) ∙ gone_head (same_atom at a) (get atom_cmp old a) None (λ e. ap (λ b. head_of (get atom_cmp old b)) (sym (atom_is at a e)) ∙ empty)

module _ (old : Heads) (site slot : ℕ) where
  -- what a change at one place does
  turned : {X : Type 0} (read : Option Atoms → Atom → X) (new : Heads) (atoms : Option Atoms) (want : Atom → X → X) (s k : ℕ) (a : Atom)
      → ((q : ℕ × ℕ) → get place_cmp new.places q ≡ cond (same_place (site, slot) q) atoms (get place_cmp old.places q))
      → (read atoms a ≡ want a (read (get place_cmp old.places (site, slot)) a))
      → (t : Bool) → same_place (site, slot) (s, k) ≡ t → read (get place_cmp new.places (s, k)) a ≡ cond t (want a (read (get place_cmp old.places (s, k)) a)) (read (get place_cmp old.places (s, k)) a)
  turned read new atoms want s k a turns changes true e =
      ap (λ o. read o a) (turns (s, k)) ∙ ap (λ t. read (cond t atoms (get place_cmp old.places (s, k))) a) e
      ∙ changes ∙ ap (λ p. want a (read (get place_cmp old.places p) a)) (place_is (site, slot) (s, k) e)
  turned read new atoms want s k a turns changes false e = ap (λ o. read o a) (turns (s, k)) ∙ ap (λ t. read (cond t atoms (get place_cmp old.places (s, k))) a) e

  both_of : {X : Type 0} (t r : Bool) (x y : X) → cond t (cond r x y) y ≡ cond (t && r) x y
  both_of true r x y = refl
  both_of false r x y = refl

  pub kept_turned : (at : Atom) (head : Head) (new : Heads) (atoms : Option Atoms)
      → ((q : ℕ × ℕ) → get place_cmp new.places q ≡ cond (same_place (site, slot) q) atoms (get place_cmp old.places q))
      → ((a : Atom) → head_among atoms a ≡ cond (same_atom at a) (Some head) (head_among (get place_cmp old.places (site, slot)) a)) → KeepsHead site slot at head old new
  kept_turned at head new atoms turns changes s k a =
      turned head_among new atoms (λ b x. cond (same_atom at b) (Some head) x) s k a turns (changes a) (same_place (site, slot) (s, k)) refl
      ∙ both_of (same_place (site, slot) (s, k)) (same_atom at a) (Some head) (kept_at old s k a)

  stays_of : {X : Type 0} (t : Bool) (x : X) → cond t x x ≡ x
  stays_of true x = refl
  stays_of false x = refl

  same_turned : (new : Heads) (atoms : Option Atoms)
      → ((q : ℕ × ℕ) → get place_cmp new.places q ≡ cond (same_place (site, slot) q) atoms (get place_cmp old.places q))
      → ((a : Atom) → head_of (head_among atoms a) ≡ head_of (head_among (get place_cmp old.places (site, slot)) a)) → SameHeads old new
  same_turned new atoms turns changes s k a =
      turned (λ o b. head_of (head_among o b)) new atoms (λ b x. x) s k a turns (changes a) (same_place (site, slot) (s, k)) refl
      ∙ stays_of (same_place (site, slot) (s, k)) (head_at old s k a)

  pub kept_stays : (new : Heads) (was is : Atoms) → Some was ≡ get place_cmp old.places (site, slot) → WritesThrough place_cmp (place_cmp (site, slot)) old.places is new.places → StaysAmong was is → SameKept old new
  kept_stays new was is found wrote stays s k a =
      turned head_among new (Some is) (λ b x. x) s k a (wrote.3 (subst IsSome found refl)).0 (stays a ∙ ap (λ o. head_among o a) found) (same_place (site, slot) (s, k)) refl
      ∙ stays_of (same_place (site, slot) (s, k)) (kept_at old s k a)

  pub kept_written : (at : Atom) (head : Head) (new : Heads) (was is : Atoms) → Some was ≡ get place_cmp old.places (site, slot)
      → WritesThrough place_cmp (place_cmp (site, slot)) old.places is new.places → KeepsAmong at head was is → KeepsHead site slot at head old new
  kept_written at head new was is found wrote changes =
      kept_turned at head new (Some is) (wrote.3 (subst IsSome found refl)).0 (λ a. changes a ∙ ap (λ o. cond (same_atom at a) (Some head) (head_among o a)) found)

  pub kept_inserted : (at : Atom) (head : Head) (new : Heads) (none is : Atoms) → None ≡ get place_cmp old.places (site, slot)
      → Updates place_cmp old.places new.places (site, slot) (Some is) → none.entries ≡ [] → KeepsAmong at head none is → KeepsHead site slot at head old new
  kept_inserted at head new none is absent updates empty changes =
      kept_turned at head new (Some is) updates.0
      (λ a. changes a ∙ ap (λ es. cond (same_atom at a) (Some head) (lookup (same_atom a) es)) empty ∙ ap (λ o. cond (same_atom at a) (Some head) (head_among o a)) absent)

  pub tidied_written : (new : Heads) (was is : Atoms) → Some was ≡ get place_cmp old.places (site, slot) → WritesThrough place_cmp (place_cmp (site, slot)) old.places is new.places → SameAmong was is
      → SameHeads old new
  tidied_written new was is found wrote same = same_turned new (Some is) (wrote.3 (subst IsSome found refl)).0 (λ a. same a ∙ ap (λ o. head_of (head_among o a)) found)

  twice : {X : Type 0} (t : Bool) (last there was : Option X) → cond t last (cond t there was) ≡ cond t last was
  twice true last there was = refl
  twice false last there was = refl

  pub tidied_removed : (mid new : Heads) (was is : Atoms) → Some was ≡ get place_cmp old.places (site, slot) → WritesThrough place_cmp (place_cmp (site, slot)) old.places is mid.places
      → SameAmong was is → length is.entries ≡ 0 → Updates place_cmp mid.places new.places (site, slot) None → SameHeads old new
  tidied_removed mid new was is found wrote same empty updates =
      same_turned new None
      (λ q. updates.0 q ∙ ap (cond (same_place (site, slot) q) None) ((wrote.3 (subst IsSome found refl)).0 q) ∙ twice (same_place (site, slot) q) None (Some is) (get place_cmp old.places q))
      (λ a. ap (λ es. head_of (lookup (same_atom a) es)) (sym (nil_from_length is.entries empty)) ∙ same a ∙ ap (λ o. head_of (head_among o a)) found)

head_cond : (t : Bool) (head : Head) (o : Option Head) → head_of (cond t (Some head) o) ≡ cond t head (head_of o)
head_cond true head o = refl
head_cond false head o = refl

pub sets_of_keeps : (site slot : ℕ) (at : Atom) (head : Head) (old new : Heads) → KeepsHead site slot at head old new → SetsHead site slot at head old new
sets_of_keeps site slot at head old new keeps s k a = ap head_of (keeps s k a) ∙ head_cond (same_place (site, slot) (s, k) && same_atom at a) head (kept_at old s k a)

pub is_itself : (site slot : ℕ) (at : Atom) → (same_place (site, slot) (site, slot) && same_atom at at) ≡ true
is_itself site slot at = ap (λ t. t && same_atom at at) (place_both (site, slot) (site, slot) ∙ ap (λ t. t && same_number slot slot) (number_self site) ∙ number_self slot) ∙ atom_self at

pub place_of : (site slot s k : ℕ) (at a : Atom) → (same_place (site, slot) (s, k) && same_atom at a) ≡ true → (site ≡ s) × (slot ≡ k) × (at ≡ a)
place_of site slot s k at a e =
    let b = both_true (same_place (site, slot) (s, k)) (same_atom at a) e in
    let p = both_true (same_number site s) (same_number slot k) (sym (place_both (site, slot) (s, k)) ∙ b.0) in
    (number_is site s p.0, number_is slot k p.1, atom_is at a b.1)

-- to keep the head that a list has changes no list
pub keeps_same : (site slot : ℕ) (at : Atom) (old new : Heads) → KeepsHead site slot at (head_at old site slot at) old new → SameHeads old new
keeps_same site slot at old new keeps s k a = sets_of_keeps site slot at (head_at old site slot at) old new keeps s k a ∙ by (same_place (site, slot) (s, k) && same_atom at a) refl
  where
    by : (t : Bool) → (same_place (site, slot) (s, k) && same_atom at a) ≡ t → cond t (head_at old site slot at) (head_at old s k a) ≡ head_at old s k a
    by true e = let p = place_of site slot s k at a e in ap (λ n. head_at old n slot at) p.0 ∙ ap (λ n. head_at old s n at) p.1 ∙ ap (head_at old s k) p.2
    by false e = refl

some_cond : (t : Bool) (head : Head) (o : Option Head) → IsSome o → IsSome (cond t (Some head) o)
some_cond true head o h = refl
some_cond false head o h = h

pub keeps_kept : (site slot : ℕ) (at : Atom) (head : Head) (old new : Heads) → KeepsHead site slot at head old new → (s k : ℕ) (a : Atom) → IsSome (kept_at old s k a) → IsSome (kept_at new s k a)
keeps_kept site slot at head old new keeps s k a there = subst IsSome (sym (keeps s k a)) (some_cond (same_place (site, slot) (s, k) && same_atom at a) head (kept_at old s k a) there)

pub keeps_there : (site slot : ℕ) (at : Atom) (head : Head) (old new : Heads) → KeepsHead site slot at head old new → IsSome (kept_at new site slot at)
keeps_there site slot at head old new keeps = subst IsSome (sym (keeps site slot at ∙ ap (λ t. cond t (Some head) (kept_at old site slot at)) (is_itself site slot at))) refl

none_kept : (o : Option Head) → (IsSome o → ⊥) → o ≡ None
none_kept None f = refl
none_kept (Some head) f = absurd (f refl)

-- a list that is not empty has its head kept
pub kept_from_len : (o : Option Head) (n : ℕ) → (head_of o).len ≡ n + 1 → IsSome o
kept_from_len None n e = absurd (omega (arith, e))
kept_from_len (Some head) n e = refl

-- ---- which lists a node is on

at_last : (s a : Bool) → (s && (true && a)) ≡ (((s && true) && a) || (s && (false && a)))
at_last true true = refl
at_last true false = refl
at_last false a = refl

at_other : (s a x : Bool) → (s && x) ≡ (((s && false) && a) || (s && x))
at_other true a x = refl
at_other false a x = refl

below_same : (i : ℕ) → nat_lt i (i + 1) ≡ true
below_same i = grind arith

not_below_same : (i : ℕ) → nat_lt i i ≡ false
not_below_same i = grind arith

below_other : (i k : ℕ) → i ≢ k → nat_lt k (i + 1) ≡ nat_lt k i
below_other i k differs = grind arith

pub more_on : (i s k : ℕ) (a : Atom) (node : Node)
    → is_on_below (i + 1) s k a node ≡ ((same_place (node.site, i) (s, k) && same_atom (atom_at node i) a) || is_on_below i s k a node)
more_on i s k a node =
    elim (cases_eq i k) [
      | inl same ↦ subst (λ j. is_on_below (i + 1) s j a node ≡ ((same_place (node.site, i) (s, j) && same_atom (atom_at node i) a) || is_on_below i s j a node)) same last
      | inr differs ↦ other differs
    ]
  where
    last : is_on_below (i + 1) s i a node ≡ ((same_place (node.site, i) (s, i) && same_atom (atom_at node i) a) || is_on_below i s i a node)
    last =
        ap (λ l. same_number node.site s && (l && same_atom (atom_at node i) a)) (below_same i)
        ∙ at_last (same_number node.site s) (same_atom (atom_at node i) a)
        ∙ sym (ap (λ p. (p && same_atom (atom_at node i) a) || is_on_below i s i a node) (place_both (node.site, i) (s, i) ∙ ap (λ t. same_number node.site s && t) (number_self i))
        ∙ ap (λ l. ((same_number node.site s && true) && same_atom (atom_at node i) a) || (same_number node.site s && (l && same_atom (atom_at node i) a))) (not_below_same i))

    other : i ≢ k → is_on_below (i + 1) s k a node ≡ ((same_place (node.site, i) (s, k) && same_atom (atom_at node i) a) || is_on_below i s k a node)
    other differs =
        ap (λ l. same_number node.site s && (l && same_atom (atom_at node k) a)) (below_other i k differs)
        ∙ at_other (same_number node.site s) (same_atom (atom_at node i) a) (nat_lt k i && same_atom (atom_at node k) a)
        ∙ sym (ap (λ p. (p && same_atom (atom_at node i) a) || is_on_below i s k a node) (place_both (node.site, i) (s, k) ∙ ap (λ t. same_number node.site s && t) (number_apart i k differs)))

pub below_none : (k : ℕ) → nat_lt k 0 ≡ false
below_none k = grind arith

pub head_new : (old : Heads) (site slot : ℕ) (at : Atom) (none : Atoms) → None ≡ get place_cmp old.places (site, slot) → none.entries ≡ [] → head_of (get atom_cmp none at) ≡ head_at old site slot at
head_new old site slot at none absent empty = ap (λ es. head_of (lookup (same_atom at) es)) empty ∙ ap (λ o. head_of (head_among o at)) absent

pub empty_is : (head : Head) → head.len ≡ 0 → head.first ≡ None → head ≡ empty_head
empty_is head len first = λ i. record { first = first i; len = len i }

below_last : (k i : ℕ) → nat_lt k (i + 1) ≡ true → k ≢ i → nat_lt k i ≡ true
below_last k i e differs = grind (arith, e, differs)

-- one list more has its head kept
pub keep_more : (node : Node) (slot : ℕ) (old now new : Heads) (at : Atom) → at ≡ atom_at node slot → KeepsHead node.site slot at (head_at now node.site slot at) now new → SameHeads old now
    → KeptBelow slot node now → SameHeads old new × KeptBelow (slot + 1) node new
keep_more node slot old now new at is keeps same kept = (
  λ s k a. keeps_same node.site slot at now new keeps s k a ∙ same s k a,
  λ k less. elim (cases_eq k slot) [
    | inl here ↦ subst (λ v. IsSome (kept_at new node.site v (atom_at node v))) (sym here) (subst (λ b. IsSome (kept_at new node.site slot b)) is (keeps_there node.site slot at (head_at now node.site slot at) now new keeps))
    | inr differs ↦ keeps_kept node.site slot at (head_at now node.site slot at) now new keeps node.site k (atom_at node k) (kept k (below_last k slot less differs))
  ],
)
