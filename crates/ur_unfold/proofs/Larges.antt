-- Constructors that have too many nodes.
use Rattle.std.proofs.Common.{◌≡◌, ◌≤◌, ◌<◌, ◌⊎◌, inl, inr, ℕ, zero, suc, List, [], ◌∷◌, map, get_or, None, Some, refl, sym, subst, arith}
use Rattle.std.specs.Prelude.{slice_get}
use Rattle.std.specs.List.{AllByRecursion}
use Rattle.ur_terms.specs.declared.term.Term.{Term}
use Rattle.ur_rows.specs.declared.normal.Normal.{Normal}
use Rattle.ur_rows.specs.declared.normal.Normal.TheVariants as normal
use Rattle.ur_rows.specs.Nodes.{most_nodes, nodes}
use Rattle.ur_rows.specs.Made.{unit}
use Rattle.ur_tree.specs.declared.typed.Typed.{Typed}
use Rattle.ur_tree.specs.declared.closed.Instance.{Instance}
use Rattle.ur_meaning.specs.Instances.{IsNumbered}
use Rattle.ur_unfold_static.specs.Held.{Held, con_at}
use Rattle.ur_unfold_pieces.specs.Sizes.{SomeLarge}
use Rattle.ur_unfold_pieces.specs.declared.opening.Key.{Key}
use Rattle.ur_unfold_pieces.specs.Keys.{instance_of}
use Rattle.ur_unfold_pieces.proofs.Lists.{all_at, of_map}
use Rattle.ur_unfold.specs.Limits.{IsLarge, HasLargeArgument}
use Rattle.ur_unfold.specs.Making.{AreTerms}
use Rattle.ur_unfold.specs.Sizes.{ConIsSmall, KeyIsSmall}

-- ---- one constructor

some_read : {A : Type 0} (xs : List A) (j : ℕ) (x d : A) → slice_get xs j ≡ Some x → get_or xs j d ≡ x
some_read [] j x d e = absurd (cc)
some_read (y ∷ xs) zero x d e = cc
some_read (y ∷ xs) (suc j) x d e = some_read xs j x d e

none_read : {A : Type 0} (xs : List A) (j : ℕ) (d : A) → slice_get xs j ≡ None → get_or xs j d ≡ d
none_read [] zero d e = refl
none_read [] (suc j) d e = refl
none_read (y ∷ xs) zero d e = absurd (cc)
none_read (y ∷ xs) (suc j) d e = none_read xs j d e

unit_small : nodes (normal.Type unit) ≤ most_nodes
unit_small = omega arith

pub con_at_none : (held : Held) (j : ℕ) → slice_get held.cons j ≡ None → ConIsSmall held j
con_at_none held j e = subst (λ c. nodes c ≤ most_nodes) (sym (none_read held.cons j (normal.Type unit) e)) unit_small

pub con_at_some : (held : Held) (j : ℕ) (c : Normal) → slice_get held.cons j ≡ Some c → con_at held.cons j ≡ c
con_at_some held j c e = some_read held.cons j c (normal.Type unit) e

-- ---- those of all instances

module _ (held : Held) where
  none_large : (js : List ℕ) → AllByRecursion (ConIsSmall held) js → ¬ (SomeLarge (map (con_at held.cons) js))
  none_large js h l =
      let at = of_map (con_at held.cons) js l.place l.con l.there in
      let x : nodes (con_at held.cons at.0) ≤ most_nodes = all_at (ConIsSmall held) js l.place at.0 h at.1 in
      let y : nodes l.con ≤ most_nodes = subst (λ c. nodes c ≤ most_nodes) (sym at.2) x in
      absurd (omega (arith, y, l.more))

  pub keys_small : (keys : List Key) → AllByRecursion (KeyIsSmall held) keys → (k : Instance) → IsNumbered (map (instance_of held) keys) k → ¬ (IsLarge k)
  keys_small keys h k at l =
      let key = of_map (instance_of held) keys at.0 k at.1 in
      none_large key.0.cons (all_at (KeyIsSmall held) keys at.0 key.0 h key.1) (subst IsLarge key.2 l)

  le_or : (m n : ℕ) → (m ≤ n) ⊎ (n < m)
  le_or zero n = inl (omega arith)
  le_or (suc m) zero = inr (omega arith)
  le_or (suc m) (suc n) = elim (le_or m n) [
    | inl h ↦ inl (omega (arith, h))
    | inr h ↦ inr (omega (arith, h))
  ]

  small_or_large : (js : List ℕ) → AllByRecursion (ConIsSmall held) js ⊎ SomeLarge (map (con_at held.cons) js)
  small_or_large [] = inl tt
  small_or_large (j ∷ js) = by (le_or (nodes (con_at held.cons j)) most_nodes) (small_or_large js)
    where
      by : (nodes (con_at held.cons j) ≤ most_nodes) ⊎ (most_nodes < nodes (con_at held.cons j)) → AllByRecursion (ConIsSmall held) js ⊎ SomeLarge (map (con_at held.cons) js)
          → AllByRecursion (ConIsSmall held) (j ∷ js) ⊎ SomeLarge (map (con_at held.cons) (j ∷ js))
      by (inl h) (inl g) = inl (h, g)
      by (inl h) (inr l) = inr (record { place = suc l.place; con = l.con; there = l.there; more = l.more })
      by (inr l) r = inr (record { place = 0; con = con_at held.cons j; there = refl; more = l })

  abbrev Found : List Key → Type 0
  Found keys = (k : Instance) × IsNumbered (map (instance_of held) keys) k × IsLarge k

  one_large : (keys : List Key) → ¬ (AllByRecursion (KeyIsSmall held) keys) → Found keys
  one_large [] none = absurd (none tt)
  one_large (key ∷ keys) none = by (small_or_large key.cons) (one_large keys)
    where
      by : KeyIsSmall held key ⊎ SomeLarge (map (con_at held.cons) key.cons) → (¬ (AllByRecursion (KeyIsSmall held) keys) → Found keys) → Found (key ∷ keys)
      by (inl h) rest = let r = rest (λ g. none (h, g)) in (r.0, (suc r.1.0, r.1.1), r.2)
      by (inr l) rest = (instance_of held key, (zero, refl), l)

  pub has_large : (app : Typed) (keys : List Key) (bodies : List Term) → AreTerms app (map (instance_of held) keys) bodies → ¬ (AllByRecursion (KeyIsSmall held) keys) → HasLargeArgument app
  has_large app keys bodies t none =
      let r = one_large keys none in
      record { instance = r.0; is_instance = t.are.only r.1.0 r.0 r.1.1; is_large = r.2 }
