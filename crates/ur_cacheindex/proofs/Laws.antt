-- A slab's items as a finite map.
use Rattle.std.proofs.Common.{◌≡◌, ◌≢◌, ℕ, zero, suc, ◌+◌, ◌<◌, ◌≤◌, true, false, List, [], ◌∷◌, get_or, Option, Some, None, cond, refl, sym, ap, ◌∙◌, inl, inr, arith, is_some, length, subst, zero-add}
use Rattle.std.specs.Ordering.{nat_cmp, eq_by_cmp}
use Rattle.std.specs.Cmp.{nat_cmp_total}
use Rattle.std.specs.FinMap.{get, insert, remove, find, from_entries, same_map, nat_cmp-IsAntisymmetric, get-from_entries, get-insert, get-remove, len as items_len, len-empty, len-insert}
use Rattle.std.proofs.lemmas.Bool.{cases_eq}
use Rattle.std.proofs.lemmas.List.{get_or_past}
use Rattle.slab.specs.Slab.{Slab, ContainsKey, get as slot_at, entries_from, entries, Updates, slab_len, with_value}
use Rattle.slab.proofs.SlabLemmas.{Updates-with_value, length-entries}
use Rattle.ur_cacheindex.specs.Items.{Items, items_of}

-- two numbers tie where they are the same
pub tied : (a b : ℕ) → a ≡ b → eq_by_cmp nat_cmp a b ≡ true
tied a b e = grind arith

pub apart : (a b : ℕ) → a ≢ b → eq_by_cmp nat_cmp a b ≡ false
apart a b n = grind arith

later : (n : ℕ) → n + 1 ≡ suc n
later n = omega arith

find_later : {T : Type 0} (first key : ℕ) (slots : List (Option T)) → key < first → find nat_cmp key (entries_from first slots) ≡ None
find_later first key [] below = refl
find_later first key (None ∷ rest) below = find_later (first + 1) key rest (omega arith)
find_later first key (Some x ∷ rest) below = rw (apart key first (omega arith)) (find_later (first + 1) key rest (omega arith))

find_slot : {T : Type 0} (first at : ℕ) (slots : List (Option T)) → find nat_cmp (first + at) (entries_from first slots) ≡ get_or slots at None
find_slot first at [] = refl
find_slot first zero (None ∷ rest) = find_later (first + 1) (first + 0) rest (omega arith)
find_slot first zero (Some x ∷ rest) = rw (tied (first + 0) first (omega arith)) refl
find_slot first (suc at) (None ∷ rest) = let e : first + suc at ≡ first + 1 + at = omega arith in rw e (find_slot (first + 1) at rest)
find_slot first (suc at) (Some x ∷ rest) =
    let e : first + suc at ≡ first + 1 + at = omega arith in
    ap (λ b. cond b (Some x) (find nat_cmp (first + suc at) (entries_from (first + 1) rest))) (apart (first + suc at) first (omega arith))
    ∙ subst (λ k. find nat_cmp k (entries_from (first + 1) rest) ≡ get_or rest at None) (sym e) (find_slot (first + 1) at rest)

module _ {T : Type 0} where
  -- the map has at each number what the slab has
  pub get-items_of : (s : Slab T) (key : ℕ) → get (items_of s) key ≡ slot_at s key
  get-items_of s key = get-from_entries nat_cmp_total (entries s) key ∙ subst (λ k. find nat_cmp k (entries_from 0 s.slots) ≡ get_or s.slots key None) (zero-add key) (find_slot 0 key s.slots)

  -- maps that answer alike are equal
  pub same_items : (m n : Items T) → ((q : ℕ) → get m q ≡ get n q) → m ≡ n
  same_items m n is = same_map nat_cmp_total nat_cmp-IsAntisymmetric m n is

  turned : (old new : Slab T) (key : ℕ) (slot : Option T) → Updates old new key slot → (q : ℕ) → slot_at new q ≡ cond (eq_by_cmp nat_cmp q key) slot (slot_at old q)
  turned old new key slot u q =
      elim (cases_eq q key) [
        | inl same ↦ rw (tied q key same, same) u.changed
        | inr differs ↦ rw (apart q key differs) (u.others q differs)
      ]

  pub written : (old new : Slab T) (key : ℕ) (value : T) → Updates old new key (Some value) → items_of new ≡ insert (items_of old) key value
  written old new key value u =
      same_items _ _ (λ q. get-items_of new q ∙ turned old new key (Some value) u q
      ∙ ap (cond (eq_by_cmp nat_cmp q key) (Some value)) (sym (get-items_of old q)) ∙ sym (get-insert nat_cmp_total (items_of old) key value q))

  pub taken : (old new : Slab T) (key : ℕ) → Updates old new key None → items_of new ≡ remove (items_of old) key
  taken old new key u =
      same_items _ _ (λ q. get-items_of new q ∙ turned old new key None u q
      ∙ ap (cond (eq_by_cmp nat_cmp q key) None) (sym (get-items_of old q)) ∙ sym (get-remove nat_cmp_total (items_of old) key q))

  pub lent : (s : Slab T) (key : ℕ) (value : T) → ContainsKey s key → items_of (with_value s key value) ≡ insert (items_of s) key value
  lent s key value there = written s _ key value (Updates-with_value s key value there)

  -- there are as many items as slots with a value
  pub length-items_of : (s : Slab T) → items_len (items_of s) ≡ slab_len s
  length-items_of s = numbered 0 s.slots ∙ length-entries s
    where
      numbered : (first : ℕ) (slots : List (Option T)) → items_len (from_entries {R = nat_cmp} (entries_from first slots)) ≡ length (entries_from first slots)
      numbered first [] = len-empty nat_cmp T
      numbered first (None ∷ rest) = numbered (first + 1) rest
      numbered first (Some x ∷ rest) = one_more first x (entries_from (first + 1) rest) (find_later (first + 1) first rest (omega arith)) (numbered (first + 1) rest)
        where
          one_more : (first : ℕ) (x : T) (es : List (ℕ × T)) → find nat_cmp first es ≡ None → items_len (from_entries {R = nat_cmp} es) ≡ length es → items_len (from_entries {R = nat_cmp} ((first, x) ∷ es)) ≡ suc (length es)
          one_more first x es none same =
              len-insert nat_cmp_total (from_entries es) first x
              ∙ ap (λ o. cond (is_some o) (items_len (from_entries {R = nat_cmp} es)) (items_len (from_entries {R = nat_cmp} es) + 1)) (get-from_entries nat_cmp_total es first ∙ none)
              ∙ ap (λ n. n + 1) same ∙ later (length es)

  -- a slab whose capacity alone differs has the same items
  pub room_made : (s t : Slab T) → t ≡ record s { capacity = t.capacity } → items_of t ≡ items_of s
  room_made s t same = ap items_of same

  -- no item has a number past the slots
  pub none_past : (s : Slab T) (n : ℕ) → length s.slots ≤ n → get (items_of s) n ≡ None
  none_past s n past = get-items_of s n ∙ get_or_past s.slots n None past
