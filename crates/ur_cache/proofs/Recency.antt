-- Rows by number, the most recent first, as the list of entries.
use Rattle.std.proofs.Common.{◌≡◌, ◌≢◌, ℕ, suc, zero, ◌+◌, ◌-◌, ◌<◌, ◌≤◌, Bool, true, false, not, ◌&&◌, ◌||◌, cond, nat_eq, ◌==◌, List, [], ◌∷◌, length, map, filter, take, Option, Some, None, is_some, IsSome, IsNone, IsTrue, ◌↔◌, ◌++◌, option_map, slice_get, refl, sym, ap, subst, ◌∙◌, arith}
use Rattle.std.proofs.lemmas.List.{take-map, take_all, nil_from_length, length-take-le, length-map}
use Rattle.std.specs.List.{find}
use Rattle.std.specs.Option.{option_map_or}
use Rattle.std.specs.Ordering.{nat_cmp, eq_by_cmp, is_eq}
use Rattle.std.specs.Cmp.{nat_cmp_total}
use Rattle.std.specs.Map.{lookup, lookup_entry, remove_entry}
use Rattle.std.specs.FinMap.{empty, get, insert, remove, len, get-empty, len-empty, get-insert, get-remove, len-insert, len-remove, same_map, nat_cmp-IsAntisymmetric}
use Rattle.lru.specs.LruCache.{promoted}
use Rattle.lru.proofs.CallerLemmas.{Contains-lookup_entry}
use Rattle.ur_values.specs.declared.atom.Atom.{Atom}
use Rattle.ur_values.specs.declared.value.Value.{Value}
use Rattle.ur_values.specs.Atom.{atom_value, atom_values}
use Rattle.ur_values.specs.Order.{value_eq, values_eq}
use Rattle.ur_cacheindex.specs.declared.node.Mask.{Mask}
use Rattle.ur_cacheindex.specs.declared.node.Node.{Node}
use Rattle.ur_cacheindex.specs.declared.node.NodeId.{NodeId}
use Rattle.ur_cacheindex.specs.Nodes.{Nodes}
use Rattle.ur_cacheindex.specs.Matching.{read_mask, matches, node_matches}
use Rattle.ur_cacheindex.specs.Calls.{passes, NoNode, TakesOut, node_is_at, DropsIn}
use Rattle.ur_cacheindex.proofs.Atoms.{atom_same}
use Rattle.ur_cacheindex.proofs.Listing.{atom_is, atom_self, both_true, true_false, some_same}
use Rattle.ur_cache.specs.Entries.{Entry, Cached, is_at, entry_at, to_front, is_masked, hit, looked_up, settled}
use Rattle.ur_cache.specs.declared.cache.Settle.TheVariants as settle
use Rattle.ur_cache.specs.Held.{Rows, entry_of, entries_of, has_number, no_repeat, IsHeld, without_all, unmasked, PutsIn, IsKept, DropsLast, Keeps, DropsSoFar}
use Rattle.ur_base.specs.Rooms.{RoomOf}
use Rattle.lru.specs.LruCache.{LruCache, lru_cache, put_entries}

-- ---- tests

same_is : (n m : ℕ) → nat_eq n m ≡ true → n ≡ m
same_is n m e = grind arith

same_self : (n : ℕ) → nat_eq n n ≡ true
same_self n = grind arith

apart_not : (n m : ℕ) → n ≢ m → nat_eq n m ≡ false
apart_not n m differs = grind arith

not_apart : (n m : ℕ) → nat_eq n m ≡ false → n ≢ m
not_apart n m e same = true_false (sym (subst (λ k. nat_eq n k ≡ true) same (same_self n)) ∙ e)

nat_eq_turned : (n m : ℕ) → nat_eq n m ≡ nat_eq m n
nat_eq_turned n m = grind arith

by_cmp : (n m : ℕ) → eq_by_cmp nat_cmp n m ≡ nat_eq n m
by_cmp n m = grind arith

both_ways : (a b : Bool) → (a ≡ true → b ≡ true) → (b ≡ true → a ≡ true) → a ≡ b
both_ways true b there back = sym (there refl)
both_ways false true there back = back refl
both_ways false false there back = refl

later : (t r : Bool) → r ≡ true → (t || r) ≡ true
later true r e = refl
later false r e = e

first : (t r : Bool) → t ≡ true → (t || r) ≡ true
first true r e = refl
first false r e = absurd (true_false (sym e))

none_first : (t r : Bool) → (t || r) ≡ false → t ≡ false
none_first true r e = e
none_first false r e = refl

none_later : (t r : Bool) → (t || r) ≡ false → r ≡ false
none_later true r e = absurd (true_false e)
none_later false r e = e

not_true : (b : Bool) → not b ≡ true → b ≡ false
not_true true e = absurd (true_false (sym e))
not_true false e = refl

values_decide : (a b : Atom) → value_eq (atom_value a) (atom_value b) ≡ true → a ≡ b
values_decide a b e = atom_is a b (ap is_eq (atom_same a b) ∙ e)

value_self : (a : Atom) → value_eq (atom_value a) (atom_value a) ≡ true
value_self a = sym (ap is_eq (atom_same a a)) ∙ atom_self a

keys_decide : (xs ys : List Atom) → values_eq (atom_values xs) (atom_values ys) ≡ true → xs ≡ ys
keys_decide [] [] e = refl
keys_decide [] (y ∷ ys) e = absurd (true_false (sym e))
keys_decide (x ∷ xs) [] e = absurd (true_false (sym e))
keys_decide (x ∷ xs) (y ∷ ys) e =
    let b = both_true (value_eq (atom_value x) (atom_value y)) (values_eq (atom_values xs) (atom_values ys)) e in
    let h = values_decide x y b.0 in
    let t = keys_decide xs ys b.1 in
    λ i. h i ∷ t i

key_self : (xs : List Atom) → values_eq (atom_values xs) (atom_values xs) ≡ true
key_self [] = refl
key_self (x ∷ xs) = ap (λ b. b && values_eq (atom_values xs) (atom_values xs)) (value_self x) ∙ key_self xs

both_hold : (a b : Bool) → a ≡ true → b ≡ true → (a && b) ≡ true
both_hold true b x y = y
both_hold false b x y = x

-- a node is at this site and key
abbrev IsThere : ℕ → List Atom → Node → Type 0
IsThere site xs y = (site ≡ y.site) × (xs ≡ y.key)

at_there : (site : ℕ) (xs : List Atom) (y : Node) → node_is_at site (atom_values xs) y ≡ true → IsThere site xs y
at_there site xs y e = let b = both_true (site == y.site) (values_eq (atom_values xs) (atom_values y.key)) e in (same_is site y.site b.0, keys_decide xs y.key b.1)

there_at : (site : ℕ) (xs : List Atom) (y : Node) → IsThere site xs y → node_is_at site (atom_values xs) y ≡ true
there_at site xs y h =
    both_hold (site == y.site) (values_eq (atom_values xs) (atom_values y.key)) (subst (λ s. nat_eq site s ≡ true) h.0 (same_self site)) (subst (λ k. values_eq (atom_values xs) (atom_values k) ≡ true) h.1 (key_self xs))

there_both : (site : ℕ) (xs : List Atom) (x y : Node) → IsThere site xs x → IsThere site xs y → IsThere x.site x.key y
there_both site xs x y h k = (sym h.0 ∙ k.0, sym h.1 ∙ k.1)

there_self : (y : Node) → IsThere y.site y.key y
there_self y = (refl, refl)

there_turned : (x y : Node) → IsThere x.site x.key y → IsThere y.site y.key x
there_turned x y h = (sym h.0, sym h.1)

-- the test on entries is the test on nodes
entry_tested : (site : ℕ) (xs : List Atom) (y : Node) (rows : List Value) → is_at site (atom_values xs) (entry_of (Some y) rows) ≡ node_is_at site (atom_values xs) y
entry_tested site xs y rows =
    both_ways (is_at site (atom_values xs) (entry_of (Some y) rows)) (node_is_at site (atom_values xs) y)
    (λ e. let b = both_true (y.site == site) (values_eq (atom_values y.key) (atom_values xs)) e in there_at site xs y (sym (same_is y.site site b.0), sym (keys_decide y.key xs b.1)))
    (λ e. let h = at_there site xs y e in both_hold (y.site == site) (values_eq (atom_values y.key) (atom_values xs))
    (subst (λ s. nat_eq y.site s ≡ true) (sym h.0) (same_self y.site)) (subst (λ k. values_eq (atom_values y.key) (atom_values k) ≡ true) (sym h.1) (key_self y.key)))

node_there : (nodes : Nodes) (n : ℕ) → is_some (get nodes n) ≡ true → (y : Node) × (get nodes n ≡ Some y)
node_there nodes n e = by (get nodes n) refl e
  where
    by : (o : Option Node) → get nodes n ≡ o → is_some o ≡ true → (y : Node) × (get nodes n ≡ Some y)
    by None is h = absurd (true_false (sym h))
    by (Some y) is h = (y, is)

node_passes : (test : Node → Bool) (o : Option Node) (y : Node) → o ≡ Some y → passes test o ≡ test y
node_passes test o y e = ap (passes test) e

node_of_passes : (test : Node → Bool) (o : Option Node) → passes test o ≡ true → (y : Node) × (o ≡ Some y) × (test y ≡ true)
node_of_passes test None p = absurd (true_false (sym p))
node_of_passes test (Some y) p = (y, refl, p)

none_some : {X : Type 0} (x : X) → None ≡ Some x → ⊥
none_some x e = absurd (cc)

-- ---- lists of rows

number_later : (p : ℕ × List Value) (ps : Rows) (n : ℕ) → has_number ps n ≡ true → has_number (p ∷ ps) n ≡ true
number_later p ps n e = later (nat_eq n p.0) (has_number ps n) e

number_first : (p : ℕ × List Value) (ps : Rows) → has_number (p ∷ ps) p.0 ≡ true
number_first p ps = first (nat_eq p.0 p.0) (has_number ps p.0) (same_self p.0)

not_rest : (p : ℕ × List Value) (ps : Rows) → no_repeat (p ∷ ps) ≡ true → has_number ps p.0 ≡ false
not_rest p ps e = not_true (has_number ps p.0) (both_true (not (has_number ps p.0)) (no_repeat ps) e).0

rest_apart : (p : ℕ × List Value) (ps : Rows) → no_repeat (p ∷ ps) ≡ true → no_repeat ps ≡ true
rest_apart p ps e = (both_true (not (has_number ps p.0)) (no_repeat ps) e).1

rest_other : (n : ℕ) (p : ℕ × List Value) (ps : Rows) (q : ℕ × List Value) → no_repeat (p ∷ ps) ≡ true → nat_eq n p.0 ≡ true → has_number ps q.0 ≡ true → nat_eq n q.0 ≡ false
rest_other n p ps q apart is there = apart_not n q.0 (λ same. true_false (sym (subst (λ k. has_number ps k ≡ true) (sym same ∙ same_is n p.0 is) there) ∙ not_rest p ps apart))

module _ (E : ℕ × List Value → Entry) where
  map_alike : (F : ℕ × List Value → Entry) (ps : Rows) → ((p : ℕ × List Value) → has_number ps p.0 ≡ true → E p ≡ F p) → map E ps ≡ map F ps
  map_alike F [] alike = refl
  map_alike F (p ∷ ps) alike = let h = alike p (number_first p ps) in let t = map_alike F ps (λ q there. alike q (number_later p ps q.0 there)) in λ i. h i ∷ t i

  find_none : (P : Entry → Bool) (ps : Rows) → ((p : ℕ × List Value) → has_number ps p.0 ≡ true → P (E p) ≡ false) → find P (map E ps) ≡ None
  find_none P [] none = refl
  find_none P (p ∷ ps) none = ap (λ b. cond b (Some (E p)) (find P (map E ps))) (none p (number_first p ps)) ∙ find_none P ps (λ q there. none q (number_later p ps q.0 there))

  keeps_all : (P : Entry → Bool) (ps : Rows) → ((p : ℕ × List Value) → has_number ps p.0 ≡ true → P (E p) ≡ true) → filter P (map E ps) ≡ map E ps
  keeps_all P [] all = refl
  keeps_all P (p ∷ ps) all =
      ap (λ b. cond b (E p ∷ filter P (map E ps)) (filter P (map E ps))) (all p (number_first p ps)) ∙ ap (λ es. E p ∷ es) (keeps_all P ps (λ q there. all q (number_later p ps q.0 there)))

  find_agrees : (P : Entry → Bool) (n : ℕ) (ps : Rows) → ((p : ℕ × List Value) → has_number ps p.0 ≡ true → P (E p) ≡ nat_eq n p.0) → find P (map E ps) ≡ option_map E (lookup_entry (nat_eq n) ps)
  find_agrees P n [] agrees = refl
  find_agrees P n (p ∷ ps) agrees =
      ap (λ b. cond b (Some (E p)) (find P (map E ps))) (agrees p (number_first p ps))
      ∙ elim (nat_eq n p.0) as (λ b. cond b (Some (E p)) (find P (map E ps)) ≡ option_map E (cond b (Some p) (lookup_entry (nat_eq n) ps))) [
        | true ↦ refl
        | false ↦ find_agrees P n ps (λ q there. agrees q (number_later p ps q.0 there))
      ]

  keeps_others : (P : Entry → Bool) (n : ℕ) (ps : Rows) → no_repeat ps ≡ true → ((p : ℕ × List Value) → has_number ps p.0 ≡ true → P (E p) ≡ nat_eq n p.0)
      → filter (λ e. not (P e)) (map E ps) ≡ map E (remove_entry (nat_eq n) ps)
  keeps_others P n [] apart agrees = refl
  keeps_others P n (p ∷ ps) apart agrees =
      ap (λ b. cond (not b) (E p ∷ filter (λ e. not (P e)) (map E ps)) (filter (λ e. not (P e)) (map E ps))) (agrees p (number_first p ps))
      ∙ by (keeps_others P n ps (rest_apart p ps apart) (λ q there. agrees q (number_later p ps q.0 there)))
      (λ is. keeps_all (λ e. not (P e)) ps (λ q there. ap not (agrees q (number_later p ps q.0 there) ∙ rest_other n p ps q apart is there))) (nat_eq n p.0) refl
    where
      by : filter (λ e. not (P e)) (map E ps) ≡ map E (remove_entry (nat_eq n) ps) → (nat_eq n p.0 ≡ true → filter (λ e. not (P e)) (map E ps) ≡ map E ps) → (t : Bool) → nat_eq n p.0 ≡ t
          → cond (not t) (E p ∷ filter (λ e. not (P e)) (map E ps)) (filter (λ e. not (P e)) (map E ps)) ≡ map E (cond t ps (p ∷ remove_entry (nat_eq n) ps))
      by rest all true is = all is
      by rest all false is = ap (λ es. E p ∷ es) rest

  keeps_without : (keep : Entry → Bool) (n : ℕ) (ps : Rows) → ((p : ℕ × List Value) → nat_eq n p.0 ≡ true → keep (E p) ≡ false) → filter keep (map E (remove_entry (nat_eq n) ps)) ≡ filter keep (map E ps)
  keeps_without keep n [] dropped = refl
  keeps_without keep n (p ∷ ps) dropped = by (keeps_without keep n ps dropped) (nat_eq n p.0) refl
    where
      by : filter keep (map E (remove_entry (nat_eq n) ps)) ≡ filter keep (map E ps) → (t : Bool) → nat_eq n p.0 ≡ t
          → filter keep (map E (cond t ps (p ∷ remove_entry (nat_eq n) ps))) ≡ cond (keep (E p)) (E p ∷ filter keep (map E ps)) (filter keep (map E ps))
      by rest true is = sym (ap (λ b. cond b (E p ∷ filter keep (map E ps)) (filter keep (map E ps))) (dropped p is))
      by rest false is = ap (λ es. cond (keep (E p)) (E p ∷ es) es) rest

and_none : (a : Bool) → (a && false) ≡ false
and_none true = refl
and_none false = refl

-- ---- rows without those of a number

has_removed : (n m : ℕ) (ps : Rows) → no_repeat ps ≡ true → has_number (remove_entry (nat_eq n) ps) m ≡ (not (nat_eq n m) && has_number ps m)
has_removed n m [] apart = sym (and_none (not (nat_eq n m)))
has_removed n m (p ∷ ps) apart = by (has_removed n m ps (rest_apart p ps apart)) (nat_eq n p.0) refl (nat_eq n m) refl
  where
    moved : nat_eq n p.0 ≡ true → nat_eq n m ≡ true → has_number ps m ≡ false
    moved a b = subst (λ k. has_number ps k ≡ false) (sym (same_is n p.0 a) ∙ same_is n m b) (not_rest p ps apart)

    apart_here : nat_eq n p.0 ≡ true → nat_eq n m ≡ false → nat_eq m p.0 ≡ false
    apart_here a b = subst (λ k. nat_eq m k ≡ false) (same_is n p.0 a) (nat_eq_turned m n ∙ b)

    apart_there : nat_eq n p.0 ≡ false → nat_eq n m ≡ true → nat_eq m p.0 ≡ false
    apart_there a b = subst (λ k. nat_eq k p.0 ≡ false) (same_is n m b) a

    by : has_number (remove_entry (nat_eq n) ps) m ≡ (not (nat_eq n m) && has_number ps m) → (t : Bool) → nat_eq n p.0 ≡ t → (u : Bool) → nat_eq n m ≡ u
        → has_number (cond t ps (p ∷ remove_entry (nat_eq n) ps)) m ≡ (not u && (nat_eq m p.0 || has_number ps m))
    by rest true a true b = moved a b
    by rest true a false b = sym (ap (λ x. x || has_number ps m) (apart_here a b))
    by rest false a true b = ap (λ x. x || has_number (remove_entry (nat_eq n) ps) m) (apart_there a b) ∙ rest ∙ ap (λ u. not u && has_number ps m) b
    by rest false a false b = ap (λ x. nat_eq m p.0 || x) (rest ∙ ap (λ u. not u && has_number ps m) b)

distinct_removed : (n : ℕ) (ps : Rows) → no_repeat ps ≡ true → no_repeat (remove_entry (nat_eq n) ps) ≡ true
distinct_removed n [] apart = refl
distinct_removed n (p ∷ ps) apart = by (distinct_removed n ps (rest_apart p ps apart)) (nat_eq n p.0) refl
  where
    by : no_repeat (remove_entry (nat_eq n) ps) ≡ true → (t : Bool) → nat_eq n p.0 ≡ t → no_repeat (cond t ps (p ∷ remove_entry (nat_eq n) ps)) ≡ true
    by rest true is = rest_apart p ps apart
    by rest false is =
        both_hold (not (has_number (remove_entry (nat_eq n) ps) p.0)) (no_repeat (remove_entry (nat_eq n) ps))
        (ap not (has_removed n p.0 ps (rest_apart p ps apart) ∙ ap (λ b. not (nat_eq n p.0) && b) (not_rest p ps apart) ∙ and_none (not (nat_eq n p.0)))) rest

length_more : (p : ℕ × List Value) (ps qs : Rows) → length ps + 1 ≡ length qs → length (p ∷ ps) + 1 ≡ length (p ∷ qs)
length_more p ps qs e = omega (arith, e)

length_one : (p : ℕ × List Value) (ps : Rows) → length ps + 1 ≡ length (p ∷ ps)
length_one p ps = omega arith

length_removed : (n : ℕ) (ps : Rows) → has_number ps n ≡ true → length (remove_entry (nat_eq n) ps) + 1 ≡ length ps
length_removed n [] there = absurd (true_false (sym there))
length_removed n (p ∷ ps) there =
    elim (nat_eq n p.0) as (λ t. (t || has_number ps n) ≡ true → length (cond t ps (p ∷ remove_entry (nat_eq n) ps)) + 1 ≡ length (p ∷ ps)) [
      | true ↦ λ h. length_one p ps
      | false ↦ λ h. length_more p (remove_entry (nat_eq n) ps) ps (length_removed n ps h)
    ] there

has_found : (n : ℕ) (ps : Rows) → has_number ps n ≡ is_some (lookup_entry (nat_eq n) ps)
has_found n [] = refl
has_found n (p ∷ ps) = elim (nat_eq n p.0) as (λ t. (t || has_number ps n) ≡ is_some (cond t (Some p) (lookup_entry (nat_eq n) ps))) [ true ↦ refl | false ↦ has_found n ps ]

found_is : (n : ℕ) (ps : Rows) (q : ℕ × List Value) → lookup_entry (nat_eq n) ps ≡ Some q → n ≡ q.0
found_is n ps q found = same_is n q.0 (Contains-lookup_entry (nat_eq n) ps q found).1

lookup_found : (n : ℕ) (ps : Rows) → lookup (nat_eq n) ps ≡ option_map (λ e. e.1) (lookup_entry (nat_eq n) ps)
lookup_found n [] = refl
lookup_found n (p ∷ ps) = elim (nat_eq n p.0) as (λ t. cond t (Some p.1) (lookup (nat_eq n) ps) ≡ option_map (λ e. e.1) (cond t (Some p) (lookup_entry (nat_eq n) ps))) [ true ↦ refl | false ↦ lookup_found n ps ]

-- the last entry is that of its number
last_removed : (k : ℕ) (q : ℕ × List Value) (ps : Rows) → no_repeat ps ≡ true → length ps ≡ k + 1 → slice_get ps k ≡ Some q → (has_number ps q.0 ≡ true) × (remove_entry (nat_eq q.0) ps ≡ take k ps)
last_removed k q [] apart long last = absurd (omega (arith, long))
last_removed zero q (p ∷ ps) apart long last =
    let same = some_same p q last in
    let none = nil_from_length ps (omega (arith, long)) in
    let here : nat_eq q.0 p.0 ≡ true = subst (λ r. nat_eq r.0 p.0 ≡ true) same (same_self p.0) in
    (first (nat_eq q.0 p.0) (has_number ps q.0) here, ap (λ t. cond t ps (p ∷ remove_entry (nat_eq q.0) ps)) here ∙ none)
last_removed (suc k) q (p ∷ ps) apart long last =
    let rest = last_removed k q ps (rest_apart p ps apart) (omega (arith, long)) last in
    let differs : nat_eq q.0 p.0 ≡ false = apart_not q.0 p.0 (λ same. true_false (sym (subst (λ n. has_number ps n ≡ true) same rest.0) ∙ not_rest p ps apart)) in
    (later (nat_eq q.0 p.0) (has_number ps q.0) rest.0, ap (λ t. cond t ps (p ∷ remove_entry (nat_eq q.0) ps)) differs ∙ ap (λ es. p ∷ es) rest.1)

-- ---- nodes and their rows

module _ (nodes : Nodes) (held : Rows) (h : IsHeld nodes held) where
  node_of : (p : ℕ × List Value) → has_number held p.0 ≡ true → (y : Node) × (get nodes p.0 ≡ Some y)
  node_of p there = node_there nodes p.0 (h.known p.0 ∙ there)

  -- an entry is at the site and key of a node where it has its number
  agrees_at : (site : ℕ) (xs : List Atom) (n : ℕ) (node : Node) → get nodes n ≡ Some node → IsThere site xs node → (p : ℕ × List Value) → has_number held p.0 ≡ true
      → is_at site (atom_values xs) (entry_of (get nodes p.0) p.1) ≡ nat_eq n p.0
  agrees_at site xs n node found at p there =
      let y = node_of p there in
      ap (λ o. is_at site (atom_values xs) (entry_of o p.1)) y.1 ∙ entry_tested site xs y.0 p.1
      ∙ both_ways (node_is_at site (atom_values xs) y.0) (nat_eq n p.0)
      (λ e. subst (λ k. nat_eq n k ≡ true) (h.single n p.0 node y.0 found y.1 (there_at node.site node.key y.0 (there_both site xs node y.0 at (at_there site xs y.0 e)))) (same_self n))
      (λ e. there_at site xs y.0 (subst (IsThere site xs) (some_same node y.0 (sym found ∙ ap (get nodes) (same_is n p.0 e) ∙ y.1)) at))

  absent_at : (site : ℕ) (xs : List Atom) → NoNode (node_is_at site (atom_values xs)) nodes → (p : ℕ × List Value) → has_number held p.0 ≡ true
      → is_at site (atom_values xs) (entry_of (get nodes p.0) p.1) ≡ false
  absent_at site xs none p there =
      let y = node_of p there in
      ap (λ o. is_at site (atom_values xs) (entry_of o p.1)) y.1 ∙ entry_tested site xs y.0 p.1 ∙ sym (ap (passes (node_is_at site (atom_values xs))) y.1) ∙ none p.0

  pub entry_absent : (site : ℕ) (xs : List Atom) → NoNode (node_is_at site (atom_values xs)) nodes → entry_at site (atom_values xs) (entries_of nodes held) ≡ None
  entry_absent site xs none = find_none (λ p. entry_of (get nodes p.0) p.1) (is_at site (atom_values xs)) held (absent_at site xs none)

  rows_of : (o : Option Node) (rows : List Value) → (entry_of o rows).rows ≡ rows
  rows_of None rows = refl
  rows_of (Some y) rows = refl

  module _ (site : ℕ) (xs : List Atom) (n : ℕ) (passed : passes (node_is_at site (atom_values xs)) (get nodes n) ≡ true) where
    there_is : (node : Node) × (get nodes n ≡ Some node) × (node_is_at site (atom_values xs) node ≡ true)
    there_is = node_of_passes (node_is_at site (atom_values xs)) (get nodes n) passed

    pub entry_found : entry_at site (atom_values xs) (entries_of nodes held) ≡ option_map (λ p. entry_of (get nodes p.0) p.1) (lookup_entry (nat_eq n) held)
    entry_found =
        find_agrees (λ p. entry_of (get nodes p.0) p.1) (is_at site (atom_values xs)) n held
        (agrees_at site xs n there_is.0 there_is.1 (at_there site xs there_is.0 there_is.2))

    mapped_there : (o : Option (ℕ × List Value)) → is_some (option_map (λ p. entry_of (get nodes p.0) p.1) o) ≡ is_some o
    mapped_there None = refl
    mapped_there (Some p) = refl

    pub entry_there : is_some (entry_at site (atom_values xs) (entries_of nodes held)) ≡ true
    entry_there = ap is_some entry_found ∙ mapped_there (lookup_entry (nat_eq n) held) ∙ sym (has_found n held) ∙ sym (h.known n) ∙ ap is_some there_is.1

    rows_found : (o : Option (ℕ × List Value)) → option_map (λ (e : Entry). e.rows) (option_map (λ p. entry_of (get nodes p.0) p.1) o) ≡ option_map (λ e. e.1) o
    rows_found None = refl
    rows_found (Some p) = ap Some (rows_of (get nodes p.0) p.1)

    pub rows_there : lookup (nat_eq n) held ≡ option_map (λ e. e.rows) (entry_at site (atom_values xs) (entries_of nodes held))
    rows_there = lookup_found n held ∙ sym (ap (option_map (λ e. e.rows)) entry_found ∙ rows_found (lookup_entry (nat_eq n) held))

    pub to_front_there : entries_of nodes (promoted (nat_eq n) held) ≡ to_front (entry_at site (atom_values xs) (entries_of nodes held)) (entries_of nodes held)
    to_front_there = by (lookup_entry (nat_eq n) held) refl ∙ sym (ap (λ o. to_front o (entries_of nodes held)) entry_found)
      where
        front : (q : ℕ × List Value) (o : Option Node) (node : Node) → o ≡ Some node → IsThere node.site node.key node → get nodes q.0 ≡ o
            → filter (λ other. not (is_at (entry_of o q.1).site (entry_of o q.1).key other)) (entries_of nodes held) ≡ entries_of nodes (remove_entry (nat_eq q.0) held)
        front q o node is self found =
            subst (λ x. filter (λ other. not (is_at (entry_of x q.1).site (entry_of x q.1).key other)) (entries_of nodes held) ≡ entries_of nodes (remove_entry (nat_eq q.0) held)) (sym is)
            (keeps_others (λ p. entry_of (get nodes p.0) p.1) (is_at node.site (atom_values node.key)) q.0 held h.distinct (agrees_at node.site node.key q.0 node (found ∙ is) self))

        by : (o : Option (ℕ × List Value)) → lookup_entry (nat_eq n) held ≡ o
            → entries_of nodes (option_map_or (λ e. e ∷ remove_entry (nat_eq n) held) o held) ≡ to_front (option_map (λ p. entry_of (get nodes p.0) p.1) o) (entries_of nodes held)
        by None is = refl
        by (Some q) is =
            let same = found_is n held q is in
            ap (λ es. entry_of (get nodes q.0) q.1 ∷ es)
            (ap (λ k. entries_of nodes (remove_entry (nat_eq k) held)) same ∙ sym (front q (get nodes q.0) there_is.0 (ap (get nodes) (sym same) ∙ there_is.1) (there_self there_is.0) refl))

  pub IsHeld-promoted : (n : ℕ) → IsHeld nodes (promoted (nat_eq n) held)
  IsHeld-promoted n = by (lookup_entry (nat_eq n) held) refl
    where
      has_same : (q : ℕ × List Value) → n ≡ q.0 → has_number held n ≡ true → (m : ℕ) → has_number held m ≡ (nat_eq m q.0 || has_number (remove_entry (nat_eq n) held) m)
      has_same q same there m =
          cases (nat_eq n m) refl ∙ sym (ap (λ k. nat_eq m k || (not (nat_eq n m) && has_number held m)) (sym same)) ∙ ap (λ x. nat_eq m q.0 || x) (sym (has_removed n m held h.distinct))
        where
          cases : (u : Bool) → nat_eq n m ≡ u → has_number held m ≡ (nat_eq m n || (not (nat_eq n m) && has_number held m))
          cases true e = subst (λ k. has_number held k ≡ true) (same_is n m e) there ∙ sym (ap (λ x. x || (not (nat_eq n m) && has_number held m)) (nat_eq_turned m n ∙ e))
          cases false e = sym (ap (λ x. x || (not (nat_eq n m) && has_number held m)) (nat_eq_turned m n ∙ e) ∙ ap (λ u. not u && has_number held m) e)

      by : (o : Option (ℕ × List Value)) → lookup_entry (nat_eq n) held ≡ o → IsHeld nodes (option_map_or (λ e. e ∷ remove_entry (nat_eq n) held) o held)
      by None is = h
      by (Some q) is =
          let same = found_is n held q is in
          let there : has_number held n ≡ true = has_found n held ∙ ap is_some is in
          record {
            known = λ m. h.known m ∙ has_same q same there m;
            single = h.single;
            distinct = both_hold (not (has_number (remove_entry (nat_eq n) held) q.0)) (no_repeat (remove_entry (nat_eq n) held))
                (ap not (has_removed n q.0 held h.distinct ∙ ap (λ t. not t && has_number held q.0) (subst (λ k. nat_eq n k ≡ true) same (same_self n)))) (distinct_removed n held h.distinct);
            count = h.count ∙ sym (length_removed n held there) ∙ length_one q (remove_entry (nat_eq n) held);
          }

  apart_get : (n m : ℕ) → nat_eq n m ≡ false → get (remove nodes n) m ≡ get nodes m
  apart_get n m e = get-remove nat_cmp_total nodes n m ∙ ap (λ t. cond t None (get nodes m)) (by_cmp m n ∙ nat_eq_turned m n ∙ e)

  was_there : (n m : ℕ) (x : Node) → get (remove nodes n) m ≡ Some x → get nodes m ≡ Some x
  was_there n m x e = by (eq_by_cmp nat_cmp m n) (sym (get-remove nat_cmp_total nodes n m) ∙ e)
    where
      by : (t : Bool) → cond t None (get nodes m) ≡ Some x → get nodes m ≡ Some x
      by true e = absurd (none_some x e)
      by false e = e

  pub entries_removed : (n : ℕ) → entries_of (remove nodes n) (remove_entry (nat_eq n) held) ≡ entries_of nodes (remove_entry (nat_eq n) held)
  entries_removed n =
      map_alike (λ p. entry_of (get (remove nodes n) p.0) p.1) (λ p. entry_of (get nodes p.0) p.1) (remove_entry (nat_eq n) held)
      (λ p there. ap (λ o. entry_of o p.1) (apart_get n p.0 (not_true (nat_eq n p.0) (both_true (not (nat_eq n p.0)) (has_number held p.0) (sym (has_removed n p.0 held h.distinct) ∙ there)).0)))

  pub IsHeld-removed : (n : ℕ) (y : Node) → get nodes n ≡ Some y → IsHeld (remove nodes n) (remove_entry (nat_eq n) held)
  IsHeld-removed n y found =
      let there : has_number held n ≡ true = sym (h.known n) ∙ ap is_some found in
      record {
        known = λ m. ap is_some (get-remove nat_cmp_total nodes n m) ∙ ap (λ t. is_some (cond t None (get nodes m))) (by_cmp m n ∙ nat_eq_turned m n) ∙ none (nat_eq n m) (get nodes m) ∙ ap (λ b. not (nat_eq n m) && b) (h.known m) ∙ sym (has_removed n m held h.distinct);
        single = λ m k x z a b. h.single m k x z (was_there n m x a) (was_there n k z b);
        distinct = distinct_removed n held h.distinct;
        count = fewer (len-remove nat_cmp_total nodes n ∙ ap (λ t. cond t (len nodes - 1) (len nodes)) (ap is_some found)) (length_removed n held there);
      }
    where
      none : (t : Bool) (o : Option Node) → is_some (cond t None o) ≡ (not t && is_some o)
      none true o = refl
      none false o = refl

      fewer : len (remove nodes n) ≡ len nodes - 1 → length (remove_entry (nat_eq n) held) + 1 ≡ length held → len (remove nodes n) ≡ length (remove_entry (nat_eq n) held)
      fewer a b = omega (arith, a, b, h.count)

  number_absent : (n : ℕ) → get nodes n ≡ None → has_number held n ≡ false
  number_absent n absent = sym (h.known n) ∙ ap is_some absent

  pub lookup_absent : (n : ℕ) → get nodes n ≡ None → lookup_entry (nat_eq n) held ≡ None
  lookup_absent n absent = by (lookup_entry (nat_eq n) held) (sym (has_found n held) ∙ number_absent n absent)
    where
      by : (o : Option (ℕ × List Value)) → is_some o ≡ false → o ≡ None
      by None e = refl
      by (Some q) e = absurd (true_false e)

  module _ (n : ℕ) (node : Node) (rows : List Value) (absent : get nodes n ≡ None) where
    get_new : get (insert nodes n node) n ≡ Some node
    get_new = get-insert nat_cmp_total nodes n node n ∙ ap (λ t. cond t (Some node) (get nodes n)) (by_cmp n n ∙ same_self n)

    get_old : (m : ℕ) → nat_eq n m ≡ false → get (insert nodes n node) m ≡ get nodes m
    get_old m e = get-insert nat_cmp_total nodes n node m ∙ ap (λ t. cond t (Some node) (get nodes m)) (by_cmp m n ∙ nat_eq_turned m n ∙ e)

    pub entries_put : entries_of (insert nodes n node) ((n, rows) ∷ held) ≡ record { site = node.site; key = atom_values node.key; rows = rows } ∷ entries_of nodes held
    entries_put =
        let here : entry_of (get (insert nodes n node) n) rows ≡ record { site = node.site; key = atom_values node.key; rows = rows } = ap (λ o. entry_of o rows) get_new in
        let rest = map_alike (λ p. entry_of (get (insert nodes n node) p.0) p.1) (λ p. entry_of (get nodes p.0) p.1) held (λ p there. ap (λ o. entry_of o p.1) (get_old p.0 (other p.0 there))) in
        λ i. here i ∷ rest i
      where
        other : (m : ℕ) → has_number held m ≡ true → nat_eq n m ≡ false
        other m there = apart_not n m (λ same. true_false (sym (subst (λ k. has_number held k ≡ true) (sym same) there) ∙ number_absent n absent))

    -- no node had the site and key of the new one
    only_new : entry_at node.site (atom_values node.key) (entries_of nodes held) ≡ None → (m : ℕ) (y : Node) → get nodes m ≡ Some y → IsThere node.site node.key y → ⊥
    only_new none m y found at =
        let passed = ap (passes (node_is_at node.site (atom_values node.key))) found ∙ there_at node.site node.key y at in
        true_false (sym (mapped (lookup_entry (nat_eq m) held) ∙ sym (has_found m held) ∙ sym (h.known m) ∙ ap is_some found) ∙ ap is_some (sym (entry_found node.site node.key m passed) ∙ none))
      where
        mapped : (o : Option (ℕ × List Value)) → is_some (option_map (λ p. entry_of (get nodes p.0) p.1) o) ≡ is_some o
        mapped None = refl
        mapped (Some p) = refl

    pub IsHeld-put : entry_at node.site (atom_values node.key) (entries_of nodes held) ≡ None → IsHeld (insert nodes n node) ((n, rows) ∷ held)
    IsHeld-put none = record {
      known = λ m. ap is_some (get-insert nat_cmp_total nodes n node m) ∙ ap (λ t. is_some (cond t (Some node) (get nodes m))) (by_cmp m n) ∙ one_more (nat_eq m n) (get nodes m) ∙ ap (λ b. nat_eq m n || b) (h.known m);
      single = λ m k x z a b e. cases m k x z a b e (nat_eq n m) refl (nat_eq n k) refl;
      distinct = both_hold (not (has_number held n)) (no_repeat held) (ap not (number_absent n absent)) h.distinct;
      count = grown (len-insert nat_cmp_total nodes n node ∙ ap (λ t. cond t (len nodes) (len nodes + 1)) (ap is_some absent));
    }
      where
        one_more : (t : Bool) (o : Option Node) → is_some (cond t (Some node) o) ≡ (t || is_some o)
        one_more true o = refl
        one_more false o = refl

        grown : len (insert nodes n node) ≡ len nodes + 1 → len (insert nodes n node) ≡ length ((n, rows) ∷ held)
        grown e = omega (arith, e, h.count)

        new_is : (m : ℕ) (x : Node) → nat_eq n m ≡ true → get (insert nodes n node) m ≡ Some x → x ≡ node
        new_is m x same a = some_same x node (sym a ∙ ap (get (insert nodes n node)) (sym (same_is n m same)) ∙ get_new)

        cases : (m k : ℕ) (x z : Node) → get (insert nodes n node) m ≡ Some x → get (insert nodes n node) k ≡ Some z → node_is_at x.site (atom_values x.key) z ≡ true → (t : Bool) → nat_eq n m ≡ t → (u : Bool) → nat_eq n k ≡ u → m ≡ k
        cases m k x z a b e true t true u = sym (same_is n m t) ∙ same_is n k u
        cases m k x z a b e true t false u =
            absurd (only_new none k z (sym (get_old k u) ∙ b) (subst (λ (y : Node). IsThere y.site y.key z) (new_is m x t a) (at_there x.site x.key z e)))
        cases m k x z a b e false t true u =
            absurd (only_new none m x (sym (get_old m t) ∙ a) (there_turned x node (subst (IsThere x.site x.key) (new_is k z u b) (at_there x.site x.key z e))))
        cases m k x z a b e false t false u = h.single m k x z (sym (get_old m t) ∙ a) (sym (get_old k u) ∙ b) e

  -- without the last
  module _ (k : ℕ) (q : ℕ × List Value) (long : length held ≡ k + 1) (last : slice_get held k ≡ Some q) where
    pub IsHeld-shorter : IsHeld (remove nodes q.0) (take k held)
    IsHeld-shorter =
        let l = last_removed k q held h.distinct long last in let y = node_there nodes q.0 (h.known q.0 ∙ l.0) in
        subst (IsHeld (remove nodes q.0)) l.1 (IsHeld-removed q.0 y.0 y.1)

    pub entries_shorter : entries_of (remove nodes q.0) (take k held) ≡ take k (entries_of nodes held)
    entries_shorter =
        let l = last_removed k q held h.distinct long last in
        ap (entries_of (remove nodes q.0)) (sym l.1) ∙ entries_removed q.0 ∙ ap (entries_of nodes) l.1 ∙ sym (take-map (λ p. entry_of (get nodes p.0) p.1) k held)

  -- nothing is left that passes the test
  pub kept_all : (test : Node → Bool) (keep : Entry → Bool) → ((y : Node) (rows : List Value) → test y ≡ false → keep (entry_of (Some y) rows) ≡ true) → NoNode test nodes
      → filter keep (entries_of nodes held) ≡ entries_of nodes held
  kept_all test keep keeps none =
      keeps_all (λ p. entry_of (get nodes p.0) p.1) keep held
      (λ p there. let y = node_of p there in ap (λ o. keep (entry_of o p.1)) y.1 ∙ keeps y.0 p.1 (sym (ap (passes test) y.1) ∙ none p.0))

-- these are taken out one after another
pub record IsLeft (keep : Entry → Bool) (nodes : Nodes) (held : Rows) (new_nodes : Nodes) (new_held : Rows) : Type 0 where
  pub kept : IsHeld new_nodes new_held
  pub entries : filter keep (entries_of new_nodes new_held) ≡ filter keep (entries_of nodes held)
  pub fewer : length new_held ≤ length held

module _ (test : Node → Bool) (keep : Entry → Bool) (drops : (y : Node) (rows : List Value) → test y ≡ true → keep (entry_of (Some y) rows) ≡ false) where
  pub all_removed : (taken : List (NodeId × Node)) (nodes new : Nodes) (held : Rows) → IsHeld nodes held → TakesOut test nodes taken new → IsLeft keep nodes held new (without_all taken held)
  all_removed [] nodes new held h out =
      record {
        kept = subst (λ m. IsHeld m held) (sym out) h;
        entries = ap (λ m. filter keep (entries_of m held)) out;
        fewer = omega arith;
      }
  all_removed (e ∷ es) nodes new held h out =
      let n = e.0.number in
      let rest = all_removed es (remove nodes n) new (remove_entry (nat_eq n) held) (IsHeld-removed nodes held h n e.1 out.0) out.2 in
      let less = length_removed n held (sym (h.known n) ∙ ap is_some out.0) in
      record {
        kept = rest.kept;
        entries = rest.entries ∙ ap (filter keep) (entries_removed nodes held h n)
            ∙ keeps_without (λ p. entry_of (get nodes p.0) p.1) keep n held (λ p same. ap (λ o. keep (entry_of o p.1)) (ap (get nodes) (sym (same_is n p.0 same)) ∙ out.0) ∙ drops e.1 p.1 out.1);
        fewer = omega (arith, rest.fewer, less);
      }

-- one mask more
pub unmasked_more : (mask : Mask) (masks : List Mask) (es : List Entry) → unmasked (mask ∷ masks) es ≡ unmasked masks (filter (λ e. not (matches (read_mask mask) e.site e.key)) es)
unmasked_more mask masks [] = refl
unmasked_more mask masks (e ∷ es) =
    elim (matches (read_mask mask) e.site e.key) as (λ a. cond (not (a || is_masked (map read_mask masks) e.site e.key)) (e ∷ unmasked (mask ∷ masks) es) (unmasked (mask ∷ masks) es)
    ≡ unmasked masks (cond (not a) (e ∷ filter (λ x. not (matches (read_mask mask) x.site x.key)) es) (filter (λ x. not (matches (read_mask mask) x.site x.key)) es))) [
      | true ↦ unmasked_more mask masks es
      | false ↦ ap (λ xs. cond (not (is_masked (map read_mask masks) e.site e.key)) (e ∷ xs) xs) (unmasked_more mask masks es)
    ]

pub unmasked_none : (es : List Entry) → unmasked [] es ≡ es
unmasked_none [] = refl
unmasked_none (e ∷ es) = ap (λ xs. e ∷ xs) (unmasked_none es)

-- ---- calls

pub none_of : (b : Bool) (o : Option Node) → IsTrue b ↔ IsSome o → b ≡ false → o ≡ None
none_of b None iff e = refl
none_of b (Some y) iff e = absurd (true_false (sym (iff.1 refl) ∙ e))

pub removed_absent : (nodes : Nodes) (n : ℕ) → get nodes n ≡ None → nodes ≡ remove nodes n
removed_absent nodes n absent = same_map nat_cmp_total nat_cmp-IsAntisymmetric nodes (remove nodes n) (λ q. sym (get-remove nat_cmp_total nodes n q ∙ by q (eq_by_cmp nat_cmp q n) (by_cmp q n)))
  where
    by : (q : ℕ) (t : Bool) → t ≡ nat_eq q n → cond t None (get nodes q) ≡ get nodes q
    by q true e = sym (ap (get nodes) (same_is q n (sym e)) ∙ absent)
    by q false e = refl

pub put_new : (c : LruCache ℕ (List Value)) (nodes : Nodes) (n : ℕ) (rows : List Value) → IsHeld nodes c.entries → get nodes n ≡ None → length c.entries + 1 < c.cap → put_entries nat_eq c n rows ≡ (n, rows) ∷ c.entries
put_new c nodes n rows h absent less =
    ap (λ o. option_map_or (λ e. (e.0, rows) ∷ remove_entry (nat_eq n) c.entries) o ((n, rows) ∷ take (c.cap - 1) c.entries)) (lookup_absent nodes c.entries h n absent)
    ∙ ap (λ es. (n, rows) ∷ es) (take_all (c.cap - 1) c.entries (omega (arith, less)))

pub drops_last : (nodes new : Nodes) (held shorter : Rows) (q : ℕ × List Value) → 0 < length held → slice_get held (length held - 1) ≡ Some q → new ≡ remove nodes q.0 → shorter ≡ take (length held - 1) held → DropsLast nodes held new shorter
drops_last nodes new held shorter q some last out taken h =
    let k = length held - 1 in
    let long : length held ≡ k + 1 = omega (arith, some) in (
      subst (λ m. IsHeld m shorter) (sym out) (subst (IsHeld (remove nodes q.0)) (sym taken) (IsHeld-shorter nodes held h k q long last)),
      ap (λ m. entries_of m shorter) out ∙ ap (entries_of (remove nodes q.0)) taken ∙ entries_shorter nodes held h k q long last,
      fewer long (ap length taken ∙ length-take-le k held (omega (arith, long))),
    )
  where
    fewer : length held ≡ length held - 1 + 1 → length shorter ≡ length held - 1 → length shorter + 1 ≡ length held
    fewer a b = omega (arith, a, b)

abbrev keep_of : Mask → Entry → Bool
keep_of mask e = not (matches (read_mask mask) e.site e.key)

pub matching_dropped : (mask : Mask) (nodes new : Nodes) (held left : Rows) (room mid after : RoomOf (NodeId × Node)) (start end : ℕ) → IsHeld nodes held → length room.items ≡ 0
    → DropsIn mask nodes new room.items mid.items start end → mid.spare + length mid.items ≡ room.spare + length room.items → left ≡ without_all mid.items held
    → after ≡ record { items = []; spare = mid.spare + length mid.items } → Keeps (λ e. not (matches (read_mask mask) e.site e.key)) nodes held room new left after
matching_dropped mask nodes new held left room mid after start end h empty drops sum popped cleared =
    let taken = drops.0 in
    let items : mid.items ≡ taken = drops.1 ∙ ap (λ xs. xs ++ taken) (nil_from_length room.items empty) in
    let l = all_removed (node_matches mask) (keep_of mask) (λ y rows e. ap not e) taken nodes new held h drops.2.out in
    let now : left ≡ without_all taken held = popped ∙ ap (λ xs. without_all xs held) items in
    record {
      entries = ap (entries_of new) now ∙ sym (kept_all new (without_all taken held) l.kept (node_matches mask) (keep_of mask) (λ y rows e. ap not e) drops.2.left) ∙ l.entries;
      kept = subst (IsHeld new) (sym now) l.kept;
      fewer = subst (λ xs. length xs ≤ length held) (sym now) l.fewer;
      spare = ap (λ r. r.spare) cleared ∙ sum ∙ ap (λ k. room.spare + k) empty ∙ none_more room.spare;
      empty = ap (λ r. length r.items) cleared;
    }
  where
    none_more : (k : ℕ) → k + 0 ≡ k
    none_more k = omega arith

pub DropsSoFar-more : (all : List Mask) (mask : Mask) (rest : List Mask) (nodes now new : Nodes) (held kept left : Rows) (room mid after : RoomOf (NodeId × Node)) → DropsSoFar all (mask ∷ rest) nodes held room now kept mid
    → Keeps (λ e. not (matches (read_mask mask) e.site e.key)) now kept mid new left after → DropsSoFar all rest nodes held room new left after
DropsSoFar-more all mask rest nodes now new held kept left room mid after d k = record {
  entries = ap (unmasked rest) k.entries ∙ sym (unmasked_more mask rest (entries_of now kept)) ∙ d.entries;
  kept = k.kept;
  fewer = omega (arith, d.fewer, k.fewer);
  spare = k.spare ∙ d.spare;
  empty = k.empty;
}

-- ---- the cache

no_node : (m : ℕ) (x : Node) → get (empty {X = Node} {R = nat_cmp}) m ≡ Some x → ⊥
no_node m x e = none_some x (sym (get-empty nat_cmp m) ∙ e)

pub IsHeld-empty : IsHeld empty []
IsHeld-empty = record {
  known = λ n. ap is_some (get-empty nat_cmp n);
  single = λ m n x y a b e. absurd (no_node m x a);
  distinct = refl;
  count = len-empty nat_cmp Node;
}

pub IsKept-new : (capacity cap : ℕ) (nodes : Nodes) (held : LruCache ℕ (List Value)) (room : RoomOf (NodeId × Node)) → nodes ≡ empty → held ≡ lru_cache [] cap → room.items ≡ [] → capacity ≤ room.spare
    → IsKept capacity nodes held.entries room
IsKept-new capacity cap nodes held room none fresh no_items spare = record {
  kept = subst (λ m. IsHeld m held.entries) (sym none) (subst (IsHeld empty) (sym (ap (λ l. l.entries) fresh)) IsHeld-empty);
  fits = subst (λ (es : Rows). length es ≤ capacity) (sym (ap (λ l. l.entries) fresh)) (omega arith);
  spare = spare;
  empty = ap length no_items;
}

pub IsKept-promoted : (capacity : ℕ) (nodes : Nodes) (held : Rows) (room : RoomOf (NodeId × Node)) (n : ℕ) → IsKept capacity nodes held room → IsKept capacity nodes (promoted (nat_eq n) held) room
IsKept-promoted capacity nodes held room n k =
    let h = IsHeld-promoted nodes held k.kept n in
    record { kept = h; fits = omega (arith, h.count, k.kept.count, k.fits); spare = k.spare; empty = k.empty }

pub IsKept-dropped : (capacity : ℕ) (all left : List Mask) (nodes new : Nodes) (held kept : Rows) (room after : RoomOf (NodeId × Node)) → IsKept capacity nodes held room → DropsSoFar all left nodes held room new kept after
    → IsKept capacity new kept after
IsKept-dropped capacity all left nodes new held kept room after k d =
    record { kept = d.kept; fits = omega (arith, d.fewer, k.fits); spare = subst (λ n. capacity ≤ n) (sym d.spare) k.spare; empty = d.empty }

module _ (v : Cached) (site : ℕ) (key : List Value) (unmasked_here : is_masked v.masks site key ≡ false) where
  hit_here : hit v site key ≡ entry_at site key v.entries
  hit_here = ap (λ b. cond b None (entry_at site key v.entries)) unmasked_here

  pub missed : entry_at site key v.entries ≡ None → v ≡ looked_up v site key
  missed none = ap (λ o. record v { entries = to_front o v.entries }) (sym (hit_here ∙ none))

  pub missed_rows : entry_at site key v.entries ≡ None → None ≡ option_map (λ (e : Entry). e.rows) (hit v site key)
  missed_rows none = sym (ap (option_map (λ (e : Entry). e.rows)) (hit_here ∙ none))

  pub found : (entries : List Entry) → entries ≡ to_front (entry_at site key v.entries) v.entries → record v { entries = entries } ≡ looked_up v site key
  found entries is = ap (λ es. record v { entries = es }) is ∙ ap (λ o. record v { entries = to_front o v.entries }) (sym hit_here)

  pub found_rows : (o : Option (List Value)) → o ≡ option_map (λ e. e.rows) (entry_at site key v.entries) → o ≡ option_map (λ (e : Entry). e.rows) (hit v site key)
  found_rows o is = is ∙ sym (ap (option_map (λ (e : Entry). e.rows)) hit_here)

none_from : {X : Type 0} (o : Option X) → IsNone o → o ≡ None
none_from None e = refl
none_from (Some x) e = absurd (true_false e)

module _ (capacity : ℕ) (nodes new : Nodes) (held kept : Rows) (room : RoomOf (NodeId × Node)) (node : Node) (rows : List Value) (k : IsKept capacity nodes held room)
    (absent : IsNone (entry_at node.site (atom_values node.key) (entries_of nodes held))) (puts : PutsIn node rows nodes held new kept) where
  now : kept ≡ (puts.0, rows) ∷ held
  now = puts.3 k.kept

  pub put_kept : IsHeld new kept
  put_kept =
      subst (λ m. IsHeld m kept) (sym puts.2) (subst (IsHeld (insert nodes puts.0 node)) (sym now)
      (IsHeld-put nodes held k.kept puts.0 node rows puts.1 (none_from (entry_at node.site (atom_values node.key) (entries_of nodes held)) absent)))

  put_entries_are : entries_of new kept ≡ record { site = node.site; key = atom_values node.key; rows = rows } ∷ entries_of nodes held
  put_entries_are = ap (λ m. entries_of m kept) puts.2 ∙ ap (entries_of (insert nodes puts.0 node)) now ∙ entries_put nodes held k.kept puts.0 node rows puts.1

  one_longer : length kept ≡ length held + 1
  one_longer = ap length now ∙ sym (length_one (puts.0, rows) held)

  pub put_fits : length kept ≤ capacity → IsKept capacity new kept room
  put_fits fits = record { kept = put_kept; fits = fits; spare = k.spare; empty = k.empty }

  pub put_whole : length kept ≤ capacity → entries_of new kept ≡ take capacity (record { site = node.site; key = atom_values node.key; rows = rows } ∷ entries_of nodes held)
  put_whole fits =
      sym (take_all capacity (entries_of new kept) (subst (λ n. n ≤ capacity) (sym (length-map kept (λ p. entry_of (get new p.0) p.1))) fits)) ∙ ap (take capacity) put_entries_are

  module _ (last : Nodes) (shorter : Rows) (over : capacity < length kept) (drops : DropsLast new kept last shorter) where
    pub dropped_fits : IsKept capacity last shorter room
    dropped_fits = let d = drops put_kept in record { kept = d.0; fits = omega (arith, one_longer, d.2, k.fits); spare = k.spare; empty = k.empty }

    pub dropped_one : entries_of last shorter ≡ take capacity (record { site = node.site; key = atom_values node.key; rows = rows } ∷ entries_of nodes held)
    dropped_one =
        let d = drops put_kept in
        let full : length kept - 1 ≡ capacity = omega (arith, one_longer, k.fits, over) in
        d.1 ∙ ap (λ n. take n (entries_of new kept)) full ∙ ap (take capacity) put_entries_are

pub committed : (v : Cached) (entries : List Entry) → entries ≡ filter (λ e. not (is_masked v.masks e.site e.key)) v.entries → record v { entries = entries; masks = [] } ≡ settled v settle.Commit
committed v entries is = ap (λ es. record v { entries = es; masks = [] }) is
