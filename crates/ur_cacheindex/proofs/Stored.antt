-- The nodes of a store.
use Rattle.std.proofs.Common.{◌≡◌, ℕ, ◌+◌, ◌≤◌, Bool, true, false, ◌&&◌, ◌||◌, T, cond, List, [], ◌∷◌, length, map, count_by, Option, Some, None, IsSome, option_map, refl, sym, ap, subst, ◌∙◌, arith}
use Rattle.std.proofs.lemmas.List.{length-map}
use Rattle.std.specs.List.{filter}
use Rattle.std.proofs.lemmas.List.Sums.{length-filter, count_by-le-length}
use Rattle.std.specs.Ordering.{nat_cmp, eq_by_cmp, is_lt}
use Rattle.std.specs.Cmp.{nat_cmp_total}
use Rattle.std.specs.FinMap.{get, insert, remove, entries, entries_sorted, find, is_sorted, len, len-entries, entries-from_sorted, get-from_sorted, get-entries, get-insert, get-remove, get-empty, empty}
use Rattle.ur_cacheindex.proofs.Laws.{tied, apart, same_items}
use Rattle.ur_cacheindex.specs.Chains.{same_number, lists_number, Once}
use Rattle.ur_cacheindex.proofs.Chains.{number_self, number_is, true_false}
use Rattle.ur_cacheindex.specs.declared.node.Node.{Node}
use Rattle.ur_cacheindex.specs.declared.linked.Linked.{Linked}
use Rattle.ur_cacheindex.specs.Nodes.{Nodes}
use Rattle.ur_cacheindex.specs.Calls.{passes}
use Rattle.ur_cacheindex.specs.Linked.{Store, nodes_of, look_at, stands, Alike}

abbrev plain : ℕ × Linked → ℕ × Node
plain e = (e.0, e.1.node)

-- what stands in `is_sorted` of std
abbrev below : {X : Type 0} → ℕ → List (ℕ × X) → Bool
below x [] = true
below x (e ∷ es) = is_lt (nat_cmp x e.0) && below x es

below_map : (x : ℕ) (es : List (ℕ × Linked)) → below x (map plain es) ≡ below x es
below_map x [] = refl
below_map x (e ∷ es) = ap (λ t. is_lt (nat_cmp x e.0) && t) (below_map x es)

sorted_map : (es : List (ℕ × Linked)) → is_sorted nat_cmp (map plain es) ≡ is_sorted nat_cmp es
sorted_map [] = refl
sorted_map (e ∷ es) = ap (λ t. t && is_sorted nat_cmp (map plain es)) (below_map e.0 es) ∙ ap (λ t. below e.0 es && t) (sorted_map es)

find_map : (q : ℕ) (es : List (ℕ × Linked)) → find nat_cmp q (map plain es) ≡ option_map (λ x. x.node) (find nat_cmp q es)
find_map q [] = refl
find_map q (e ∷ es) = by (find_map q es) (eq_by_cmp nat_cmp q e.0)
  where
    by : find nat_cmp q (map plain es) ≡ option_map (λ x. x.node) (find nat_cmp q es) → (t : Bool)
        → cond t (Some e.1.node) (find nat_cmp q (map plain es)) ≡ option_map (λ x. x.node) (cond t (Some e.1) (find nat_cmp q es))
    by rest true = refl
    by rest false = rest

is_ordered : (store : Store) → T (is_sorted nat_cmp (map plain (entries store)))
is_ordered store = subst T (sym (sorted_map (entries store))) (entries_sorted store)

-- a node at each number
pub get-nodes_of : (store : Store) (n : ℕ) → get (nodes_of store) n ≡ option_map (λ x. x.node) (get store n)
get-nodes_of store n = get-from_sorted nat_cmp (map plain (entries store)) n (is_ordered store) ∙ find_map n (entries store) ∙ ap (option_map (λ x. x.node)) (sym (get-entries store n))

pub len-nodes_of : (store : Store) → len (nodes_of store) ≡ len store
len-nodes_of store =
    len-entries (nodes_of store) ∙ ap length (entries-from_sorted nat_cmp (map plain (entries store)) (is_ordered store)) ∙ length-map (entries store) plain ∙ sym (len-entries store)

pub passes-nodes_of : (test : Node → Bool) (o : Option Linked) → passes test (option_map (λ x. x.node) o) ≡ stands (λ x. test x.node) o
passes-nodes_of test None = refl
passes-nodes_of test (Some x) = refl

some_node : (o : Option Linked) → IsSome (option_map (λ x. x.node) o) → IsSome o
some_node None h = h
some_node (Some x) h = refl

node_some : (o : Option Linked) → IsSome o → IsSome (option_map (λ x. x.node) o)
node_some None h = h
node_some (Some x) h = refl

pub there_stored : (store : Store) (n : ℕ) → IsSome (get (nodes_of store) n) → IsSome (get store n)
there_stored store n h = some_node (get store n) (subst IsSome (get-nodes_of store n) h)

pub stored_there : (store : Store) (n : ℕ) → IsSome (get store n) → IsSome (get (nodes_of store) n)
stored_there store n h = subst IsSome (sym (get-nodes_of store n)) (node_some (get store n) h)

pub nodes_alike : (old new : Store) → Alike (look_at old) (look_at new) → nodes_of new ≡ nodes_of old
nodes_alike old new alike = same_items (nodes_of new) (nodes_of old) (λ q. get-nodes_of new q ∙ (alike q).0 ∙ sym (get-nodes_of old q))

mapped : (t : Bool) (o p : Option Linked) → option_map (λ x. x.node) (cond t o p) ≡ cond t (option_map (λ x. x.node) o) (option_map (λ x. x.node) p)
mapped true o p = refl
mapped false o p = refl

pub nodes_remove : (store : Store) (n : ℕ) → nodes_of (remove store n) ≡ remove (nodes_of store) n
nodes_remove store n =
    same_items (nodes_of (remove store n)) (remove (nodes_of store) n) (λ q. get-nodes_of (remove store n) q ∙ ap (option_map (λ x. x.node)) (get-remove nat_cmp_total store n q)
    ∙ mapped (eq_by_cmp nat_cmp q n) None (get store q) ∙ ap (cond (eq_by_cmp nat_cmp q n) None) (sym (get-nodes_of store q)) ∙ sym (get-remove nat_cmp_total (nodes_of store) n q))

pub nodes_insert : (store : Store) (n : ℕ) (x : Linked) → nodes_of (insert store n x) ≡ insert (nodes_of store) n x.node
nodes_insert store n x =
    same_items (nodes_of (insert store n x)) (insert (nodes_of store) n x.node) (λ q. get-nodes_of (insert store n x) q ∙ ap (option_map (λ y. y.node)) (get-insert nat_cmp_total store n x q)
    ∙ mapped (eq_by_cmp nat_cmp q n) (Some x) (get store q) ∙ ap (cond (eq_by_cmp nat_cmp q n) (Some x.node)) (sym (get-nodes_of store q)) ∙ sym (get-insert nat_cmp_total (nodes_of store) n x.node q))

pub nodes_empty : nodes_of empty ≡ empty
nodes_empty = same_items (nodes_of empty) empty (λ q. get-nodes_of empty q ∙ ap (option_map (λ x. x.node)) (get-empty nat_cmp q) ∙ sym (get-empty nat_cmp q))

pub get_inserted : (store : Store) (n : ℕ) (x : Linked) → get (insert store n x) n ≡ Some x
get_inserted store n x = get-insert nat_cmp_total store n x n ∙ ap (λ t. cond t (Some x) (get store n)) (tied n n refl)

pub get_inserted_else : (store : Store) (n : ℕ) (x : Linked) (m : ℕ) → (m ≡ n → ⊥) → get (insert store n x) m ≡ get store m
get_inserted_else store n x m differs = get-insert nat_cmp_total store n x m ∙ ap (λ t. cond t (Some x) (get store m)) (apart m n differs)

pub get_removed : (store : Store) (n : ℕ) → get (remove store n) n ≡ None
get_removed store n = get-remove nat_cmp_total store n n ∙ ap (λ t. cond t None (get store n)) (tied n n refl)

pub get_removed_else : (store : Store) (n m : ℕ) → (m ≡ n → ⊥) → get (remove store n) m ≡ get store m
get_removed_else store n m differs = get-remove nat_cmp_total store n m ∙ ap (λ t. cond t None (get store m)) (apart m n differs)

-- ---- numbers that stand once are no more than the nodes that they are of

abbrev without_entry : ℕ → List (ℕ × Node) → List (ℕ × Node)
without_entry n [] = []
without_entry n (e ∷ es) = cond (same_number n e.0) es (e ∷ without_entry n es)

find_without : (n k : ℕ) (es : List (ℕ × Node)) → (n ≡ k → ⊥) → find nat_cmp k (without_entry n es) ≡ find nat_cmp k es
find_without n k [] differs = refl
find_without n k (e ∷ es) differs = by (find_without n k es differs) (same_number n e.0) refl
  where
    other : n ≡ e.0 → k ≡ e.0 → ⊥
    other a b = differs (a ∙ sym b)

    by : find nat_cmp k (without_entry n es) ≡ find nat_cmp k es → (t : Bool) → same_number n e.0 ≡ t → find nat_cmp k (cond t es (e ∷ without_entry n es)) ≡ find nat_cmp k (e ∷ es)
    by rest true is = sym (ap (λ t. cond t (Some e.1) (find nat_cmp k es)) (apart k e.0 (other (number_is n e.0 is))))
    by rest false is = ap (cond (eq_by_cmp nat_cmp k e.0) (Some e.1)) rest

one_more_kept : (x : ℕ × Node) (xs : List (ℕ × Node)) → length (x ∷ xs) ≡ 1 + length xs
one_more_kept x xs = omega arith

both_more : (x : ℕ × Node) (xs ys : List (ℕ × Node)) → length xs ≡ 1 + length ys → length (x ∷ xs) ≡ 1 + length (x ∷ ys)
both_more x xs ys e = omega (arith, e)

later_on : (t r : Bool) → r ≡ true → (t || r) ≡ true
later_on true r e = refl
later_on false r e = e

module _ (test : Node → Bool) where
  abbrev kept : List (ℕ × Node) → List (ℕ × Node)
  kept = filter (λ x. test x.1)

  one_kept : (n : ℕ) (es : List (ℕ × Node)) → passes test (find nat_cmp n es) ≡ true → length (kept es) ≡ 1 + length (kept (without_entry n es))
  one_kept n [] there = absurd (true_false (sym there))
  one_kept n (e ∷ es) there =
      elim (same_number n e.0) as (λ t. passes test (cond t (Some e.1) (find nat_cmp n es)) ≡ true
      → length (cond (test e.1) (e ∷ kept es) (kept es)) ≡ 1 + length (kept (cond t es (e ∷ without_entry n es)))) [
        | true ↦ λ here. ap (λ b. length (cond b (e ∷ kept es) (kept es))) here ∙ one_more_kept e (kept es)
        | false ↦ λ later. elim (test e.1) as (λ b. length (cond b (e ∷ kept es) (kept es)) ≡ 1 + length (cond b (e ∷ kept (without_entry n es)) (kept (without_entry n es)))) [
          | true ↦ both_more e (kept es) (kept (without_entry n es)) (one_kept n es later)
          | false ↦ one_kept n es later
        ]
      ] there

  fits_entries : (xs : List ℕ) (es : List (ℕ × Node)) → Once xs → ((k : ℕ) → lists_number xs k ≡ true → passes test (find nat_cmp k es) ≡ true) → length xs ≤ length (kept es)
  fits_entries [] es once all = omega arith
  fits_entries (x ∷ xs) es once all =
      let here = all x (ap (λ t. t || lists_number xs x) (number_self x)) in
      let rest =
      fits_entries xs (without_entry x es) once.1 (λ k on.
      ap (passes test) (find_without x k es (λ e. true_false (sym on ∙ subst (λ j. lists_number xs j ≡ false) e once.0))) ∙ all k (later_on (same_number k x) (lists_number xs k) on))
      in
      omega (arith, one_kept x es here, rest)

  pub length_fits : (nodes : Nodes) (xs : List ℕ) → Once xs → ((k : ℕ) → lists_number xs k ≡ true → passes test (get nodes k) ≡ true) → length xs ≤ count_by (λ e. test e.1) (entries nodes)
  length_fits nodes xs once all =
      subst (λ n. length xs ≤ n) (length-filter (λ (e : ℕ × Node). test e.1) (entries nodes)) (fits_entries xs (entries nodes) once (λ k on. ap (passes test) (sym (get-entries nodes k)) ∙ all k on))

passes_some : (o : Option Node) → IsSome o → passes (λ node. true) o ≡ true
passes_some None h = h
passes_some (Some node) h = refl

pub numbers_fit : (store : Store) (xs : List ℕ) → Once xs → ((k : ℕ) → lists_number xs k ≡ true → IsSome (get store k)) → length xs ≤ len store
numbers_fit store xs once all =
    let fits = length_fits (λ node. true) (nodes_of store) xs once (λ k on. passes_some (get (nodes_of store) k) (stored_there store k (all k on))) in
    let most = count_by-le-length (λ (e : ℕ × Node). true) (entries (nodes_of store)) in
    let same = sym (len-entries (nodes_of store)) ∙ len-nodes_of store in
    omega (arith, fits, most, same)

twice : {X : Type 0} (t : Bool) (last there was : Option X) → cond t last (cond t there was) ≡ cond t last was
twice true last there was = refl
twice false last there was = refl

-- what was put in and taken out again
pub inserted_removed : (nodes : Nodes) (n : ℕ) (node : Node) → get nodes n ≡ None → remove (insert nodes n node) n ≡ nodes
inserted_removed nodes n node absent =
    same_items (remove (insert nodes n node) n) nodes (λ q. get-remove nat_cmp_total (insert nodes n node) n q ∙ ap (cond (eq_by_cmp nat_cmp q n) None) (get-insert nat_cmp_total nodes n node q)
    ∙ twice (eq_by_cmp nat_cmp q n) None (Some node) (get nodes q) ∙ by q (eq_by_cmp nat_cmp q n) refl)
  where
    by : (q : ℕ) (t : Bool) → eq_by_cmp nat_cmp q n ≡ t → cond t None (get nodes q) ≡ get nodes q
    by q true e = sym (ap (get nodes) (number_is q n e) ∙ absent)
    by q false e = refl
