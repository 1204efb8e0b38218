-- The walk along a list that has all that is looked for.
use Rattle.std.proofs.Common.{◌≡◌, ℕ, suc, zero, ◌+◌, ◌-◌, ◌<◌, ◌≤◌, ◌==◌, Bool, true, false, ◌&&◌, ◌||◌, cond, nat_lt, min, List, [], ◌∷◌, ◌++◌, length, filter_map, fold, count_by, sum_by, Option, Some, None, option_map, slice_get, slice_index_or, IsSome, refl, sym, ap, subst, ◌∙◌, inl, inr, arith, length-append}
use Rattle.std.proofs.lemmas.Bool.{cases_lt}
use Rattle.std.proofs.lemmas.List.{append_assoc, append-nil}
use Rattle.std.proofs.lemmas.List.Sums.{fold-append}
use Rattle.std.specs.List.{enumerate_from}
use Rattle.std.specs.Ordering.{nat_cmp, is_eq}
use Rattle.std.specs.Cmp.{nat_cmp_total}
use Rattle.std.specs.Map.{lookup}
use Rattle.std.specs.FinMap.{get, remove, entries, len, get-remove, get-empty, empty}
use Rattle.std.specs.Borrow.{Bor}
use Rattle.ur_values.specs.declared.atom.Atom.{Atom}
use Rattle.ur_values.specs.declared.value.Value.{Value}
use Rattle.ur_values.specs.Atom.{atom_value, atom_values, fixed_values}
use Rattle.ur_values.specs.Order.{value_eq, values_eq}
use Rattle.ur_cacheindex.specs.Chains.{same_number, lists_number, IsChain, first_of}
use Rattle.ur_cacheindex.proofs.Chains.{number_is, true_false, here, behind, chain_next, chain_first, without_behind}
use Rattle.ur_cacheindex.specs.declared.node.Mask.{Mask}
use Rattle.ur_cacheindex.specs.declared.node.Node.{Node}
use Rattle.ur_cacheindex.specs.declared.node.NodeId.{NodeId}
use Rattle.ur_cacheindex.specs.declared.linked.Linked.{Linked}
use Rattle.ur_cacheindex.specs.declared.heads.Head.{Head}
use Rattle.ur_cacheindex.specs.declared.heads.Heads.{Heads}
use Rattle.ur_cacheindex.specs.declared.walk.Listed.{Listed}
use Rattle.ur_cacheindex.specs.declared.wanted.Wanted.{Wanted}
use Rattle.ur_cacheindex.specs.declared.wanted.Wanted.TheVariants as wanted
use Rattle.ur_cacheindex.specs.Nodes.{Nodes}
use Rattle.ur_cacheindex.specs.Matching.{position_matches, key_matches, node_matches}
use Rattle.ur_cacheindex.specs.Calls.{passes, NoNode, DropsIn, has_at, site_len, position_len, fixed_lens, shortest, drop_cost}
use Rattle.ur_cacheindex.specs.Moved.{Dropped, with_node, DropsAt}
use Rattle.ur_cacheindex.specs.Lists.{place_cmp, same_atom, head_of, head_among, head_at, empty_head, every, atom_at, is_on_below, slots_of, is_on}
use Rattle.ur_cacheindex.specs.Linked.{Store, Look, look_at, nodes_of, stands, has_slot, is_there, links_of, IsListAt, AreLinked, UnhooksAll}
use Rattle.ur_cacheindex.specs.Wanted.{wanted_site, wanted_fixed, wanted_takes}
use Rattle.ur_cacheindex.specs.Walk.{Leads, IsShortestBelow, IsShortest, IsShorterAt, least_len, Covers, Dropping, DropsLists}
use Rattle.ur_cacheindex.proofs.Atoms.{atom_same}
use Rattle.ur_cacheindex.proofs.Dropping.{TakesOut-more, room_for_one, len_less}
use Rattle.ur_cacheindex.proofs.Listing.{atom_is, atom_self, both_true}
use Rattle.ur_cacheindex.proofs.Stored.{get-nodes_of, length_fits}
use Rattle.ur_cacheindex.proofs.Linking.{standing, there_slot, none_not}

-- ---- what is looked for is on the lists of its fixed positions

value_atom : (a b : Atom) → value_eq (atom_value a) (atom_value b) ≡ true → a ≡ b
value_atom a b e = atom_is a b (ap is_eq (atom_same a b) ∙ e)

atom_value_same : (a b : Atom) → same_atom a b ≡ true → value_eq (atom_value b) (atom_value a) ≡ true
atom_value_same a b e = sym (ap is_eq (atom_same b a)) ∙ subst (λ x. same_atom b x ≡ true) (sym (atom_is a b e)) (atom_self b)

some_is : {X : Type 0} (a b : X) → Some a ≡ Some b → a ≡ b
some_is a b e = cc

none_is_some : {X : Type 0} (a : X) → None ≡ Some a → ⊥
none_is_some a e = absurd (cc)

-- the key has the atom at this position
abbrev HasAtom : List Atom → ℕ → Atom → Type 0
HasAtom xs p a = (p < length xs) × (slice_index_or xs p every ≡ a)

more_atoms : (x : Atom) (xs : List Atom) (p : ℕ) (a : Atom) → HasAtom xs p a → HasAtom (x ∷ xs) (suc p) a
more_atoms x xs p a h = (omega (arith, h.0), h.1)

first_atom : (x : Atom) (xs : List Atom) (a : Atom) → x ≡ a → HasAtom (x ∷ xs) 0 a
first_atom x xs a e = (omega arith, e)

matched_at : (ms : List (Option Atom)) (xs : List Atom) (p : ℕ) (a : Atom) → key_matches (fixed_values ms) (atom_values xs) ≡ true → slice_index_or ms p None ≡ Some a → HasAtom xs p a
matched_at [] xs p a matches fixed = absurd (none_is_some a fixed)
matched_at (m ∷ ms) [] p a matches fixed = absurd (true_false (sym matches))
matched_at (m ∷ ms) (x ∷ xs) zero a matches fixed =
    let here = (both_true (position_matches (option_map atom_value m) (atom_value x)) (key_matches (fixed_values ms) (atom_values xs)) matches).0 in
    let same : value_eq (atom_value a) (atom_value x) ≡ true = subst (λ o. position_matches (option_map atom_value o) (atom_value x) ≡ true) fixed here in
    first_atom x xs a (sym (value_atom a x same))
matched_at (m ∷ ms) (x ∷ xs) (suc p) a matches fixed =
    more_atoms x xs p a (matched_at ms xs p a (both_true (position_matches (option_map atom_value m) (atom_value x)) (key_matches (fixed_values ms) (atom_values xs)) matches).1 fixed)

equal_at : (ks xs : List Atom) (p : ℕ) (a : Atom) → values_eq (atom_values ks) (atom_values xs) ≡ true → slice_get ks p ≡ Some a → HasAtom xs p a
equal_at [] xs p a matches fixed = absurd (none_is_some a fixed)
equal_at (k ∷ ks) [] p a matches fixed = absurd (true_false (sym matches))
equal_at (k ∷ ks) (x ∷ xs) zero a matches fixed =
    let here = (both_true (value_eq (atom_value k) (atom_value x)) (values_eq (atom_values ks) (atom_values xs)) matches).0 in
    first_atom x xs a (sym (value_atom k x here) ∙ some_is k a fixed)
equal_at (k ∷ ks) (x ∷ xs) (suc p) a matches fixed =
    more_atoms x xs p a (equal_at ks xs p a (both_true (value_eq (atom_value k) (atom_value x)) (values_eq (atom_values ks) (atom_values xs)) matches).1 fixed)

same_site : (s t : ℕ) → (s == t) ≡ true → same_number t s ≡ true
same_site s t e = grind arith

slot_there : (p n : ℕ) → p < n → nat_lt (p + 1) (n + 1) ≡ true
slot_there p n less = grind arith

first_slot : (n : ℕ) → nat_lt 0 (n + 1) ≡ true
first_slot n = grind arith

all_three : (a b c : Bool) → a ≡ true → b ≡ true → c ≡ true → (a && (b && c)) ≡ true
all_three true true true x y z = refl
all_three true true false x y z = z
all_three true false c x y z = y
all_three false b c x y z = x

on_site : (s : ℕ) (node : Node) → (s == node.site) ≡ true → is_on s 0 every node ≡ true
on_site s node e = all_three (same_number node.site s) (nat_lt 0 (slots_of node)) (same_atom every every) (same_site s node.site e) (first_slot (length node.key)) (atom_self every)

past : (p : ℕ) → (p + 1 == 0) ≡ false
past p = grind arith

back : (p : ℕ) → p + 1 - 1 ≡ p
back p = omega arith

atom_past : (node : Node) (p : ℕ) → atom_at node (p + 1) ≡ slice_index_or node.key p every
atom_past node p = ap (λ t. cond t every (slice_index_or node.key (p + 1 - 1) every)) (past p) ∙ ap (λ q. slice_index_or node.key q every) (back p)

on_position : (s : ℕ) (node : Node) (p : ℕ) (a : Atom) → (s == node.site) ≡ true → HasAtom node.key p a → is_on s (p + 1) a node ≡ true
on_position s node p a e h =
    all_three (same_number node.site s) (nat_lt (p + 1) (slots_of node)) (same_atom (atom_at node (p + 1)) a) (same_site s node.site e) (slot_there p (length node.key) h.0)
    (subst (λ x. same_atom x a ≡ true) (sym (atom_past node p ∙ h.1)) (atom_self a))

site_of : (w : Wanted) (node : Node) → wanted_takes w node ≡ true → (wanted_site w == node.site) ≡ true
site_of (wanted.Mask mask) node takes = (both_true (mask.now.site == node.site) _ takes).0
site_of (wanted.Key site key) node takes = (both_true (site == node.site) _ takes).0

atom_of : (w : Wanted) (node : Node) (p : ℕ) (a : Atom) → wanted_takes w node ≡ true → wanted_fixed w p ≡ Some a → HasAtom node.key p a
atom_of (wanted.Mask mask) node p a takes fixed = matched_at mask.now.keys node.key p a (both_true (mask.now.site == node.site) (key_matches (fixed_values mask.now.keys) (atom_values node.key)) takes).1 fixed
atom_of (wanted.Key site key) node p a takes fixed = equal_at key.now node.key p a (both_true (site == node.site) (values_eq (atom_values key.now) (atom_values node.key)) takes).1 fixed

pub Leads-site : (w : Wanted) (heads : Heads) (listed : Listed) → listed.slot ≡ 0 → listed.head ≡ head_at heads (wanted_site w) 0 every → Leads w heads listed
Leads-site w heads listed first is =
    record {
      atom = every;
      is = subst (λ k. listed.head ≡ head_at heads (wanted_site w) k every) (sym first) is;
      on = λ node takes. subst (λ k. is_on (wanted_site w) k every node ≡ true) (sym first) (on_site (wanted_site w) node (site_of w node takes));
    }

pub Leads-position : (w : Wanted) (heads : Heads) (listed : Listed) (p : ℕ) (a : Atom) → listed.slot ≡ p + 1 → wanted_fixed w p ≡ Some a → listed.head ≡ head_at heads (wanted_site w) (p + 1) a → Leads w heads listed
Leads-position w heads listed p a at fixed is =
    record {
      atom = a;
      is = subst (λ k. listed.head ≡ head_at heads (wanted_site w) k a) (sym at) is;
      on = λ node takes. subst (λ k. is_on (wanted_site w) k a node ≡ true) (sym at) (on_position (wanted_site w) node p a (site_of w node takes) (atom_of w node p a takes fixed));
    }

there_passes : (test : Node → Bool) (s k : ℕ) (a : Atom) (o : Option Linked) → ((x : Linked) → o ≡ Some x → length x.links ≡ slots_of x.node) → ((node : Node) → is_on s k a node ≡ true → test node ≡ true)
    → stands (is_there s k a) o ≡ true → passes test (option_map (λ x. x.node) o) ≡ true
there_passes test s k a None shaped counts h = h
there_passes test s k a (Some x) shaped counts h = counts x.node (sym (ap (λ n. is_on_below n s k a x.node) (shaped x refl)) ∙ h)

passes_there : (test : Node → Bool) (s k : ℕ) (a : Atom) (o : Option Linked) → ((x : Linked) → o ≡ Some x → length x.links ≡ slots_of x.node) → ((node : Node) → test node ≡ true → is_on s k a node ≡ true)
    → passes test (option_map (λ x. x.node) o) ≡ true → stands (is_there s k a) o ≡ true
passes_there test s k a None shaped on h = h
passes_there test s k a (Some x) shaped on h = ap (λ n. is_on_below n s k a x.node) (shaped x refl) ∙ on x.node h

pub Covers-whole : (test : Node → Bool) (heads : Heads) (store : Store) (linked : AreLinked heads (look_at store)) (s k : ℕ) (a : Atom) → ((node : Node) → test node ≡ true → is_on s k a node ≡ true)
    → Covers test (nodes_of store) (linked.whole s k a).numbers
Covers-whole test heads store linked s k a on n h =
    (linked.whole s k a).all n (passes_there test s k a (get store n) (linked.shaped n) on (sym (ap (passes test) (get-nodes_of store n)) ∙ h))

-- ---- no lists

pub linked_empty : (heads : Heads) (store : Store) → heads.places.entries ≡ [] → store ≡ empty → AreLinked heads (look_at store)
linked_empty heads store none is =
    record {
      whole = λ s k a.
          record {
            numbers = [];
            is = record {
              chain = subst (λ h. IsChain (links_of (look_at store) k) h.first h.len []) (sym (no_head s k a)) (record { strung = refl; once = refl; many = refl });
              on = λ m on. absurd (true_false (sym on));
            };
            all = λ m h. absurd (standing (is_there s k a) (get store m) h (nothing m));
          };
      shaped = λ m x e. absurd (none_not x (sym (nothing m) ∙ e));
    }
  where
    nothing : (m : ℕ) → get store m ≡ None
    nothing m = ap (λ s. get s m) is ∙ get-empty nat_cmp m

    no_head : (s k : ℕ) (a : Atom) → head_at heads s k a ≡ empty_head
    no_head s k a = ap (λ es. head_of (head_among (lookup (λ q. is_eq (place_cmp (s, k) q)) es) a)) none

-- ---- the bound

site_same : (s t : ℕ) → same_number t s ≡ true → (t == s) ≡ true
site_same s t e = grind (arith, number_is t s e)

on_site_counts : (s : ℕ) (node : Node) → is_on s 0 every node ≡ true → (node.site == s) ≡ true
on_site_counts s node on = site_same s node.site (both_true (same_number node.site s) (nat_lt 0 (slots_of node) && same_atom (atom_at node 0) every) on).0

slot_within : (p n : ℕ) → nat_lt (p + 1) (n + 1) ≡ true → p < n
slot_within p n e = grind (arith, e)

two_true : (a b : Bool) → a ≡ true → b ≡ true → (a && b) ≡ true
two_true true b x y = y
two_true false b x y = x

has_there : (s t : ℕ) (xs : List Atom) (p : ℕ) (a : Atom) → p < length xs → same_atom (slice_index_or xs p every) a ≡ true → (t == s) ≡ true
    → has_at s p (atom_value a) (record { site = t; key = xs }) ≡ true
has_there s t [] p a less same e = absurd (omega (arith, less))
has_there s t (x ∷ xs) zero a less same e = two_true (t == s) (value_eq (atom_value a) (atom_value x)) e (atom_value_same x a same)
has_there s t (x ∷ xs) (suc p) a less same e = has_there s t xs p a (omega (arith, less)) same e

on_position_counts : (s : ℕ) (p : ℕ) (a : Atom) (node : Node) → is_on s (p + 1) a node ≡ true → has_at s p (atom_value a) node ≡ true
on_position_counts s p a node on =
    let h = both_true (same_number node.site s) (nat_lt (p + 1) (slots_of node) && same_atom (atom_at node (p + 1)) a) on in
    let k = both_true (nat_lt (p + 1) (slots_of node)) (same_atom (atom_at node (p + 1)) a) h.1 in
    has_there s node.site node.key p a (slot_within p (length node.key) k.0) (subst (λ x. same_atom x a ≡ true) (atom_past node p) k.1) (site_same s node.site h.0)

module _ (heads : Heads) (store : Store) (linked : AreLinked heads (look_at store)) where
  len_at : (test : Node → Bool) (n s k : ℕ) (a : Atom) → n ≤ (head_at heads s k a).len → ((node : Node) → is_on s k a node ≡ true → test node ≡ true) → n ≤ count_by (λ e. test e.1) (entries (nodes_of store))
  len_at test n s k a within counts =
      let w = linked.whole s k a in
      let fits = length_fits test (nodes_of store) w.numbers w.is.chain.once
      (λ m on. ap (passes test) (get-nodes_of store m) ∙ there_passes test s k a (get store m) (linked.shaped m) counts (w.is.on m on))
      in
      let many = w.is.chain.many in
      omega (arith, within, fits, many)

  site_bound : (n s : ℕ) → n ≤ (head_at heads s 0 every).len → n ≤ site_len (nodes_of store) s
  site_bound n s within = len_at (λ node. node.site == s) n s 0 every within (on_site_counts s)

  position_bound : (n s p : ℕ) (a : Atom) → n ≤ (head_at heads s (p + 1) a).len → n ≤ position_len (nodes_of store) s p (atom_value a)
  position_bound n s p a within = len_at (has_at s p (atom_value a)) n s (p + 1) a within (on_position_counts s p a)

AtLeast : ℕ → List ℕ → Type 0
AtLeast c [] = Unit {0}
AtLeast c (n ∷ ns) = (c ≤ n) × AtLeast c ns

min_least : (c a b : ℕ) → c ≤ a → c ≤ b → c ≤ min a b
min_least c a b x y = grind (arith, x, y)

fold_least : (c n : ℕ) (ns : List ℕ) → c ≤ n → AtLeast c ns → c ≤ fold min n ns
unfolding AtLeast
fold_least c n [] less all = less
fold_least c n (m ∷ ns) less all = fold_least c (min n m) ns (min_least c n m less all.0) all.1

shortest_least : (c : ℕ) (ns : List ℕ) (whole : ℕ) → c ≤ whole → AtLeast c ns → c ≤ shortest ns whole
unfolding AtLeast
shortest_least c [] whole less all = less
shortest_least c (n ∷ ns) whole less all = fold_least c n ns all.0 all.1

plus_zero : (i : ℕ) → i + 0 ≡ i
plus_zero i = omega arith

plus_suc : (i p : ℕ) → i + suc p ≡ i + 1 + p
plus_suc i p = omega arith

fixed_least : (c : ℕ) (len_of : ℕ → Value → ℕ) (i : ℕ) (keys : List (Option Atom)) → ((p : ℕ) (a : Atom) → slice_index_or keys p None ≡ Some a → c ≤ len_of (i + p) (atom_value a))
    → AtLeast c (filter_map (λ at. option_map (λ fixed. len_of at.0 (atom_value fixed)) at.1) (enumerate_from i keys))
unfolding AtLeast
fixed_least c len_of i [] all = tt
fixed_least c len_of i (None ∷ keys) all = fixed_least c len_of (i + 1) keys (λ p a fixed. subst (λ k. c ≤ len_of k (atom_value a)) (plus_suc i p) (all (suc p) a fixed))
fixed_least c len_of i (Some a ∷ keys) all = (
  subst (λ k. c ≤ len_of k (atom_value a)) (plus_zero i) (all 0 a refl),
  fixed_least c len_of (i + 1) keys (λ p b fixed. subst (λ k. c ≤ len_of k (atom_value b)) (plus_suc i p) (all (suc p) b fixed)),
)

past_all : (keys : List (Option Atom)) (p : ℕ) (a : Atom) → slice_index_or keys p None ≡ Some a → p < length keys
past_all [] p a fixed = absurd (none_is_some a fixed)
past_all (k ∷ keys) zero a fixed = omega arith
past_all (k ∷ keys) (suc p) a fixed = omega (arith, past_all keys p a fixed)

pub least-of_shortest : (heads : Heads) (store : Store) (mask : Bor Mask) (best : Listed) → AreLinked heads (look_at store) → IsShortest (wanted.Mask mask) heads best
    → best.head.len ≤ least_len (nodes_of store) mask.now
least-of_shortest heads store mask best linked s =
    shortest_least best.head.len (fixed_lens (nodes_of store) mask.now) (site_len (nodes_of store) mask.now.site) (site_bound heads store linked best.head.len mask.now.site s.site)
    (fixed_least best.head.len (position_len (nodes_of store) mask.now.site) 0 mask.now.keys (λ p a fixed.
    subst (λ k. best.head.len ≤ position_len (nodes_of store) mask.now.site k (atom_value a)) (sym (zero_plus p))
    (position_bound heads store linked best.head.len mask.now.site p a (s.fixed p a (past_all mask.now.keys p a fixed) fixed))))
  where
    zero_plus : (p : ℕ) → 0 + p ≡ p
    zero_plus p = omega arith

-- ---- the shortest list

pub IsShortestBelow-start : (w : Wanted) (heads : Heads) (best : Listed) → best.slot ≡ 0 → best.head ≡ head_at heads (wanted_site w) 0 every → IsShortestBelow w heads 0 best
IsShortestBelow-start w heads best first is =
    let same : best.head.len ≡ (head_at heads (wanted_site w) 0 every).len = ap (λ h. h.len) is in
    record { leads = Leads-site w heads best first is; site = omega (arith, same); fixed = λ p a below f. absurd (omega (arith, below)) }

module _ (w : Wanted) (heads : Heads) (position : ℕ) (old : Listed) where
  here_or_below : (P : ℕ → Type 0) (p : ℕ) → p < position + 1 → (p < position → P p) → P position → P p
  here_or_below P p less below here =
      elim (cases_lt p position) [ inl lower ↦ below lower | inr not_lower ↦ let same : position ≡ p = omega (arith, less, not_lower) in subst P same here ]

  pub IsShorterAt-free : wanted_fixed w position ≡ None → IsShorterAt w heads position old old
  IsShorterAt-free none s =
      record { leads = s.leads; site = s.site; fixed = λ p a less f. here_or_below (λ q. wanted_fixed w q ≡ Some a → old.head.len ≤ (head_at heads (wanted_site w) (q + 1) a).len) p less (λ below g. s.fixed p a below g) (λ g. absurd (none_is_some a (sym none ∙ g))) f }

  module _ (at : Atom) (is_fixed : wanted_fixed w position ≡ Some at) where
    atom_here : (a : Atom) → wanted_fixed w position ≡ Some a → at ≡ a
    atom_here a f = some_is at a (sym is_fixed ∙ f)

    pub IsShorterAt-taken : (new : Listed) → new.slot ≡ position + 1 → new.head ≡ head_at heads (wanted_site w) (position + 1) at → new.head.len < old.head.len → IsShorterAt w heads position old new
    IsShorterAt-taken new slot is shorter s =
        let same : new.head.len ≡ (head_at heads (wanted_site w) (position + 1) at).len = ap (λ h. h.len) is in
        record {
          leads = Leads-position w heads new position at slot is_fixed is;
          site = let t = s.site in omega (arith, shorter, t);
          fixed = λ p a less f. here_or_below (λ q. wanted_fixed w q ≡ Some a → new.head.len ≤ (head_at heads (wanted_site w) (q + 1) a).len) p less
              (λ below g. let t = s.fixed p a below g in omega (arith, shorter, t))
              (λ g. subst (λ x. new.head.len ≤ (head_at heads (wanted_site w) (position + 1) x).len) (atom_here a g) (omega (arith, same))) f;
        }

    pub IsShorterAt-left : (other : Head) → other ≡ head_at heads (wanted_site w) (position + 1) at → old.head.len ≤ other.len → IsShorterAt w heads position old old
    IsShorterAt-left other is longer s =
        let same : other.len ≡ (head_at heads (wanted_site w) (position + 1) at).len = ap (λ h. h.len) is in
        record {
          leads = s.leads;
          site = s.site;
          fixed = λ p a less f. here_or_below (λ q. wanted_fixed w q ≡ Some a → old.head.len ≤ (head_at heads (wanted_site w) (q + 1) a).len) p less (λ below g. s.fixed p a below g)
              (λ g. subst (λ x. old.head.len ≤ (head_at heads (wanted_site w) (position + 1) x).len) (atom_here a g) (omega (arith, same, longer))) f;
        }

-- ---- along the list

not_passing : (test : Node → Bool) (o : Option Node) → (passes test o ≡ true → ⊥) → passes test o ≡ false
not_passing test o not = by (passes test o) refl
  where
    by : (b : Bool) → passes test o ≡ b → b ≡ false
    by true e = absurd (not e)
    by false e = refl

pub NoNode-from_Covers : (test : Node → Bool) (nodes : Nodes) → Covers test nodes [] → NoNode test nodes
NoNode-from_Covers test nodes covers n = not_passing test (get nodes n) (λ e. true_false (sym (covers n e)))

-- nothing is looked for at the first number
pub Covers-past : (test : Node → Bool) (nodes : Nodes) (x : ℕ) (rest : List ℕ) → passes test (get nodes x) ≡ false → Covers test nodes (x ∷ rest) → Covers test nodes rest
Covers-past test nodes x rest none covers k there = by (same_number k x) refl (covers k there)
  where
    by : (t : Bool) → same_number k x ≡ t → (t || lists_number rest k) ≡ true → lists_number rest k ≡ true
    by true is h = absurd (true_false (sym there ∙ ap (λ j. passes test (get nodes j)) (number_is k x is) ∙ none))
    by false is h = h

Covers-taken : (test : Node → Bool) (nodes : Nodes) (x : ℕ) (rest : List ℕ) → Covers test nodes (x ∷ rest) → Covers test (remove nodes x) rest
Covers-taken test nodes x rest covers k there = by (same_number k x) refl (sym (ap (passes test) (get-remove nat_cmp_total nodes x k)) ∙ there)
  where
    by : (t : Bool) → same_number k x ≡ t → passes test (cond t None (get nodes k)) ≡ true → lists_number rest k ≡ true
    by true is h = absurd (true_false (sym h))
    by false is h = subst (λ t. (t || lists_number rest k) ≡ true) is (covers k h)

one_dropped : (es : List (NodeId × Node)) (e : NodeId × Node) → sum_by drop_cost (es ++ e ∷ []) ≡ sum_by drop_cost es + drop_cost e
one_dropped es e = fold-append (λ a x. a + drop_cost x) 0 es (e ∷ [])

module _ (mask : Mask) (old : Nodes) (before : Dropped) (allowed : ℕ) where
  pub Dropping-start : (keys : List ℕ) (steps : ℕ) → len old ≤ before.spare → Covers (node_matches mask) old keys → steps + length keys ≤ allowed → Dropping mask old before allowed keys old before steps
  Dropping-start keys steps fits covers within =
      record { dropped = []; items = sym (append-nil before.items); out = refl; fits = fits; sum = refl; covers = covers; count = omega (arith, within) }

  dropping_one : (x : ℕ) (rest : List ℕ) (now : Nodes) (room after : Dropped) (steps end : ℕ) (node : Node) → Dropping mask old before allowed (x ∷ rest) now room steps
      → get now x ≡ Some node → node_matches mask node ≡ true → after ≡ with_node room x node → end + sum_by drop_cost room.items ≤ steps + 1 + sum_by drop_cost after.items
      → Dropping mask old before allowed rest (remove now x) after end
  dropping_one x rest now room after steps end node d found passed put count =
      let more : length after.items ≡ length room.items + 1 = ap (λ r. length r.items) put ∙ length-append room.items ((record { number = x }, node) ∷ []) in
      let one_cost = one_dropped d.dropped (record { number = x }, node) in
      let costs = ap (sum_by drop_cost) (ap (λ r. r.items) put) ∙ one_dropped room.items (record { number = x }, node) in
      let here = d.count in
      record {
        dropped = d.dropped ++ (record { number = x }, node) ∷ [];
        items = ap (λ r. r.items) put ∙ ap (λ xs. xs ++ (record { number = x }, node) ∷ []) d.items ∙ append_assoc before.items d.dropped ((record { number = x }, node) ∷ []);
        out = TakesOut-more (node_matches mask) old now d.dropped x node d.out found passed;
        fits = subst (λ r. len (remove now x) ≤ r.spare) (sym put) (omega (arith, len_less now x node found, d.fits));
        sum = subst (λ r. r.spare + length r.items ≡ before.spare + length before.items) (sym put)
            (omega (arith, d.sum, room_for_one now x room.spare (subst IsSome (sym found) refl) d.fits, length-append room.items ((record { number = x }, node) ∷ [])));
        covers = Covers-taken (node_matches mask) now x rest d.covers;
        count = omega (arith, count, costs, one_cost, here);
      }

  skipping_one : (x : ℕ) (rest : List ℕ) (now : Nodes) (room after : Dropped) (steps end : ℕ) → Dropping mask old before allowed (x ∷ rest) now room steps
      → passes (node_matches mask) (get now x) ≡ false → after ≡ room → end + sum_by drop_cost room.items ≤ steps + 1 + sum_by drop_cost after.items → Dropping mask old before allowed rest now after end
  skipping_one x rest now room after steps end d none put count =
      let same : sum_by drop_cost after.items ≡ sum_by drop_cost room.items = ap (λ r. sum_by drop_cost r.items) put in
      let here = d.count in
      record {
        dropped = d.dropped;
        items = ap (λ r. r.items) put ∙ d.items;
        out = d.out;
        fits = subst (λ r. len now ≤ r.spare) (sym put) d.fits;
        sum = subst (λ r. r.spare + length r.items ≡ before.spare + length before.items) (sym put) d.sum;
        covers = Covers-past (node_matches mask) now x rest none d.covers;
        count = omega (arith, count, same, here);
      }

  pub Dropping-more : (x : ℕ) (rest : List ℕ) (now new : Nodes) (room after : Dropped) (steps end : ℕ) → Dropping mask old before allowed (x ∷ rest) now room steps
      → DropsAt mask x now room new after → end + sum_by drop_cost room.items ≤ steps + 1 + sum_by drop_cost after.items → Dropping mask old before allowed rest new after end
  Dropping-more x rest now new room after steps end d step count = by (passes (node_matches mask) (get now x)) refl
    where
      by : (b : Bool) → passes (node_matches mask) (get now x) ≡ b → Dropping mask old before allowed rest new after end
      by true p = let t = step.taken p in subst (λ m. Dropping mask old before allowed rest m after end) (sym t.3) (dropping_one x rest now room after steps end t.0 d t.1 t.2 t.4 count)
      by false p = let k = step.kept p in subst (λ m. Dropping mask old before allowed rest m after end) (sym k.0) (skipping_one x rest now room after steps end d p k.1 count)

-- more steps may be allowed
pub Dropping-allowed : (mask : Mask) (old : Nodes) (before : Dropped) (few many : ℕ) (left : List ℕ) (new : Nodes) (after : Dropped) (end : ℕ) → few ≤ many
    → Dropping mask old before few left new after end → Dropping mask old before many left new after end
Dropping-allowed mask old before few many left new after end less d =
    let c = d.count in record { dropped = d.dropped; items = d.items; out = d.out; fits = d.fits; sum = d.sum; covers = d.covers; count = omega (arith, less, c) }

pub DropsIn-from_Dropping : (mask : Mask) (old new : Nodes) (before after : Dropped) (start end : ℕ) → Dropping mask old before (start + least_len old mask) [] new after end
    → DropsIn mask old new before.items after.items start end
DropsIn-from_Dropping mask old new before after start end d = (d.dropped, d.items, record { out = d.out; left = NoNode-from_Covers (node_matches mask) new d.covers }, within d.count)
  where
    within : end + 0 ≤ start + least_len old mask + sum_by drop_cost d.dropped → end ≤ start + (least_len old mask + sum_by drop_cost d.dropped)
    within b = omega (arith, b)

-- ---- where a walk stands

-- `at` stands on a list from which all that is looked for and is not behind the walk can still be reached
pub record Walks (test : Node → Bool) (heads : Heads) (store : Store) (slot : ℕ) (at : Option ℕ) (done whole : ℕ) : Type 0 where
  pub site : ℕ
  pub atom : Atom
  pub front : List ℕ
  pub rest : List ℕ
  pub is : IsListAt heads (look_at store) site slot atom (front ++ rest)
  pub first : at ≡ first_of rest
  pub covers : Covers test (nodes_of store) rest
  pub count : done + length rest ≡ whole

pub Walks-start : (w : Wanted) (heads : Heads) (store : Store) (listed : Listed) → AreLinked heads (look_at store) → Leads w heads listed
    → Walks (wanted_takes w) heads store listed.slot listed.head.first 0 listed.head.len
Walks-start w heads store listed linked leads =
    let whole = linked.whole (wanted_site w) listed.slot leads.atom in
    let h = head_at heads (wanted_site w) listed.slot leads.atom in
    let many : h.len ≡ length whole.numbers = whole.is.chain.many in
    let same : listed.head.len ≡ h.len = ap (λ x. x.len) leads.is in
    record {
      site = wanted_site w;
      atom = leads.atom;
      front = [];
      rest = whole.numbers;
      is = whole.is;
      first = ap (λ x. x.first) leads.is ∙ chain_first (links_of (look_at store) listed.slot) h.first h.len whole.numbers whole.is.chain;
      covers = Covers-whole (wanted_takes w) heads store linked (wanted_site w) listed.slot leads.atom leads.on;
      count = omega (arith, many, same);
    }

none_left : (rest : List ℕ) → None ≡ first_of rest → rest ≡ []
none_left [] e = refl
none_left (x ∷ rest) e = absurd (none_is_some x e)

among : (front : List ℕ) (n : ℕ) (rest : List ℕ) → lists_number (front ++ n ∷ rest) n ≡ true
among [] n rest = here n rest
among (x ∷ front) n rest = behind x n (front ++ n ∷ rest) (among front n rest)

-- the number where a walk stands, and the rest behind it
pub first_rest : (n : ℕ) (rest : List ℕ) → Some n ≡ first_of rest → (more : List ℕ) × (rest ≡ n ∷ more)
first_rest n [] e = absurd (none_is_some n (sym e))
first_rest n (x ∷ more) e = (more, ap (λ y. y ∷ more) (sym (some_is n x e)))

module _ (test : Node → Bool) (heads : Heads) (store : Store) (slot : ℕ) (at : Option ℕ) (done whole : ℕ) (w : Walks test heads store slot at done whole) where
  pub Walks-none : at ≡ None → w.rest ≡ []
  Walks-none none = none_left w.rest (sym none ∙ w.first)

  pub Walks-done : whole ≤ done → w.rest ≡ []
  Walks-done over = by w.rest w.count
    where
      by : (rest : List ℕ) → done + length rest ≡ whole → rest ≡ []
      by [] e = refl
      by (x ∷ rest) e = absurd (omega (arith, e, over))

  pub Walks-no_node : w.rest ≡ [] → NoNode test (nodes_of store)
  Walks-no_node none = NoNode-from_Covers test (nodes_of store) (subst (λ ns. Covers test (nodes_of store) ns) none w.covers)

  module _ (n : ℕ) (is_at : at ≡ Some n) where
    pub Walks-rest : (more : List ℕ) × (w.rest ≡ n ∷ more)
    Walks-rest = first_rest n w.rest (sym is_at ∙ w.first)

    pub Walks-list : IsListAt heads (look_at store) w.site slot w.atom (w.front ++ n ∷ Walks-rest.0)
    Walks-list = subst (λ ns. IsListAt heads (look_at store) w.site slot w.atom (w.front ++ ns)) Walks-rest.1 w.is

    pub Walks-there : stands (is_there w.site slot w.atom) (get store n) ≡ true
    Walks-there = Walks-list.on n (among w.front n Walks-rest.0)

    pub Walks-slot : stands (has_slot slot) (get store n) ≡ true
    Walks-slot = there_slot w.site slot w.atom (get store n) Walks-there

    pub Walks-some : IsSome (get store n)
    Walks-some = some (get store n) Walks-there
      where
        some : (o : Option Linked) → stands (is_there w.site slot w.atom) o ≡ true → IsSome o
        some None h = absurd (true_false (sym h))
        some (Some x) h = refl

    pub Walks-next : (links_of (look_at store) slot).next n ≡ first_of Walks-rest.0
    Walks-next = chain_next (links_of (look_at store) slot) (head_at heads w.site slot w.atom).first (head_at heads w.site slot w.atom).len w.front n Walks-rest.0 Walks-list.chain

    pub Walks-on : (next : Option ℕ) → next ≡ (links_of (look_at store) slot).next n → passes test (get (nodes_of store) n) ≡ false → Walks test heads store slot next (done + 1) whole
    Walks-on next is none =
        let long : length w.rest ≡ length (n ∷ Walks-rest.0) = ap length Walks-rest.1 in
        let c = w.count in
        record {
          site = w.site;
          atom = w.atom;
          front = w.front ++ n ∷ [];
          rest = Walks-rest.0;
          is = subst (λ ns. IsListAt heads (look_at store) w.site slot w.atom ns) (sym (append_assoc w.front (n ∷ []) Walks-rest.0)) Walks-list;
          first = is ∙ Walks-next;
          covers = Covers-past test (nodes_of store) n Walks-rest.0 none (subst (λ ns. Covers test (nodes_of store) ns) Walks-rest.1 w.covers);
          count = omega (arith, long, c);
        }

-- ---- a walk that moves nodes out

pub record Moves (mask : Mask) (old : Nodes) (before : Dropped) (allowed : ℕ) (heads : Heads) (store : Store) (slot : ℕ) (at : Option ℕ) (done whole : ℕ) (after : Dropped) (steps : ℕ) : Type 0 where
  pub linked : AreLinked heads (look_at store)
  pub walks : Walks (node_matches mask) heads store slot at done whole
  pub dropping : Dropping mask old before allowed walks.rest (nodes_of store) after steps

pub Moves-start : (mask : Bor Mask) (heads : Heads) (store : Store) (listed : Listed) (before : Dropped) (steps : ℕ) → AreLinked heads (look_at store) → Leads (wanted.Mask mask) heads listed
    → len (nodes_of store) ≤ before.spare → Moves mask.now (nodes_of store) before (steps + listed.head.len) heads store listed.slot listed.head.first 0 listed.head.len before steps
Moves-start mask heads store listed before steps linked leads fits =
    let w = Walks-start (wanted.Mask mask) heads store listed linked leads in
    let c = w.count in
    record { linked = linked; walks = w; dropping = Dropping-start mask.now (nodes_of store) before (steps + listed.head.len) w.rest steps fits w.covers (omega (arith, c)) }

pub DropsLists-kept : (n : ℕ) (heads : Heads) (look : Look) → DropsLists n heads look heads look
DropsLists-kept n heads look s k a front rest is = (front ++ n ∷ [], subst (λ ns. IsListAt heads look s k a ns) (sym (append_assoc front (n ∷ []) rest)) is)

pub DropsLists-taken : (n : ℕ) (heads heads' : Heads) (look look' : Look) → UnhooksAll n heads look heads' look' → DropsLists n heads look heads' look'
DropsLists-taken n heads heads' look look' goes s k a front rest is =
    (front, subst (λ ns. IsListAt heads' look' s k a ns) (without_behind front n rest is.chain.once) (goes s k a (front ++ n ∷ rest) is))

module _ (mask : Mask) (old : Nodes) (before : Dropped) (allowed : ℕ) (heads : Heads) (store : Store) (slot : ℕ) (at : Option ℕ) (done whole : ℕ) (after : Dropped) (steps : ℕ)
    (m : Moves mask old before allowed heads store slot at done whole after steps) where
  pub Moves-end : m.walks.rest ≡ [] → Dropping mask old before allowed [] (nodes_of store) after steps
  Moves-end none = subst (λ ns. Dropping mask old before allowed ns (nodes_of store) after steps) none m.dropping

  module _ (n : ℕ) (is_at : at ≡ Some n) where
    pub Moves-slot : stands (has_slot slot) (get store n) ≡ true
    Moves-slot = Walks-slot (node_matches mask) heads store slot at done whole m.walks n is_at

    pub Moves-more : (heads' : Heads) (store' : Store) (next : Option ℕ) (after' : Dropped) (end : ℕ) → next ≡ (links_of (look_at store) slot).next n → DropsAt mask n (nodes_of store) after (nodes_of store') after'
        → AreLinked heads' (look_at store') → DropsLists n heads (look_at store) heads' (look_at store') → end + sum_by drop_cost after.items ≤ steps + 1 + sum_by drop_cost after'.items
        → Moves mask old before allowed heads' store' slot next (done + 1) whole after' end
    Moves-more heads' store' next after' end is drops linked' lists cost =
        let r = Walks-rest (node_matches mask) heads store slot at done whole m.walks n is_at in
        let l = lists m.walks.site slot m.walks.atom m.walks.front r.0 (Walks-list (node_matches mask) heads store slot at done whole m.walks n is_at) in
        let long : length m.walks.rest ≡ length (n ∷ r.0) = ap length r.1 in
        let c = m.walks.count in
        let d : Dropping mask old before allowed r.0 (nodes_of store') after' end =
        Dropping-more mask old before allowed n r.0 (nodes_of store) (nodes_of store') after after' steps end
        (subst (λ ns. Dropping mask old before allowed ns (nodes_of store) after steps) r.1 m.dropping) drops cost
        in
        record {
          linked = linked';
          walks = record {
            site = m.walks.site;
            atom = m.walks.atom;
            front = l.0;
            rest = r.0;
            is = l.1;
            first = is ∙ Walks-next (node_matches mask) heads store slot at done whole m.walks n is_at;
            covers = d.covers;
            count = omega (arith, long, c);
          };
          dropping = d;
        }
