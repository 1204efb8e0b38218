-- A node comes to its lists.
use Rattle.std.proofs.Common.{◌≡◌, ◌≢◌, ℕ, ◌+◌, ◌<◌, ◌≤◌, Bool, true, false, ◌&&◌, ◌||◌, cond, nat_lt, List, ◌∷◌, length, Option, Some, None, IsSome, option_map, refl, sym, ap, subst, ◌∙◌, inl, inr, arith}
use Rattle.std.proofs.lemmas.Bool.{cases_eq}
use Rattle.std.specs.FinMap.{get, insert, len}
use Rattle.ur_values.specs.declared.atom.Atom.{Atom}
use Rattle.ur_cacheindex.specs.Chains.{same_number, lists_number, Links, IsChain, Opens}
use Rattle.ur_cacheindex.proofs.Chains.{number_self, number_apart, number_is, true_false, here, behind, puts_front, put_elsewhere, chain_same, chain_one, chain_first_on}
use Rattle.ur_cacheindex.specs.declared.node.Node.{Node}
use Rattle.ur_cacheindex.specs.declared.linked.Linked.{Linked}
use Rattle.ur_cacheindex.specs.declared.heads.Head.{Head}
use Rattle.ur_cacheindex.specs.declared.heads.Heads.{Heads}
use Rattle.ur_cacheindex.specs.Lists.{same_atom, head_at, SetsHead, SameHeads, atom_at, is_on_below, slots_of, KeptBelow}
use Rattle.ur_cacheindex.specs.Linked.{Store, Look, look_at, stands, has_slot, is_there, link_in, links_of, is_number, CanLink, SetsNext, SetsPrev, Alike, IsListAt, IsWholeAt, AreLinked, is_list, longer, HasNode, CanHook, Hooks, HooksBelow, StillKept, IsWithoutAt, CanHookAll}
use Rattle.ur_cacheindex.proofs.Listing.{some_same, place_of, is_itself, atom_self, more_on, below_none}
use Rattle.ur_cacheindex.proofs.Stored.{numbers_fit, get_inserted, get_inserted_else}
use Rattle.ur_cacheindex.proofs.Linking.{none_not, alike_stands, there_slot, there_once, at_number, not_number, Rewrites, rewrites_next, rewrites_prev, rewrites_then, sets_next, sets_prev, can_alike, standing, shape_alike, joined_lists, not_both_slots}

stands_by : (slot : ℕ) (node : Node) (o : Option Linked) → option_map (λ x. x.node) o ≡ Some node → option_map (λ x. length x.links) o ≡ Some (slots_of node) → nat_lt slot (slots_of node) ≡ true
    → stands (is_there node.site slot (atom_at node slot)) o ≡ true
stands_by slot node None e f within = absurd (none_not node e)
stands_by slot node (Some x) e f within =
    ap (λ n. is_on_below n node.site slot (atom_at node slot) x.node) (some_same (length x.links) (slots_of node) f)
    ∙ ap (λ v. is_on_below (slots_of node) node.site slot (atom_at node slot) v) (some_same x.node node e)
    ∙ ap (λ t. t && (nat_lt slot (slots_of node) && same_atom (atom_at node slot) (atom_at node slot))) (number_self node.site)
    ∙ ap (λ t. t && same_atom (atom_at node slot) (atom_at node slot)) within ∙ atom_self (atom_at node slot)

module _ (slot : ℕ) (heads : Heads) (look : Look) (n : ℕ) (can : CanHook slot heads look n) where
  abbrev node : Node
  node = can.node

  abbrev at : Atom
  at = atom_at can.node slot

  abbrev head : Head
  head = head_at heads node.site slot at

  abbrev its : Links
  its = links_of look slot

  pub stands_here : stands (is_there node.site slot at) (look n) ≡ true
  stands_here = stands_by slot node (look n) can.stands_there can.links can.within

  pub first_on : (m : ℕ) → head.first ≡ Some m → lists_number can.off.numbers m ≡ true
  first_on m e = chain_first_on its head.first head.len can.off.numbers can.off.is.chain m e

  not_first : head.first ≢ Some n
  not_first e = true_false (sym (first_on n e) ∙ can.off.here)

  pub can_self : CanLink (Some n) slot look
  can_self m e = ap (λ k. stands (has_slot slot) (look k)) (sym (some_same n m e)) ∙ there_slot node.site slot at (look n) stands_here

  pub can_first : CanLink head.first slot look
  can_first m e = there_slot node.site slot at (look m) (can.off.is.on m (first_on m e))

  module _ (one two look' : Look) (heads' : Heads) (a : SetsNext (Some n) slot head.first look one) (b : SetsPrev (Some n) slot None one two) (c : SetsPrev head.first slot (Some n) two look')
      (sets : SetsHead node.site slot at (longer n head) heads heads') where
    ra : Rewrites slot look one
    ra = rewrites_next (Some n) slot head.first look one a

    rb : Rewrites slot look two
    rb = rewrites_then slot look one two ra (rewrites_prev (Some n) slot None one two b)

    pub rewrite_all : Rewrites slot look look'
    rewrite_all = rewrites_then slot look two look' rb (rewrites_prev head.first slot (Some n) two look' c)

    abbrev after : Links
    after = links_of look' slot

    of_a : (m : ℕ) → ((link_in (one m) slot).next ≡ cond (is_number (Some n) m) head.first (link_in (look m) slot).next) × ((link_in (one m) slot).prev ≡ (link_in (look m) slot).prev)
    of_a m = sets_next (Some n) slot head.first look one a can_self m

    of_b : (m : ℕ) → ((link_in (two m) slot).next ≡ (link_in (one m) slot).next) × ((link_in (two m) slot).prev ≡ cond (is_number (Some n) m) None (link_in (one m) slot).prev)
    of_b m = sets_prev (Some n) slot None one two b (can_alike (Some n) slot look one ra.alike can_self) m

    of_c : (m : ℕ) → ((link_in (look' m) slot).next ≡ (link_in (two m) slot).next) × ((link_in (look' m) slot).prev ≡ cond (is_number head.first m) (Some n) (link_in (two m) slot).prev)
    of_c m = sets_prev head.first slot (Some n) two look' c (can_alike head.first slot look two rb.alike can_first) m

    after_next : (m : ℕ) → after.next m ≡ cond (is_number (Some n) m) head.first (its.next m)
    after_next m = (of_c m).0 ∙ (of_b m).0 ∙ (of_a m).0

    after_prev : (m : ℕ) → after.prev m ≡ cond (is_number head.first m) (Some n) (cond (is_number (Some n) m) None (its.prev m))
    after_prev m = (of_c m).1 ∙ ap (cond (is_number head.first m) (Some n)) ((of_b m).1 ∙ ap (cond (is_number (Some n) m) None) (of_a m).1)

    not_it : (m : ℕ) → m ≢ n → is_number (Some n) m ≡ false
    not_it m differs = number_apart n m (λ e. differs (sym e))

    opens : Opens n head.first its after
    opens =
        record {
          next_here = after_next n ∙ ap (λ t. cond t head.first (its.next n)) (number_self n);
          prev_here = after_prev n ∙ ap (λ t. cond t (Some n) (cond (is_number (Some n) n) None (its.prev n))) (not_number head.first n not_first)
              ∙ ap (λ t. cond t None (its.prev n)) (number_self n);
          next_else = λ m differs. after_next m ∙ ap (λ t. cond t head.first (its.next m)) (not_it m differs);
          prev_at = λ m e. after_prev m ∙ ap (λ t. cond t (Some n) (cond (is_number (Some n) m) None (its.prev m))) (at_number head.first m e);
          prev_else = λ m differs e. after_prev m ∙ ap (λ t. cond t (Some n) (cond (is_number (Some n) m) None (its.prev m))) (not_number head.first m e)
              ∙ ap (λ t. cond t None (its.prev m)) (not_it m differs);
        }

    with_head : (s k : ℕ) (b : Atom) (h : Head) (numbers : List ℕ) → head_at heads' s k b ≡ h → IsChain (links_of look' k) h.first h.len numbers
        → ((m : ℕ) → lists_number numbers m ≡ true → stands (is_there s k b) (look' m) ≡ true) → IsListAt heads' look' s k b numbers
    with_head s k b h numbers e chain on = record { chain = subst (λ g. IsChain (links_of look' k) g.first g.len numbers) (sym e) chain; on = on }

    alike_on : (s k : ℕ) (b : Atom) (m : ℕ) → stands (is_there s k b) (look m) ≡ true → stands (is_there s k b) (look' m) ≡ true
    alike_on s k b m on = alike_stands s k b (look m) (look' m) (rewrite_all.alike m).0 (rewrite_all.alike m).1 ∙ on

    here_comes : (numbers : List ℕ) → IsListAt heads look node.site slot at numbers → IsListAt heads' look' node.site slot at (n ∷ numbers)
    here_comes numbers is =
        let one_list : can.off.numbers ≡ numbers = chain_one its head.first head.len can.off.numbers can.off.is.chain head.len numbers is.chain in
        let off : lists_number numbers n ≡ false = ap (λ ns. lists_number ns n) (sym one_list) ∙ can.off.here in
        with_head node.site slot at (longer n head) (n ∷ numbers) (sets node.site slot at ∙ ap (λ t. cond t (longer n head) head) (is_itself node.site slot at))
        (puts_front n its after head.first head.len numbers is.chain off opens) (λ m on. by m (same_number m n) refl on)
      where
        by : (m : ℕ) (t : Bool) → same_number m n ≡ t → (t || lists_number numbers m) ≡ true → stands (is_there node.site slot at) (look' m) ≡ true
        by m true e h = subst (λ v. stands (is_there node.site slot at) (look' v) ≡ true) (sym (number_is m n e)) (alike_on node.site slot at n stands_here)
        by m false e h = alike_on node.site slot at m (is.on m h)

    apart_list : (s : ℕ) (b : Atom) → is_list node.site slot at s slot b ≡ false → (m : ℕ) → stands (is_there node.site slot at) (look m) ≡ true → stands (is_there s slot b) (look m) ≡ true → ⊥
    apart_list s b other m h g =
        let same = there_once node.site s slot at b (look m) h g in
        true_false (sym (subst (λ v. is_list node.site slot at v slot b ≡ true) same.0 (subst (λ v. is_list node.site slot at node.site slot v ≡ true) same.1 (is_itself node.site slot at))) ∙ other)

    beside_it : (s : ℕ) (b : Atom) (numbers : List ℕ) → is_list node.site slot at s slot b ≡ false → IsListAt heads look s slot b numbers
        → IsChain after (head_at heads s slot b).first (head_at heads s slot b).len numbers
    beside_it s b numbers other is =
        put_elsewhere n its after head.first (head_at heads s slot b).first head.len (head_at heads s slot b).len can.off.numbers numbers can.off.is.chain
        (off (lists_number numbers n) refl) opens (λ m on. not_both m on (lists_number can.off.numbers m) refl) is.chain
      where
        off : (t : Bool) → lists_number numbers n ≡ t → t ≡ false
        off true e = absurd (apart_list s b other n stands_here (is.on n e))
        off false e = refl

        not_both : (m : ℕ) → lists_number numbers m ≡ true → (t : Bool) → lists_number can.off.numbers m ≡ t → t ≡ false
        not_both m on true e = absurd (apart_list s b other m (can.off.is.on m e) (is.on m on))
        not_both m on false e = refl

    pub hooks : Hooks node.site slot at n heads look heads' look'
    hooks s k b numbers is = by (is_list node.site slot at s k b) refl
      where
        by : (t : Bool) → is_list node.site slot at s k b ≡ t → IsListAt heads' look' s k b (cond t (n ∷ numbers) numbers)
        by true e =
            let p = place_of node.site slot s k at b e in
            subst (λ v. IsListAt heads' look' v k b (n ∷ numbers)) p.0 (subst (λ v. IsListAt heads' look' node.site v b (n ∷ numbers)) p.1
            (subst (λ v. IsListAt heads' look' node.site slot v (n ∷ numbers)) p.2
            (here_comes numbers (subst (λ v. IsListAt heads look v slot at numbers) (sym p.0) (subst (λ v. IsListAt heads look s v at numbers) (sym p.1) (subst (λ v. IsListAt heads look s k v numbers) (sym p.2) is))))))
        by false e =
            with_head s k b (head_at heads s k b) numbers (sets s k b ∙ ap (λ t. cond t (longer n head) (head_at heads s k b)) e)
            (elim (cases_eq k slot) [
              | inl same ↦ subst (λ v. IsChain (links_of look' v) (head_at heads s v b).first (head_at heads s v b).len numbers) (sym same)
                  (beside_it s b numbers (subst (λ v. is_list node.site slot at s v b ≡ false) same e) (subst (λ v. IsListAt heads look s v b numbers) same is))
              | inr differs ↦ chain_same (links_of look k) (links_of look' k) (head_at heads s k b).first (head_at heads s k b).len numbers
                  (λ m on. (ap (λ l. l.next) (rewrite_all.else m k differs), ap (λ l. l.prev) (rewrite_all.else m k differs))) is.chain
            ])
            (λ m on. alike_on s k b m (is.on m on))

pub same_node : (look : Look) (n : ℕ) (a b : Node) → HasNode look n a → HasNode look n b → a ≡ b
same_node look n a b e f = some_same a b (sym e ∙ f)

is_some_of : (o : Option Linked) → o ≢ None → IsSome o
is_some_of None f = absurd (f refl)
is_some_of (Some x) f = refl

-- there is room in the length of a head for one more
pub room_for_one : (slot : ℕ) (heads : Heads) (store : Store) (n : ℕ) (can : CanHook slot heads (look_at store) n)
    → (head_at heads can.node.site slot (atom_at can.node slot)).len < len store
room_for_one slot heads store n can =
    let fits = numbers_fit store (n ∷ can.off.numbers) (can.off.here, can.off.is.chain.once) (λ m on. by m (same_number m n) refl on) in
    let many = can.off.is.chain.many in
    longer_list (head_at heads can.node.site slot (atom_at can.node slot)).len can.off.numbers fits many
  where
    by : (m : ℕ) (t : Bool) → same_number m n ≡ t → (t || lists_number can.off.numbers m) ≡ true → IsSome (get store m)
    by m true e h = subst (λ v. IsSome (get store v)) (sym (number_is m n e)) (is_some_of (get store n) (standing (is_there can.node.site slot (atom_at can.node slot)) (get store n) (stands_here slot heads (look_at store) n can)))
    by m false e h = is_some_of (get store m) (standing (is_there can.node.site slot (atom_at can.node slot)) (get store m) (can.off.is.on m h))

    longer_list : (l : ℕ) (xs : List ℕ) → length (n ∷ xs) ≤ len store → l ≡ length xs → l < len store
    longer_list l xs f e = omega (arith, f, e)

-- ---- the lists of the first slots

pub hooked_none : (node : Node) (n : ℕ) (heads : Heads) (look : Look) → HooksBelow 0 node n heads look heads look
hooked_none node n heads look s k a numbers is =
    subst (λ t. IsListAt heads look s k a (cond (same_number node.site s && (t && same_atom (atom_at node k) a)) (n ∷ numbers) numbers)) (sym (below_none k)) (none (same_number node.site s))
  where
    none : (t : Bool) → IsListAt heads look s k a (cond (t && false) (n ∷ numbers) numbers)
    none true = is
    none false = is

pub hooked_more : (i : ℕ) (node : Node) (n : ℕ) (heads now new : Heads) (look mid look' : Look) → HooksBelow i node n heads look now mid
    → Hooks node.site i (atom_at node i) n now mid new look' → HooksBelow (i + 1) node n heads look new look'
hooked_more i node n heads now new look mid look' before step s k a numbers is =
    subst (λ ns. IsListAt new look' s k a ns)
    (joined_lists (is_list node.site i (atom_at node i) s k a) (is_on_below i s k a node) (λ ns. n ∷ ns) numbers (not_both_slots i s k a node)
    ∙ sym (ap (λ t. cond t (n ∷ numbers) numbers) (more_on i s k a node)))
    (step s k a (cond (is_on_below i s k a node) (n ∷ numbers) numbers) (before s k a numbers is))

links_shaped : (o : Option Linked) (node : Node) → option_map (λ x. x.node) o ≡ Some node → ((x : Linked) → o ≡ Some x → length x.links ≡ slots_of x.node)
    → option_map (λ x. length x.links) o ≡ Some (slots_of node)
links_shaped None node e all = absurd (none_not node e)
links_shaped (Some x) node e all = ap (λ v. Some v) (all x refl ∙ ap slots_of (some_same x.node node e))

pub all_links : (heads : Heads) (look : Look) (n : ℕ) (can : CanHookAll heads look n) → option_map (λ x. length x.links) (look n) ≡ Some (slots_of can.node)
all_links heads look n can = links_shaped (look n) can.node can.stands_there (can.shaped n)

pub can_hook_next : (slot : ℕ) (heads now : Heads) (look mid : Look) (n : ℕ) (can : CanHookAll heads look n) → nat_lt slot (slots_of can.node) ≡ true → HooksBelow slot can.node n heads look now mid
    → Alike look mid → StillKept heads now → CanHook slot now mid n
can_hook_next slot heads now look mid n can within below alike kept =
    let w = can.without_it can.node.site slot (atom_at can.node slot) in
    record {
      node = can.node;
      stands_there = (alike n).0 ∙ can.stands_there;
      links = (alike n).1 ∙ all_links heads look n can;
      within = within;
      kept = kept can.node.site slot (atom_at can.node slot) (can.kept slot within);
      off = record {
        numbers = w.numbers;
        is = subst (λ t. IsListAt now mid can.node.site slot (atom_at can.node slot) (cond t (n ∷ w.numbers) w.numbers))
            (ap (λ t. same_number can.node.site can.node.site && (t && same_atom (atom_at can.node slot) (atom_at can.node slot))) (past slot) ∙ none (same_number can.node.site can.node.site))
            (below can.node.site slot (atom_at can.node slot) w.numbers w.is);
        here = w.off;
      };
    }
  where
    past : (j : ℕ) → nat_lt j j ≡ false
    past j = grind arith

    none : (t : Bool) → (t && false) ≡ false
    none true = refl
    none false = refl

there_is_on : (s k : ℕ) (a : Atom) (node : Node) (o : Option Linked) → option_map (λ x. x.node) o ≡ Some node → option_map (λ x. length x.links) o ≡ Some (slots_of node)
    → stands (is_there s k a) o ≡ is_on_below (slots_of node) s k a node
there_is_on s k a node None e f = absurd (none_not node e)
there_is_on s k a node (Some x) e f =
    ap (λ v. is_on_below v s k a x.node) (some_same (length x.links) (slots_of node) f) ∙ ap (λ v. is_on_below (slots_of node) s k a v) (some_same x.node node e)

pub linked_with : (heads heads' : Heads) (look look' : Look) (n : ℕ) (can : CanHookAll heads look n) → HooksBelow (slots_of can.node) can.node n heads look heads' look' → Alike look look' → AreLinked heads' look'
linked_with heads heads' look look' n can below alike =
    record {
      whole = whole;
      shaped = λ m y is. shape_alike (look m) (look' m) y (alike m).0 (alike m).1 is (can.shaped m);
    }
  where
    whole : (s k : ℕ) (a : Atom) → IsWholeAt heads' look' s k a
    whole s k a =
        let w = can.without_it s k a in
        record {
          numbers = cond (is_on_below (slots_of can.node) s k a can.node) (n ∷ w.numbers) w.numbers;
          is = below s k a w.numbers w.is;
          all = λ m h.
              let g = sym (alike_stands s k a (look m) (look' m) (alike m).0 (alike m).1) ∙ h in
              elim (cases_eq m n) [
                | inl same ↦ subst (λ v. lists_number (cond (is_on_below (slots_of can.node) s k a can.node) (n ∷ w.numbers) w.numbers) v ≡ true) (sym same)
                    (first w.numbers (is_on_below (slots_of can.node) s k a can.node)
                    (sym (there_is_on s k a can.node (look n) can.stands_there (all_links heads look n can)) ∙ subst (λ v. stands (is_there s k a) (look v) ≡ true) same g))
                | inr differs ↦ later w.numbers m (is_on_below (slots_of can.node) s k a can.node) (w.all m differs g)
              ];
        }
      where
        first : (xs : List ℕ) (t : Bool) → t ≡ true → lists_number (cond t (n ∷ xs) xs) n ≡ true
        first xs true e = here n xs
        first xs false e = absurd (true_false (sym e))

        later : (xs : List ℕ) (m : ℕ) (t : Bool) → lists_number xs m ≡ true → lists_number (cond t (n ∷ xs) xs) m ≡ true
        later xs m true h = behind n m xs h
        later xs m false h = h

-- ---- a node is put in

module _ (heads : Heads) (old new : Store) (n : ℕ) (x : Linked) (linked : AreLinked heads (look_at old)) (absent : get old n ≡ None) (put : new ≡ insert old n x)
    (shaped : length x.links ≡ slots_of x.node) (kept : KeptBelow (slots_of x.node) x.node heads) where
  at_it : get new n ≡ Some x
  at_it = ap (λ s. get s n) put ∙ get_inserted old n x

  elsewhere : (m : ℕ) → m ≢ n → get new m ≡ get old m
  elsewhere m differs = ap (λ s. get s m) put ∙ get_inserted_else old n x m differs

  not_new : (test : Linked → Bool) (m : ℕ) → stands test (get old m) ≡ true → m ≢ n
  not_new test m h e = standing test (get old m) h (ap (get old) e ∙ absent)

  without_new : (s k : ℕ) (a : Atom) → IsWithoutAt heads (look_at new) n s k a
  without_new s k a =
      let w = linked.whole s k a in
      let same : (m : ℕ) → lists_number w.numbers m ≡ true → get new m ≡ get old m = λ m on. elsewhere m (not_new (is_there s k a) m (w.is.on m on)) in
      record {
        numbers = w.numbers;
        is = record {
          chain = chain_same (links_of (look_at old) k) (links_of (look_at new) k) (head_at heads s k a).first (head_at heads s k a).len w.numbers
              (λ m on. (ap (λ o. (link_in o k).next) (same m on), ap (λ o. (link_in o k).prev) (same m on))) w.is.chain;
          on = λ m on. ap (stands (is_there s k a)) (same m on) ∙ w.is.on m on;
        };
        off = off (lists_number w.numbers n) refl;
        all = λ m differs h. w.all m (ap (stands (is_there s k a)) (sym (elsewhere m differs)) ∙ h);
      }
    where
      off : (t : Bool) → lists_number (linked.whole s k a).numbers n ≡ t → t ≡ false
      off true e = absurd (not_new (is_there s k a) n ((linked.whole s k a).is.on n e) refl)
      off false e = refl

  all_shaped : (m : ℕ) (y : Linked) → get new m ≡ Some y → length y.links ≡ slots_of y.node
  all_shaped m y is =
      elim (cases_eq m n) [
        | inl same ↦ subst (λ z. length z.links ≡ slots_of z.node) (some_same x y (sym at_it ∙ ap (get new) (sym same) ∙ is)) shaped
        | inr differs ↦ linked.shaped m y (sym (elsewhere m differs) ∙ is)
      ]

  pub can_hook_all : CanHookAll heads (look_at new) n
  can_hook_all = record { node = x.node; stands_there = ap (option_map (λ y. y.node)) at_it; kept = kept; without_it = without_new; shaped = all_shaped }

pub linked_same_heads : (heads heads' : Heads) (look : Look) → SameHeads heads heads' → AreLinked heads look → AreLinked heads' look
linked_same_heads heads heads' look same linked =
    record {
      whole = λ s k a.
          let w = linked.whole s k a in
          record {
            numbers = w.numbers;
            is = record { chain = subst (λ h. IsChain (links_of look k) h.first h.len w.numbers) (sym (same s k a)) w.is.chain; on = w.is.on };
            all = w.all;
          };
      shaped = linked.shaped;
    }
