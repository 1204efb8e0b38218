-- Nodes come to their lists and go from them.
use Rattle.std.proofs.Common.{◌≡◌, ◌≢◌, ℕ, ◌+◌, ◌-◌, ◌<◌, Bool, true, false, ◌&&◌, ◌||◌, cond, nat_lt, List, length, Option, Some, None, IsSome, option_map, refl, sym, ap, subst, ◌∙◌, inl, inr, arith, length-set, get_or-set_same, get_or-set_other}
use Rattle.std.proofs.lemmas.Bool.{cases_eq}
use Rattle.std.specs.Cmp.{nat_cmp_total}
use Rattle.std.specs.FinMap.{get, insert, remove, get-insert, get-remove}
use Rattle.ur_cacheindex.proofs.Laws.{tied, apart}
use Rattle.ur_values.specs.declared.atom.Atom.{Atom}
use Rattle.ur_cacheindex.specs.Chains.{same_number, lists_number, without, Links, IsChain, Closes, IsFirstWithout}
use Rattle.ur_cacheindex.proofs.Chains.{number_self, number_apart, number_is, true_false, takes_off, taken_elsewhere, chain_same, chain_one, chain_next_on, chain_prev_on, chain_next_apart, chain_prev_apart, without_length, without_lists, without_other}
use Rattle.ur_cacheindex.specs.declared.node.Node.{Node}
use Rattle.ur_cacheindex.specs.declared.linked.Link.{Link}
use Rattle.ur_cacheindex.specs.declared.linked.Linked.{Linked}
use Rattle.ur_cacheindex.specs.declared.heads.Head.{Head}
use Rattle.ur_cacheindex.specs.declared.heads.Heads.{Heads}
use Rattle.ur_cacheindex.specs.Lists.{same_atom, kept_at, head_at, SetsHead, atom_at, is_on_below, slots_of}
use Rattle.ur_cacheindex.specs.Linked.{Store, Look, look_at, beside, stands, has_slot, is_there, no_link, link_of, link_in, links_of, relinked, with_next, with_prev, is_number, CanLink, SetsNext, SetsPrev, Alike, IsListAt, AreLinked, is_list, Unhooks, UnhooksBelow, UnhooksAll, IsHooked, first_without, shorter}
use Rattle.ur_cacheindex.proofs.Listing.{some_same, both_true, place_of, is_itself, atom_is, atom_self, kept_from_len, more_on, below_none}

-- ---- what stands at a number

pub none_not : {X : Type 0} (x : X) → None ≡ Some x → ⊥
none_not x e = absurd (cc)

pub alike_stands : (s k : ℕ) (a : Atom) (o p : Option Linked) → option_map (λ x. x.node) p ≡ option_map (λ x. x.node) o → option_map (λ x. length x.links) p ≡ option_map (λ x. length x.links) o
    → stands (is_there s k a) p ≡ stands (is_there s k a) o
alike_stands s k a None None e f = refl
alike_stands s k a None (Some y) e f = absurd (none_not y.node (sym e))
alike_stands s k a (Some x) None e f = absurd (none_not x.node e)
alike_stands s k a (Some x) (Some y) e f =
    ap (λ n. is_on_below n s k a y.node) (some_same (length y.links) (length x.links) f) ∙ ap (λ n. is_on_below (length x.links) s k a n) (some_same y.node x.node e)

pub alike_slot : (k : ℕ) (o p : Option Linked) → option_map (λ x. length x.links) p ≡ option_map (λ x. length x.links) o → stands (has_slot k) p ≡ stands (has_slot k) o
alike_slot k None None f = refl
alike_slot k None (Some y) f = absurd (none_not (length y.links) (sym f))
alike_slot k (Some x) None f = absurd (none_not (length x.links) f)
alike_slot k (Some x) (Some y) f = ap (λ n. nat_lt k n) (some_same (length y.links) (length x.links) f)

pub there_slot : (s k : ℕ) (a : Atom) (o : Option Linked) → stands (is_there s k a) o ≡ true → stands (has_slot k) o ≡ true
there_slot s k a None h = h
there_slot s k a (Some x) h =
    (both_true (nat_lt k (length x.links)) (same_atom (atom_at x.node k) a) (both_true (same_number x.node.site s) (nat_lt k (length x.links) && same_atom (atom_at x.node k) a) h).1).0

-- a node is on one list of a slot
pub there_once : (s t k : ℕ) (a b : Atom) (o : Option Linked) → stands (is_there s k a) o ≡ true → stands (is_there t k b) o ≡ true → (s ≡ t) × (a ≡ b)
there_once s t k a b None h g = absurd (true_false (sym h))
there_once s t k a b (Some x) h g =
    let p = both_true (same_number x.node.site s) (nat_lt k (length x.links) && same_atom (atom_at x.node k) a) h in
    let q = both_true (same_number x.node.site t) (nat_lt k (length x.links) && same_atom (atom_at x.node k) b) g in
    let c = (both_true (nat_lt k (length x.links)) (same_atom (atom_at x.node k) a) p.1).1 in
    let d = (both_true (nat_lt k (length x.links)) (same_atom (atom_at x.node k) b) q.1).1 in
    (sym (number_is x.node.site s p.0) ∙ number_is x.node.site t q.0, sym (atom_is (atom_at x.node k) a c) ∙ atom_is (atom_at x.node k) b d)

-- ---- links that are written

less_of : (k n : ℕ) → nat_lt k n ≡ true → k < n
less_of k n e = grind (arith, e)

written_here : (k : ℕ) (l : Link) (x : Linked) → has_slot k x ≡ true → link_of (relinked k l x) k ≡ l
written_here k l x h = get_or-set_same x.links k l no_link (less_of k (length x.links) h)

written_else : (k j : ℕ) (l : Link) (x : Linked) → j ≢ k → link_of (relinked k l x) j ≡ link_of x j
written_else k j l x differs = get_or-set_other x.links k j l no_link differs

pub number_at : (at : Option ℕ) (m : ℕ) → is_number at m ≡ true → at ≡ Some m
number_at None m e = absurd (true_false (sym e))
number_at (Some n) m e = ap (λ k. Some k) (number_is n m e)

pub at_number : (at : Option ℕ) (m : ℕ) → at ≡ Some m → is_number at m ≡ true
at_number at m e = ap (λ o. is_number o m) e ∙ number_self m

pub not_number : (at : Option ℕ) (m : ℕ) → at ≢ Some m → is_number at m ≡ false
not_number at m differs = by (is_number at m) refl
  where
    by : (t : Bool) → is_number at m ≡ t → t ≡ false
    by true e = absurd (differs (number_at at m e))
    by false e = refl

pub written_through : (store : Store) (n : ℕ) (x y : Linked) (at : Option ℕ) (change : Linked → Linked) → at ≡ Some n → get store n ≡ Some x → y ≡ change x → (m : ℕ)
    → get (insert store n y) m ≡ cond (is_number at m) (option_map change (get store m)) (get store m)
written_through store n x y at change is there wrote m =
    get-insert nat_cmp_total store n y m
    ∙ elim (cases_eq n m) [
      | inl same ↦
          ap (λ t. cond t (Some y) (get store m)) (tied m n (sym same)) ∙ ap (λ v. Some v) wrote ∙ ap (option_map change) (sym there) ∙ ap (λ k. option_map change (get store k)) same
          ∙ ap (λ t. cond t (option_map change (get store m)) (get store m)) (sym (at_number at m (is ∙ ap (λ k. Some k) same)))
      | inr differs ↦
          ap (λ t. cond t (Some y) (get store m)) (apart m n (λ e. differs (sym e)))
          ∙ ap (λ t. cond t (option_map change (get store m)) (get store m)) (sym (not_number at m (λ e. differs (some_same n m (sym is ∙ e)))))
    ]

-- one link of each number is rewritten, or none
pub record Rewrites (slot : ℕ) (old new : Look) : Type 0 where
  pub else : (m k : ℕ) → k ≢ slot → link_in (new m) k ≡ link_in (old m) k
  pub alike : Alike old new

rewrites_one : (slot : ℕ) (link : Linked → Link) (t : Bool) (o p : Option Linked) → p ≡ cond t (option_map (λ x. relinked slot (link x) x) o) o
    → ((k : ℕ) → k ≢ slot → link_in p k ≡ link_in o k) × (option_map (λ x. x.node) p ≡ option_map (λ x. x.node) o) × (option_map (λ x. length x.links) p ≡ option_map (λ x. length x.links) o)
rewrites_one slot link true None p is = (λ k differs. ap (λ o. link_in o k) is, ap (option_map (λ x. x.node)) is, ap (option_map (λ x. length x.links)) is)
rewrites_one slot link true (Some x) p is = (
  λ k differs. ap (λ o. link_in o k) is ∙ written_else slot k (link x) x differs,
  ap (option_map (λ x. x.node)) is,
  ap (option_map (λ x. length x.links)) is ∙ ap (λ n. Some n) (length-set x.links slot (link x)),
)
rewrites_one slot link false o p is = (λ k differs. ap (λ o. link_in o k) is, ap (option_map (λ x. x.node)) is, ap (option_map (λ x. length x.links)) is)

pub rewrites_next : (at : Option ℕ) (slot : ℕ) (next : Option ℕ) (old new : Look) → SetsNext at slot next old new → Rewrites slot old new
rewrites_next at slot next old new sets =
    let one : (m : ℕ) → ((k : ℕ) → k ≢ slot → link_in (new m) k ≡ link_in (old m) k) × (option_map (λ x. x.node) (new m) ≡ option_map (λ x. x.node) (old m))
    × (option_map (λ x. length x.links) (new m) ≡ option_map (λ x. length x.links) (old m)) =
    λ m. rewrites_one slot (λ x. record { prev = (link_of x slot).prev; next = next }) (is_number at m) (old m) (new m) (sets m)
    in
    record { else = λ m. (one m).0; alike = λ m. ((one m).1, (one m).2) }

pub rewrites_prev : (at : Option ℕ) (slot : ℕ) (prev : Option ℕ) (old new : Look) → SetsPrev at slot prev old new → Rewrites slot old new
rewrites_prev at slot prev old new sets =
    let one : (m : ℕ) → ((k : ℕ) → k ≢ slot → link_in (new m) k ≡ link_in (old m) k) × (option_map (λ x. x.node) (new m) ≡ option_map (λ x. x.node) (old m))
    × (option_map (λ x. length x.links) (new m) ≡ option_map (λ x. length x.links) (old m)) =
    λ m. rewrites_one slot (λ x. record { prev = prev; next = (link_of x slot).next }) (is_number at m) (old m) (new m) (sets m)
    in
    record { else = λ m. (one m).0; alike = λ m. ((one m).1, (one m).2) }

pub rewrites_then : (slot : ℕ) (old mid new : Look) → Rewrites slot old mid → Rewrites slot mid new → Rewrites slot old new
rewrites_then slot old mid new r s =
    record { else = λ m k differs. s.else m k differs ∙ r.else m k differs; alike = λ m. ((s.alike m).0 ∙ (r.alike m).0, (s.alike m).1 ∙ (r.alike m).1) }

one_next : (slot : ℕ) (next : Option ℕ) (t : Bool) (o p : Option Linked) → p ≡ cond t (option_map (with_next slot next) o) o → (t ≡ true → stands (has_slot slot) o ≡ true)
    → ((link_in p slot).next ≡ cond t next (link_in o slot).next) × ((link_in p slot).prev ≡ (link_in o slot).prev)
one_next slot next true None p is can = absurd (true_false (sym (can refl)))
one_next slot next true (Some x) p is can =
    let h = written_here slot (record { prev = (link_of x slot).prev; next = next }) x (can refl) in
    (ap (λ o. (link_in o slot).next) is ∙ ap (λ l. l.next) h, ap (λ o. (link_in o slot).prev) is ∙ ap (λ l. l.prev) h)
one_next slot next false o p is can = (ap (λ o. (link_in o slot).next) is, ap (λ o. (link_in o slot).prev) is)

one_prev : (slot : ℕ) (prev : Option ℕ) (t : Bool) (o p : Option Linked) → p ≡ cond t (option_map (with_prev slot prev) o) o → (t ≡ true → stands (has_slot slot) o ≡ true)
    → ((link_in p slot).next ≡ (link_in o slot).next) × ((link_in p slot).prev ≡ cond t prev (link_in o slot).prev)
one_prev slot prev true None p is can = absurd (true_false (sym (can refl)))
one_prev slot prev true (Some x) p is can =
    let h = written_here slot (record { prev = prev; next = (link_of x slot).next }) x (can refl) in
    (ap (λ o. (link_in o slot).next) is ∙ ap (λ l. l.next) h, ap (λ o. (link_in o slot).prev) is ∙ ap (λ l. l.prev) h)
one_prev slot prev false o p is can = (ap (λ o. (link_in o slot).next) is, ap (λ o. (link_in o slot).prev) is)

pub sets_next : (at : Option ℕ) (slot : ℕ) (next : Option ℕ) (old new : Look) → SetsNext at slot next old new → CanLink at slot old → (m : ℕ)
    → ((link_in (new m) slot).next ≡ cond (is_number at m) next (link_in (old m) slot).next) × ((link_in (new m) slot).prev ≡ (link_in (old m) slot).prev)
sets_next at slot next old new sets can m = one_next slot next (is_number at m) (old m) (new m) (sets m) (λ e. can m (number_at at m e))

pub sets_prev : (at : Option ℕ) (slot : ℕ) (prev : Option ℕ) (old new : Look) → SetsPrev at slot prev old new → CanLink at slot old → (m : ℕ)
    → ((link_in (new m) slot).next ≡ (link_in (old m) slot).next) × ((link_in (new m) slot).prev ≡ cond (is_number at m) prev (link_in (old m) slot).prev)
sets_prev at slot prev old new sets can m = one_prev slot prev (is_number at m) (old m) (new m) (sets m) (λ e. can m (number_at at m e))

pub can_alike : (at : Option ℕ) (slot : ℕ) (old new : Look) → Alike old new → CanLink at slot old → CanLink at slot new
can_alike at slot old new alike can m e = alike_slot slot (old m) (new m) (alike m).1 ∙ can m e

-- ---- beside a node that is held

pub held_here : (look : Look) (n : ℕ) (held : Linked) → beside look n held n ≡ Some held
held_here look n held = ap (λ t. cond t (Some held) (look n)) (number_self n)

held_else : (look : Look) (n m : ℕ) (held : Linked) → m ≢ n → beside look n held m ≡ look m
held_else look n m held differs = ap (λ t. cond t (Some held) (look m)) (number_apart n m (λ e. differs (sym e)))

beside_one : (t r : Bool) (h : Linked) (change : Linked → Linked) (o p : Option Linked) → p ≡ cond r (option_map change o) o → (t ≡ true → r ≡ false)
    → cond t (Some h) p ≡ cond r (option_map change (cond t (Some h) o)) (cond t (Some h) o)
beside_one true true h change o p is off = absurd (true_false (off refl))
beside_one true false h change o p is off = refl
beside_one false r h change o p is off = is

beside_off : (at : Option ℕ) (n m : ℕ) → at ≢ Some n → same_number n m ≡ true → is_number at m ≡ false
beside_off at n m off e = not_number at m (λ is. off (is ∙ ap (λ k. Some k) (sym (number_is n m e))))

pub beside_next : (at : Option ℕ) (slot : ℕ) (next : Option ℕ) (old new : Look) (n : ℕ) (held : Linked) → at ≢ Some n → SetsNext at slot next old new → SetsNext at slot next (beside old n held) (beside new n held)
beside_next at slot next old new n held off sets m = beside_one (same_number n m) (is_number at m) held (with_next slot next) (old m) (new m) (sets m) (beside_off at n m off)

pub beside_prev : (at : Option ℕ) (slot : ℕ) (prev : Option ℕ) (old new : Look) (n : ℕ) (held : Linked) → at ≢ Some n → SetsPrev at slot prev old new → SetsPrev at slot prev (beside old n held) (beside new n held)
beside_prev at slot prev old new n held off sets m = beside_one (same_number n m) (is_number at m) held (with_prev slot prev) (old m) (new m) (sets m) (beside_off at n m off)

-- ---- a node goes from one list

module _ (heads : Heads) (look : Look) (n : ℕ) (held : Linked) (slot : ℕ) (hooked : IsHooked heads (beside look n held) held.node.site slot (atom_at held.node slot) n true) where
  abbrev its : Links
  its = links_of (beside look n held) slot

  own_next : its.next n ≡ (link_of held slot).next
  own_next = ap (λ o. (link_in o slot).next) (held_here look n held)

  own_prev : its.prev n ≡ (link_of held slot).prev
  own_prev = ap (λ o. (link_in o slot).prev) (held_here look n held)

  abbrev head : Head
  head = head_at heads held.node.site slot (atom_at held.node slot)

  pub not_own_next : (link_of held slot).next ≢ Some n
  not_own_next e = chain_next_apart its head.first head.len hooked.numbers hooked.is.chain n hooked.here (own_next ∙ e)

  pub not_own_prev : (link_of held slot).prev ≢ Some n
  not_own_prev e = chain_prev_apart its head.first head.len hooked.numbers hooked.is.chain n hooked.here (own_prev ∙ e)

  can_beside : (at : Option ℕ) → at ≢ Some n → CanLink at slot (beside look n held) → CanLink at slot look
  can_beside at off can m e = ap (stands (has_slot slot)) (sym (held_else look n m held (λ same. off (e ∙ ap (λ k. Some k) same)))) ∙ can m e

  beside_can_prev : CanLink (link_of held slot).prev slot (beside look n held)
  beside_can_prev m e =
      there_slot held.node.site slot (atom_at held.node slot) (beside look n held m) (hooked.is.on m (chain_prev_on its head.first head.len hooked.numbers hooked.is.chain n m hooked.here (own_prev ∙ e)))

  beside_can_next : CanLink (link_of held slot).next slot (beside look n held)
  beside_can_next m e =
      there_slot held.node.site slot (atom_at held.node slot) (beside look n held m) (hooked.is.on m (chain_next_on its head.first head.len hooked.numbers hooked.is.chain n m hooked.here (own_next ∙ e)))

  pub can_prev : CanLink (link_of held slot).prev slot look
  can_prev = can_beside (link_of held slot).prev not_own_prev beside_can_prev

  pub can_next : CanLink (link_of held slot).next slot look
  can_next = can_beside (link_of held slot).next not_own_next beside_can_next

  pub one_more : head.len ≡ length (without n hooked.numbers) + 1
  one_more = hooked.is.chain.many ∙ sym (without_length n hooked.numbers hooked.here)

  pub is_kept : IsSome (kept_at heads held.node.site slot (atom_at held.node slot))
  is_kept = kept_from_len (kept_at heads held.node.site slot (atom_at held.node slot)) (length (without n hooked.numbers)) one_more

  module _ (mid look' : Look) (heads' : Heads) (next : SetsNext (link_of held slot).prev slot (link_of held slot).next look mid) (prev : SetsPrev (link_of held slot).next slot (link_of held slot).prev mid look')
      (sets : SetsHead held.node.site slot (atom_at held.node slot) (shorter (link_of held slot) head) heads heads') where
    next' : SetsNext (link_of held slot).prev slot (link_of held slot).next (beside look n held) (beside mid n held)
    next' = beside_next (link_of held slot).prev slot (link_of held slot).next look mid n held not_own_prev next

    prev' : SetsPrev (link_of held slot).next slot (link_of held slot).prev (beside mid n held) (beside look' n held)
    prev' = beside_prev (link_of held slot).next slot (link_of held slot).prev mid look' n held not_own_next prev

    first_rewrite : Rewrites slot (beside look n held) (beside mid n held)
    first_rewrite = rewrites_next (link_of held slot).prev slot (link_of held slot).next (beside look n held) (beside mid n held) next'

    rewrite : Rewrites slot (beside look n held) (beside look' n held)
    rewrite = rewrites_then slot (beside look n held) (beside mid n held) (beside look' n held) first_rewrite
        (rewrites_prev (link_of held slot).next slot (link_of held slot).prev (beside mid n held) (beside look' n held) prev')

    abbrev after : Links
    after = links_of (beside look' n held) slot

    after_next : (m : ℕ) → after.next m ≡ cond (is_number (link_of held slot).prev m) (link_of held slot).next (its.next m)
    after_next m =
        (sets_prev (link_of held slot).next slot (link_of held slot).prev (beside mid n held) (beside look' n held) prev'
        (can_alike (link_of held slot).next slot (beside look n held) (beside mid n held) first_rewrite.alike beside_can_next) m).0
        ∙ (sets_next (link_of held slot).prev slot (link_of held slot).next (beside look n held) (beside mid n held) next' beside_can_prev m).0

    after_prev : (m : ℕ) → after.prev m ≡ cond (is_number (link_of held slot).next m) (link_of held slot).prev (its.prev m)
    after_prev m =
        (sets_prev (link_of held slot).next slot (link_of held slot).prev (beside mid n held) (beside look' n held) prev'
        (can_alike (link_of held slot).next slot (beside look n held) (beside mid n held) first_rewrite.alike beside_can_next) m).1
        ∙ ap (cond (is_number (link_of held slot).next m) (link_of held slot).prev)
        (sets_next (link_of held slot).prev slot (link_of held slot).next (beside look n held) (beside mid n held) next' beside_can_prev m).1

    closes : Closes n its after
    closes =
        record {
          next_at = λ m e. after_next m ∙ ap (λ t. cond t (link_of held slot).next (its.next m)) (at_number (link_of held slot).prev m (sym own_prev ∙ e)) ∙ sym own_next;
          next_else = λ m e. after_next m ∙ ap (λ t. cond t (link_of held slot).next (its.next m)) (not_number (link_of held slot).prev m (λ is. e (own_prev ∙ is)));
          prev_at = λ m e. after_prev m ∙ ap (λ t. cond t (link_of held slot).prev (its.prev m)) (at_number (link_of held slot).next m (sym own_next ∙ e)) ∙ sym own_prev;
          prev_else = λ m e. after_prev m ∙ ap (λ t. cond t (link_of held slot).prev (its.prev m)) (not_number (link_of held slot).next m (λ is. e (own_next ∙ is)));
        }

    first_at : (p next first : Option ℕ) → p ≡ None → first_without p next first ≡ next
    first_at p next first e = ap (λ o. first_without o next first) e

    first_else : (p next first : Option ℕ) → p ≢ None → first_without p next first ≡ first
    first_else None next first e = absurd (e refl)
    first_else (Some k) next first e = refl

    is_first : IsFirstWithout n its head.first (shorter (link_of held slot) head).first
    is_first =
        record {
          at = λ e. first_at (link_of held slot).prev (link_of held slot).next head.first (sym own_prev ∙ e) ∙ sym own_next;
          otherwise = λ e. first_else (link_of held slot).prev (link_of held slot).next head.first (λ is. e (own_prev ∙ is));
        }

    still_on : (s k : ℕ) (a : Atom) (numbers : List ℕ) → IsListAt heads (beside look n held) s k a numbers → (m : ℕ) → lists_number numbers m ≡ true
        → stands (is_there s k a) (beside look' n held m) ≡ true
    still_on s k a numbers is m on = alike_stands s k a (beside look n held m) (beside look' n held m) (rewrite.alike m).0 (rewrite.alike m).1 ∙ is.on m on

    fewer : (t x : Bool) → cond t false x ≡ true → x ≡ true
    fewer true x e = absurd (true_false (sym e))
    fewer false x e = e

    with_head : (s k : ℕ) (a : Atom) (h : Head) (numbers : List ℕ) → head_at heads' s k a ≡ h → IsChain (links_of (beside look' n held) k) h.first h.len numbers
        → ((m : ℕ) → lists_number numbers m ≡ true → stands (is_there s k a) (beside look' n held m) ≡ true) → IsListAt heads' (beside look' n held) s k a numbers
    with_head s k a h numbers e chain on =
        record { chain = subst (λ g. IsChain (links_of (beside look' n held) k) g.first g.len numbers) (sym e) chain; on = on }

    -- its list
    here_goes : (numbers : List ℕ) → IsListAt heads (beside look n held) held.node.site slot (atom_at held.node slot) numbers
        → IsListAt heads' (beside look' n held) held.node.site slot (atom_at held.node slot) (without n numbers)
    here_goes numbers is =
        let one : hooked.numbers ≡ numbers = chain_one its head.first head.len hooked.numbers hooked.is.chain head.len numbers is.chain in
        let on : lists_number numbers n ≡ true = ap (λ ns. lists_number ns n) (sym one) ∙ hooked.here in
        let less : head.len - 1 + 1 ≡ head.len = let e = one_more in omega (arith, e) in
        with_head held.node.site slot (atom_at held.node slot) (shorter (link_of held slot) head) (without n numbers)
        (sets held.node.site slot (atom_at held.node slot) ∙ ap (λ t. cond t (shorter (link_of held slot) head) head) (is_itself held.node.site slot (atom_at held.node slot)))
        (takes_off n its after head.first (shorter (link_of held slot) head).first head.len (head.len - 1) numbers is.chain on closes is_first less)
        (λ m e. still_on held.node.site slot (atom_at held.node slot) numbers is m (fewer (same_number n m) (lists_number numbers m) (sym (without_lists n m numbers is.chain.once) ∙ e)))

    -- another list of the slot
    beside_it : (s : ℕ) (a : Atom) (numbers : List ℕ) → is_list held.node.site slot (atom_at held.node slot) s slot a ≡ false → IsListAt heads (beside look n held) s slot a numbers
        → IsChain after (head_at heads s slot a).first (head_at heads s slot a).len numbers
    beside_it s a numbers other is =
        taken_elsewhere n its after head.first (head_at heads s slot a).first head.len (head_at heads s slot a).len hooked.numbers numbers hooked.is.chain hooked.here closes
        (λ m on. not_both m on (lists_number hooked.numbers m) refl) is.chain
      where
        not_both : (m : ℕ) → lists_number numbers m ≡ true → (t : Bool) → lists_number hooked.numbers m ≡ t → t ≡ false
        not_both m on true e =
            let same = there_once held.node.site s slot (atom_at held.node slot) a (beside look n held m) (hooked.is.on m e) (is.on m on) in
            absurd (true_false (sym (subst (λ v. is_list held.node.site slot (atom_at held.node slot) v slot a ≡ true) same.0
            (subst (λ v. is_list held.node.site slot (atom_at held.node slot) held.node.site slot v ≡ true) same.1 (is_itself held.node.site slot (atom_at held.node slot)))) ∙ other))
        not_both m on false e = refl

    pub unhooks : Unhooks held.node.site slot (atom_at held.node slot) n heads (beside look n held) heads' (beside look' n held)
    unhooks s k a numbers is = by (is_list held.node.site slot (atom_at held.node slot) s k a) refl
      where
        by : (t : Bool) → is_list held.node.site slot (atom_at held.node slot) s k a ≡ t → IsListAt heads' (beside look' n held) s k a (cond t (without n numbers) numbers)
        by true e =
            let p = place_of held.node.site slot s k (atom_at held.node slot) a e in
            subst (λ v. IsListAt heads' (beside look' n held) v k a (without n numbers)) p.0
            (subst (λ v. IsListAt heads' (beside look' n held) held.node.site v a (without n numbers)) p.1
            (subst (λ v. IsListAt heads' (beside look' n held) held.node.site slot v (without n numbers)) p.2
            (here_goes numbers
            (subst (λ v. IsListAt heads (beside look n held) v slot (atom_at held.node slot) numbers) (sym p.0)
            (subst (λ v. IsListAt heads (beside look n held) s v (atom_at held.node slot) numbers) (sym p.1)
            (subst (λ v. IsListAt heads (beside look n held) s k v numbers) (sym p.2) is))))))
        by false e =
            with_head s k a (head_at heads s k a) numbers (sets s k a ∙ ap (λ t. cond t (shorter (link_of held slot) head) (head_at heads s k a)) e)
            (elim (cases_eq k slot) [
              | inl same ↦ subst (λ v. IsChain (links_of (beside look' n held) v) (head_at heads s v a).first (head_at heads s v a).len numbers) (sym same)
                  (beside_it s a numbers (subst (λ v. is_list held.node.site slot (atom_at held.node slot) s v a ≡ false) same e) (subst (λ v. IsListAt heads (beside look n held) s v a numbers) same is))
              | inr differs ↦ chain_same (links_of (beside look n held) k) (links_of (beside look' n held) k) (head_at heads s k a).first (head_at heads s k a).len numbers
                  (λ m on. (ap (λ l. l.next) (rewrite.else m k differs), ap (λ l. l.prev) (rewrite.else m k differs))) is.chain
            ])
            (still_on s k a numbers is)

-- ---- a node goes from the lists of its first slots

pub unhooked_none : (node : Node) (n : ℕ) (heads : Heads) (look : Look) → UnhooksBelow 0 node n heads look heads look
unhooked_none node n heads look s k a numbers is =
    subst (λ t. IsListAt heads look s k a (cond (same_number node.site s && (t && same_atom (atom_at node k) a)) (without n numbers) numbers)) (sym (below_none k))
    (none (same_number node.site s))
  where
    none : (t : Bool) → IsListAt heads look s k a (cond (t && false) (without n numbers) numbers)
    none true = is
    none false = is

pub not_both_slots : (i s k : ℕ) (a : Atom) (node : Node) → is_list node.site i (atom_at node i) s k a ≡ true → is_on_below i s k a node ≡ false
not_both_slots i s k a node e =
    let p = place_of node.site i s k (atom_at node i) a e in
    subst (λ j. is_on_below i s j a node ≡ false) p.1 (ap (λ t. same_number node.site s && (t && same_atom (atom_at node i) a)) (past i) ∙ none (same_number node.site s))
  where
    past : (j : ℕ) → nat_lt j j ≡ false
    past j = grind arith

    none : (t : Bool) → (t && false) ≡ false
    none true = refl
    none false = refl

pub joined_lists : (t o : Bool) (f : List ℕ → List ℕ) (numbers : List ℕ) → (t ≡ true → o ≡ false) → cond t (f (cond o (f numbers) numbers)) (cond o (f numbers) numbers) ≡ cond (t || o) (f numbers) numbers
joined_lists true true f numbers off = absurd (true_false (off refl))
joined_lists true false f numbers off = refl
joined_lists false o f numbers off = refl

pub unhooked_more : (i : ℕ) (node : Node) (n : ℕ) (heads now new : Heads) (look mid look' : Look) → UnhooksBelow i node n heads look now mid
    → Unhooks node.site i (atom_at node i) n now mid new look' → UnhooksBelow (i + 1) node n heads look new look'
unhooked_more i node n heads now new look mid look' before step s k a numbers is =
    subst (λ ns. IsListAt new look' s k a ns)
    (joined_lists (is_list node.site i (atom_at node i) s k a) (is_on_below i s k a node) (without n) numbers (not_both_slots i s k a node)
    ∙ sym (ap (λ t. cond t (without n numbers) numbers) (more_on i s k a node)))
    (step s k a (cond (is_on_below i s k a node) (without n numbers) numbers) (before s k a numbers is))

-- ---- a node goes from all of its lists

-- looks that are alike at each number are equal
pub same_look : (look look' : Look) → ((m : ℕ) → look m ≡ look' m) → look ≡ look'
same_look look look' e = λ i m. e m i

pub standing : (test : Linked → Bool) (o : Option Linked) → stands test o ≡ true → o ≢ None
standing test None h e = true_false (sym h)
standing test (Some x) h e = absurd (none_not x (sym e))

-- numbers of a list that is none of n's
pub let_go : (heads : Heads) (look : Look) (n : ℕ) (held : Linked) (s k : ℕ) (a : Atom) (numbers : List ℕ) → IsListAt heads (beside look n held) s k a numbers → lists_number numbers n ≡ false
    → IsListAt heads look s k a numbers
let_go heads look n held s k a numbers is off =
    let same : (m : ℕ) → lists_number numbers m ≡ true → look m ≡ beside look n held m =
    λ m on. sym (held_else look n m held (λ e. true_false (sym on ∙ subst (λ v. lists_number numbers v ≡ false) (sym e) off)))
    in
    record {
      chain = chain_same (links_of (beside look n held) k) (links_of look k) (head_at heads s k a).first (head_at heads s k a).len numbers
          (λ m on. (ap (λ o. (link_in o k).next) (same m on), ap (λ o. (link_in o k).prev) (same m on))) is.chain;
      on = λ m on. ap (stands (is_there s k a)) (same m on) ∙ is.on m on;
    }

pub goes_from_all : (heads heads' : Heads) (look look' : Look) (n : ℕ) (held : Linked) → AreLinked heads (beside look n held)
    → UnhooksBelow (length held.links) held.node n heads (beside look n held) heads' (beside look' n held) → UnhooksAll n heads (beside look n held) heads' look'
goes_from_all heads heads' look look' n held linked below s k a numbers is = by (is_there s k a held) refl
  where
    gone : lists_number (without n numbers) n ≡ false
    gone = without_lists n n numbers is.chain.once ∙ ap (λ t. cond t false (lists_number numbers n)) (number_self n)

    off : (t : Bool) → lists_number numbers n ≡ t → is_there s k a held ≡ false → t ≡ false
    off true e none = absurd (true_false (sym (is.on n e) ∙ ap (stands (is_there s k a)) (held_here look n held) ∙ none))
    off false e none = refl

    by : (t : Bool) → is_there s k a held ≡ t → IsListAt heads' look' s k a (without n numbers)
    by true e = let_go heads' look' n held s k a (without n numbers) (subst (λ t. IsListAt heads' (beside look' n held) s k a (cond t (without n numbers) numbers)) e (below s k a numbers is)) gone
    by false e =
        subst (λ ns. IsListAt heads' look' s k a ns) (sym (without_other n numbers (off (lists_number numbers n) refl e)))
        (let_go heads' look' n held s k a numbers (subst (λ t. IsListAt heads' (beside look' n held) s k a (cond t (without n numbers) numbers)) e (below s k a numbers is))
        (off (lists_number numbers n) refl e))

absent_alike : (o p : Option Linked) → option_map (λ x. x.node) p ≡ option_map (λ x. x.node) o → o ≡ None → p ≡ None
absent_alike o None e is = refl
absent_alike o (Some y) e is = absurd (none_not y.node (sym (e ∙ ap (option_map (λ x. x.node)) is)))

pub shape_alike : (o p : Option Linked) (y : Linked) → option_map (λ x. x.node) p ≡ option_map (λ x. x.node) o → option_map (λ x. length x.links) p ≡ option_map (λ x. length x.links) o → p ≡ Some y
    → ((x : Linked) → o ≡ Some x → length x.links ≡ slots_of x.node) → length y.links ≡ slots_of y.node
shape_alike None p y e f is all = absurd (none_not y.node (sym e ∙ ap (option_map (λ x. x.node)) is))
shape_alike (Some x) p y e f is all =
    let n : y.node ≡ x.node = some_same y.node x.node (ap (option_map (λ z. z.node)) (sym is) ∙ e) in
    let l : length y.links ≡ length x.links = some_same (length y.links) (length x.links) (ap (option_map (λ z. length z.links)) (sym is) ∙ f) in
    l ∙ all x refl ∙ ap slots_of (sym n)

pub linked_without : (heads heads' : Heads) (look look' : Look) (n : ℕ) (held : Linked) → AreLinked heads (beside look n held) → look n ≡ None → Alike look look'
    → UnhooksAll n heads (beside look n held) heads' look' → AreLinked heads' look'
linked_without heads heads' look look' n held linked absent alike goes =
    record {
      whole = λ s k a.
          let w = linked.whole s k a in
          record {
            numbers = without n w.numbers;
            is = goes s k a w.numbers w.is;
            all = λ m h.
                let differs : m ≢ n = λ e. standing (is_there s k a) (look' m) h (ap look' e ∙ absent_alike (look n) (look' n) (alike n).0 absent) in
                without_lists n m w.numbers w.is.chain.once
                ∙ ap (λ t. cond t false (lists_number w.numbers m)) (number_apart n m (λ e. differs (sym e)))
                ∙ w.all m (ap (stands (is_there s k a)) (held_else look n m held differs) ∙ sym (alike_stands s k a (look m) (look' m) (alike m).0 (alike m).1) ∙ h);
          };
      shaped = λ m y is.
          let differs : m ≢ n = λ e. none_not y (sym (absent_alike (look n) (look' n) (alike n).0 absent) ∙ ap look' (sym e) ∙ is) in
          shape_alike (look m) (look' m) y (alike m).0 (alike m).1 is (λ x e. linked.shaped m x (held_else look n m held differs ∙ e));
    }

-- the list by a slot that is not taken off yet
pub still_hooked : (heads now : Heads) (look mid : Look) (n : ℕ) (held : Linked) (slot : ℕ) → AreLinked heads (beside look n held) → nat_lt slot (length held.links) ≡ true
    → UnhooksBelow slot held.node n heads (beside look n held) now mid → IsHooked now mid held.node.site slot (atom_at held.node slot) n true
still_hooked heads now look mid n held slot linked within below =
    let w = linked.whole held.node.site slot (atom_at held.node slot) in
    record {
      numbers = w.numbers;
      is = subst (λ t. IsListAt now mid held.node.site slot (atom_at held.node slot) (cond t (without n w.numbers) w.numbers))
          (ap (λ t. same_number held.node.site held.node.site && (t && same_atom (atom_at held.node slot) (atom_at held.node slot))) (past slot) ∙ none (same_number held.node.site held.node.site))
          (below held.node.site slot (atom_at held.node slot) w.numbers w.is);
      here = w.all n (ap (stands (is_there held.node.site slot (atom_at held.node slot))) (held_here look n held)
          ∙ ap (λ t. t && (nat_lt slot (length held.links) && same_atom (atom_at held.node slot) (atom_at held.node slot))) (number_self held.node.site)
          ∙ ap (λ t. t && same_atom (atom_at held.node slot) (atom_at held.node slot)) within ∙ atom_self (atom_at held.node slot));
    }
  where
    past : (j : ℕ) → nat_lt j j ≡ false
    past j = grind arith

    none : (t : Bool) → (t && false) ≡ false
    none true = refl
    none false = refl

-- a node that is taken out and held
pub took : (old new : Store) (n : ℕ) (held : Linked) → get old n ≡ Some held → new ≡ remove old n → look_at old ≡ beside (look_at new) n held
took old new n held there left = same_look (look_at old) (beside (look_at new) n held) each
  where
    each : (m : ℕ) → get old m ≡ beside (look_at new) n held m
    each m =
        elim (cases_eq n m) [
          | inl same ↦ ap (get old) (sym same) ∙ there ∙ ap (λ t. cond t (Some held) (get new m)) (sym (number_self n) ∙ ap (same_number n) same)
          | inr differs ↦
              sym (ap (λ s. get s m) left ∙ get-remove nat_cmp_total old n m ∙ ap (λ t. cond t None (get old m)) (apart m n (λ e. differs (sym e))))
              ∙ ap (λ t. cond t (Some held) (get new m)) (sym (number_apart n m differs))
        ]

pub slot_in : (slot n m : ℕ) → slot < n → n ≡ m → nat_lt slot m ≡ true
slot_in slot n m less e = grind (arith, less, e)
