-- What a numbering is after one term more.
use Rattle.std.proofs.Common.{◌≡◌, ◌≢◌, ℕ, zero, suc, ◌+◌, ◌≤◌, ◌⊎◌, inl, inr, ⊎_elim, List, [], ◌∷◌, ◌++◌, map, flat_map, filter_map, length, Option, Some, All, Contains, refl, sym, ap, ◌∙◌, subst, arith, append-nil, length-append}
use Rattle.std.specs.Prelude.{slice_get}
use Rattle.std.specs.List.{AllByRecursion, cons_option}
use Rattle.std.proofs.lemmas.List.Elements.{All-contains, All-append, All-weaker, All-from_recursion, Contains-append_left, Contains-append_right, Contains-append_cases, filter_map-append}
use Rattle.ur_values.specs.declared.value.Value.{Value}
use Rattle.ur_sql.specs.declared.term.SqlTerm.{SqlTerm}
use Rattle.ur_sql.specs.declared.term.SqlTerm.TheVariants as t
use Rattle.ur_sql.proofs.Members.{In, contains_from_in}
use Rattle.ur_congruence.specs.declared.terms.TermNode.{TermNode}
use Rattle.ur_congruence.specs.declared.terms.TermNode.TheVariants.{Variable, Apply}
use Rattle.ur_congruence.specs.Graph.{Graph}
use Rattle.ur_congruence.specs.Terms.{IsNumberOf}
use Rattle.ur_congruence.proofs.NodeEq.{eq_sound, eq_complete}
use Rattle.ur_conditions.specs.Terms.{subterms, constant_of}
use Rattle.ur_invalidate.specs.declared.leaf.Leaf.{Leaf}
use Rattle.ur_invalidate.specs.Numbers.{node_eq, leaf_of, leaf_place, node_number, variable_number, leaf_number, all_numbers, applied, number_of, IsNumber, AreNumbered, KeepNumbers}
use Rattle.ur_invalidate.proofs.Places.{place_found, get_pushed}
use Rattle.ur_invalidate.proofs.Numbers.{numbers_cons, kept, number_within}
use Rattle.ur_invalidate.proofs.Shapes.{IsApplication, IsLeaf}

abbrev pub Once : List TermNode → Type 0
Once nodes = (s u : ℕ) (node : TermNode) → slice_get nodes s ≡ Some node → slice_get nodes u ≡ Some node → s ≡ u

all_from_in : {X : Type 0} (P : X → Type 0) (xs : List X) → ((x : X) → In x xs → P x) → AllByRecursion P xs
all_from_in P [] f = tt
all_from_in P (x ∷ xs) f = (f x (inl refl), all_from_in P xs (λ y i. f y (inr i)))

all_from_contains : {X : Type 0} (P : X → Type 0) (xs : List X) → ((x : X) → Contains xs x → P x) → All P xs
all_from_contains P xs f = All-from_recursion P xs (all_from_in P xs (λ x i. f x (contains_from_in xs x i)))

all_one : {X : Type 0} (P : X → Type 0) (x : X) → P x → All P (x ∷ [])
all_one P x p = All-from_recursion P (x ∷ []) (p, tt)

contains_get : {X : Type 0} (xs : List X) (k : ℕ) (x : X) → slice_get xs k ≡ Some x → In x xs
contains_get [] k x e = cc
contains_get (y ∷ xs) zero x e = inl cc
contains_get (y ∷ xs) (suc k) x e = inr (contains_get xs k x e)

-- ---- nodes

module _ (node : TermNode) (old new : Graph) (n : ℕ) (is : IsNumberOf node old new n) where
  pub nodes_grow : (more : List TermNode) × (new.nodes ≡ old.nodes ++ more)
  nodes_grow = ⊎_elim (λ same. ([], same ∙ sym (append-nil old.nodes))) (λ added. (node ∷ [], added.0)) is.terms

  -- a node of the new ones is an old one or this one
  pub new_or_old : (k : ℕ) (other : TermNode) → slice_get new.nodes k ≡ Some other → (slice_get old.nodes k ≡ Some other) ⊎ (other ≡ node)
  new_or_old k other e = ⊎_elim (λ same. inl (ap (λ (xs : List TermNode). slice_get xs k) (sym same) ∙ e))
      (λ added. ⊎_elim (λ h. inl h) (λ h. inr (h.1)) (get_pushed old.nodes node k other (ap (λ (xs : List TermNode). slice_get xs k) (sym (added.0)) ∙ e))) is.terms

  pub once_kept : Once old.nodes → Once new.nodes
  once_kept once s u other at_s at_u = ⊎_elim
      (λ same. once s u other (ap (λ (xs : List TermNode). slice_get xs s) (sym same) ∙ at_s) (ap (λ (xs : List TermNode). slice_get xs u) (sym same) ∙ at_u))
      (λ added. pushed (added.1) (get_pushed old.nodes node s other (ap (λ (xs : List TermNode). slice_get xs s) (sym (added.0)) ∙ at_s)) (get_pushed old.nodes node u other (ap (λ (xs : List TermNode). slice_get xs u) (sym (added.0)) ∙ at_u))) is.terms
    where
      fresh : All (λ o. o ≢ node) old.nodes → (k : ℕ) → slice_get old.nodes k ≡ Some other → other ≡ node → s ≡ u
      fresh all k at same = absurd (All-contains (λ o. o ≢ node) old.nodes other all (contains_from_in old.nodes other (contains_get old.nodes k other at)) same)

      pushed : All (λ o. o ≢ node) old.nodes → (slice_get old.nodes s ≡ Some other) ⊎ ((s ≡ length old.nodes) × (other ≡ node))
          → (slice_get old.nodes u ≡ Some other) ⊎ ((u ≡ length old.nodes) × (other ≡ node)) → s ≡ u
      pushed all (inl a) (inl b) = once s u other a b
      pushed all (inl a) (inr b) = fresh all s a (b.1)
      pushed all (inr a) (inl b) = fresh all u b (a.1)
      pushed all (inr a) (inr b) = a.0 ∙ sym (b.0)

  pub number_is : Once old.nodes → node_number new.nodes node ≡ Some n
  number_is once =
      place_found (node_eq node) new.nodes 0 n node is.number (eq_complete node)
      (λ j y there so. once_kept once j n node (there ∙ ap Some (sym (eq_sound node y so))) is.number)
      ∙ ap Some (omega arith)

  pub at_most_one : length new.nodes ≤ length old.nodes + 1
  at_most_one = ⊎_elim (λ same. let e = ap (λ (xs : List TermNode). length xs) same in omega (arith, e))
      (λ added. let e = ap (λ (xs : List TermNode). length xs) (added.0) in let f = length-append old.nodes (node ∷ []) in omega (arith, e, f)) is.terms

-- ---- more terms

pub numbered_more : (known more : List SqlTerm) (leaves leaves' : List Leaf) (nodes nodes' : List TermNode) (constants constants' : List (Value × ℕ))
    → AreNumbered known leaves nodes constants → KeepNumbers leaves nodes leaves' nodes' → Once nodes'
    → All (λ a. (n : ℕ) × IsNumber leaves' nodes' a n) more
    → ((n f : ℕ) (ns : List ℕ) → slice_get nodes' n ≡ Some (Apply f ns) → (slice_get nodes n ≡ Some (Apply f ns)) ⊎ ((a : SqlTerm) × Contains more a × IsNumber leaves' nodes' a n))
    → map (λ (c : Value × ℕ). c.0) constants' ≡ map (λ (c : Value × ℕ). c.0) constants ++ filter_map constant_of more
    → All (λ (c : Value × ℕ). IsNumber leaves' nodes' (t.Constant (c.0)) (c.1)) constants'
    → AreNumbered (known ++ more) leaves' nodes' constants'
numbered_more known more leaves leaves' nodes nodes' constants constants' before keeps once each back are have = record {
  once = once;
  each = All-append (λ a. (n : ℕ) × IsNumber leaves' nodes' a n) known more
      (All-weaker (λ a. (n : ℕ) × IsNumber leaves nodes a n) (λ a. (n : ℕ) × IsNumber leaves' nodes' a n) (λ a h. (h.0, keeps a (h.0) (h.1))) known before.each) each;
  back = λ n f ns at. ⊎_elim (λ h. let r = before.back n f ns h in (r.0, Contains-append_left known more (r.0) (r.1), keeps (r.0) n (r.2)))
      (λ h. (h.0, Contains-append_right known more (h.0) (h.1), h.2)) (back n f ns at);
  constants_are = are ∙ ap (λ cs. cs ++ filter_map constant_of more) before.constants_are ∙ sym (filter_map-append constant_of known more);
  constants_have = have;
}

-- the terms in another order
pub numbered_same : (known other : List SqlTerm) (leaves : List Leaf) (nodes : List TermNode) (constants : List (Value × ℕ)) → AreNumbered known leaves nodes constants
    → ((a : SqlTerm) → Contains known a → Contains other a) → ((a : SqlTerm) → Contains other a → Contains known a) → filter_map constant_of known ≡ filter_map constant_of other
    → AreNumbered other leaves nodes constants
numbered_same known other leaves nodes constants before forth back same = record {
  once = before.once;
  each = all_from_contains (λ a. (n : ℕ) × IsNumber leaves nodes a n) other (λ a i. All-contains (λ b. (n : ℕ) × IsNumber leaves nodes b n) known a before.each (back a i));
  back = λ n f ns at. let r = before.back n f ns at in (r.0, forth (r.0) (r.1), r.2);
  constants_are = before.constants_are ∙ same;
  constants_have = before.constants_have;
}

-- ---- a leaf more

module _ (leaves more_leaves leaves' : List Leaf) (grow : leaves' ≡ leaves ++ more_leaves) (place : ℕ) (l : Leaf) (placed : leaf_place leaves' l ≡ Some place)
    (old new : Graph) (n : ℕ) (is : IsNumberOf (Variable place) old new n) where
  pub leaf_keeps : KeepNumbers leaves old.nodes leaves' new.nodes
  leaf_keeps a m e =
      let g = nodes_grow (Variable place) old new n is in
      subst (λ (ls : List Leaf). IsNumber ls new.nodes a m) (sym grow) (subst (λ (ns : List TermNode). IsNumber (leaves ++ more_leaves) ns a m) (sym (g.1)) (kept leaves more_leaves old.nodes (g.0) a m e))

  leaf_has : Once old.nodes → (a : SqlTerm) → IsLeaf a → leaf_of a ≡ Some l → IsNumber leaves' new.nodes a n
  leaf_has once a leaf same =
      leaf.number leaves' new.nodes ∙ ap (leaf_number leaves' new.nodes) same ∙ ap (variable_number new.nodes) placed ∙ number_is (Variable place) old new n is once

  pub leaf_added : (known : List SqlTerm) (constants constants' : List (Value × ℕ)) → AreNumbered known leaves old.nodes constants → (a : SqlTerm) → IsLeaf a → leaf_of a ≡ Some l
      → map (λ (c : Value × ℕ). c.0) constants' ≡ map (λ (c : Value × ℕ). c.0) constants ++ filter_map constant_of (a ∷ [])
      → (All (λ (c : Value × ℕ). IsNumber leaves' new.nodes (t.Constant (c.0)) (c.1)) constants → IsNumber leaves' new.nodes a n → All (λ (c : Value × ℕ). IsNumber leaves' new.nodes (t.Constant (c.0)) (c.1)) constants')
      → AreNumbered (known ++ subterms a) leaves' new.nodes constants' × IsNumber leaves' new.nodes a n
  leaf_added known constants constants' before a leaf same are have = (
    subst (λ (more : List SqlTerm). AreNumbered (known ++ more) leaves' new.nodes constants') (sym leaf.terms)
        (numbered_more known (a ∷ []) leaves leaves' old.nodes new.nodes constants constants' before leaf_keeps (once_kept (Variable place) old new n is before.once)
        (all_one (λ b. (m : ℕ) × IsNumber leaves' new.nodes b m) a (n, here)) back are
        (have (All-weaker (λ (c : Value × ℕ). IsNumber leaves old.nodes (t.Constant (c.0)) (c.1)) (λ (c : Value × ℕ). IsNumber leaves' new.nodes (t.Constant (c.0)) (c.1)) (λ c h. leaf_keeps (t.Constant (c.0)) (c.1) h) constants before.constants_have) here)),
    here,
  )
    where
      here : IsNumber leaves' new.nodes a n
      here = leaf_has before.once a leaf same

      back : (m f : ℕ) (ns : List ℕ) → slice_get new.nodes m ≡ Some (Apply f ns) → (slice_get old.nodes m ≡ Some (Apply f ns)) ⊎ ((b : SqlTerm) × Contains (a ∷ []) b × IsNumber leaves' new.nodes b m)
      back m f ns at = ⊎_elim (λ h. inl h) (λ h. absurd (apart h)) (new_or_old (Variable place) old new n is m (Apply f ns) at)
        where
          apart : Apply f ns ≡ Variable place → ⊥
          apart e = cc

-- ---- an application more

module _ (leaves : List Leaf) (old new : Graph) (f : ℕ) (ns : List ℕ) (n : ℕ) (is : IsNumberOf (Apply f ns) old new n) where
  pub application_keeps : KeepNumbers leaves old.nodes leaves new.nodes
  application_keeps a m e =
      let g = nodes_grow (Apply f ns) old new n is in
      subst (λ (ls : List Leaf). IsNumber ls new.nodes a m) (append-nil leaves) (subst (λ (nodes : List TermNode). IsNumber (leaves ++ []) nodes a m) (sym (g.1)) (kept leaves [] old.nodes (g.0) a m e))

  pub application_added : (known : List SqlTerm) (constants : List (Value × ℕ)) (a : SqlTerm) (parts : List SqlTerm) → IsApplication a f parts
      → AreNumbered (known ++ flat_map subterms parts) leaves old.nodes constants → all_numbers (map (number_of leaves old.nodes) parts) ≡ Some ns
      → AreNumbered (known ++ subterms a) leaves new.nodes constants × IsNumber leaves new.nodes a n
  application_added known constants a parts its before numbers = (
    subst (λ (more : List SqlTerm). AreNumbered (known ++ more) leaves new.nodes constants) (sym its.terms)
        (numbered_same ((known ++ flat_map subterms parts) ++ a ∷ []) (known ++ a ∷ flat_map subterms parts) leaves new.nodes constants all forth back constants_same),
    here,
  )
    where
      all_kept : (ps : List SqlTerm) (ms : List ℕ) → all_numbers (map (number_of leaves old.nodes) ps) ≡ Some ms → all_numbers (map (number_of leaves new.nodes) ps) ≡ Some ms
      all_kept [] ms e = e
      all_kept (p ∷ ps) ms e =
          let r = Rattle.ur_invalidate.proofs.Numbers.cons_numbers (number_of leaves old.nodes p) (map (number_of leaves old.nodes) ps) ms e in
          numbers_cons (number_of leaves new.nodes p) (map (number_of leaves new.nodes) ps) (r.0) (r.1) (application_keeps p (r.0) (r.2)) (all_kept ps (r.1) (r.3)) ∙ ap Some (sym (r.4))

      here : IsNumber leaves new.nodes a n
      here = its.number leaves new.nodes ∙ ap (applied new.nodes f) (all_kept parts ns numbers) ∙ number_is (Apply f ns) old new n is before.once

      last : (m g : ℕ) (ms : List ℕ) → slice_get new.nodes m ≡ Some (Apply g ms) → Apply g ms ≡ Apply f ns → (b : SqlTerm) × Contains (a ∷ []) b × IsNumber leaves new.nodes b m
      last m g ms at same =
          let place : m ≡ n = once_kept (Apply f ns) old new n is before.once m n (Apply f ns) (at ∙ ap Some same) is.number in
          (a, contains_from_in (a ∷ []) a (inl refl), here ∙ ap Some (sym place))

      no_more : filter_map constant_of (a ∷ []) ≡ []
      no_more = ap (λ (o : Option Value). cons_option o []) its.no_constant

      all : AreNumbered ((known ++ flat_map subterms parts) ++ a ∷ []) leaves new.nodes constants
      all = numbered_more (known ++ flat_map subterms parts) (a ∷ []) leaves leaves old.nodes new.nodes constants constants before application_keeps (once_kept (Apply f ns) old new n is before.once)
          (all_one (λ b. (m : ℕ) × IsNumber leaves new.nodes b m) a (n, here))
          (λ m g ms at. ⊎_elim (λ h. inl h) (λ h. inr (last m g ms at h)) (new_or_old (Apply f ns) old new n is m (Apply g ms) at))
          (sym (append-nil (map (λ (c : Value × ℕ). c.0) constants)) ∙ ap (λ more. map (λ (c : Value × ℕ). c.0) constants ++ more) (sym no_more))
          (All-weaker (λ (c : Value × ℕ). IsNumber leaves old.nodes (t.Constant (c.0)) (c.1)) (λ (c : Value × ℕ). IsNumber leaves new.nodes (t.Constant (c.0)) (c.1)) (λ c h. application_keeps (t.Constant (c.0)) (c.1) h) constants before.constants_have)

      forth : (b : SqlTerm) → Contains ((known ++ flat_map subterms parts) ++ a ∷ []) b → Contains (known ++ a ∷ flat_map subterms parts) b
      forth b i = ⊎_elim
          (λ j. ⊎_elim (λ k. Contains-append_left known (a ∷ flat_map subterms parts) b k) (λ k. Contains-append_right known (a ∷ flat_map subterms parts) b (Contains-append_right (a ∷ []) (flat_map subterms parts) b k)) (Contains-append_cases known (flat_map subterms parts) b j))
          (λ j. Contains-append_right known (a ∷ flat_map subterms parts) b (Contains-append_left (a ∷ []) (flat_map subterms parts) b j)) (Contains-append_cases (known ++ flat_map subterms parts) (a ∷ []) b i)

      back : (b : SqlTerm) → Contains (known ++ a ∷ flat_map subterms parts) b → Contains ((known ++ flat_map subterms parts) ++ a ∷ []) b
      back b i = ⊎_elim
          (λ j. Contains-append_left (known ++ flat_map subterms parts) (a ∷ []) b (Contains-append_left known (flat_map subterms parts) b j))
          (λ j. ⊎_elim (λ k. Contains-append_right (known ++ flat_map subterms parts) (a ∷ []) b k) (λ k. Contains-append_left (known ++ flat_map subterms parts) (a ∷ []) b (Contains-append_right known (flat_map subterms parts) b k)) (Contains-append_cases (a ∷ []) (flat_map subterms parts) b j))
          (Contains-append_cases known (a ∷ flat_map subterms parts) b i)

      constants_same : filter_map constant_of ((known ++ flat_map subterms parts) ++ a ∷ []) ≡ filter_map constant_of (known ++ a ∷ flat_map subterms parts)
      constants_same =
          filter_map-append constant_of (known ++ flat_map subterms parts) (a ∷ []) ∙ ap (λ more. filter_map constant_of (known ++ flat_map subterms parts) ++ more) no_more
          ∙ append-nil (filter_map constant_of (known ++ flat_map subterms parts)) ∙ filter_map-append constant_of known (flat_map subterms parts)
          ∙ ap (λ more. filter_map constant_of known ++ more) (sym (ap (λ (o : Option Value). cons_option o (filter_map constant_of (flat_map subterms parts))) its.no_constant))
          ∙ sym (filter_map-append constant_of known (a ∷ flat_map subterms parts))
