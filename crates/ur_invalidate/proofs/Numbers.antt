-- The numbers of terms: they stay, and two terms have two.
use Rattle.std.proofs.Common.{◌≡◌, ℕ, ◌<◌, List, [], ◌∷◌, ◌++◌, map, length, Option, Some, None, option_map, refl, sym, ap, ap₂, ◌∙◌, arith}
use Rattle.std.specs.Prelude.{slice_get}
use Rattle.std.specs.List.{AllByRecursion}
use Rattle.std.proofs.lemmas.Option.{slice_get_within}
use Rattle.ur_sql.specs.declared.term.SqlTerm.{SqlTerm, more_of-SqlTerm as more, end_of-SqlTerm as none}
use Rattle.ur_sql.specs.declared.term.SqlTerm.TheVariants as t
use Rattle.ur_congruence.specs.declared.terms.TermNode.{TermNode}
use Rattle.ur_congruence.specs.declared.terms.TermNode.TheVariants.{Variable, Apply}
use Rattle.ur_congruence.proofs.NodeEq.{eq_sound}
use Rattle.ur_invalidate.specs.declared.leaf.Leaf.{Leaf}
use Rattle.ur_invalidate.specs.Numbers.{node_eq, leaf_eq, leaf_of, node_number, leaf_place, variable_number, leaf_number, all_numbers, applied, number_of}
use Rattle.ur_invalidate.proofs.Leaves.{leaf_decides}
use Rattle.ur_invalidate.proofs.Places.{place_kept, place_passes}
use Rattle.ur_congruence.specs.Derives.{some_symbol}
use Rattle.ur_invalidate.proofs.Shapes.{IsApplication, IsLeaf, Shape, of_parts, of_none, shape, add_is, sub_is, mul_is, neg_is, present_is, item_is, row_is, old_is, key_is, arg_is, constant_is, same_application, same_leaf}

-- ---- lists of numbers

pub cons_numbers : (o : Option ℕ) (os : List (Option ℕ)) (ns : List ℕ) → all_numbers (o ∷ os) ≡ Some ns → (m : ℕ) × (ms : List ℕ) × (o ≡ Some m) × (all_numbers os ≡ Some ms) × (ns ≡ m ∷ ms)
cons_numbers None os ns e = cc
cons_numbers (Some m) os ns e = go (all_numbers os) refl e
  where
    go : (o : Option (List ℕ)) → all_numbers os ≡ o → option_map (λ ms. m ∷ ms) o ≡ Some ns → (k : ℕ) × (ms : List ℕ) × (Some m ≡ Some k) × (all_numbers os ≡ Some ms) × (ns ≡ k ∷ ms)
    go None h f = cc
    go (Some ms) h f = (m, ms, refl, h, cc)

pub numbers_cons : (o : Option ℕ) (os : List (Option ℕ)) (m : ℕ) (ms : List ℕ) → o ≡ Some m → all_numbers os ≡ Some ms → all_numbers (o ∷ os) ≡ Some (m ∷ ms)
numbers_cons o os m ms e h = ap (λ (p : Option ℕ). all_numbers (p ∷ os)) e ∙ ap (option_map (λ ns. m ∷ ns)) h

-- ---- what stands at a number

pub node_at : (nodes : List TermNode) (node : TermNode) (n : ℕ) → node_number nodes node ≡ Some n → slice_get nodes n ≡ Some node
node_at nodes node n e =
    let r = place_passes (node_eq node) nodes 0 n e in
    let k : n ≡ r.0 = omega (arith, r.2) in
    ap (slice_get nodes) k ∙ r.3 ∙ ap Some (sym (eq_sound node (r.1) (r.4)))

leaf_at : (leaves : List Leaf) (l : Leaf) (place : ℕ) → leaf_place leaves l ≡ Some place → slice_get leaves place ≡ Some l
leaf_at leaves l place e =
    let r = place_passes (leaf_eq l) leaves 0 place e in
    let k : place ≡ r.0 = omega (arith, r.2) in
    ap (slice_get leaves) k ∙ r.3 ∙ ap Some (sym ((leaf_decides l (r.1)).0 (r.4)))

module _ (leaves : List Leaf) (nodes : List TermNode) where
  abbrev number : SqlTerm → Option ℕ
  number = number_of leaves nodes

  pub node_of_application : (f : ℕ) (o : Option (List ℕ)) (n : ℕ) → applied nodes f o ≡ Some n → (ns : List ℕ) × (o ≡ Some ns) × (slice_get nodes n ≡ Some (Apply f ns))
  node_of_application f None n e = cc
  node_of_application f (Some ns) n e = (ns, refl, node_at nodes (Apply f ns) n e)

  pub node_of_leaf : (o : Option Leaf) (n : ℕ) → leaf_number leaves nodes o ≡ Some n → (l : Leaf) × (place : ℕ) × (o ≡ Some l) × (slice_get leaves place ≡ Some l) × (slice_get nodes n ≡ Some (Variable place))
  node_of_leaf None n e = cc
  node_of_leaf (Some l) n e = go (leaf_place leaves l) refl e
    where
      go : (o : Option ℕ) → leaf_place leaves l ≡ o → variable_number nodes o ≡ Some n → (k : Leaf) × (place : ℕ) × (Some l ≡ Some k) × (slice_get leaves place ≡ Some k) × (slice_get nodes n ≡ Some (Variable place))
      go None h f = cc
      go (Some place) h f = (l, place, refl, leaf_at leaves l place h, node_at nodes (Variable place) n f)

  -- ---- two terms have two numbers

  abbrev HasOwn : SqlTerm → Type 0
  HasOwn a = (b : SqlTerm) (n : ℕ) → number a ≡ Some n → number b ≡ Some n → a ≡ b

  all_own : (ps : List SqlTerm) → AllByRecursion HasOwn ps → (qs : List SqlTerm) (ns : List ℕ) → all_numbers (map number ps) ≡ Some ns → all_numbers (map number qs) ≡ Some ns → ps ≡ qs
  all_own [] own [] ns e h = refl
  all_own [] own (q ∷ qs) ns e h = let r = cons_numbers (number q) (map number qs) ns h in let z : ns ≡ [] = cc in let y : ns ≡ r.0 ∷ r.1 = r.4 in cc
  all_own (p ∷ ps) own [] ns e h = let r = cons_numbers (number p) (map number ps) ns e in let z : ns ≡ [] = cc in let y : ns ≡ r.0 ∷ r.1 = r.4 in cc
  all_own (p ∷ ps) own (q ∷ qs) ns e h =
      let r = cons_numbers (number p) (map number ps) ns e in
      let u = cons_numbers (number q) (map number qs) ns h in
      let both : r.0 ∷ r.1 ≡ u.0 ∷ u.1 = sym (r.4) ∙ u.4 in
      let first : u.0 ≡ r.0 = cc in
      let rest : u.1 ≡ r.1 = cc in
      ap₂ (λ (x : SqlTerm) (xs : List SqlTerm). x ∷ xs) (own.0 q (r.0) (r.2) (u.2 ∙ ap Some first)) (all_own ps (own.1) qs (r.1) (r.3) (u.3 ∙ ap Some rest))

  application_own : (a : SqlTerm) (f : ℕ) (ps : List SqlTerm) → IsApplication a f ps → AllByRecursion HasOwn ps → HasOwn a
  application_own a f ps is own b n e h = go (shape b)
    where
      mine : (ns : List ℕ) × (all_numbers (map number ps) ≡ Some ns) × (slice_get nodes n ≡ Some (Apply f ns))
      mine = node_of_application f (all_numbers (map number ps)) n (sym (is.number leaves nodes) ∙ e)

      go : Shape b → a ≡ b
      go (of_none leaf_is) =
          let r = node_of_leaf (leaf_of b) n (sym (leaf_is.number leaves nodes) ∙ h) in
          let clash : Apply f (mine.0) ≡ Variable (r.1) = let both : Some (Apply f (mine.0)) ≡ Some (Variable (r.1)) = sym (mine.2) ∙ r.4 in cc in
          cc
      go (of_parts g qs its) =
          let r = node_of_application g (all_numbers (map number qs)) n (sym (its.number leaves nodes) ∙ h) in
          let both : Some (Apply f (mine.0)) ≡ Some (Apply g (r.0)) = sym (mine.2) ∙ r.2 in
          let node : Apply f (mine.0) ≡ Apply g (r.0) = cc in
          let symbol : g ≡ f = cc in
          let numbers : r.0 ≡ mine.0 = cc in
          let parts : ps ≡ qs = all_own ps own qs (mine.0) (mine.1) (r.1 ∙ ap Some numbers) in
          same_application a b f ps (is.is) (its.is ∙ ap₂ (λ (m : ℕ) (xs : List SqlTerm). Some (m, xs)) symbol (sym parts))

  leaf_own : (a : SqlTerm) → IsLeaf a → HasOwn a
  leaf_own a is b n e h = go (shape b)
    where
      mine : (l : Leaf) × (place : ℕ) × (leaf_of a ≡ Some l) × (slice_get leaves place ≡ Some l) × (slice_get nodes n ≡ Some (Variable place))
      mine = node_of_leaf (leaf_of a) n (sym (is.number leaves nodes) ∙ e)

      go : Shape b → a ≡ b
      go (of_parts g qs its) =
          let r = node_of_application g (all_numbers (map number qs)) n (sym (its.number leaves nodes) ∙ h) in
          let both : Some (Variable (mine.1)) ≡ Some (Apply g (r.0)) = sym (mine.4) ∙ r.2 in
          let clash : Variable (mine.1) ≡ Apply g (r.0) = cc in
          cc
      go (of_none leaf_is) =
          let r = node_of_leaf (leaf_of b) n (sym (leaf_is.number leaves nodes) ∙ h) in
          let both : Some (Variable (r.1)) ≡ Some (Variable (mine.1)) = sym (r.4) ∙ mine.4 in
          let node : Variable (r.1) ≡ Variable (mine.1) = cc in
          let place : r.1 ≡ mine.1 = cc in
          let leaves_same : Some (r.0) ≡ Some (mine.0) = sym (r.3) ∙ ap (slice_get leaves) place ∙ mine.3 in
          same_leaf a b (mine.0) (mine.2) (r.2 ∙ leaves_same)

  pub own : (a : SqlTerm) → HasOwn a
  own (t.Add' u (more a none) w (more b none)) = application_own (t.Add' u (more a none) w (more b none)) 0 (a ∷ b ∷ []) (add_is u a w b) (own a, (own b, tt))
  own (t.Sub' u (more a none) w (more b none)) = application_own (t.Sub' u (more a none) w (more b none)) 1 (a ∷ b ∷ []) (sub_is u a w b) (own a, (own b, tt))
  own (t.Mul' u (more a none) w (more b none)) = application_own (t.Mul' u (more a none) w (more b none)) 2 (a ∷ b ∷ []) (mul_is u a w b) (own a, (own b, tt))
  own (t.Neg' u (more a none)) = application_own (t.Neg' u (more a none)) 3 (a ∷ []) (neg_is u a) (own a, tt)
  own (t.Present' u (more a none)) = application_own (t.Present' u (more a none)) some_symbol (a ∷ []) (present_is u a) (own a, tt)
  own (t.Item i c) = leaf_own (t.Item i c) (item_is i c)
  own (t.Row c) = leaf_own (t.Row c) (row_is c)
  own (t.Old c) = leaf_own (t.Old c) (old_is c)
  own (t.Key n) = leaf_own (t.Key n) (key_is n)
  own (t.Arg n) = leaf_own (t.Arg n) (arg_is n)
  own (t.Constant x) = leaf_own (t.Constant x) (constant_is x)

-- ---- numbers stay where leaves and nodes are added

module _ (leaves more_leaves : List Leaf) (nodes more_nodes : List TermNode) where
  abbrev old_number : SqlTerm → Option ℕ
  old_number = number_of leaves nodes

  abbrev new_number : SqlTerm → Option ℕ
  new_number = number_of (leaves ++ more_leaves) (nodes ++ more_nodes)

  pub node_kept : (node : TermNode) (n : ℕ) → node_number nodes node ≡ Some n → node_number (nodes ++ more_nodes) node ≡ Some n
  node_kept node n e = place_kept (node_eq node) nodes more_nodes 0 n e

  leaf_kept : (o : Option Leaf) (n : ℕ) → leaf_number leaves nodes o ≡ Some n → leaf_number (leaves ++ more_leaves) (nodes ++ more_nodes) o ≡ Some n
  leaf_kept None n e = cc
  leaf_kept (Some l) n e = go (leaf_place leaves l) refl e
    where
      go : (o : Option ℕ) → leaf_place leaves l ≡ o → variable_number nodes o ≡ Some n → variable_number (nodes ++ more_nodes) (leaf_place (leaves ++ more_leaves) l) ≡ Some n
      go None h f = cc
      go (Some place) h f = ap (variable_number (nodes ++ more_nodes)) (place_kept (leaf_eq l) leaves more_leaves 0 place h) ∙ node_kept (Variable place) n f

  abbrev Stays : SqlTerm → Type 0
  Stays a = (n : ℕ) → old_number a ≡ Some n → new_number a ≡ Some n

  all_kept : (ps : List SqlTerm) → AllByRecursion Stays ps → (ns : List ℕ) → all_numbers (map old_number ps) ≡ Some ns → all_numbers (map new_number ps) ≡ Some ns
  all_kept [] stay ns e = e
  all_kept (p ∷ ps) stay ns e =
      let r = cons_numbers (old_number p) (map old_number ps) ns e in
      numbers_cons (new_number p) (map new_number ps) (r.0) (r.1) (stay.0 (r.0) (r.2)) (all_kept ps (stay.1) (r.1) (r.3)) ∙ ap Some (sym (r.4))

  application_kept : (a : SqlTerm) (f : ℕ) (ps : List SqlTerm) → IsApplication a f ps → AllByRecursion Stays ps → Stays a
  application_kept a f ps is stay n e =
      let r = node_of_number f (all_numbers (map old_number ps)) n (sym (is.number leaves nodes) ∙ e) in
      is.number (leaves ++ more_leaves) (nodes ++ more_nodes) ∙ ap (applied (nodes ++ more_nodes) f) (all_kept ps stay (r.0) (r.1)) ∙ node_kept (Apply f (r.0)) n (r.2)
    where
      node_of_number : (g : ℕ) (o : Option (List ℕ)) (m : ℕ) → applied nodes g o ≡ Some m → (ns : List ℕ) × (o ≡ Some ns) × (node_number nodes (Apply g ns) ≡ Some m)
      node_of_number g None m h = cc
      node_of_number g (Some ns) m h = (ns, refl, h)

  leaf_stays : (a : SqlTerm) → IsLeaf a → Stays a
  leaf_stays a is n e = is.number (leaves ++ more_leaves) (nodes ++ more_nodes) ∙ leaf_kept (leaf_of a) n (sym (is.number leaves nodes) ∙ e)

  pub kept : (a : SqlTerm) → Stays a
  kept (t.Add' u (more a none) w (more b none)) = application_kept (t.Add' u (more a none) w (more b none)) 0 (a ∷ b ∷ []) (add_is u a w b) (kept a, (kept b, tt))
  kept (t.Sub' u (more a none) w (more b none)) = application_kept (t.Sub' u (more a none) w (more b none)) 1 (a ∷ b ∷ []) (sub_is u a w b) (kept a, (kept b, tt))
  kept (t.Mul' u (more a none) w (more b none)) = application_kept (t.Mul' u (more a none) w (more b none)) 2 (a ∷ b ∷ []) (mul_is u a w b) (kept a, (kept b, tt))
  kept (t.Neg' u (more a none)) = application_kept (t.Neg' u (more a none)) 3 (a ∷ []) (neg_is u a) (kept a, tt)
  kept (t.Present' u (more a none)) = application_kept (t.Present' u (more a none)) some_symbol (a ∷ []) (present_is u a) (kept a, tt)
  kept (t.Item i c) = leaf_stays (t.Item i c) (item_is i c)
  kept (t.Row c) = leaf_stays (t.Row c) (row_is c)
  kept (t.Old c) = leaf_stays (t.Old c) (old_is c)
  kept (t.Key n) = leaf_stays (t.Key n) (key_is n)
  kept (t.Arg n) = leaf_stays (t.Arg n) (arg_is n)
  kept (t.Constant x) = leaf_stays (t.Constant x) (constant_is x)

-- a number is one of the nodes
pub number_within : (leaves : List Leaf) (nodes : List TermNode) (a : SqlTerm) (n : ℕ) → number_of leaves nodes a ≡ Some n → n < length nodes
number_within leaves nodes a n e = go (shape a)
  where
    go : Shape a → n < length nodes
    go (of_none is) = let r = node_of_leaf leaves nodes (leaf_of a) n (sym (is.number leaves nodes) ∙ e) in slice_get_within nodes n (Variable (r.1)) (r.4)
    go (of_parts f ps is) = let r = node_of_application leaves nodes f (all_numbers (map (number_of leaves nodes) ps)) n (sym (is.number leaves nodes) ∙ e) in slice_get_within nodes n (Apply f (r.0)) (r.2)
