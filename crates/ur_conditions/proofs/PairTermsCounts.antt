-- How many they are.
use Rattle.std.proofs.Common.{ℕ, ◌+◌, ◌≤◌, ◌<◌, Bool, true, false, inl, inr, List, [], ◌∷◌, ◌++◌, map, flat_map, length, length-append, refl, sym, subst, Option, Some, None, option_to_list, All, sum_by, arith}
use Rattle.std.specs.List.{AllByRecursion, range_with_len}
use Rattle.std.proofs.lemmas.List.Elements.{All-from_recursion}
use Rattle.std.proofs.lemmas.List.FromFn.{length-map-range_with_len}
use Rattle.std.proofs.lemmas.List.Concat.{length-flat_map}
use Rattle.std.proofs.lemmas.List.Sums.{sum_by-append, sum_by-cons, sum_by-le-sum_by}
use Rattle.ur_values.specs.declared.value.Value.TheVariants as v
use Rattle.ur_sql.specs.declared.scalar.Scalar.{Scalar, more_of-Scalar as one, end_of-Scalar as end}
use Rattle.ur_sql.specs.declared.scalar.Scalar.TheVariants as s
use Rattle.ur_sql.specs.declared.term.SqlTerm.{SqlTerm}
use Rattle.ur_sql.specs.declared.term.SqlTerm.TheVariants as t
use Rattle.ur_sql.specs.declared.query.Query.{Query}
use Rattle.ur_sql.specs.declared.change.Change.{Change}
use Rattle.ur_sql.specs.declared.change.Action.{Action}
use Rattle.ur_sql.specs.declared.change.Action.TheVariants as action
use Rattle.ur_sql.specs.Nodes.{scalar_nodes, nodes_if_any, query_nodes, action_nodes}
use Rattle.ur_sql.proofs.Members.{In, in_append_left, in_append_right, in_map, in_map_back, in_from_contains, contains_from_in}
use Rattle.ur_conditions.specs.declared.disjunct.Disjunct.{Disjunct}
use Rattle.ur_conditions.specs.declared.disjunct.Case.{Case}
use Rattle.ur_conditions.specs.declared.side.Side.{Side}
use Rattle.ur_conditions.specs.declared.side.Side.TheVariants.{AtItems, AtRow, AtOld}
use Rattle.ur_conditions.specs.Disjuncts.{query_disjuncts, change_cases}
use Rattle.ur_conditions.specs.declared.pair.Pair.{Pair}
use Rattle.ur_conditions.specs.Pairs.{key_terms, arg_terms, terms_of, pair_of, pairs_of, touched_items}
use Rattle.ur_conditions.proofs.Fires.{in_flat_map_back}
use Rattle.ur_conditions.specs.Few.{AreLimited, HasFewTerms}
use Rattle.ur_conditions.proofs.Parts.{Among, terms_in, set_terms, action_terms, terms_few, sum_of}
use Rattle.ur_conditions.proofs.PairTerms.{pair_known, terms_known}

-- ---- counting

all_few : (side : Side) (es : List Scalar) → length (flat_map (terms_in side) es) ≤ sum_by scalar_nodes es
all_few side es = subst (λ n. n ≤ sum_by scalar_nodes es) (sym (length-flat_map (terms_in side) es)) (sum_by-le-sum_by (λ e. length (terms_in side e)) scalar_nodes es (terms_few side))

some_few : (side : Side) (o : Option Scalar) → length (flat_map (terms_in side) (option_to_list o)) ≤ nodes_if_any o
some_few side None = omega arith
some_few side (Some e) = subst (λ n. n ≤ scalar_nodes e) (sym (length-append (terms_in side e) [])) (let h = terms_few side e in omega arith)

positive : (e : Scalar) → 1 ≤ scalar_nodes e
unfolding scalar_nodes
positive (s.Constant x) = omega arith
positive (s.Column i c) = omega arith
positive (s.Param n) = omega arith
positive (s.Or' _ (one a end) _ (one b end)) = omega arith
positive (s.And' _ (one a end) _ (one b end)) = omega arith
positive (s.Not' _ (one a end)) = omega arith
positive (s.Compare' c _ (one a end) _ (one b end)) = omega arith
positive (s.Add' _ (one a end) _ (one b end)) = omega arith
positive (s.Sub' _ (one a end) _ (one b end)) = omega arith
positive (s.Mul' _ (one a end) _ (one b end)) = omega arith
positive (s.Neg' _ (one a end)) = omega arith
positive (s.Null k) = omega arith
positive (s.Present' _ (one a end)) = omega arith

sets_few : (side : Side) (sets : List (ℕ × Scalar)) → length (flat_map (set_terms side) sets) ≤ sum_by (λ set. scalar_nodes set.1) sets + sum_by (λ set. scalar_nodes set.1) sets
sets_few side [] = omega arith
sets_few side (set ∷ sets) =
    subst (λ n. n ≤ sum_by (λ (z : ℕ × Scalar). scalar_nodes (z.1)) (set ∷ sets) + sum_by (λ (z : ℕ × Scalar). scalar_nodes (z.1)) (set ∷ sets)) (sym (length-append (set_terms side set) (flat_map (set_terms side) sets)))
    (let h = terms_few side (set.1) in let p = positive (set.1) in let k = sets_few side sets in let c = sum_by-cons (λ (z : ℕ × Scalar). scalar_nodes (z.1)) set sets in omega arith)

action_few : (what : Action) → length (action_terms what) ≤ action_nodes what + action_nodes what
action_few (action.Insert sets) = sets_few AtRow sets
action_few (action.Update sets condition) =
    let h = sum_of (flat_map (set_terms AtOld) sets) (flat_map (terms_in AtOld) (option_to_list condition)) _ _ (sets_few AtOld sets) (some_few AtOld condition) in omega arith
action_few (action.Delete condition) = let h = some_few AtRow condition in omega arith

abbrev query_terms : Query → List SqlTerm
query_terms q = flat_map (terms_in AtItems) (q.on ++ option_to_list q.filter)

query_few : (q : Query) → length (query_terms q) ≤ query_nodes q
query_few q =
    let h = all_few AtItems (q.on ++ option_to_list q.filter) in
    let e = sum_by-append scalar_nodes q.on (option_to_list q.filter) in
    let k = filter q.filter in omega arith
  where
    filter : (o : Option Scalar) → sum_by scalar_nodes (option_to_list o) ≤ nodes_if_any o
    filter None = omega arith
    filter (Some a) = omega arith

-- ---- the terms of a pair

abbrev bools : List SqlTerm
bools = t.Constant (v.Bool true) ∷ t.Constant (v.Bool false) ∷ []

module _ (q : Query) (u : Change) (item : ℕ) where
  abbrev columns : (ℕ → SqlTerm) → List SqlTerm
  columns column = map column (range_with_len 0 (length u.columns))

  abbrev different : List SqlTerm
  different = bools ++ (columns t.Row ++ (columns t.Old ++ (columns (t.Item item) ++ (key_terms (length q.params) ++ (arg_terms (length u.params) ++ (query_terms q ++ action_terms u.action))))))

  columns_few : (column : ℕ → SqlTerm) → length (columns column) ≤ length u.columns
  columns_few column = let e = length-map-range_with_len column 0 (length u.columns) in omega arith

  few : AreLimited q u → length different < 65536
  few l =
      let change = sum_of (query_terms q) (action_terms u.action) _ _ (query_few q) (action_few u.action) in
      let args = sum_of (arg_terms (length u.params)) (query_terms q ++ action_terms u.action) (length u.params) _ (let e = length-map-range_with_len t.Arg 0 (length u.params) in omega arith) change in
      let keys = sum_of (key_terms (length q.params)) (arg_terms (length u.params) ++ (query_terms q ++ action_terms u.action)) (length q.params) _ (let e = length-map-range_with_len t.Key 0 (length q.params) in omega arith) args in
      let items = sum_of (columns (t.Item item)) (key_terms (length q.params) ++ (arg_terms (length u.params) ++ (query_terms q ++ action_terms u.action))) _ _ (columns_few (t.Item item)) keys in
      let olds = sum_of (columns t.Old) (columns (t.Item item) ++ (key_terms (length q.params) ++ (arg_terms (length u.params) ++ (query_terms q ++ action_terms u.action)))) _ _ (columns_few t.Old) items in
      let rows = sum_of (columns t.Row) (columns t.Old ++ (columns (t.Item item) ++ (key_terms (length q.params) ++ (arg_terms (length u.params) ++ (query_terms q ++ action_terms u.action))))) _ _ (columns_few t.Row) olds in
      let a = l.query_nodes in let b = l.change_nodes in let c = l.keys in let d = l.args in let e = l.columns in omega arith

  rows : Among (columns t.Row) different
  rows a i = in_append_right bools _ a (in_append_left (columns t.Row) _ a i)

  olds : Among (columns t.Old) different
  olds a i = in_append_right bools _ a (in_append_right (columns t.Row) _ a (in_append_left (columns t.Old) _ a i))

  items : Among (columns (t.Item item)) different
  items a i = in_append_right bools _ a (in_append_right (columns t.Row) _ a (in_append_right (columns t.Old) _ a (in_append_left (columns (t.Item item)) _ a i)))

  behind : (ms : List SqlTerm) → Among ms (key_terms (length q.params) ++ (arg_terms (length u.params) ++ (query_terms q ++ action_terms u.action))) → Among ms different
  behind ms h a i = in_append_right bools _ a (in_append_right (columns t.Row) _ a (in_append_right (columns t.Old) _ a (in_append_right (columns (t.Item item)) _ a (h a i))))

  keys : Among (key_terms (length q.params)) different
  keys = behind _ (λ a i. in_append_left (key_terms (length q.params)) _ a i)

  args : Among (arg_terms (length u.params)) different
  args = behind _ (λ a i. in_append_right (key_terms (length q.params)) _ a (in_append_left (arg_terms (length u.params)) _ a i))

  query : Among (query_terms q) different
  query = behind _ (λ a i. in_append_right (key_terms (length q.params)) _ a (in_append_right (arg_terms (length u.params)) _ a (in_append_left (query_terms q) _ a i)))

  change : Among (action_terms u.action) different
  change = behind _ (λ a i. in_append_right (key_terms (length q.params)) _ a (in_append_right (arg_terms (length u.params)) _ a (in_append_right (query_terms q) _ a i)))

  either : (b : Bool) → In (t.Constant (v.Bool b)) different
  either true = inl refl
  either false = inr (inl refl)

  plain : (c : ℕ) → In c (range_with_len 0 (length u.columns)) → In (t.Row c) different × In (t.Old c) different × In (t.Item item c) different
  plain c i = (rows (t.Row c) (in_map t.Row _ c i), olds (t.Old c) (in_map t.Old _ c i), items (t.Item item c) (in_map (t.Item item) _ c i))

  pub has_few : AreLimited q u → (d : Disjunct) → In d (query_disjuncts q) → (case : Case) → In case (change_cases u) → (e : Disjunct) → In e case.disjuncts → HasFewTerms (pair_of q u item d e)
  has_few l d i case j e k =
      let known = pair_known different either q u item query change plain d i case j e k in
      record {
        different = different;
        few = few l;
        all = λ a c. contains_from_in different a (terms_known different either (length q.params) (length u.params) (pair_of q u item d e) known keys args a (in_from_contains (terms_of (pair_of q u item d e)) a c));
      }

all_from_in : (ps : List Pair) → ((p : Pair) → In p ps → HasFewTerms p) → AllByRecursion HasFewTerms ps
all_from_in [] f = tt
all_from_in (p ∷ ps) f = (f p (inl refl), all_from_in ps (λ z i. f z (inr i)))

pub pairs_few : (q : Query) (u : Change) → AreLimited q u → All HasFewTerms (pairs_of q u)
pairs_few q u l = All-from_recursion HasFewTerms (pairs_of q u) (all_from_in (pairs_of q u) each)
  where
    each : (p : Pair) → In p (pairs_of q u) → HasFewTerms p
    each p h =
        let i = in_flat_map_back (λ item. flat_map (λ (case : Case). flat_map (λ d. map (pair_of q u item d) case.disjuncts) (query_disjuncts q)) (change_cases u)) (touched_items q u) p h in
        let c = in_flat_map_back (λ (case : Case). flat_map (λ d. map (pair_of q u (i.0) d) case.disjuncts) (query_disjuncts q)) (change_cases u) p (i.2) in
        let d = in_flat_map_back (λ d. map (pair_of q u (i.0) d) (c.0).disjuncts) (query_disjuncts q) p (c.2) in
        let e = in_map_back (pair_of q u (i.0) (d.0)) (c.0).disjuncts p (d.2) in
        subst HasFewTerms (e.2) (has_few q u (i.0) l (d.0) (d.1) (c.0) (c.1) (e.0) (e.1))
