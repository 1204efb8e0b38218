-- All terms of a pair are among those of the parts of its two statements, and a few that stand in every pair.
use Rattle.std.proofs.Common.{◌≡◌, ℕ, Bool, true, false, not, cond, inl, inr, ⊎_elim, List, [], ◌∷◌, ◌++◌, map, flat_map, length, refl, subst, filter_map, fold, Option, Some, None, option_to_list, option_map}
use Rattle.std.specs.List.{AllByRecursion, range_with_len, cons_option}
use Rattle.ur_values.specs.declared.value.Value.{Value}
use Rattle.ur_values.specs.declared.value.Value.TheVariants as v
use Rattle.ur_sql.specs.declared.scalar.Comparison.{Comparison}
use Rattle.ur_sql.specs.declared.scalar.Comparison.TheVariants as op
use Rattle.ur_sql.specs.declared.scalar.Scalar.{Scalar, more_of-Scalar as one, end_of-Scalar as end}
use Rattle.ur_sql.specs.declared.scalar.Scalar.TheVariants as s
use Rattle.ur_sql.specs.declared.term.SqlTerm.{SqlTerm}
use Rattle.ur_sql.specs.declared.term.SqlTerm.TheVariants as t
use Rattle.ur_sql.specs.declared.query.Query.{Query}
use Rattle.ur_sql.specs.declared.change.Change.{Change}
use Rattle.ur_sql.specs.declared.change.Action.{Action}
use Rattle.ur_sql.specs.declared.change.Action.TheVariants as action
use Rattle.ur_sql.specs.Change.{assigned}
use Rattle.ur_sql.proofs.Members.{In, in_append_left, in_append_right, in_append_back, in_flat_map}
use Rattle.ur_sql.proofs.NewRows.{assigned_from}
use Rattle.ur_conditions.specs.declared.disjunct.Disjunct.{Disjunct}
use Rattle.ur_conditions.specs.declared.disjunct.Case.{Case}
use Rattle.ur_conditions.specs.declared.side.Side.{Side}
use Rattle.ur_conditions.specs.declared.side.Side.TheVariants.{AtItems, AtRow, AtOld}
use Rattle.ur_conditions.specs.Terms.{column_term, param_term, term_of, subterms}
use Rattle.ur_conditions.specs.Disjuncts.{Equation, no_condition, both, paired, equation, equation_if_both, comparison, constant, disjuncts_of, conjoined, query_disjuncts, with_equations, column_equation, set_or_old, new_column, old_columns, cases_of, change_cases}
use Rattle.ur_conditions.specs.declared.pair.Pair.{Pair}
use Rattle.ur_conditions.specs.Pairs.{side_terms, key_terms, arg_terms, terms_of, pair_of, item_columns}
use Rattle.ur_conditions.proofs.Sound.{all_append, all_by_in}
use Rattle.ur_conditions.proofs.Fires.{in_flat_map_back}
use Rattle.ur_conditions.proofs.Parts.{Among, IfAmong, terms_in, set_terms, action_terms, term_among, column_among, param_among}

module _ (known : List SqlTerm) (bools : (b : Bool) → In (t.Constant (v.Bool b)) known) where
  abbrev pub IsKnown : SqlTerm → Type 0
  IsKnown a = Among (subterms a) known

  abbrev pub AreKnown : Equation → Type 0
  AreKnown e = IsKnown (e.0) × IsKnown (e.1)

  pub record DisjunctKnown (d : Disjunct) : Type 0 where
    pub equations : AllByRecursion AreKnown d.equations
    pub disequations : AllByRecursion AreKnown d.disequations

  abbrev pub DisjunctsKnown : List Disjunct → Type 0
  DisjunctsKnown = AllByRecursion DisjunctKnown

  abbrev pub IfKnown : Option SqlTerm → Type 0
  IfKnown None = Unit {0}
  IfKnown (Some a) = IsKnown a

  pub no_condition_known : DisjunctsKnown no_condition
  no_condition_known = (record { equations = tt; disequations = tt }, tt)

  both_known : (d : Disjunct) (es : List Disjunct) → DisjunctKnown d → DisjunctsKnown es → DisjunctsKnown (map (both d) es)
  both_known d [] x y = tt
  both_known d (e ∷ es) x y = (
    record {
      equations = all_append AreKnown d.equations e.equations x.equations (y.0).equations;
      disequations = all_append AreKnown d.disequations e.disequations x.disequations (y.0).disequations;
    },
    both_known d es x (y.1),
  )

  paired_known : (ds es : List Disjunct) → DisjunctsKnown ds → DisjunctsKnown es → DisjunctsKnown (paired ds es)
  paired_known [] es x y = tt
  paired_known (d ∷ ds) es x y = all_append DisjunctKnown (map (both d) es) (paired ds es) (both_known d es (x.0) y) (paired_known ds es (x.1) y)

  equation_known : (positive : Bool) (a b : SqlTerm) → IsKnown a → IsKnown b → DisjunctsKnown (equation positive a b)
  equation_known true a b x y = (record { equations = ((x, y), tt); disequations = tt }, tt)
  equation_known false a b x y = (record { equations = tt; disequations = ((x, y), tt) }, tt)

  if_both_known : (positive : Bool) (a b : Option SqlTerm) → IfKnown a → IfKnown b → DisjunctsKnown (equation_if_both positive a b)
  if_both_known positive None b x y = no_condition_known
  if_both_known positive (Some a) None x y = no_condition_known
  if_both_known positive (Some a) (Some b) x y = equation_known positive a b x y

  comparison_known : (positive : Bool) (c : Comparison) (a b : Option SqlTerm) → IfKnown a → IfKnown b → DisjunctsKnown (comparison positive c a b)
  comparison_known positive op.Equal a b x y = if_both_known positive a b x y
  comparison_known positive op.Unequal a b x y = if_both_known (not positive) a b x y
  comparison_known positive _ a b x y = no_condition_known

  constant_known : (positive : Bool) (x : Value) → DisjunctsKnown (constant positive x)
  constant_known true (v.Bool true) = no_condition_known
  constant_known true (v.Bool false) = tt
  constant_known false (v.Bool true) = tt
  constant_known false (v.Bool false) = no_condition_known
  constant_known _ _ = no_condition_known

  bool_known : (b : Bool) → IsKnown (t.Constant (v.Bool b))
  unfolding subterms
  bool_known b a (inl e) = subst (λ x. In x known) e (bools b)
  bool_known b a (inr i) = absurd i

  either_known : (pairing : Bool) (left right : List Disjunct) → DisjunctsKnown left → DisjunctsKnown right → DisjunctsKnown (cond pairing (paired left right) (left ++ right)) × DisjunctsKnown (cond pairing (left ++ right) (paired left right))
  either_known true left right x y = (paired_known left right x y, all_append DisjunctKnown left right x y)
  either_known false left right x y = (all_append DisjunctKnown left right x y, paired_known left right x y)

  if_known : (o : Option SqlTerm) (ms : List SqlTerm) → IfAmong o ms → Among ms known → IfKnown o
  if_known None ms x y = tt
  if_known (Some a) ms x y = λ b i. y b (x b i)

  left_among : (ms ns : List SqlTerm) → Among (ms ++ ns) known → Among ms known
  left_among ms ns h a i = h a (in_append_left ms ns a i)

  right_among : (ms ns : List SqlTerm) → Among (ms ++ ns) known → Among ns known
  right_among ms ns h a i = h a (in_append_right ms ns a i)

  module _ (side : Side) where
    pub part_known : (e : Scalar) → Among (terms_in side e) known → IfKnown (term_of side e)
    part_known e h = if_known (term_of side e) (terms_in side e) (term_among side e) h

    disjuncts_known : (e : Scalar) → Among (terms_in side e) known → (positive : Bool) → DisjunctsKnown (disjuncts_of side positive e)
    unfolding disjuncts_of terms_in
    disjuncts_known (s.Constant x) h positive = constant_known positive x
    disjuncts_known (s.Column i c) h positive = equation_known true (column_term side i c) (t.Constant (v.Bool positive)) (λ a j. h a (column_among side i c a j)) (bool_known positive)
    disjuncts_known (s.Param n) h positive = equation_known true (param_term side n) (t.Constant (v.Bool positive)) (λ a j. h a (param_among side n a j)) (bool_known positive)
    disjuncts_known (s.Or' _ (one a end) _ (one b end)) h positive =
        (either_known positive (disjuncts_of side positive a) (disjuncts_of side positive b)
        (disjuncts_known a (left_among (terms_in side a) (terms_in side b) h) positive) (disjuncts_known b (right_among (terms_in side a) (terms_in side b) h) positive)).1
    disjuncts_known (s.And' _ (one a end) _ (one b end)) h positive =
        (either_known positive (disjuncts_of side positive a) (disjuncts_of side positive b)
        (disjuncts_known a (left_among (terms_in side a) (terms_in side b) h) positive) (disjuncts_known b (right_among (terms_in side a) (terms_in side b) h) positive)).0
    disjuncts_known (s.Not' _ (one a end)) h positive = disjuncts_known a h (not positive)
    disjuncts_known (s.Compare' c _ (one a end) _ (one b end)) h positive =
        comparison_known positive c (term_of side a) (term_of side b) (part_known a (left_among (terms_in side a) (terms_in side b) h)) (part_known b (right_among (terms_in side a) (terms_in side b) h))
    disjuncts_known (s.Add' _ (one a end) _ (one b end)) h positive = no_condition_known
    disjuncts_known (s.Sub' _ (one a end) _ (one b end)) h positive = no_condition_known
    disjuncts_known (s.Mul' _ (one a end) _ (one b end)) h positive = no_condition_known
    disjuncts_known (s.Neg' _ (one a end)) h positive = no_condition_known
    disjuncts_known (s.Null k) h positive = no_condition_known
    disjuncts_known (s.Present' _ (one a end)) h positive = no_condition_known

    fold_known : (es : List Scalar) (ds : List Disjunct) → DisjunctsKnown ds → Among (flat_map (terms_in side) es) known → DisjunctsKnown (fold (λ ds e. paired ds (disjuncts_of side true e)) ds es)
    fold_known [] ds x h = x
    fold_known (e ∷ es) ds x h =
        fold_known es (paired ds (disjuncts_of side true e))
        (paired_known ds (disjuncts_of side true e) x (disjuncts_known e (left_among (terms_in side e) (flat_map (terms_in side) es) h) true)) (right_among (terms_in side e) (flat_map (terms_in side) es) h)

    pub conjoined_known : (es : List Scalar) → Among (flat_map (terms_in side) es) known → DisjunctsKnown (conjoined side es)
    conjoined_known es h = fold_known es no_condition no_condition_known h

  -- ---- cases

  with_known : (extra : List Equation) (ds : List Disjunct) → AllByRecursion AreKnown extra → DisjunctsKnown ds → DisjunctsKnown (with_equations extra ds)
  with_known extra [] x y = tt
  with_known extra (d ∷ ds) x y = (record { equations = all_append AreKnown d.equations extra (y.0).equations x; disequations = (y.0).disequations }, with_known extra ds x (y.1))

  abbrev IfEquation : Option Equation → Type 0
  IfEquation None = Unit {0}
  IfEquation (Some e) = AreKnown e

  filter_map_known : {X : Type 0} (f : X → Option Equation) (xs : List X) → ((x : X) → In x xs → IfEquation (f x)) → AllByRecursion AreKnown (filter_map f xs)
  filter_map_known f [] h = tt
  filter_map_known {X} f (x ∷ xs) h = go (f x) (h x (inl refl)) (filter_map_known f xs (λ y i. h y (inr i)))
    where
      go : (o : Option Equation) → IfEquation o → AllByRecursion AreKnown (filter_map f xs) → AllByRecursion AreKnown (cons_option o (filter_map f xs))
      go None e rest = rest
      go (Some y) e rest = (e, rest)

  column_equation_known : (side : Side) (c : ℕ) (e : Scalar) → IsKnown (t.Row c) → IfKnown (term_of side e) → IfEquation (column_equation side c e)
  column_equation_known side c e row h = go (term_of side e) h
    where
      go : (o : Option SqlTerm) → IfKnown o → IfEquation (option_map (λ a. (t.Row c, a)) o)
      go None x = tt
      go (Some a) x = (row, x)

  pub map_known : (f : ℕ → Equation) (ns : List ℕ) → ((n : ℕ) → In n ns → AreKnown (f n)) → AllByRecursion AreKnown (map f ns)
  map_known f [] h = tt
  map_known f (n ∷ ns) h = (h n (inl refl), map_known f ns (λ m i. h m (inr i)))

  pub row_known : (c : ℕ) → In (t.Row c) known → IsKnown (t.Row c)
  unfolding subterms
  row_known c h a (inl e) = subst (λ x. In x known) e h
  row_known c h a (inr i) = absurd i

  pub old_known : (c : ℕ) → In (t.Old c) known → IsKnown (t.Old c)
  unfolding subterms
  old_known c h a (inl e) = subst (λ x. In x known) e h
  old_known c h a (inr i) = absurd i

  pub item_known : (n c : ℕ) → In (t.Item n c) known → IsKnown (t.Item n c)
  unfolding subterms
  item_known n c h a (inl e) = subst (λ x. In x known) e h
  item_known n c h a (inr i) = absurd i

  set_among : (side : Side) (sets : List (ℕ × Scalar)) → Among (flat_map (set_terms side) sets) known → (set : ℕ × Scalar) → In set sets → Among (set_terms side set) known
  set_among side sets h set i a j = h a (in_flat_map (set_terms side) sets set a i j)

  cases_known : (width : ℕ) (what : Action) → Among (action_terms what) known → ((c : ℕ) → In c (range_with_len 0 width) → In (t.Row c) known × In (t.Old c) known)
      → (case : Case) → In case (cases_of width what) → DisjunctsKnown case.disjuncts
  cases_known width (action.Insert sets) h plain case (inl e) =
      subst (λ (c : Case). DisjunctsKnown c.disjuncts) e
      (with_known (filter_map (λ set. column_equation AtRow set.0 set.1) sets) no_condition
      (filter_map_known (λ (set : ℕ × Scalar). column_equation AtRow (set.0) (set.1)) sets (λ set i.
      let its = set_among AtRow sets h set i in
      column_equation_known AtRow (set.0) (set.1) (row_known (set.0) (its (t.Row (set.0)) (inl refl))) (part_known AtRow (set.1) (λ a j. its a (inr j))))) no_condition_known)
  cases_known width (action.Insert sets) h plain case (inr i) = absurd i
  cases_known width (action.Delete condition) h plain case (inl e) = subst (λ (c : Case). DisjunctsKnown c.disjuncts) e (conjoined_known AtRow (option_to_list condition) h)
  cases_known width (action.Delete condition) h plain case (inr i) = absurd i
  cases_known width (action.Update sets condition) h plain case (inl e) =
      subst (λ (c : Case). DisjunctsKnown c.disjuncts) e
      (with_known (old_columns width) (conjoined AtOld (option_to_list condition))
      (map_known (λ c. (t.Old c, t.Row c)) (range_with_len 0 width) (λ n i. (old_known n ((plain n i).1), row_known n ((plain n i).0))))
      (conjoined_known AtOld (option_to_list condition) (right_among (flat_map (set_terms AtOld) sets) (flat_map (terms_in AtOld) (option_to_list condition)) h)))
  cases_known width (action.Update sets condition) h plain case (inr (inl e)) =
      subst (λ (c : Case). DisjunctsKnown c.disjuncts) e
      (with_known (filter_map (new_column sets) (range_with_len 0 width)) (conjoined AtOld (option_to_list condition))
      (filter_map_known (new_column sets) (range_with_len 0 width) (λ n i. go n i (assigned sets n) refl))
      (conjoined_known AtOld (option_to_list condition) (right_among (flat_map (set_terms AtOld) sets) (flat_map (terms_in AtOld) (option_to_list condition)) h)))
    where
      go : (n : ℕ) → In n (range_with_len 0 width) → (o : Option Scalar) → assigned sets n ≡ o → IfEquation (set_or_old n o)
      go n i None e = (row_known n ((plain n i).0), old_known n ((plain n i).1))
      go n i (Some by) e =
          let r = assigned_from sets n by e in
          let its = set_among AtOld sets (left_among (flat_map (set_terms AtOld) sets) (flat_map (terms_in AtOld) (option_to_list condition)) h) (r.0) (r.1) in
          column_equation_known AtOld n by (row_known n ((plain n i).0)) (subst (λ x. IfKnown (term_of AtOld x)) (r.3) (part_known AtOld ((r.0).1) (λ a j. its a (inr j))))
  cases_known width (action.Update sets condition) h plain case (inr (inr i)) = absurd i

  -- ---- pairs

  pub record PairKnown (keys args : ℕ) (p : Pair) : Type 0 where
    pub keys_are : p.keys ≡ keys
    pub args_are : p.args ≡ args
    pub equations : AllByRecursion AreKnown p.equations
    pub disequations : AllByRecursion AreKnown p.disequations

  pub pair_known : (q : Query) (u : Change) (item : ℕ) → Among (flat_map (terms_in AtItems) (q.on ++ option_to_list q.filter)) known → Among (action_terms u.action) known
      → ((c : ℕ) → In c (range_with_len 0 (length u.columns)) → In (t.Row c) known × In (t.Old c) known × In (t.Item item c) known)
      → (d : Disjunct) → In d (query_disjuncts q) → (case : Case) → In case (change_cases u) → (e : Disjunct) → In e case.disjuncts → PairKnown (length q.params) (length u.params) (pair_of q u item d e)
  pair_known q u item query change plain d i case j e k =
      let mine = all_by_in DisjunctKnown (query_disjuncts q) d (conjoined_known AtItems (q.on ++ option_to_list q.filter) query) i in
      let its = all_by_in DisjunctKnown case.disjuncts e (cases_known (length u.columns) u.action change (λ c l. ((plain c l).0, (plain c l).1)) case j) k in
      record {
        keys_are = refl;
        args_are = refl;
        equations = all_append AreKnown (d.equations ++ e.equations) (item_columns item (length u.columns)) (all_append AreKnown d.equations e.equations mine.equations its.equations)
            (map_known (λ n. (t.Item item n, t.Row n)) (range_with_len 0 (length u.columns)) (λ n l. (item_known item n ((plain n l).2), row_known n ((plain n l).0))));
        disequations = all_append AreKnown d.disequations e.disequations mine.disequations its.disequations;
      }

  pub terms_known : (keys args : ℕ) (p : Pair) → PairKnown keys args p → Among (key_terms keys) known → Among (arg_terms args) known → Among (terms_of p) known
  terms_known keys args p is k r a i =
      ⊎_elim (λ j. ⊎_elim sides (λ l. k a (subst (λ n. In a (key_terms n)) is.keys_are l)) (in_append_back (side_terms (p.equations ++ p.disequations)) (key_terms p.keys) a j))
      (λ l. r a (subst (λ n. In a (arg_terms n)) is.args_are l)) (in_append_back (side_terms (p.equations ++ p.disequations) ++ key_terms p.keys) (arg_terms p.args) a i)
    where
      sides : In a (side_terms (p.equations ++ p.disequations)) → In a known
      sides j =
          let e = in_flat_map_back (λ (e : Equation). subterms (e.0) ++ subterms (e.1)) (p.equations ++ p.disequations) a j in
          let it = all_by_in AreKnown (p.equations ++ p.disequations) (e.0) (all_append AreKnown p.equations p.disequations is.equations is.disequations) (e.1) in
          ⊎_elim (λ l. it.0 a l) (λ l. it.1 a l) (in_append_back (subterms ((e.0).0)) (subterms ((e.0).1)) a (e.2))
