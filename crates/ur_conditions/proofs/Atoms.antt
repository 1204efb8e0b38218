-- What the patterns of typed statements read is there: arguments of the change, and constants that are ints, bools or texts.
use Rattle.std.proofs.Common.{◌≡◌, ℕ, ◌<◌, Bool, true, false, not, cond, inl, inr, ⊎_elim, List, [], ◌∷◌, ◌++◌, map, flat_map, length, refl, sym, ◌∙◌, subst, filter_map, fold, Option, Some, None, option_to_list, option_map, All, MatchBool, ◌==◌, nat_lt, arith}
use Rattle.std.specs.List.{AllByRecursion, AllZip, range_with_len, cons_option}
use Rattle.std.proofs.lemmas.List.Elements.{All-contains, All-from_recursion}
use Rattle.ur_values.specs.declared.value.Value.{Value}
use Rattle.ur_values.specs.declared.value.Value.TheVariants as v
use Rattle.ur_values.specs.declared.schema.ColumnKind.{ColumnKind}
use Rattle.ur_values.specs.declared.schema.ColumnKind.TheVariants as kind
use Rattle.ur_values.specs.declared.schema.Schema.{Schema}
use Rattle.ur_values.specs.Atom.{IsAtomic}
use Rattle.ur_values.specs.Store.{FitsKind}
use Rattle.ur_sql.specs.declared.scalar.Comparison.{Comparison}
use Rattle.ur_sql.specs.declared.scalar.Comparison.TheVariants as op
use Rattle.ur_sql.specs.declared.scalar.Scalar.{Scalar, more_of-Scalar as one, end_of-Scalar as end}
use Rattle.ur_sql.specs.declared.scalar.Scalar.TheVariants as s
use Rattle.ur_sql.specs.declared.term.SqlTerm.{SqlTerm, more_of-SqlTerm as more, end_of-SqlTerm as none}
use Rattle.ur_sql.specs.declared.term.SqlTerm.TheVariants as t
use Rattle.ur_sql.specs.declared.query.Query.{Query}
use Rattle.ur_sql.specs.declared.change.Change.{Change}
use Rattle.ur_sql.specs.declared.change.Action.{Action}
use Rattle.ur_sql.specs.declared.change.Action.TheVariants as action
use Rattle.ur_sql.specs.declared.pattern.Pattern.{Pattern}
use Rattle.ur_sql.specs.declared.pattern.KeyAt.TheVariants as key
use Rattle.ur_sql.specs.declared.pattern.Guard.TheVariants as guard
use Rattle.ur_sql.specs.Change.{assigned}
use Rattle.ur_sql.specs.Typing.{Kinds, HasKind, MayBeCondition, ActionFits, ChangeFits, QueryFits, IsTyped, kinds_in}
use Rattle.ur_sql.specs.Answer.{first_ones}
use Rattle.ur_conditions.specs.declared.disjunct.Disjunct.{Disjunct}
use Rattle.ur_conditions.specs.declared.disjunct.Case.{Case}
use Rattle.ur_conditions.specs.declared.side.Side.{Side}
use Rattle.ur_conditions.specs.declared.side.Side.TheVariants.{AtItems, AtRow, AtOld}
use Rattle.ur_conditions.specs.Terms.{HasAtoms, column_term, param_term, term_both, term_map, term_of, subterms}
use Rattle.ur_conditions.specs.Disjuncts.{Equation, no_condition, both, paired, equation, equation_if_both, comparison, constant, disjuncts_of, conjoined, query_disjuncts, with_equations, column_equation, set_or_old, new_column, old_columns, cases_of, change_cases}
use Rattle.ur_conditions.specs.declared.pair.Pair.{Pair}
use Rattle.ur_conditions.specs.Pairs.{side_terms, key_terms, arg_terms, pair_of, pairs_of, touched_items, item_columns}
use Rattle.ur_conditions.specs.Patterns.{Test, constants_of, args_in_class, constant_in_class, is_consistent, key_by, key_at, constant_guard, guards_by, guards_of, pattern_by, IsPatternOf, pattern_eq, any_key, most_pairs, AreRead, ArePatterns}
use Rattle.ur_conditions.specs.Masks.{KeyReads, GuardReads, PatternReads}
use Rattle.ur_sql.proofs.Members.{In, contains_from_in, in_append_back, in_map_back, in_filter, in_filter_map_back, found, in_range_back}
use Rattle.ur_sql.proofs.NewRows.{assigned_from, set_fits}
use Rattle.ur_values.proofs.Fitting.{basic_atomic}
use Rattle.ur_conditions.proofs.Sound.{all_append, all_by_in}
use Rattle.ur_conditions.proofs.Fires.{constant_term, in_flat_map_back}

-- ---- terms whose constants are atomic

constant_atomic : (a : SqlTerm) → HasAtoms a → (c : Value) → In (t.Constant c) (subterms a) → IsAtomic c
unfolding subterms Rattle.ur_sql.specs.declared.term.SqlTerm.TheBlock.hidden-the_row-SqlTerm-0 denote.Hole.Carrier.hidden
constant_atomic (t.Add' _ (more a none) _ (more b none)) h c (inl e) = cc
constant_atomic (t.Add' _ (more a none) _ (more b none)) h c (inr i) = ⊎_elim (constant_atomic a (h.0) c) (constant_atomic b (h.1) c) (in_append_back (subterms a) (subterms b) (t.Constant c) i)
constant_atomic (t.Sub' _ (more a none) _ (more b none)) h c (inl e) = cc
constant_atomic (t.Sub' _ (more a none) _ (more b none)) h c (inr i) = ⊎_elim (constant_atomic a (h.0) c) (constant_atomic b (h.1) c) (in_append_back (subterms a) (subterms b) (t.Constant c) i)
constant_atomic (t.Mul' _ (more a none) _ (more b none)) h c (inl e) = cc
constant_atomic (t.Mul' _ (more a none) _ (more b none)) h c (inr i) = ⊎_elim (constant_atomic a (h.0) c) (constant_atomic b (h.1) c) (in_append_back (subterms a) (subterms b) (t.Constant c) i)
constant_atomic (t.Neg' _ (more a none)) h c (inl e) = cc
constant_atomic (t.Neg' _ (more a none)) h c (inr i) = constant_atomic a h c i
constant_atomic (t.Present' _ (more a none)) h c (inl e) = cc
constant_atomic (t.Present' _ (more a none)) h c (inr i) = constant_atomic a h c i
constant_atomic (t.Constant x) h c (inl e) = let same : x ≡ c = cc in subst IsAtomic same h
constant_atomic (t.Constant x) h c (inr i) = absurd i
constant_atomic (t.Item n k) h c (inl e) = cc
constant_atomic (t.Item n k) h c (inr i) = absurd i
constant_atomic (t.Row k) h c (inl e) = cc
constant_atomic (t.Row k) h c (inr i) = absurd i
constant_atomic (t.Old k) h c (inl e) = cc
constant_atomic (t.Old k) h c (inr i) = absurd i
constant_atomic (t.Key k) h c (inl e) = cc
constant_atomic (t.Key k) h c (inr i) = absurd i
constant_atomic (t.Arg k) h c (inl e) = cc
constant_atomic (t.Arg k) h c (inr i) = absurd i

abbrev IfTerm : Option SqlTerm → Type 0
IfTerm None = Unit {0}
IfTerm (Some a) = HasAtoms a

add_atoms : (a b : Option SqlTerm) → IfTerm a → IfTerm b → IfTerm (term_both t.Add a b)
unfolding Rattle.ur_sql.specs.declared.term.SqlTerm.TheBlock.hidden-the_row-SqlTerm-0 denote.Hole.Carrier.hidden
add_atoms None b x y = tt
add_atoms (Some a) None x y = tt
add_atoms (Some a) (Some b) x y = (x, y)

sub_atoms : (a b : Option SqlTerm) → IfTerm a → IfTerm b → IfTerm (term_both t.Sub a b)
unfolding Rattle.ur_sql.specs.declared.term.SqlTerm.TheBlock.hidden-the_row-SqlTerm-0 denote.Hole.Carrier.hidden
sub_atoms None b x y = tt
sub_atoms (Some a) None x y = tt
sub_atoms (Some a) (Some b) x y = (x, y)

mul_atoms : (a b : Option SqlTerm) → IfTerm a → IfTerm b → IfTerm (term_both t.Mul a b)
unfolding Rattle.ur_sql.specs.declared.term.SqlTerm.TheBlock.hidden-the_row-SqlTerm-0 denote.Hole.Carrier.hidden
mul_atoms None b x y = tt
mul_atoms (Some a) None x y = tt
mul_atoms (Some a) (Some b) x y = (x, y)

neg_atoms : (a : Option SqlTerm) → IfTerm a → IfTerm (term_map t.Neg a)
unfolding Rattle.ur_sql.specs.declared.term.SqlTerm.TheBlock.hidden-the_row-SqlTerm-0 denote.Hole.Carrier.hidden
neg_atoms None x = tt
neg_atoms (Some a) x = x

present_atoms : (a : Option SqlTerm) → IfTerm a → IfTerm (term_map t.Present a)
unfolding Rattle.ur_sql.specs.declared.term.SqlTerm.TheBlock.hidden-the_row-SqlTerm-0 denote.Hole.Carrier.hidden
present_atoms None x = tt
present_atoms (Some a) x = x

column_atoms : (side : Side) (i c : ℕ) → HasAtoms (column_term side i c)
column_atoms AtItems i c = tt
column_atoms AtRow i c = tt
column_atoms AtOld i c = tt

param_atoms : (side : Side) (n : ℕ) → HasAtoms (param_term side n)
param_atoms AtItems n = tt
param_atoms AtRow n = tt
param_atoms AtOld n = tt

abbrev pub BothAtoms : Equation → Type 0
BothAtoms e = HasAtoms (e.0) × HasAtoms (e.1)

-- so are the sides of a disjunct
pub record DisjunctAtoms (d : Disjunct) : Type 0 where
  pub equations : AllByRecursion BothAtoms d.equations
  pub disequations : AllByRecursion BothAtoms d.disequations

abbrev AtomicDisjuncts : List Disjunct → Type 0
AtomicDisjuncts = AllByRecursion DisjunctAtoms

no_condition_atoms : AtomicDisjuncts no_condition
no_condition_atoms = (record { equations = tt; disequations = tt }, tt)

both_atoms : (d : Disjunct) (es : List Disjunct) → DisjunctAtoms d → AtomicDisjuncts es → AtomicDisjuncts (map (both d) es)
both_atoms d [] x y = tt
both_atoms d (e ∷ es) x y = (
  record {
    equations = all_append BothAtoms d.equations e.equations x.equations (y.0).equations;
    disequations = all_append BothAtoms d.disequations e.disequations x.disequations (y.0).disequations;
  },
  both_atoms d es x (y.1),
)

paired_atoms : (ds es : List Disjunct) → AtomicDisjuncts ds → AtomicDisjuncts es → AtomicDisjuncts (paired ds es)
paired_atoms [] es x y = tt
paired_atoms (d ∷ ds) es x y = all_append DisjunctAtoms (map (both d) es) (paired ds es) (both_atoms d es (x.0) y) (paired_atoms ds es (x.1) y)

equation_atoms : (positive : Bool) (a b : SqlTerm) → HasAtoms a → HasAtoms b → AtomicDisjuncts (equation positive a b)
equation_atoms true a b x y = (record { equations = ((x, y), tt); disequations = tt }, tt)
equation_atoms false a b x y = (record { equations = tt; disequations = ((x, y), tt) }, tt)

if_both_atoms : (positive : Bool) (a b : Option SqlTerm) → IfTerm a → IfTerm b → AtomicDisjuncts (equation_if_both positive a b)
if_both_atoms positive None b x y = no_condition_atoms
if_both_atoms positive (Some a) None x y = no_condition_atoms
if_both_atoms positive (Some a) (Some b) x y = equation_atoms positive a b x y

comparison_atoms : (positive : Bool) (c : Comparison) (a b : Option SqlTerm) → IfTerm a → IfTerm b → AtomicDisjuncts (comparison positive c a b)
comparison_atoms positive op.Equal a b x y = if_both_atoms positive a b x y
comparison_atoms positive op.Unequal a b x y = if_both_atoms (not positive) a b x y
comparison_atoms positive _ a b x y = no_condition_atoms

constant_atoms : (positive : Bool) (x : Value) → FitsKind x kind.Bool → AtomicDisjuncts (constant positive x)
constant_atoms true (v.Bool true) f = no_condition_atoms
constant_atoms true (v.Bool false) f = tt
constant_atoms false (v.Bool true) f = tt
constant_atoms false (v.Bool false) f = no_condition_atoms
constant_atoms _ _ f = absurd f

either_atoms : (pairing : Bool) (left right : List Disjunct) → AtomicDisjuncts left → AtomicDisjuncts right → AtomicDisjuncts (cond pairing (paired left right) (left ++ right)) × AtomicDisjuncts (cond pairing (left ++ right) (paired left right))
either_atoms true left right x y = (paired_atoms left right x y, all_append DisjunctAtoms left right x y)
either_atoms false left right x y = (all_append DisjunctAtoms left right x y, paired_atoms left right x y)

module _ (side : Side) (ks : Kinds) where
  pub term_atoms : (e : Scalar) (k : ColumnKind) → HasKind ks e k → IfTerm (term_of side e)
  unfolding term_of
  term_atoms (s.Constant x) k h = basic_atomic x k h
  term_atoms (s.Column i c) k h = column_atoms side i c
  term_atoms (s.Param n) k h = param_atoms side n
  term_atoms (s.Or' _ (one a end) _ (one b end)) k h = tt
  term_atoms (s.And' _ (one a end) _ (one b end)) k h = tt
  term_atoms (s.Not' _ (one a end)) k h = tt
  term_atoms (s.Compare' c _ (one a end) _ (one b end)) k h = tt
  term_atoms (s.Add' _ (one a end) _ (one b end)) k h = add_atoms (term_of side a) (term_of side b) (term_atoms a kind.Int (h.1)) (term_atoms b kind.Int (h.2))
  term_atoms (s.Sub' _ (one a end) _ (one b end)) k h = sub_atoms (term_of side a) (term_of side b) (term_atoms a kind.Int (h.1)) (term_atoms b kind.Int (h.2))
  term_atoms (s.Mul' _ (one a end) _ (one b end)) k h = mul_atoms (term_of side a) (term_of side b) (term_atoms a kind.Int (h.1)) (term_atoms b kind.Int (h.2))
  term_atoms (s.Neg' _ (one a end)) k h = neg_atoms (term_of side a) (term_atoms a kind.Int (h.1))
  term_atoms (s.Null j) k h = tt
  term_atoms (s.Present' _ (one a end)) k h = present_atoms (term_of side a) (term_atoms a (h.0) (h.2))

  pub disjuncts_atoms : (e : Scalar) → HasKind ks e kind.Bool → (positive : Bool) → AtomicDisjuncts (disjuncts_of side positive e)
  unfolding disjuncts_of
  disjuncts_atoms (s.Constant x) h positive = constant_atoms positive x h
  disjuncts_atoms (s.Column i c) h positive = equation_atoms true (column_term side i c) (t.Constant (v.Bool positive)) (column_atoms side i c) tt
  disjuncts_atoms (s.Param n) h positive = equation_atoms true (param_term side n) (t.Constant (v.Bool positive)) (param_atoms side n) tt
  disjuncts_atoms (s.Or' _ (one a end) _ (one b end)) h positive =
      (either_atoms positive (disjuncts_of side positive a) (disjuncts_of side positive b) (disjuncts_atoms a (h.1) positive) (disjuncts_atoms b (h.2) positive)).1
  disjuncts_atoms (s.And' _ (one a end) _ (one b end)) h positive =
      (either_atoms positive (disjuncts_of side positive a) (disjuncts_of side positive b) (disjuncts_atoms a (h.1) positive) (disjuncts_atoms b (h.2) positive)).0
  disjuncts_atoms (s.Not' _ (one a end)) h positive = disjuncts_atoms a (h.1) (not positive)
  disjuncts_atoms (s.Compare' c _ (one a end) _ (one b end)) h positive =
      comparison_atoms positive c (term_of side a) (term_of side b) (term_atoms a (h.1.0) (h.1.1)) (term_atoms b (h.1.0) (h.1.2))
  disjuncts_atoms (s.Add' _ (one a end) _ (one b end)) h positive = no_condition_atoms
  disjuncts_atoms (s.Sub' _ (one a end) _ (one b end)) h positive = no_condition_atoms
  disjuncts_atoms (s.Mul' _ (one a end) _ (one b end)) h positive = no_condition_atoms
  disjuncts_atoms (s.Neg' _ (one a end)) h positive = no_condition_atoms
  disjuncts_atoms (s.Null j) h positive = no_condition_atoms
  disjuncts_atoms (s.Present' _ (one a end)) h positive = no_condition_atoms

  fold_atoms : (es : List Scalar) (ds : List Disjunct) → AtomicDisjuncts ds → ((e : Scalar) → In e es → HasKind ks e kind.Bool) → AtomicDisjuncts (fold (λ ds e. paired ds (disjuncts_of side true e)) ds es)
  fold_atoms [] ds x h = x
  fold_atoms (e ∷ es) ds x h =
      fold_atoms es (paired ds (disjuncts_of side true e)) (paired_atoms ds (disjuncts_of side true e) x (disjuncts_atoms e (h e (inl refl)) true)) (λ f i. h f (inr i))

  pub conjoined_atoms : (es : List Scalar) → ((e : Scalar) → In e es → HasKind ks e kind.Bool) → AtomicDisjuncts (conjoined side es)
  conjoined_atoms es h = fold_atoms es no_condition no_condition_atoms h

  condition_typed : (o : Option Scalar) → MayBeCondition ks o → (e : Scalar) → In e (option_to_list o) → HasKind ks e kind.Bool
  condition_typed None h e i = absurd i
  condition_typed (Some a) h e (inl same) = subst (λ b. HasKind ks b kind.Bool) same h
  condition_typed (Some a) h e (inr i) = absurd i

  pub condition_atoms : (o : Option Scalar) → MayBeCondition ks o → AtomicDisjuncts (conjoined side (option_to_list o))
  condition_atoms o h = conjoined_atoms (option_to_list o) (condition_typed o h)

-- ---- cases

with_atoms : (extra : List Equation) (ds : List Disjunct) → AllByRecursion BothAtoms extra → AtomicDisjuncts ds → AtomicDisjuncts (with_equations extra ds)
with_atoms extra [] x y = tt
with_atoms extra (d ∷ ds) x y = (record { equations = all_append BothAtoms d.equations extra (y.0).equations x; disequations = (y.0).disequations }, with_atoms extra ds x (y.1))

abbrev IfEquation : Option Equation → Type 0
IfEquation None = Unit {0}
IfEquation (Some e) = BothAtoms e

filter_map_atoms : {X : Type 0} (f : X → Option Equation) (xs : List X) → ((x : X) → In x xs → IfEquation (f x)) → AllByRecursion BothAtoms (filter_map f xs)
filter_map_atoms f [] h = tt
filter_map_atoms {X} f (x ∷ xs) h = go (f x) (h x (inl refl)) (filter_map_atoms f xs (λ y i. h y (inr i)))
  where
    go : (o : Option Equation) → IfEquation o → AllByRecursion BothAtoms (filter_map f xs) → AllByRecursion BothAtoms (cons_option o (filter_map f xs))
    go None e rest = rest
    go (Some y) e rest = (e, rest)

column_equation_atoms : (side : Side) (c : ℕ) (e : Scalar) → IfTerm (term_of side e) → IfEquation (column_equation side c e)
column_equation_atoms side c e h = go (term_of side e) h
  where
    go : (o : Option SqlTerm) → IfTerm o → IfEquation (option_map (λ a. (t.Row c, a)) o)
    go None x = tt
    go (Some a) x = (tt, x)

map_atoms : (f : ℕ → Equation) → ((n : ℕ) → BothAtoms (f n)) → (ns : List ℕ) → AllByRecursion BothAtoms (map f ns)
map_atoms f h [] = tt
map_atoms f h (n ∷ ns) = (h n, map_atoms f h ns)

cases_atoms : (params columns : List ColumnKind) (what : Action) → ActionFits params columns what → (case : Case) → In case (cases_of (length columns) what) → AtomicDisjuncts case.disjuncts
cases_atoms params columns (action.Insert sets) fit case (inl e) =
    subst (λ (c : Case). AtomicDisjuncts c.disjuncts) e
    (with_atoms (filter_map (λ set. column_equation AtRow set.0 set.1) sets) no_condition
    (filter_map_atoms (λ (set : ℕ × Scalar). column_equation AtRow (set.0) (set.1)) sets
    (λ set i. let r = set_fits (record { params = params; items = [] }) columns sets (fit.0) set i in
    column_equation_atoms AtRow (set.0) (set.1) (term_atoms AtRow (record { params = params; items = [] }) (set.1) (r.0) (r.2)))) no_condition_atoms)
cases_atoms params columns (action.Insert sets) fit case (inr i) = absurd i
cases_atoms params columns (action.Delete condition) fit case (inl e) =
    subst (λ (c : Case). AtomicDisjuncts c.disjuncts) e (condition_atoms AtRow (record { params = params; items = columns ∷ [] }) condition fit)
cases_atoms params columns (action.Delete condition) fit case (inr i) = absurd i
cases_atoms params columns (action.Update sets condition) fit case (inl e) =
    subst (λ (c : Case). AtomicDisjuncts c.disjuncts) e
    (with_atoms (old_columns (length columns)) (conjoined AtOld (option_to_list condition)) (map_atoms (λ c. (t.Old c, t.Row c)) (λ n. (tt, tt)) (range_with_len 0 (length columns)))
    (condition_atoms AtOld (record { params = params; items = columns ∷ [] }) condition (fit.2)))
cases_atoms params columns (action.Update sets condition) fit case (inr (inl e)) =
    subst (λ (c : Case). AtomicDisjuncts c.disjuncts) e
    (with_atoms (filter_map (new_column sets) (range_with_len 0 (length columns))) (conjoined AtOld (option_to_list condition))
    (filter_map_atoms (new_column sets) (range_with_len 0 (length columns)) (λ n i. go n (assigned sets n) refl))
    (condition_atoms AtOld (record { params = params; items = columns ∷ [] }) condition (fit.2)))
  where
    go : (n : ℕ) (o : Option Scalar) → assigned sets n ≡ o → IfEquation (set_or_old n o)
    go n None e = (tt, tt)
    go n (Some by) e =
        let r = assigned_from sets n by e in
        let f = set_fits (record { params = params; items = columns ∷ [] }) columns sets (fit.0) (r.0) (r.1) in
        column_equation_atoms AtOld n by (subst (λ x. IfTerm (term_of AtOld x)) (r.3) (term_atoms AtOld (record { params = params; items = columns ∷ [] }) ((r.0).1) (f.0) (f.2)))
cases_atoms params columns (action.Update sets condition) fit case (inr (inr i)) = absurd i

-- ---- pairs

pub record PairAtoms (args : ℕ) (p : Pair) : Type 0 where
  pub args_are : p.args ≡ args
  pub equations : AllByRecursion BothAtoms p.equations
  pub disequations : AllByRecursion BothAtoms p.disequations

pub pair_atoms : (schema : Schema) (q : Query) (u : Change) → IsTyped q → ChangeFits schema u → (p : Pair) → In p (pairs_of q u) → PairAtoms (length u.params) p
pair_atoms schema q u typed fit p h =
    let i = in_flat_map_back (λ item. flat_map (λ (case : Case). flat_map (λ d. map (pair_of q u item d) case.disjuncts) (query_disjuncts q)) (change_cases u)) (touched_items q u) p h in
    let c = in_flat_map_back (λ (case : Case). flat_map (λ d. map (pair_of q u (i.0) d) case.disjuncts) (query_disjuncts q)) (change_cases u) p (i.2) in
    let d = in_flat_map_back (λ d. map (pair_of q u (i.0) d) (c.0).disjuncts) (query_disjuncts q) p (c.2) in
    let e = in_map_back (pair_of q u (i.0) (d.0)) (c.0).disjuncts p (d.2) in
    let mine = all_by_in DisjunctAtoms (query_disjuncts q) (d.0) query_atoms (d.1) in
    let its = all_by_in DisjunctAtoms (c.0).disjuncts (e.0) (cases_atoms u.params u.columns u.action fit.action (c.0) (c.1)) (e.1) in
    subst (PairAtoms (length u.params)) (e.2)
    (record {
      args_are = refl;
      equations = all_append BothAtoms ((d.0).equations ++ (e.0).equations) (item_columns (i.0) (length u.columns)) (all_append BothAtoms (d.0).equations (e.0).equations mine.equations its.equations)
          (map_atoms (λ n. (t.Item (i.0) n, t.Row n)) (λ n. (tt, tt)) (range_with_len 0 (length u.columns)));
      disequations = all_append BothAtoms (d.0).disequations (e.0).disequations mine.disequations its.disequations;
    })
  where
    query_atoms : AtomicDisjuncts (query_disjuncts q)
    query_atoms = conjoined_atoms AtItems (kinds_in q) (q.on ++ option_to_list q.filter)
        (λ e i. ⊎_elim (λ j. All-contains (λ a. HasKind (kinds_in q) a kind.Bool) q.on e typed.on (contains_from_in q.on e j)) (condition_typed AtItems (kinds_in q) q.filter typed.filter e)
        (in_append_back q.on (option_to_list q.filter) e i))

-- the constants of such a pair are atomic
pair_constants : (args : ℕ) (p : Pair) → PairAtoms args p → (c : Value) → In c (constants_of p) → IsAtomic c
pair_constants args p atoms c i = ⊎_elim (λ j. ⊎_elim side keys (in_append_back (side_terms (p.equations ++ p.disequations)) (key_terms p.keys) (t.Constant c) j)) args'
    (in_append_back (side_terms (p.equations ++ p.disequations) ++ key_terms p.keys) (arg_terms p.args) (t.Constant c) (constant_term p c i))
  where
    keys : In (t.Constant c) (key_terms p.keys) → IsAtomic c
    keys j = let r = in_map_back t.Key (range_with_len 0 p.keys) (t.Constant c) j in let e = r.2 in cc

    args' : In (t.Constant c) (arg_terms p.args) → IsAtomic c
    args' j = let r = in_map_back t.Arg (range_with_len 0 p.args) (t.Constant c) j in let e = r.2 in cc

    side : In (t.Constant c) (side_terms (p.equations ++ p.disequations)) → IsAtomic c
    side j =
        let r = in_flat_map_back (λ (e : Equation). subterms (e.0) ++ subterms (e.1)) (p.equations ++ p.disequations) (t.Constant c) j in
        let a = all_by_in BothAtoms (p.equations ++ p.disequations) (r.0) (all_append BothAtoms p.equations p.disequations atoms.equations atoms.disequations) (r.1) in
        ⊎_elim (constant_atomic ((r.0).0) (a.0) c) (constant_atomic ((r.0).1) (a.1) c) (in_append_back (subterms ((r.0).0)) (subterms ((r.0).1)) (t.Constant c) (r.2))

-- ---- patterns

module _ (args : ℕ) (p : Pair) (atoms : PairAtoms args p) (same : Test) where
  arg_below : (a : SqlTerm) (n : ℕ) → In n (args_in_class same p a) → n < args
  arg_below a n i =
      let r = in_filter (λ m. same a (t.Arg m)) (range_with_len 0 p.args) n i in
      let below = (in_range_back 0 p.args n (r.0)).1 in let is = atoms.args_are in omega arith

  constant_there : (a : SqlTerm) (c : Value) → constant_in_class same p a ≡ Some c → IsAtomic c
  constant_there a c e = pair_constants args p atoms c (found (λ d. same a (t.Constant d)) (constants_of p) c e).0

  key_reads : (n : ℕ) → KeyReads args (key_at same p n)
  key_reads n = go (args_in_class same p (t.Key n)) (constant_in_class same p (t.Key n)) (arg_below (t.Key n)) (constant_there (t.Key n))
    where
      go : (ns : List ℕ) (o : Option Value) → ((m : ℕ) → In m ns → m < args) → ((c : Value) → o ≡ Some c → IsAtomic c) → KeyReads args (key_by ns o)
      go (m ∷ ms) o f g = f m (inl refl)
      go [] (Some c) f g = g c refl
      go [] None f g = tt

  all_keys_read : (ns : List ℕ) → AllByRecursion (KeyReads args) (map (key_at same p) ns)
  all_keys_read [] = tt
  all_keys_read (n ∷ ns) = (key_reads n, all_keys_read ns)

  by_read : (n : ℕ) → n < args → (ns : List ℕ) (o : Option Value) → ((m : ℕ) → In m ns → m < args) → AllByRecursion (GuardReads args) (guards_by n ns o)
  by_read n small [] o f = tt
  by_read n small (m ∷ ms) o f = go (n == m)
    where
      constants : (o' : Option Value) → AllByRecursion (GuardReads args) (constant_guard n o')
      constants None = tt
      constants (Some c) = (small, tt)

      others : (ks : List ℕ) → ((k : ℕ) → In k ks → k < args) → AllByRecursion (GuardReads args) (map (guard.Args n) ks)
      others [] g = tt
      others (k ∷ ks) g = ((small, g k (inl refl)), others ks (λ j i. g j (inr i)))

      go : (b : Bool) → AllByRecursion (GuardReads args) (cond b (map (guard.Args n) ms ++ constant_guard n o) [])
      go true = all_append (GuardReads args) (map (guard.Args n) ms) (constant_guard n o) (others ms (λ k i. f k (inr i))) (constants o)
      go false = tt

  all_guards_read : (ns : List ℕ) → ((n : ℕ) → In n ns → n < args) → AllByRecursion (GuardReads args) (flat_map (λ n. guards_by n (args_in_class same p (t.Arg n)) (constant_in_class same p (t.Arg n))) ns)
  all_guards_read [] f = tt
  all_guards_read (n ∷ ns) f =
      all_append (GuardReads args) (guards_by n (args_in_class same p (t.Arg n)) (constant_in_class same p (t.Arg n))) (flat_map (λ n. guards_by n (args_in_class same p (t.Arg n)) (constant_in_class same p (t.Arg n))) ns)
      (by_read n (f n (inl refl)) (args_in_class same p (t.Arg n)) (constant_in_class same p (t.Arg n)) (arg_below (t.Arg n))) (all_guards_read ns (λ m i. f m (inr i)))

  pub pattern_reads : (site : ℕ) (pattern : Pattern) → Some pattern ≡ pattern_by same site p → PatternReads args pattern
  pattern_reads site pattern e = go (is_consistent same p) e
    where
      go : (b : Bool) → Some pattern ≡ cond b (Some (record { site = site; keys = map (key_at same p) (range_with_len 0 p.keys); guards = guards_of same p })) None → PatternReads args pattern
      go false i = cc
      go true i =
          let is : record { site = site; keys = map (key_at same p) (range_with_len 0 p.keys); guards = guards_of same p } ≡ pattern = cc in
          subst (PatternReads args) is (
            All-from_recursion (KeyReads args) (map (key_at same p) (range_with_len 0 p.keys)) (all_keys_read (range_with_len 0 p.keys)),
            All-from_recursion (GuardReads args) (guards_of same p) (all_guards_read (range_with_len 0 p.args) (λ n j. let below = (in_range_back 0 p.args n j).1 in let same' = atoms.args_are in omega arith)),
          )

beside_back : {X Y : Type 0} (R : X → Y → Type 0) (xs : List X) (ys : List Y) (y : Y) → AllZip R xs ys → In y ys → (x : X) × In x xs × R x y
beside_back R [] [] y z i = absurd i
beside_back R [] (w ∷ ys) y z i = absurd z
beside_back R (x ∷ xs) [] y z i = absurd i
beside_back {X} {Y} R (x ∷ xs) (w ∷ ys) y z (inl e) = (x, inl refl, subst (R x) e (z.0))
beside_back R (x ∷ xs) (w ∷ ys) y z (inr i) = let r = beside_back R xs ys y (z.1) i in (r.0, inr (r.1), r.2)

in_first_ones : {X : Type 0} (same : X → X → Bool) (xs : List X) (x : X) → In x (first_ones same xs) → In x xs
in_first_ones same [] x i = absurd i
in_first_ones same (y ∷ xs) x (inl e) = inl e
in_first_ones same (y ∷ xs) x (inr i) = inr (in_first_ones same xs x ((in_filter (λ other. not (same y other)) (first_ones same xs) x i).0))

all_from_in : {X : Type 0} (P : X → Type 0) (xs : List X) → ((x : X) → In x xs → P x) → AllByRecursion P xs
all_from_in P [] f = tt
all_from_in P (x ∷ xs) f = (f x (inl refl), all_from_in P xs (λ y i. f y (inr i)))

any_reads : {K : Type 0} (args : ℕ) (kinds : List K) → AllByRecursion (KeyReads args) (map (λ k. key.Any) kinds)
any_reads args [] = tt
any_reads args (k ∷ ks) = (tt, any_reads args ks)

-- What the patterns of a site and an update read is there.
pub patterns_read : (schema : Schema) (site : ℕ) (q : Query) (u : Change) (patterns : List Pattern) → QueryFits schema q → ChangeFits schema u
    → ArePatterns site q u patterns → All (PatternReads (length u.params)) patterns
patterns_read schema site q u patterns q_fit u_fit are = All-from_recursion (PatternReads (length u.params)) patterns (go (nat_lt most_pairs (length (pairs_of q u))) are)
  where
    of_pair : (p : Pair) → In p (pairs_of q u) → (o : Option Pattern) → IsPatternOf site p o → (pattern : Pattern) → o ≡ Some pattern → PatternReads (length u.params) pattern
    of_pair p i o is pattern e = pattern_reads (length u.params) p (pair_atoms schema q u q_fit.typed u_fit p i) is.same site pattern (sym e ∙ is.read_off)

    go : (b : Bool) → MatchBool b (patterns ≡ any_key site q ∷ []) (AreRead site (pairs_of q u) patterns) → AllByRecursion (PatternReads (length u.params)) patterns
    go true e = subst (AllByRecursion (PatternReads (length u.params))) (sym e)
        ((All-from_recursion (KeyReads (length u.params)) (map (λ k. key.Any) q.params) (any_reads (length u.params) q.params), All-from_recursion (GuardReads (length u.params)) [] tt), tt)
    go false read = subst (AllByRecursion (PatternReads (length u.params))) (sym read.once)
        (all_from_in (PatternReads (length u.params)) (first_ones pattern_eq (filter_map (λ p. p) read.each)) (λ pattern i.
        let o = in_filter_map_back (λ p. p) read.each pattern (in_first_ones pattern_eq (filter_map (λ p. p) read.each) pattern i) in
        let p = beside_back (IsPatternOf site) (pairs_of q u) read.each (o.0) read.of_pairs (o.1) in
        of_pair (p.0) (p.1) (o.0) (p.2) pattern (o.2)))
