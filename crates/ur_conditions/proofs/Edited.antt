-- The cases of a change are met by each row that leaves its table or comes into it.
use Rattle.std.proofs.Common.{◌≡◌, ℕ, zero, suc, ◌<◌, Bool, true, false, not, cond, inl, inr, List, [], ◌∷◌, ◌++◌, map, length, refl, sym, ap, ◌∙◌, subst, get_or, slice_get, filter, filter_map, fold, Option, Some, None, option_map, option_to_list, arith}
use Rattle.std.specs.List.{AllByRecursion, range_with_len, cons_option}
use Rattle.ur_values.specs.declared.value.Value.{Value}
use Rattle.ur_values.specs.declared.value.Value.TheVariants as v
use Rattle.ur_values.specs.declared.schema.ColumnKind.{ColumnKind}
use Rattle.ur_values.specs.declared.schema.ColumnKind.TheVariants as kind
use Rattle.ur_values.specs.Store.{Row, FitKinds}
use Rattle.ur_sql.specs.declared.scalar.Scalar.{Scalar}
use Rattle.ur_sql.specs.declared.term.SqlTerm.{SqlTerm}
use Rattle.ur_sql.specs.declared.term.SqlTerm.TheVariants as t
use Rattle.ur_sql.specs.declared.change.Action.{Action}
use Rattle.ur_sql.specs.declared.change.Action.TheVariants as action
use Rattle.ur_sql.specs.Answer.{Combination}
use Rattle.ur_sql.specs.Scalar.{value_of, column_at, is_true, holds_if_any}
use Rattle.ur_sql.specs.Typing.{Kinds, HasKind, MayBeCondition, ActionFits}
use Rattle.ur_sql.specs.Change.{assigned, new_value, inserted_row, updated_row, chosen, rows_after}
use Rattle.ur_conditions.specs.declared.disjunct.Disjunct.{Disjunct}
use Rattle.ur_conditions.specs.declared.disjunct.Case.{Case}
use Rattle.ur_conditions.specs.declared.side.Side.{Side}
use Rattle.ur_conditions.specs.declared.side.Side.TheVariants.{AtRow, AtOld}
use Rattle.ur_conditions.specs.Terms.{term_of}
use Rattle.ur_conditions.specs.Disjuncts.{Equation, no_condition, paired, disjuncts_of, conjoined, with_more, with_equations, column_equation, set_or_old, new_column, old_columns, cases_of}
use Rattle.ur_conditions.proofs.Valuation.{Valuation, term_value}
use Rattle.ur_sql.proofs.Members.{In, in_map, in_range_back}
use Rattle.ur_conditions.proofs.Matching.{Edits, done, keep, lose, gain}
use Rattle.ur_conditions.proofs.Sound.{SomeHolds, TermIs, Agrees, all_append, no_condition_holds, some_paired, term_is, disjuncts_hold}
use Rattle.ur_sql.proofs.Typed.{fit_length}
use Rattle.ur_sql.proofs.NewRows.{Sets, assigned_in, assigned_from, set_fits, inserted_cell, updated_cell, inserted_fits, updated_fits}
use Rattle.std.proofs.lemmas.Option.{slice_get_within}

-- The values of the variables at a combination and a key, at a row and the row before, with these arguments.
abbrev pub valuation : Combination → List Value → Row → Row → List Value → Valuation
valuation c key row old args = record {
  item = λ i k. column_at c i k;
  row = λ k. get_or row k v.Absent;
  old = λ k. get_or old k v.Absent;
  key = λ n. get_or key n v.Absent;
  arg = λ n. get_or args n v.Absent;
}

-- Some case of the change is met by this row.
pub record MeetsCase (cases : List Case) (args : List Value) (row : Row) : Type 0 where
  pub case : Case
  pub member : In case cases
  pub old : Row
  pub met : (c : Combination) (key : List Value) → SomeHolds (valuation c key row old args) case.disjuncts

abbrev pub IsEqual : Valuation → Equation → Type 0
IsEqual w e = term_value w (e.0) ≡ term_value w (e.1)

-- ---- conditions joined by AND

module _ (w : Valuation) (side : Side) (ks : Kinds) (params : List Value) (rows : List Row) (agree : Agrees w side ks params rows) where
  fold_hold : (es : List Scalar) (ds : List Disjunct) → SomeHolds w ds
      → ((e : Scalar) → In e es → HasKind ks e kind.Bool × (is_true (value_of params rows e) ≡ true))
      → SomeHolds w (fold (λ ds e. paired ds (disjuncts_of side true e)) ds es)
  fold_hold [] ds h all = h
  fold_hold (e ∷ es) ds h all =
      let r = all e (inl refl) in
      fold_hold es (paired ds (disjuncts_of side true e)) (some_paired w ds (disjuncts_of side true e) h (disjuncts_hold w side ks params rows agree e (r.0) true (r.1)))
      (λ f i. all f (inr i))

  -- conditions that are TRUE meet some disjunct of them all
  pub conjoined_hold : (es : List Scalar) → ((e : Scalar) → In e es → HasKind ks e kind.Bool × (is_true (value_of params rows e) ≡ true)) → SomeHolds w (conjoined side es)
  conjoined_hold es all = fold_hold es no_condition (no_condition_holds w) all

  pub condition_hold : (condition : Option Scalar) → MayBeCondition ks condition → holds_if_any params rows condition ≡ true → SomeHolds w (conjoined side (option_to_list condition))
  condition_hold None fit h = conjoined_hold [] (λ e i. absurd i)
  condition_hold (Some e) fit h = conjoined_hold (e ∷ []) only
    where
      only : (f : Scalar) → In f (e ∷ []) → HasKind ks f kind.Bool × (is_true (value_of params rows f) ≡ true)
      only f (inl same) = subst (λ g. HasKind ks g kind.Bool × (is_true (value_of params rows g) ≡ true)) same (fit, h)
      only f (inr i) = absurd i

-- ---- equations more

module _ (w : Valuation) where
  pub some_with : (more : List Equation) (ds : List Disjunct) → AllByRecursion (IsEqual w) more → SomeHolds w ds → SomeHolds w (with_equations more ds)
  some_with more ds all h = (
    with_more more (h.0),
    in_map (with_more more) ds (h.0) (h.1),
    record { equations = all_append (IsEqual w) (h.0).equations more (h.2).equations all; disequations = (h.2).disequations },
  )

  abbrev IfEquation : Option Equation → Type 0
  IfEquation None = Unit {0}
  IfEquation (Some e) = IsEqual w e

  all_filter_map : {X : Type 0} (f : X → Option Equation) (xs : List X) → ((x : X) → In x xs → IfEquation (f x)) → AllByRecursion (IsEqual w) (filter_map f xs)
  all_filter_map f [] h = tt
  all_filter_map {X} f (x ∷ xs) h = go (f x) (h x (inl refl)) (all_filter_map f xs (λ y i. h y (inr i)))
    where
      go : (o : Option Equation) → IfEquation o → AllByRecursion (IsEqual w) (filter_map f xs) → AllByRecursion (IsEqual w) (cons_option o (filter_map f xs))
      go None e rest = rest
      go (Some y) e rest = (e, rest)

  all_map : {X : Type 0} (f : X → Equation) (xs : List X) → ((x : X) → In x xs → IsEqual w (f x)) → AllByRecursion (IsEqual w) (map f xs)
  all_map f [] h = tt
  all_map f (x ∷ xs) h = (h x (inl refl), all_map f xs (λ y i. h y (inr i)))

  -- a column of the row that has the expression's value
  column_is : (side : Side) (c : ℕ) (e : Scalar) (x : Value) → TermIs w (term_of side e) x → term_value w (t.Row c) ≡ x → IfEquation (column_equation side c e)
  column_is side c e x is eq = go (term_of side e) is
    where
      go : (o : Option SqlTerm) → TermIs w o x → IfEquation (option_map (λ a. (t.Row c, a)) o)
      go None i = tt
      go (Some a) i = eq ∙ sym i

-- ---- sides

agrees_at : (c : Combination) (key : List Value) (row old : Row) (args : List Value) (columns params : List ColumnKind) → FitKinds args params → FitKinds row columns
    → Agrees (valuation c key row old args) AtRow (record { params = params; items = columns ∷ [] }) args (row ∷ [])
unfolding term_value
agrees_at c key row old args columns params args_fit row_fit = record { column = at; param = λ n. refl; params_fit = args_fit; rows_fit = (row_fit, tt) }
  where
    at : (i n : ℕ) (k : ColumnKind) → slice_get (get_or (columns ∷ []) i []) n ≡ Some k → get_or row n v.Absent ≡ column_at (row ∷ []) i n
    at zero n k e = refl
    at (suc i) n k e = cc

agrees_old : (c : Combination) (key : List Value) (row old : Row) (args : List Value) (columns params : List ColumnKind) → FitKinds args params → FitKinds old columns
    → Agrees (valuation c key row old args) AtOld (record { params = params; items = columns ∷ [] }) args (old ∷ [])
unfolding term_value
agrees_old c key row old args columns params args_fit row_fit = record { column = at; param = λ n. refl; params_fit = args_fit; rows_fit = (row_fit, tt) }
  where
    at : (i n : ℕ) (k : ColumnKind) → slice_get (get_or (columns ∷ []) i []) n ≡ Some k → get_or old n v.Absent ≡ column_at (old ∷ []) i n
    at zero n k e = refl
    at (suc i) n k e = cc

agrees_new : (c : Combination) (key : List Value) (row old : Row) (args : List Value) (params : List ColumnKind) → FitKinds args params
    → Agrees (valuation c key row old args) AtRow (record { params = params; items = [] }) args []
unfolding term_value
agrees_new c key row old args params args_fit = record { column = λ i n k e. cc; param = λ n. refl; params_fit = args_fit; rows_fit = tt }

-- ---- each action

module _ (params columns : List ColumnKind) (args : List Value) (args_fit : FitKinds args params) where
  abbrev Fits : Row → Type 0
  Fits row = FitKinds row columns

  abbrev Meets : Action → Row → Type 0
  Meets what = MeetsCase (cases_of (length columns) what) args

  deleted : (condition : Option Scalar) → ActionFits params columns (action.Delete condition) → (row : Row) → Fits row → chosen args condition row ≡ true → Meets (action.Delete condition) row
  deleted condition fit row row_fit h = record {
    case = record { disjuncts = conjoined AtRow (option_to_list condition) };
    member = inl refl;
    old = row;
    met = λ c key. condition_hold (valuation c key row row args) AtRow (record { params = params; items = columns ∷ [] }) args (row ∷ []) (agrees_at c key row row args columns params args_fit row_fit) condition fit h;
  }

  inserted : (sets : Sets) → ActionFits params columns (action.Insert sets) → Meets (action.Insert sets) (inserted_row args sets)
  unfolding term_value
  inserted sets fit = record {
    case = record { disjuncts = with_equations (filter_map (λ set. column_equation AtRow set.0 set.1) sets) no_condition };
    member = inl refl;
    old = [];
    met = λ c key. some_with (valuation c key (inserted_row args sets) [] args) (filter_map (λ set. column_equation AtRow set.0 set.1) sets) no_condition
        (all_filter_map (valuation c key (inserted_row args sets) [] args) (λ (set : ℕ × Scalar). column_equation AtRow (set.0) (set.1)) sets (each c key)) (no_condition_holds (valuation c key (inserted_row args sets) [] args));
  }
    where
      each : (c : Combination) (key : List Value) (set : ℕ × Scalar) → In set sets → IfEquation (valuation c key (inserted_row args sets) [] args) (column_equation AtRow (set.0) (set.1))
      each c key set i =
          let s = set_fits (record { params = params; items = [] }) columns sets (fit.0) set i in
          let small : set.0 < length sets = let lt = slice_get_within columns (set.0) (s.0) (s.1) in let long = fit.2 in omega arith in
          column_is (valuation c key (inserted_row args sets) [] args) AtRow (set.0) (set.1) (value_of args [] (set.1))
          (term_is (valuation c key (inserted_row args sets) [] args) AtRow (record { params = params; items = [] }) args [] (agrees_new c key (inserted_row args sets) [] args params args_fit) (set.1) (s.0) (s.2))
          (inserted_cell args sets (set.0) small ∙ ap (λ o. new_value args [] o v.Absent) (assigned_in sets set (fit.1) i))

  module _ (sets : Sets) (condition : Option Scalar) (fit : ActionFits params columns (action.Update sets condition)) (row : Row) (row_fit : Fits row) (h : chosen args condition row ≡ true) where
    kinds : Kinds
    kinds = record { params = params; items = columns ∷ [] }

    old_holds : (c : Combination) (key : List Value) (new : Row) → SomeHolds (valuation c key new row args) (conjoined AtOld (option_to_list condition))
    old_holds c key new =
        condition_hold (valuation c key new row args) AtOld (record { params = params; items = columns ∷ [] }) args (row ∷ []) (agrees_old c key new row args columns params args_fit row_fit) condition (fit.2) h

    row_before : Meets (action.Update sets condition) row
    unfolding term_value
    row_before = record {
      case = record { disjuncts = with_equations (old_columns (length columns)) (conjoined AtOld (option_to_list condition)) };
      member = inl refl;
      old = row;
      met = λ c key. some_with (valuation c key row row args) (old_columns (length columns)) (conjoined AtOld (option_to_list condition))
          (all_map (valuation c key row row args) (λ n. (t.Old n, t.Row n)) (range_with_len 0 (length columns)) (λ n i. refl)) (old_holds c key row);
    }

    row_after : Meets (action.Update sets condition) (updated_row args sets row)
    unfolding term_value
    row_after = record {
      case = record { disjuncts = with_equations (filter_map (new_column sets) (range_with_len 0 (length columns))) (conjoined AtOld (option_to_list condition)) };
      member = inr (inl refl);
      old = row;
      met = λ c key. some_with (valuation c key (updated_row args sets row) row args) (filter_map (new_column sets) (range_with_len 0 (length columns))) (conjoined AtOld (option_to_list condition))
          (all_filter_map (valuation c key (updated_row args sets row) row args) (new_column sets) (range_with_len 0 (length columns)) (each c key)) (old_holds c key (updated_row args sets row));
    }
      where
        each : (c : Combination) (key : List Value) (n : ℕ) → In n (range_with_len 0 (length columns)) → IfEquation (valuation c key (updated_row args sets row) row args) (new_column sets n)
        each c key n i = go (assigned sets n) refl
            (updated_cell args sets row n (let below = (in_range_back 0 (length columns) n i).1 in let long = fit_length row columns row_fit in omega arith))
          where
            go : (o : Option Scalar) → assigned sets n ≡ o → get_or (updated_row args sets row) n v.Absent ≡ new_value args (row ∷ []) (assigned sets n) (get_or row n v.Absent)
                → IfEquation (valuation c key (updated_row args sets row) row args) (set_or_old n o)
            go None e cell = cell ∙ ap (λ o. new_value args (row ∷ []) o (get_or row n v.Absent)) e
            go (Some by) e cell =
                let r = assigned_from sets n by e in
                let s = set_fits (record { params = params; items = columns ∷ [] }) columns sets (fit.0) (r.0) (r.1) in
                column_is (valuation c key (updated_row args sets row) row args) AtOld n by (value_of args (row ∷ []) by)
                (term_is (valuation c key (updated_row args sets row) row args) AtOld (record { params = params; items = columns ∷ [] }) args (row ∷ [])
                (agrees_old c key (updated_row args sets row) row args columns params args_fit row_fit) by (s.0) (subst (λ (e : Scalar). HasKind (record { params = params; items = columns ∷ [] }) e (s.0)) (r.3) (s.2)))
                (cell ∙ ap (λ o. new_value args (row ∷ []) o (get_or row n v.Absent)) e)

  -- ---- the rows before and after

  abbrev Edited : Action → List Row → List Row → Type 0
  Edited what = Edits Fits (Meets what)

  after_delete : (condition : Option Scalar) → ActionFits params columns (action.Delete condition) → (rows : List Row) → AllByRecursion Fits rows
      → Edited (action.Delete condition) rows (filter (λ row. not (chosen args condition row)) rows)
  after_delete condition fit [] all = done
  after_delete condition fit (row ∷ rows) all = go (chosen args condition row) refl (after_delete condition fit rows (all.1))
    where
      go : (b : Bool) → chosen args condition row ≡ b → Edited (action.Delete condition) rows (filter (λ r. not (chosen args condition r)) rows)
          → Edited (action.Delete condition) (row ∷ rows) (cond (not b) (row ∷ filter (λ r. not (chosen args condition r)) rows) (filter (λ r. not (chosen args condition r)) rows))
      go true e rest = lose row rows (filter (λ r. not (chosen args condition r)) rows) (all.0) (deleted condition fit row (all.0) e) rest
      go false e rest = keep row rows (filter (λ r. not (chosen args condition r)) rows) (all.0) rest

  after_insert : (sets : Sets) → ActionFits params columns (action.Insert sets) → (rows : List Row) → AllByRecursion Fits rows
      → Edited (action.Insert sets) rows (rows ++ inserted_row args sets ∷ [])
  after_insert sets fit [] all =
      gain (inserted_row args sets) [] [] (inserted_fits (record { params = params; items = [] }) columns args sets args_fit tt (fit.0) (fit.1) (fit.2)) (inserted sets fit) done
  after_insert sets fit (row ∷ rows) all = keep row rows (rows ++ inserted_row args sets ∷ []) (all.0) (after_insert sets fit rows (all.1))

  after_update : (sets : Sets) (condition : Option Scalar) → ActionFits params columns (action.Update sets condition) → (rows : List Row) → AllByRecursion Fits rows
      → Edited (action.Update sets condition) rows (map (λ row. cond (chosen args condition row) (updated_row args sets row) row) rows)
  after_update sets condition fit [] all = done
  after_update sets condition fit (row ∷ rows) all = go (chosen args condition row) refl (after_update sets condition fit rows (all.1))
    where
      rest : List Row
      rest = map (λ r. cond (chosen args condition r) (updated_row args sets r) r) rows

      go : (b : Bool) → chosen args condition row ≡ b → Edited (action.Update sets condition) rows rest
          → Edited (action.Update sets condition) (row ∷ rows) (cond b (updated_row args sets row) row ∷ rest)
      go true e more =
          lose row rows (updated_row args sets row ∷ rest) (all.0) (row_before sets condition fit row (all.0) e)
          (gain (updated_row args sets row) rows rest
          (updated_fits (record { params = params; items = columns ∷ [] }) columns args sets row args_fit (all.0, tt) (all.0) (fit.0))
          (row_after sets condition fit row (all.0) e) more)
      go false e more = keep row rows rest (all.0) more

  -- Each row that leaves the table or comes into it meets a case of the change.
  pub edits_of : (what : Action) → ActionFits params columns what → (rows : List Row) → AllByRecursion Fits rows → Edited what rows (rows_after what args rows)
  edits_of (action.Insert sets) fit rows all = after_insert sets fit rows all
  edits_of (action.Update sets condition) fit rows all = after_update sets condition fit rows all
  edits_of (action.Delete condition) fit rows all = after_delete condition fit rows all
