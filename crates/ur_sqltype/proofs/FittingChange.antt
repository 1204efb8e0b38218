-- The core of a change is what the rules say of it, and fits its table.
use Rattle.std.proofs.Common.{◌≡◌, ◌∙◌, refl, sym, ap, subst, ℕ, suc, List, [], ◌∷◌, length, map, Some, nat_eq, inl, inr, arith}
use Rattle.std.specs.Prelude.{IfSome, IsSome, slice_get}
use Rattle.std.specs.List.{IsDistinct}
use Rattle.std.proofs.lemmas.Bool.{eqb-true}
use Rattle.std.proofs.lemmas.List.{length-map}
use Rattle.std.proofs.lemmas.List.Elements.{All-from_recursion}
use Rattle.ur_syntax.specs.declared.sql.SqlExp.{SqlExp}
use Rattle.ur_syntax.specs.declared.sql.SqlChange.{SqlChange}
use Rattle.ur_syntax.specs.declared.sql.SqlChange.TheVariants as written
use Rattle.ur_values.specs.declared.schema.ColumnKind.{ColumnKind}
use Rattle.ur_values.specs.declared.schema.ColumnKind.TheVariants as kind
use Rattle.ur_values.specs.declared.schema.TableShape.{TableShape}
use Rattle.ur_values.specs.Store.{kinds_of}
use Rattle.ur_sql.specs.declared.scalar.Scalar.{Scalar}
use Rattle.ur_sql.specs.declared.change.Action.{Action}
use Rattle.ur_sql.specs.declared.change.Action.TheVariants as action
use Rattle.ur_sql.specs.Typing.{HasKind, SetsFit, ActionFits, ChangeFits}
use Rattle.ur_sqltype.specs.declared.scope.Within.{Within}
use Rattle.ur_sqltype.specs.Scope.{column_of}
use Rattle.ur_sqltype.specs.Expression.{valued}
use Rattle.ur_sqltype.specs.Fits.{kinds_within, BareStand, KindedFits}
use Rattle.ur_sqltype.specs.Lists.{all_of, repeated}
use Rattle.ur_sqltype.proofs.Once.{distinct}
use Rattle.ur_sqltype.specs.Tables.{table_at}
use Rattle.ur_sqltype.specs.Query.{of_kind}
use Rattle.ur_sqltype.specs.Change.{within_insert, within_row, set_of, set_at, set_number, paired, assigned, once_set, sets_of, inserting, complete_of, insert_of, condition_of, updating, action_of, target_of, change_with, change_at, change_of, SetsWell, IsChange, StatedIsChange}
use Rattle.ur_sqltype.specs.SqltypeFits.{ChangeOfFits}
use Rattle.ur_sqltype.proofs.Taken.{then_taken, map_taken, none_taken}
use Rattle.ur_sqltype.proofs.SqltypeValues.{if_taken, if_so, all_values, maybe_value, all_length}
use Rattle.ur_sqltype.proofs.Fitting.{valued_fits}
use Rattle.ur_sqltype.proofs.Kinding.{has_kind, column_at_place, table_there}

-- what is set, taken apart
pub record SetsTaken (w : Within) (columns : List (List ℕ × ColumnKind)) (ps : List (List ℕ × SqlExp)) (sets : List (ℕ × Scalar)) : Type 0 where
  pub all : all_of (set_at w columns) ps ≡ Some sets
  pub once : IsDistinct nat_eq (map set_number sets)

sets_taken : (w : Within) (columns : List (List ℕ × ColumnKind)) (ps : List (List ℕ × SqlExp)) (sets : List (ℕ × Scalar)) → sets_of w columns ps ≡ Some sets → SetsTaken w columns ps sets
sets_taken w columns ps sets e =
    let a = then_taken once_set (all_of (set_at w columns) ps) sets e in
    let t = none_taken (repeated nat_eq (map set_number a.0)) a.0 sets a.2 in
    record {
      all = a.1 ∙ ap Some t.1;
      once = distinct nat_eq (map set_number sets) (ap (λ ss. repeated nat_eq (map set_number ss)) (sym t.1) ∙ t.0);
    }

one_less : (m n : ℕ) → suc m ≡ suc n → m ≡ n
one_less m n e = omega (arith, e)

paired_length : (names : List (List ℕ)) (values : List SqlExp) → length names ≡ length values → length (paired names values) ≡ length names
paired_length [] values e = refl
paired_length (a ∷ names) [] e = sym e
paired_length (a ∷ names) (v ∷ values) e = ap (λ n. suc n) (paired_length names values (one_less (length names) (length values) e))

-- what an INSERT sets
pub record InsertTaken (kinds : List ColumnKind) (shape : TableShape) (columns : List (List ℕ)) (values : List SqlExp) (a : Action) : Type 0 where
  pub sets : List (ℕ × Scalar)
  pub is : action.Insert sets ≡ a
  pub taken : SetsTaken (within_insert kinds) shape.columns (paired columns values) sets
  pub many : length sets ≡ length shape.columns

insert_taken : (kinds : List ColumnKind) (shape : TableShape) (columns : List (List ℕ)) (values : List SqlExp) (a : Action) → insert_of kinds shape columns values ≡ Some a → InsertTaken kinds shape columns values a
insert_taken kinds shape columns values a e =
    let i = if_so (nat_eq (length columns) (length values)) (complete_of kinds shape columns values) a e in
    let t = then_taken (inserting shape columns) (sets_of (within_insert kinds) shape.columns (paired columns values)) a i.1 in
    let n = if_taken (nat_eq (length columns) (length shape.columns)) (action.Insert t.0) a t.2 in
    let s = sets_taken (within_insert kinds) shape.columns (paired columns values) t.0 t.1 in
    record {
      sets = t.0;
      is = n.1;
      taken = s;
      many = all_length (set_at (within_insert kinds) shape.columns) (paired columns values) t.0 s.all ∙
          paired_length columns values (eqb-true (length columns) (length values) i.0) ∙ eqb-true (length columns) (length shape.columns) n.0;
    }

-- ---- the rules

sets_well : (kinds : List ColumnKind) (t : ℕ × TableShape) (u : SqlChange) (a : Action) → action_of kinds t u ≡ Some a → SetsWell t.1 a
sets_well kinds t (written.Insert p x columns values) a e = let i = insert_taken kinds t.1 columns values a e in subst (SetsWell t.1) i.is (i.taken.once, i.many)
sets_well kinds t (written.Update p x assignments condition) a e =
    let r = then_taken (updating (within_row x t kinds) condition) (sets_of (within_row x t kinds) t.1.columns (map assigned assignments)) a e in
    let m = map_taken (action.Update r.0) (condition_of (within_row x t kinds) condition) a r.2 in
    subst (SetsWell t.1) m.2 (sets_taken (within_row x t kinds) t.1.columns (map assigned assignments) r.0 r.1).once
sets_well kinds t (written.Delete p x condition) a e =
    let m = map_taken action.Delete (condition_of (within_row x t kinds) condition) a e in
    subst (SetsWell t.1) m.2 tt

pub is_change : StatedIsChange
unfolding change_of
is_change m tables kinds u core e =
    let a = then_taken (change_at kinds u) (table_at m tables (target_of u)) core e in
    let c = map_taken (change_with kinds a.0) (action_of kinds a.0 u) core a.2 in
    subst (IsChange m tables kinds u) c.2 (record { shape = a.0.1; target = a.1; params = refl; columns = refl; acts = c.1; well = sets_well kinds a.0 u c.0 c.1 })

-- ---- it fits

module _ (fits : KindedFits) where
  set_fits : (w : Within) (bare : BareStand w) (columns : List (List ℕ × ColumnKind)) (p : List ℕ × SqlExp) (s : ℕ × Scalar) → set_at w columns p ≡ Some s →
      IfSome (slice_get (map (λ c. c.1) columns) s.0) (HasKind (kinds_within w) s.1) × IsSome (slice_get (map (λ c. c.1) columns) s.0)
  set_fits w bare columns p s e =
      let a = then_taken (set_of w p.1) (column_of p.0 columns) s e in
      let m = map_taken (λ (x : Scalar). (a.0.0, x)) (valued a.0.1 w p.1) s a.2 in
      let Fits : ℕ × Scalar → Type 0 = λ z. IfSome (slice_get (map (λ c. c.1) columns) z.0) (HasKind (kinds_within w) z.1) × IsSome (slice_get (map (λ c. c.1) columns) z.0) in
      subst Fits m.2 (subst (λ o. IfSome o (HasKind (kinds_within w) m.0) × IsSome o) (sym (column_at_place p.0 columns a.0 a.1))
      (valued_fits w bare a.0.1 p.1 m.0 m.1, refl))

  sets_fit : (w : Within) (bare : BareStand w) (columns : List (List ℕ × ColumnKind)) (ps : List (List ℕ × SqlExp)) (sets : List (ℕ × Scalar)) → all_of (set_at w columns) ps ≡ Some sets → SetsFit (kinds_within w) (map (λ c. c.1) columns) sets
  sets_fit w bare columns ps sets e =
      let Fits : ℕ × Scalar → Type 0 = λ z. IfSome (slice_get (map (λ c. c.1) columns) z.0) (HasKind (kinds_within w) z.1) × IsSome (slice_get (map (λ c. c.1) columns) z.0) in
      All-from_recursion Fits sets (all_values (set_at w columns) Fits (set_fits w bare columns) ps sets e)

  action_fits : (kinds : List ColumnKind) (t : ℕ × TableShape) (u : SqlChange) (a : Action) → action_of kinds t u ≡ Some a → ActionFits kinds (kinds_of t.1) a
  action_fits kinds t (written.Insert p x columns values) a e =
      let i = insert_taken kinds t.1 columns values a e in
      subst (ActionFits kinds (kinds_of t.1)) i.is (sets_fit (within_insert kinds) (inl refl) t.1.columns (paired columns values) i.sets i.taken.all, i.taken.once, i.many ∙ sym (length-map t.1.columns (λ c. c.1)))
  action_fits kinds t (written.Update p x assignments condition) a e =
      let w : Within = within_row x t kinds in
      let r = then_taken (updating w condition) (sets_of w t.1.columns (map assigned assignments)) a e in
      let m = map_taken (action.Update r.0) (condition_of w condition) a r.2 in
      let s = sets_taken w t.1.columns (map assigned assignments) r.0 r.1 in
      subst (ActionFits kinds (kinds_of t.1)) m.2 (sets_fit w (inr refl) t.1.columns (map assigned assignments) r.0 s.all, s.once, maybe_value (of_kind kind.Bool w) (λ y. HasKind (kinds_within w) y kind.Bool) (has_kind fits w (inr refl) kind.Bool) condition m.0 m.1)
  action_fits kinds t (written.Delete p x condition) a e =
      let w : Within = within_row x t kinds in
      let m = map_taken action.Delete (condition_of w condition) a e in
      subst (ActionFits kinds (kinds_of t.1)) m.2 (maybe_value (of_kind kind.Bool w) (λ y. HasKind (kinds_within w) y kind.Bool) (has_kind fits w (inr refl) kind.Bool) condition m.0 m.1)

  pub change_fits : ChangeOfFits
  unfolding change_of
  change_fits m tables kinds u core e =
      let a = then_taken (change_at kinds u) (table_at m tables (target_of u)) core e in
      let c = map_taken (change_with kinds a.0) (action_of kinds a.0 u) core a.2 in
      subst (ChangeFits tables) c.2 (record { table = table_there m tables (target_of u) a.0 a.1; action = action_fits kinds a.0 u c.0 c.1 })
