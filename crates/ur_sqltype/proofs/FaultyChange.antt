-- A change with a fault has no core.
use Rattle.std.proofs.lemmas.Bool.Decides.{nat_tests}
use Rattle.std.proofs.Common.{◌≡◌, ◌∙◌, ap, ℕ, false, List, map, length, Option, Some, None, nat_eq, arith}
use Rattle.std.specs.Prelude.{◌≢◌, option_and_then}
use Rattle.ur_base.specs.declared.refusal.Refusal.{Refusal}
use Rattle.ur_syntax.specs.declared.sql.SqlExp.{SqlExp}
use Rattle.ur_syntax.specs.declared.sql.SqlChange.{SqlChange}
use Rattle.ur_values.specs.declared.schema.ColumnKind.{ColumnKind}
use Rattle.ur_values.specs.declared.schema.ColumnKind.TheVariants as kind
use Rattle.ur_values.specs.declared.schema.TableShape.{TableShape}
use Rattle.ur_sql.specs.declared.scalar.Scalar.{Scalar}
use Rattle.ur_sql.specs.declared.change.Action.{Action}
use Rattle.ur_sql.specs.declared.change.Action.TheVariants as action
use Rattle.ur_sqltype.specs.declared.scope.Within.{Within}
use Rattle.ur_sqltype.specs.Scope.{column_of}
use Rattle.ur_sqltype.specs.Expression.{valued}
use Rattle.ur_sqltype.specs.Faults.{FaultyIsNone, Misfits}
use Rattle.ur_sqltype.specs.Lists.{all_of, repeated}
use Rattle.ur_sqltype.specs.Tables.{table_at}
use Rattle.ur_sqltype.specs.Query.{of_kind}
use Rattle.ur_sqltype.specs.Change.{within_insert, within_row, set_of, set_at, set_number, paired, assigned, once_set, sets_of, inserting, complete_of, insert_of, condition_of, updating, action_of, target_of, change_with, change_at, change_of}
use Rattle.ur_sqltype.specs.SqltypeFaults as fault
use Rattle.ur_sqltype.specs.SqltypeFaults.{Sets, ConditionOf, SetBreaks, SetsBreak, InsertBreaks, ActBreaks, ChangeHasFault, FaultyChangeIsNone}
use Rattle.ur_sqltype.proofs.Taken.{then_none, first_none, map_none, found_none}
use Rattle.ur_sqltype.proofs.Missing.{none_in, if_none_then, if_false}
use Rattle.ur_sqltype.proofs.Faulty.{kind_none, value_none}

other_length : (m n : ℕ) → m ≢ n → nat_eq m n ≡ false
other_length m n h = grind (arith, nat_tests, h)

module _ (none : FaultyIsNone) where
  set_none : (w : Within) (columns : List (List ℕ × ColumnKind)) (p : List ℕ × SqlExp) (r : Refusal) → SetBreaks w columns p r → set_at w columns p ≡ None
  set_none w columns p r (fault.column_unknown h t) = first_none (set_of w p.1) (column_of p.0 columns) h
  set_none w columns p r (fault.value_misfits at k h m) =
      ap (λ o. option_and_then (set_of w p.1) o) h ∙ map_none (λ (x : Scalar). (at, x)) (valued k w p.1) (value_none none w p.1 k r m)

  sets_none : (w : Within) (columns : List (List ℕ × ColumnKind)) (ps : List (List ℕ × SqlExp)) (r : Refusal) → SetsBreak w columns ps r → sets_of w columns ps ≡ None
  sets_none w columns ps r (fault.in_set p c b) = first_none once_set (all_of (set_at w columns) ps) (none_in (set_at w columns) ps p c (set_none w columns p r b))
  sets_none w columns ps r (fault.set_twice sets n h t told) = ap (λ o. option_and_then once_set o) h ∙ found_none (repeated nat_eq (map set_number sets)) n sets t

  insert_none : (kinds : List ColumnKind) (shape : TableShape) (columns : List (List ℕ)) (values : List SqlExp) (r : Refusal) → InsertBreaks shape columns values r → insert_of kinds shape columns values ≡ None
  insert_none kinds shape columns values r (fault.other_number h t) = if_false (nat_eq (length columns) (length values)) (complete_of kinds shape columns values) (other_length (length columns) (length values) h)
  insert_none kinds shape columns values r (fault.column_missing h t) =
      if_none_then (nat_eq (length columns) (length values)) (complete_of kinds shape columns values) (then_none (inserting shape columns) (sets_of (within_insert kinds) shape.columns (paired columns values))
      (λ (sets : List (ℕ × Scalar)). let made : Option Action = Some (action.Insert sets) in if_false (nat_eq (length columns) (length shape.columns)) made (other_length (length columns) (length shape.columns) h)))

  condition_none : (w : Within) (e : SqlExp) (r : Refusal) → Misfits w e.form kind.Bool r → condition_of w (Some e) ≡ None
  condition_none w e r m = map_none Some (of_kind kind.Bool w e) (kind_none none w e kind.Bool r m)

  acts_sets : (kinds : List ColumnKind) (t : ℕ × TableShape) (u : SqlChange) (w : Within) (ps : List (List ℕ × SqlExp)) → Sets kinds t u w ps → sets_of w t.1.columns ps ≡ None → action_of kinds t u ≡ None
  acts_sets kinds t _ _ _ (fault.inserts p x columns values) e = if_none_then (nat_eq (length columns) (length values)) (complete_of kinds t.1 columns values) (first_none (inserting t.1 columns) (sets_of (within_insert kinds) t.1.columns (paired columns values)) e)
  acts_sets kinds t _ _ _ (fault.updates p x assignments condition) e = first_none (updating (within_row x t kinds) condition) (sets_of (within_row x t kinds) t.1.columns (map assigned assignments)) e

  acts_condition : (kinds : List ColumnKind) (t : ℕ × TableShape) (u : SqlChange) (w : Within) (e : SqlExp) (r : Refusal) → ConditionOf kinds t u w e → Misfits w e.form kind.Bool r → action_of kinds t u ≡ None
  acts_condition kinds t _ _ _ r (fault.of_update p x assignments e) m =
      then_none (updating (within_row x t kinds) (Some e)) (sets_of (within_row x t kinds) t.1.columns (map assigned assignments)) (λ (sets : List (ℕ × Scalar)). map_none (action.Update sets) (condition_of (within_row x t kinds) (Some e)) (condition_none (within_row x t kinds) e r m))
  acts_condition kinds t _ _ _ r (fault.of_delete p x e) m = map_none action.Delete (condition_of (within_row x t kinds) (Some e)) (condition_none (within_row x t kinds) e r m)

  act_none : (kinds : List ColumnKind) (t : ℕ × TableShape) (u : SqlChange) (r : Refusal) → ActBreaks kinds t u r → action_of kinds t u ≡ None
  act_none kinds t u r (fault.in_sets w ps s b) = acts_sets kinds t u w ps s (sets_none w t.1.columns ps r b)
  act_none kinds t u r (fault.in_insert p x columns values is b) = ap (λ v. action_of kinds t v) is ∙ insert_none kinds t.1 columns values r b
  act_none kinds t u r (fault.not_bool w e c m) = acts_condition kinds t u w e r c m

  pub faulty_change : FaultyChangeIsNone
  unfolding change_of
  faulty_change m tables kinds u r (fault.no_target h t) = first_none (change_at kinds u) (table_at m tables (target_of u)) h
  faulty_change m tables kinds u r (fault.acts at shape h b) = ap (λ o. option_and_then (change_at kinds u) o) h ∙ map_none (change_with kinds (at, shape)) (action_of kinds (at, shape) u) (act_none kinds (at, shape) u r b)
