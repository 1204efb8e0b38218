-- A change that has no core has a fault.
use Rattle.std.proofs.Common.{inl, inr, ◌≡◌, refl, sym, subst, ℕ, Bool, true, false, List, [], map, length, Option, Some, None, nat_eq}
use Rattle.std.specs.Fmt.{decimal}
use Rattle.std.specs.Prelude.{codes, if◌then◌else◌, option_and_then}
use Rattle.ur_base.specs.declared.refusal.Refusal.{Refusal}
use Rattle.ur_base.specs.declared.refusal.Span.{Span}
use Rattle.ur_syntax.specs.declared.sql.DeclName.{DeclName}
use Rattle.ur_syntax.specs.declared.sql.SqlExp.{SqlExp}
use Rattle.ur_syntax.specs.declared.sql.SqlChange.{SqlChange}
use Rattle.ur_syntax.specs.declared.sql.SqlChange.TheVariants as change
use Rattle.ur_values.specs.declared.schema.ColumnKind.{ColumnKind}
use Rattle.ur_values.specs.declared.schema.ColumnKind.TheVariants as kind
use Rattle.ur_values.specs.declared.schema.TableShape.{TableShape}
use Rattle.ur_sql.specs.declared.scalar.Scalar.TheVariants as scalar
use Rattle.ur_sql.specs.declared.change.Action.TheVariants as action
use Rattle.ur_sqltype.specs.declared.scope.Within.{Within}
use Rattle.ur_sqltype.specs.Scope.{column_of}
use Rattle.ur_sqltype.specs.Expression.{kinded, is_null, is_optional, as_kind, valued}
use Rattle.ur_sqltype.specs.Faults.{kind_text, Misfits, MisfitsColumn, null_given, value_given}
use Rattle.ur_sqltype.specs.Lists.{all_of, repeated}
use Rattle.ur_sqltype.specs.Table.{name_at}
use Rattle.ur_sqltype.specs.Tables.{table_at}
use Rattle.ur_sqltype.specs.Query.{of_kind}
use Rattle.ur_sqltype.specs.Change.{within_insert, within_row, set_of, set_at, paired, assigned, set_number, once_set, sets_of, inserting, complete_of, condition_of, updating, action_of, target_of, change_with, change_at, change_of}
use Rattle.ur_sqltype.specs.SqltypeFaults as fault
use Rattle.ur_sqltype.specs.SqltypeFaults.{table_text, missing_name, Sets, ConditionOf, SetBreaks, SetsBreak, ActBreaks}
use Rattle.ur_typed_faults.specs.SqlcauseLawsConverse.{NoneChangeIsFaulty}
use Rattle.ur_typed_faults.proofs.Lacking.{refused, then_none_is, map_none_is, maybe_none_is, found_is, test_is, branch_is, unequal, Lacks, lacks}
use Rattle.ur_typed_faults.proofs.Queries.{unfit}

-- what is given is no value of the column
misfits : (w : Within) (k : ColumnKind) (e : SqlExp) → valued k w e ≡ None → (r : Refusal) × MisfitsColumn w e.form k r
misfits w k e h = by (is_null e.form) refl h where
  by : (n : Bool) → is_null e.form ≡ n →
      (if n then (if is_optional k then Some (scalar.Null k) else None) else option_and_then (as_kind k) (kinded w e.form)) ≡ None →
      (r : Refusal) × MisfitsColumn w e.form k r
  by true en g = (refused 12 refl (codes "NULL") (kind_text k), null_given en (test_is (is_optional k) (scalar.Null k) g) (refl, refl, refl))
  by false en g = let m : (r : Refusal) × Misfits w e.form k r = unfit w e k g in (m.0, value_given en m.1)

set_faulty : (w : Within) (columns : List (List ℕ × ColumnKind)) (p : List ℕ × SqlExp) → set_at w columns p ≡ None → (r : Refusal) × SetBreaks w columns p r
set_faulty w columns p h = elim (then_none_is (set_of w p.1) (column_of p.0 columns) h) [
  | inl a ↦ (refused 7 refl p.0 [], fault.column_unknown a (refl, refl, refl))
  | inr c ↦
      let m : (r : Refusal) × MisfitsColumn w p.1.form c.0.1 r = misfits w c.0.1 p.1 (map_none_is (λ x. (c.0.0, x)) (valued c.0.1 w p.1) c.2) in
      (m.0, fault.value_misfits c.0.0 c.0.1 c.1 m.1)
]

sets_faulty : (w : Within) (columns : List (List ℕ × ColumnKind)) (ps : List (List ℕ × SqlExp)) → sets_of w columns ps ≡ None → (r : Refusal) × SetsBreak w columns ps r
sets_faulty w columns ps h = elim (then_none_is once_set (all_of (set_at w columns) ps) h) [
  | inl a ↦
      let l : Lacks (set_at w columns) ps = lacks (set_at w columns) ps a in
      let b : (r : Refusal) × SetBreaks w columns l.0 r = set_faulty w columns l.0 l.2 in
      (b.0, fault.in_set l.0 l.1 b.1)
  | inr s ↦
      let t : (n : ℕ) × (repeated nat_eq (map set_number s.0) ≡ Some n) = found_is (repeated nat_eq (map set_number s.0)) s.0 s.2 in
      (refused 8 refl (name_at columns t.0) [], fault.set_twice s.0 t.0 s.1 t.1 (refl, refl, refl))
]

condition_faulty : (kinds : List ColumnKind) (t : ℕ × TableShape) (u : SqlChange) (w : Within) (condition : Option SqlExp) → ((e : SqlExp) → condition ≡ Some e → ConditionOf kinds t u w e) → condition_of w condition ≡ None → (r : Refusal) × ActBreaks kinds t u r
condition_faulty kinds t u w condition k h =
    let e : (e : SqlExp) × (condition ≡ Some e) × (of_kind kind.Bool w e ≡ None) = maybe_none_is (of_kind kind.Bool w) condition h in
    let m : (r : Refusal) × Misfits w e.0.form kind.Bool r = unfit w e.0 kind.Bool e.2 in
    (m.0, fault.not_bool w e.0 (k e.0 e.1) m.1)

with_sets : (kinds : List ColumnKind) (t : ℕ × TableShape) (u : SqlChange) (w : Within) (ps : List (List ℕ × SqlExp)) → Sets kinds t u w ps → sets_of w t.1.columns ps ≡ None → (r : Refusal) × ActBreaks kinds t u r
with_sets kinds t u w ps s h = let b : (r : Refusal) × SetsBreak w t.1.columns ps r = sets_faulty w t.1.columns ps h in (b.0, fault.in_sets w ps s b.1)

insert_faulty : (kinds : List ColumnKind) (t : ℕ × TableShape) (p : Span) (x : DeclName) (columns : List (List ℕ)) (values : List SqlExp) → action_of kinds t (change.Insert p x columns values) ≡ None → (r : Refusal) × ActBreaks kinds t (change.Insert p x columns values) r
insert_faulty kinds t p x columns values h = elim (branch_is (nat_eq (length columns) (length values)) (complete_of kinds t.1 columns values) h) [
  | inl a ↦ (refused 12 refl (decimal (length values)) (decimal (length columns)), fault.in_insert p x columns values refl (fault.other_number (unequal (length columns) (length values) a) (refl, refl, refl)))
  | inr b ↦ elim (then_none_is (inserting t.1 columns) (sets_of (within_insert kinds) t.1.columns (paired columns values)) b) [
    | inl c ↦ with_sets kinds t (change.Insert p x columns values) (within_insert kinds) (paired columns values) (fault.inserts p x columns values) c
    | inr s ↦
        let shape : TableShape = t.1 in (
          refused 12 refl (codes "no value") (missing_name columns shape.columns),
          fault.in_insert p x columns values refl
              (fault.column_missing (unequal (length columns) (length shape.columns) (test_is (nat_eq (length columns) (length shape.columns)) (action.Insert s.0) s.2)) (refl, refl, refl)),
        )
  ]
]

act_faulty : (kinds : List ColumnKind) (t : ℕ × TableShape) (u : SqlChange) → action_of kinds t u ≡ None → (r : Refusal) × ActBreaks kinds t u r
act_faulty kinds t (change.Insert p x columns values) h = insert_faulty kinds t p x columns values h
act_faulty kinds t (change.Update p x assignments condition) h = elim (then_none_is (updating (within_row x t kinds) condition) (sets_of (within_row x t kinds) t.1.columns (map assigned assignments)) h) [
  | inl a ↦ with_sets kinds t (change.Update p x assignments condition) (within_row x t kinds) (map assigned assignments) (fault.updates p x assignments condition) a
  | inr s ↦ condition_faulty kinds t (change.Update p x assignments condition) (within_row x t kinds) condition (λ e i. subst (λ z. ConditionOf kinds t (change.Update p x assignments z) (within_row x t kinds) e) (sym i) (fault.of_update p x assignments e)) (map_none_is (action.Update s.0) (condition_of (within_row x t kinds) condition) s.2)
]
act_faulty kinds t (change.Delete p x condition) h = condition_faulty kinds t (change.Delete p x condition) (within_row x t kinds) condition (λ e i. subst (λ z. ConditionOf kinds t (change.Delete p x z) (within_row x t kinds) e) (sym i) (fault.of_delete p x e)) (map_none_is action.Delete (condition_of (within_row x t kinds) condition) h)

pub change_faulty : NoneChangeIsFaulty
unfolding change_of
change_faulty m tables kinds u h = elim (then_none_is (change_at kinds u) (table_at m tables (target_of u)) h) [
  | inl a ↦ (refused 7 refl (table_text (target_of u)) [], fault.no_target a (refl, refl, refl))
  | inr t ↦
      let b : (r : Refusal) × ActBreaks kinds t.0 u r = act_faulty kinds t.0 u (map_none_is (change_with kinds t.0) (action_of kinds t.0 u) t.2) in
      (b.0, fault.acts t.0.0 t.0.1 t.1 b.1)
]
