-- A query with a fault has no core.
use Rattle.std.proofs.lemmas.Bool.Decides.{nat_tests}
use Rattle.std.proofs.Common.{◌≡◌, ◌∙◌, refl, ap, ℕ, ◌≤◌, false, List, ◌++◌, map, Option, Some, None, nat_eq, bytes_eq, arith}
use Rattle.std.specs.Prelude.{◌≢◌, ◌^◌, pos, nat_lt, if◌then◌else◌, Contains, option_map, option_and_then, option_to_list, slice_get}
use Rattle.ur_base.specs.declared.refusal.Refusal.{Refusal}
use Rattle.ur_syntax.specs.declared.sql.SqlExp.{SqlExp}
use Rattle.ur_syntax.specs.declared.sql.Aggregate.{Aggregate as WrittenAggregate}
use Rattle.ur_syntax.specs.declared.sql.Selected.{Selected}
use Rattle.ur_syntax.specs.declared.sql.Selected.TheVariants as selected
use Rattle.ur_syntax.specs.declared.sql.Selection.{Selection}
use Rattle.ur_syntax.specs.declared.sql.Selection.TheVariants as selection
use Rattle.ur_syntax.specs.declared.sql.FromItem.{FromItem}
use Rattle.ur_syntax.specs.declared.sql.Limit.{Limit}
use Rattle.ur_syntax.specs.declared.sql.SqlQuery.{SqlQuery}
use Rattle.ur_values.specs.declared.schema.ColumnKind.{ColumnKind}
use Rattle.ur_values.specs.declared.schema.ColumnKind.TheVariants as kind
use Rattle.ur_sql.specs.declared.scalar.Scalar.{Scalar}
use Rattle.ur_sql.specs.declared.scalar.Scalar.TheVariants as scalar
use Rattle.ur_sql.specs.declared.query.Query.{Query}
use Rattle.ur_sql.specs.declared.query.OrderKey.{OrderKey}
use Rattle.ur_sql.specs.declared.query.Field.TheVariants as field
use Rattle.ur_sql.specs.declared.query.Aggregate.TheVariants as aggregate
use Rattle.ur_sql.specs.declared.query.Bound.{Bound}
use Rattle.ur_sql.specs.declared.query.Bound.TheVariants as bound
use Rattle.ur_sqltype.specs.declared.scope.Within.{Within}
use Rattle.ur_sqltype.specs.Expression.{Kinded, kinded, is_optional, as_kind, valued}
use Rattle.ur_sqltype.specs.Faults.{HasFault, Misfits, faulty, other_kind, MisfitsColumn, null_given, value_given, FaultyIsNone}
use Rattle.ur_sqltype.specs.Lists.{all_of, maybe, repeated}
use Rattle.ur_sqltype.specs.Tables.{source_of, source_at, sources_of, table_at}
use Rattle.ur_sqltype.specs.Query.{of_kind, of_some_kind, if_basic, of_basic_kind, on_of, ons_of, as_column, column_in, aggregated, ordered, int_param, limited, name_of, column_form, selected_columns, named_form, named_field, same_column, once_chosen, chosen_of, named_of, fields_with, all_fields, once_named, fields_of, field_number, Chosen, alias_fields, in_order, is_descending, begun, reads, with_on, with_filter, with_fields, with_group, with_order, with_limit, with_offset, to_filter, to_fields, to_group, to_order, to_limit, stated, once_aliased, items_of, outside, well_grouped, query_over, query_of}
use Rattle.ur_sqltype.specs.SqltypeFaults as fault
use Rattle.ur_sqltype.specs.SqltypeFaults.{IsCondition, Selects, IsColumn, IsBound, BoundBreaks, IsNoColumn, ColumnBreaks, BasicBreaks, AggregateBreaks, ItemBreaks, ChosenTwice, FieldsClash, Ungrouped, Breaks, AliasTwice, NoItem, NoSource, QueryHasFault, FaultyQueryIsNone}
use Rattle.ur_sqltype.proofs.Faultless.{other_kind_is_false}
use Rattle.ur_sqltype.proofs.Taken.{then_none, first_none, map_none, found_none}
use Rattle.ur_sqltype.proofs.Missing.{none_in, flat_none, one_none, if_false}

-- ---- expressions

module _ (none : FaultyIsNone) where
  pub kind_none : (w : Within) (e : SqlExp) (k : ColumnKind) (r : Refusal) → Misfits w e.form k r → of_kind k w e ≡ None
  kind_none w e k r (faulty f) = first_none (as_kind k) (kinded w e.form) (none w e.form r f)
  kind_none w e k r (other_kind {x = x} {found = found} h n t) =
      ap (λ o. option_and_then (as_kind k) o) h ∙ (let made : Option Scalar = Some x in ap (λ b. if b then made else None) (other_kind_is_false found k n))

  -- what is no value of its column sets nothing
  pub value_none : (w : Within) (e : SqlExp) (k : ColumnKind) (r : Refusal) → MisfitsColumn w e.form k r → valued k w e ≡ None
  value_none w e k r (null_given n o t) =
      let made : Option Scalar = Some (scalar.Null k) in
      ap (λ z. if z then (if is_optional k then made else None) else option_and_then (as_kind k) (kinded w e.form)) n ∙ ap (λ z. if z then made else None) o
  value_none w e k r (value_given n m) =
      let made : Option Scalar = Some (scalar.Null k) in
      ap (λ z. if z then (if is_optional k then made else None) else option_and_then (as_kind k) (kinded w e.form)) n ∙ kind_none w e k r m

  basic_none : (w : Within) (e : SqlExp) (r : Refusal) → BasicBreaks w e r → of_basic_kind w e ≡ None
  basic_none w e r (fault.basic_faulty f) = first_none if_basic (kinded w e.form) (none w e.form r f)
  basic_none w e r (fault.is_option x k h o t) =
      ap (λ m. option_and_then if_basic m) h ∙ (let made : Option Scalar = Some x in ap (λ b. if b then None else made) o)

  pub some_none : (w : Within) (e : SqlExp) (r : Refusal) → HasFault w e.form r → of_some_kind w e ≡ None
  some_none w e r f = map_none (λ (x : Kinded). x.0) (kinded w e.form) (none w e.form r f)

  pub column_none : (w : Within) (e : SqlExp) (r : Refusal) → ColumnBreaks w e r → column_in w e ≡ None
  column_none w e r (fault.column_faulty f) = first_none as_column (of_some_kind w e) (some_none w e r f)
  column_none w e r (fault.column_other n) = ap (λ o. option_and_then as_column (option_map (λ (x : Kinded). x.0) o)) n.is ∙ n.none

  aggregate_none : (w : Within) (g : WrittenAggregate) (r : Refusal) → AggregateBreaks w r g → aggregated w g ≡ None
  aggregate_none w _ r (fault.no_sum e m) = map_none aggregate.Sum (of_kind kind.Int w e) (kind_none w e kind.Int r m)
  aggregate_none w _ r (fault.least e f) = map_none aggregate.Min (of_basic_kind w e) (basic_none w e r f)
  aggregate_none w _ r (fault.greatest e f) = map_none aggregate.Max (of_basic_kind w e) (basic_none w e r f)

  -- what is selected with an AS name and has a fault is no field
  item_none : (names : List (List ℕ)) (w : Within) (s : Selected) (r : Refusal) → ItemBreaks w r s → all_of (named_field names w) (named_form s) ≡ None
  item_none names w _ r (fault.named e a f) = one_none (named_field names w) (selected.Named e a) (map_none (field.Single (name_of names a)) (of_some_kind w e) (some_none w e r f))
  item_none names w _ r (fault.over p g a b) = one_none (named_field names w) (selected.Aggregate p g a) (map_none (field.Over (name_of names a)) (aggregated w g) (aggregate_none w g r b))

  -- ---- the parts of a query

  -- a condition of a join
  on_none : (w : Within) (q : SqlQuery) (i : FromItem) (e : SqlExp) (r : Refusal) → Contains q.«from» i → i.on ≡ Some e → Misfits w e.form kind.Bool r → all_of (of_kind kind.Bool w) (ons_of q.«from») ≡ None
  on_none w q i e r c h m =
      flat_none (of_kind kind.Bool w) on_of q.«from» i c (ap (λ o. all_of (of_kind kind.Bool w) (option_to_list o)) h ∙ one_none (of_kind kind.Bool w) e (kind_none w e kind.Bool r m))

  filter_none : (w : Within) (o : Option SqlExp) (e : SqlExp) (r : Refusal) → o ≡ Some e → Misfits w e.form kind.Bool r → maybe (of_kind kind.Bool w) o ≡ None
  filter_none w o e r h m = ap (λ z. maybe (of_kind kind.Bool w) z) h ∙ map_none Some (of_kind kind.Bool w e) (kind_none w e kind.Bool r m)

  -- a selected column
  chosen_none : (w : Within) (s : Selection) (items : List Selected) (e : SqlExp) (r : Refusal) → s ≡ selection.Items items → Contains items (selected.Column e) → ColumnBreaks w e r → chosen_of w s ≡ None
  chosen_none w s items e r h c b =
      ap (λ z. chosen_of w z) h ∙ first_none once_chosen (all_of (column_in w) (selected_columns items))
      (flat_none (column_in w) column_form items (selected.Column e) c (one_none (column_in w) e (column_none w e r b)))

  named_none : (names : List (List ℕ)) (w : Within) (s : Selection) (items : List Selected) (x : Selected) (r : Refusal) → s ≡ selection.Items items → Contains items x → ItemBreaks w r x → named_of names w s ≡ None
  named_none names w s items x r h c b = ap (λ z. named_of names w z) h ∙ flat_none (named_field names w) named_form items x c (item_none names w x r b)

below : (n : ℕ) → 2 ^ 63 ≤ n → nat_lt n (2 ^ 63) ≡ false
below n l = grind (arith, nat_tests, l)

no_int : (n : ℕ) (k : ColumnKind) → k ≢ kind.Int → int_param n k ≡ None
no_int n kind.Int h = absurd (h refl)
no_int n kind.Str h = refl
no_int n kind.Bool h = refl
no_int n kind.OptInt h = refl
no_int n kind.OptStr h = refl
no_int n kind.OptBool h = refl

limit_none : (w : Within) (l : Limit) (r : Refusal) → BoundBreaks w r l → limited w l ≡ None
limit_none w _ r (fault.too_great n h t) = let made : Option Bound = Some (bound.Is (pos n)) in if_false (nat_lt n (2 ^ 63)) made (below n h)
limit_none w _ r (fault.other_kind n k h m t) = ap (λ o. option_and_then (int_param n) o) h ∙ no_int n k m
limit_none w _ r (fault.missing n h t) = first_none (int_param n) (slice_get w.antiquotes n) h

bound_none : (w : Within) (o : Option Limit) (l : Limit) (r : Refusal) → o ≡ Some l → BoundBreaks w r l → maybe (limited w) o ≡ None
bound_none w o l r h b = ap (λ z. maybe (limited w) z) h ∙ map_none Some (limited w l) (limit_none w l r b)

twice_none : (w : Within) (s : Selection) (items : List Selected) (r : Refusal) → s ≡ selection.Items items → ChosenTwice w items r → chosen_of w s ≡ None
twice_none w s items r h t =
    ap (λ z. chosen_of w z) h ∙ (ap (λ z. option_and_then once_chosen z) t.chosen ∙ found_none (repeated same_column t.ats) t.at (Some t.ats) t.twice)

-- ---- where a part is not there, the whole is not

module _ (names : List (List ℕ)) (w : Within) (q : SqlQuery) where
  front_on : all_of (of_kind kind.Bool w) (ons_of q.«from») ≡ None → to_fields names w q ≡ None
  front_on e = first_none (with_fields names w q) (to_filter w q) (first_none (with_filter w q) (with_on w q (begun w)) (map_none (λ x. record (begun w) { on = x }) (all_of (of_kind kind.Bool w) (ons_of q.«from»)) e))

  front_filter : maybe (of_kind kind.Bool w) q.filter ≡ None → to_fields names w q ≡ None
  front_filter e = first_none (with_fields names w q) (to_filter w q) (then_none (with_filter w q) (with_on w q (begun w)) (λ (c : Query). map_none (λ x. record c { filter = x }) (maybe (of_kind kind.Bool w) q.filter) e))

  front_fields : fields_of names w q.selection ≡ None → to_fields names w q ≡ None
  front_fields e = then_none (with_fields names w q) (to_filter w q) (λ (c : Query). map_none (λ x. record c { fields = x }) (fields_of names w q.selection) e)

  front_chosen : chosen_of w q.selection ≡ None → to_fields names w q ≡ None
  front_chosen e = front_fields (first_none once_named (all_fields names w q.selection) (first_none (fields_with names w q.selection) (chosen_of w q.selection) e))

  front_named : named_of names w q.selection ≡ None → to_fields names w q ≡ None
  front_named e = front_fields (first_none once_named (all_fields names w q.selection) (then_none (fields_with names w q.selection) (chosen_of w q.selection) (λ (chosen : Chosen). map_none (λ named. in_order (alias_fields names chosen 0 w.sources ++ named)) (named_of names w q.selection) e)))

  whole_front : to_fields names w q ≡ None → stated names w q ≡ None
  whole_front e = first_none (with_offset w q) (to_limit names w q) (first_none (with_limit w q) (to_order names w q) (first_none (with_order w q) (to_group names w q) (first_none (with_group w q) (to_fields names w q) e)))

  whole_group : all_of (column_in w) q.group ≡ None → stated names w q ≡ None
  whole_group e = first_none (with_offset w q) (to_limit names w q) (first_none (with_limit w q) (to_order names w q) (first_none (with_order w q) (to_group names w q) (then_none (with_group w q) (to_fields names w q) (λ (c : Query). map_none (λ x. record c { group = x }) (all_of (column_in w) q.group) e))))

  whole_order : all_of (ordered w) q.order ≡ None → stated names w q ≡ None
  whole_order e = first_none (with_offset w q) (to_limit names w q) (first_none (with_limit w q) (to_order names w q) (then_none (with_order w q) (to_group names w q) (λ (c : Query). map_none (λ x. record c { order = x }) (all_of (ordered w) q.order) e)))

  whole_limit : maybe (limited w) q.limit ≡ None → stated names w q ≡ None
  whole_limit e = first_none (with_offset w q) (to_limit names w q) (then_none (with_limit w q) (to_order names w q) (λ (c : Query). map_none (λ x. record c { limit = x }) (maybe (limited w) q.limit) e))

  whole_offset : maybe (limited w) q.offset ≡ None → stated names w q ≡ None
  whole_offset e = then_none (with_offset w q) (to_limit names w q) (λ (c : Query). map_none (λ x. record c { offset = x }) (maybe (limited w) q.offset) e)

  clash_none : (r : Refusal) → FieldsClash names w q r → to_fields names w q ≡ None
  clash_none r c = front_fields (ap (λ z. option_and_then once_named z) c.all ∙ found_none (repeated nat_eq (map field_number c.fields)) c.number c.fields c.twice)

-- ---- breaches

module _ (none : FaultyIsNone) where
  breaks_none : (names : List (List ℕ)) (w : Within) (q : SqlQuery) (r : Refusal) → Breaks names w q r → option_and_then well_grouped (stated names w q) ≡ None
  breaks_none names w q r (fault.no_condition _ (fault.on i e c h) m) = first_none well_grouped (stated names w q) (whole_front names w q (front_on names w q (on_none none w q i e r c h m)))
  breaks_none names w q r (fault.no_condition _ (fault.filter e h) m) = first_none well_grouped (stated names w q) (whole_front names w q (front_filter names w q (filter_none none w q.filter e r h m)))
  breaks_none names w q r (fault.no_column _ (fault.selects e s) b) = first_none well_grouped (stated names w q) (whole_front names w q (front_chosen names w q (chosen_none none w q.selection s.items e r s.selection s.stands b)))
  breaks_none names w q r (fault.no_column _ (fault.groups e c) b) = first_none well_grouped (stated names w q) (whole_group names w q (none_in (column_in w) q.group e c (column_none none w e r b)))
  breaks_none names w q r (fault.no_item x s b) = first_none well_grouped (stated names w q) (whole_front names w q (front_named names w q (named_none none names w q.selection s.items x r s.selection s.stands b)))
  breaks_none names w q r (fault.no_key k c f) = first_none well_grouped (stated names w q) (whole_order names w q (none_in (ordered w) q.order k c (map_none (λ (x : Scalar). let o : OrderKey = record { by = x; descending = is_descending k.direction } in o) (of_some_kind w k.key) (some_none none w k.key r f))))
  breaks_none names w q r (fault.chosen_twice items h t) = first_none well_grouped (stated names w q) (whole_front names w q (front_chosen names w q (twice_none w q.selection items r h t)))
  breaks_none names w q r (fault.clash c) = first_none well_grouped (stated names w q) (whole_front names w q (clash_none names w q r c))
  breaks_none names w q r (fault.no_bound _ (fault.limited l h) b) = first_none well_grouped (stated names w q) (whole_limit names w q (bound_none w q.limit l r h b))
  breaks_none names w q r (fault.no_bound _ (fault.skipped l h) b) = first_none well_grouped (stated names w q) (whole_offset names w q (bound_none w q.offset l r h b))
  breaks_none names w q r (fault.ungrouped u) = ap (λ z. option_and_then well_grouped z) u.is ∙ found_none (outside u.core) u.at u.core u.stands

  pub faulty_query : FaultyQueryIsNone
  unfolding query_of
  faulty_query m tables names kinds q r (fault.no_table n) =
      first_none (query_over names kinds q) (items_of m tables q.«from») (first_none once_aliased (sources_of m tables q.«from») (none_in (source_at m tables) q.«from» n.item n.stands
      (map_none (source_of n.item) (table_at m tables n.item.table) n.fault.none)))
  faulty_query m tables names kinds q r (fault.alias_twice t) =
      first_none (query_over names kinds q) (items_of m tables q.«from») (ap (λ z. option_and_then once_aliased z) t.items ∙ found_none (repeated bytes_eq (map (λ s. s.alias) t.sources)) t.alias t.sources t.twice)
  faulty_query m tables names kinds q r (fault.within sources h b) = ap (λ z. option_and_then (query_over names kinds q) z) h ∙ breaks_none names (reads sources kinds) q r b
