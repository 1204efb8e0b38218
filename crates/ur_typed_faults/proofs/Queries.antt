-- A query that has no core has a fault.
use Rattle.std.proofs.Common.{inl, inr, ◌≡◌, ◌∙◌, refl, sym, ap, subst, ℕ, List, [], ◌++◌, map, Option, Some, None, nat_eq, bytes_eq}
use Rattle.std.specs.Fmt.{decimal}
use Rattle.std.specs.Prelude.{◌≢◌, ◌^◌, nat_lt, pos, codes, Contains, option_map, option_and_then, option_to_list, slice_get, slice_index_or}
use Rattle.ur_base.specs.declared.refusal.Refusal.{Refusal}
use Rattle.ur_syntax.specs.declared.sql.SqlExp.{SqlExp}
use Rattle.ur_syntax.specs.declared.sql.Aggregate.{Aggregate as WrittenAggregate}
use Rattle.ur_syntax.specs.declared.sql.Aggregate.TheVariants as written
use Rattle.ur_syntax.specs.declared.sql.Selected.{Selected}
use Rattle.ur_syntax.specs.declared.sql.Selected.TheVariants as selected
use Rattle.ur_syntax.specs.declared.sql.Selection.{Selection}
use Rattle.ur_syntax.specs.declared.sql.Selection.TheVariants as selection
use Rattle.ur_syntax.specs.declared.sql.FromItem.{FromItem}
use Rattle.ur_syntax.specs.declared.sql.OrderKey.{OrderKey as WrittenKey}
use Rattle.ur_syntax.specs.declared.sql.Limit.{Limit}
use Rattle.ur_syntax.specs.declared.sql.Limit.TheVariants as limit
use Rattle.ur_syntax.specs.declared.sql.SqlQuery.{SqlQuery}
use Rattle.ur_values.specs.declared.schema.ColumnKind.{ColumnKind}
use Rattle.ur_values.specs.declared.schema.ColumnKind.TheVariants as kind
use Rattle.ur_values.specs.declared.schema.Schema.{Schema}
use Rattle.ur_sql.specs.declared.scalar.Scalar.{Scalar}
use Rattle.ur_sql.specs.declared.query.ColumnAt.{ColumnAt}
use Rattle.ur_sql.specs.declared.query.OrderKey.{OrderKey}
use Rattle.ur_sql.specs.declared.query.Field.TheVariants as field
use Rattle.ur_sql.specs.declared.query.Aggregate.TheVariants as aggregate
use Rattle.ur_sql.specs.declared.query.Bound.TheVariants as bound
use Rattle.ur_sqltype.specs.declared.scope.Within.{Within}
use Rattle.ur_sqltype.specs.Expression.{Kinded, kinded, same_kind, as_kind, is_optional}
use Rattle.ur_sqltype.specs.Faults.{Misfits, faulty, other_kind, kind_text, three_kinds}
use Rattle.ur_sqltype.specs.Lists.{all_of, maybe, repeated}
use Rattle.ur_sqltype.specs.Tables.{source_of, source_at, sources_of, table_at}
use Rattle.ur_sqltype.specs.Query.{of_kind, of_some_kind, if_basic, of_basic_kind, on_of, ons_of, as_column, column_in, aggregated, ordered, int_param, limited, name_of, column_form, selected_columns, named_form, named_field, same_column, once_chosen, chosen_of, named_of, fields_with, all_fields, once_named, fields_of, field_number, alias_fields, in_order, is_descending, begun, reads, with_on, with_filter, with_fields, with_group, with_order, with_limit, with_offset, to_filter, to_fields, to_group, to_order, to_limit, stated, once_aliased, items_of, outside, well_grouped, query_over, query_of}
use Rattle.ur_sqltype.specs.SqltypeFaults as fault
use Rattle.ur_sqltype.specs.SqltypeFaults.{Selects, BoundBreaks, ColumnBreaks, BasicBreaks, AggregateBreaks, ItemBreaks, Breaks, column_text, table_text, QueryHasFault}
use Rattle.ur_sqltype.proofs.Faultless.{not_same}
use Rattle.ur_typed_faults.specs.SqlcauseLawsConverse.{NoneQueryIsFaulty}
use Rattle.ur_typed_faults.proofs.Lacking.{refused, some_none, then_none_is, map_none_is, maybe_none_is, found_is, test_is, test_holds, above, Lacks, lacks, FlatLacks, flat_lacks, only_lacks}
use Rattle.ur_typed_faults.proofs.Expressions.{IsFaulty, expression_faulty}

-- ---- expressions

pub unfit : (w : Within) (e : SqlExp) (k : ColumnKind) → of_kind k w e ≡ None → (r : Refusal) × Misfits w e.form k r
unfit w e k h = by (kinded w e.form) refl h where
  by : (x : Option Kinded) → kinded w e.form ≡ x → option_and_then (as_kind k) x ≡ None → (r : Refusal) × Misfits w e.form k r
  by None ex g = let f : IsFaulty w e.form = expression_faulty w e.form ex in (f.0, faulty f.1)
  by (Some x) ex g = (refused 12 refl (kind_text x.1) (kind_text k), other_kind ex (not_same x.1 k (test_is (same_kind x.1 k) x.0 g)) (refl, refl, refl))

none_of_some : (w : Within) (e : SqlExp) → of_some_kind w e ≡ None → IsFaulty w e.form
none_of_some w e h = expression_faulty w e.form (map_none_is (λ (x : Kinded). x.0) (kinded w e.form) h)

-- what MIN and MAX are of
no_basic_kind : (w : Within) (e : SqlExp) → of_basic_kind w e ≡ None → (r : Refusal) × BasicBreaks w e r
no_basic_kind w e h = by (kinded w e.form) refl h where
  by : (x : Option Kinded) → kinded w e.form ≡ x → option_and_then if_basic x ≡ None → (r : Refusal) × BasicBreaks w e r
  by None ex g = let f : IsFaulty w e.form = expression_faulty w e.form ex in (f.0, fault.basic_faulty f.1)
  by (Some x) ex g = (refused 12 refl (kind_text x.1) three_kinds, fault.is_option x.0 x.1 ex (test_holds (is_optional x.1) x.0 g) (refl, refl, refl))

no_column : (w : Within) (e : SqlExp) → column_in w e ≡ None → (r : Refusal) × ColumnBreaks w e r
no_column w e h = by (kinded w e.form) refl h where
  by : (x : Option Kinded) → kinded w e.form ≡ x → option_and_then as_column (option_map (λ (x : Kinded). x.0) x) ≡ None → (r : Refusal) × ColumnBreaks w e r
  by None ex g = let f : IsFaulty w e.form = expression_faulty w e.form ex in (f.0, fault.column_faulty f.1)
  by (Some x) ex g =
      (refused 12 refl (codes "expression") (codes "column"), fault.column_other (record { scalar = x.0; of = x.1; is = ex; none = g; told = (refl, refl, refl) }))

-- ---- parts of a query

abbrev Faulty : List (List ℕ) → Within → SqlQuery → Type 0
Faulty names w q = (r : Refusal) × Breaks names w q r

on_is : (w : Within) (o : Option SqlExp) → all_of (of_kind kind.Bool w) (option_to_list o) ≡ None → (e : SqlExp) × (o ≡ Some e) × (of_kind kind.Bool w e ≡ None)
on_is w None h = absurd (some_none h)
on_is w (Some e) h = (e, refl, only_lacks (of_kind kind.Bool w) e h)

on_faulty : (names : List (List ℕ)) (w : Within) (q : SqlQuery) → all_of (of_kind kind.Bool w) (ons_of q.«from») ≡ None → Faulty names w q
on_faulty names w q h =
    let l : FlatLacks (of_kind kind.Bool w) on_of q.«from» = flat_lacks (of_kind kind.Bool w) on_of q.«from» h in
    let i : FromItem = l.0 in
    let o : (e : SqlExp) × (i.on ≡ Some e) × (of_kind kind.Bool w e ≡ None) = on_is w i.on l.2 in
    let m : (r : Refusal) × Misfits w o.0.form kind.Bool r = unfit w o.0 kind.Bool o.2 in
    (m.0, fault.no_condition o.0 (fault.on i o.0 l.1 o.1) m.1)

filter_faulty : (names : List (List ℕ)) (w : Within) (q : SqlQuery) → maybe (of_kind kind.Bool w) q.filter ≡ None → Faulty names w q
filter_faulty names w q h =
    let e : (e : SqlExp) × (q.filter ≡ Some e) × (of_kind kind.Bool w e ≡ None) = maybe_none_is (of_kind kind.Bool w) q.filter h in
    let m : (r : Refusal) × Misfits w e.0.form kind.Bool r = unfit w e.0 kind.Bool e.2 in
    (m.0, fault.no_condition e.0 (fault.filter e.0 e.1) m.1)

-- a selected column
column_is : (w : Within) (s : Selected) → all_of (column_in w) (column_form s) ≡ None → (e : SqlExp) × (s ≡ selected.Column e) × (column_in w e ≡ None)
column_is w (selected.Column e) h = (e, refl, only_lacks (column_in w) e h)
column_is w (selected.Named e a) h = absurd (some_none h)
column_is w (selected.Aggregate p g a) h = absurd (some_none h)

selects : (q : SqlQuery) (items : List Selected) (s : Selected) → q.selection ≡ selection.Items items → Contains items s → Selects q s
selects q items s e c = record { items = items; selection = e; stands = c }

columns_faulty : (names : List (List ℕ)) (w : Within) (q : SqlQuery) (items : List Selected) → q.selection ≡ selection.Items items → all_of (column_in w) (selected_columns items) ≡ None → Faulty names w q
columns_faulty names w q items es h =
    let l : FlatLacks (column_in w) column_form items = flat_lacks (column_in w) column_form items h in
    let c : (e : SqlExp) × (l.0 ≡ selected.Column e) × (column_in w e ≡ None) = column_is w l.0 l.2 in
    let b : (r : Refusal) × ColumnBreaks w c.0 r = no_column w c.0 c.2 in
    (b.0, fault.no_column c.0 (fault.selects c.0 (subst (Selects q) c.1 (selects q items l.0 es l.1))) b.1)

chosen_faulty : (names : List (List ℕ)) (w : Within) (q : SqlQuery) (s : Selection) → q.selection ≡ s → chosen_of w s ≡ None → Faulty names w q
chosen_faulty names w q selection.All es h = absurd (some_none h)
chosen_faulty names w q (selection.Items items) es h = elim (then_none_is once_chosen (all_of (column_in w) (selected_columns items)) h) [
  | inl a ↦ columns_faulty names w q items es a
  | inr b ↦
      let t : (at : ColumnAt) × (repeated same_column b.0 ≡ Some at) = found_is (repeated same_column b.0) (Some b.0) b.2 in
      (refused 8 refl (column_text w.sources t.0) [], fault.chosen_twice items es (record { ats = b.0; at = t.0; chosen = b.1; twice = t.1; told = (refl, refl, refl) }))
]

-- what is selected with an AS name
over_faulty : (w : Within) (g : WrittenAggregate) → aggregated w g ≡ None → (r : Refusal) × AggregateBreaks w r g
over_faulty w written.Count h = absurd (some_none h)
over_faulty w (written.Sum e) h = let m : (r : Refusal) × Misfits w e.form kind.Int r = unfit w e kind.Int (map_none_is aggregate.Sum (of_kind kind.Int w e) h) in (m.0, fault.no_sum e m.1)
over_faulty w (written.Min e) h =
    let b : (r : Refusal) × BasicBreaks w e r = no_basic_kind w e (map_none_is aggregate.Min (of_basic_kind w e) h) in (b.0, fault.least e b.1)
over_faulty w (written.Max e) h =
    let b : (r : Refusal) × BasicBreaks w e r = no_basic_kind w e (map_none_is aggregate.Max (of_basic_kind w e) h) in (b.0, fault.greatest e b.1)

item_faulty : (names : List (List ℕ)) (w : Within) (s : Selected) → all_of (named_field names w) (named_form s) ≡ None → (r : Refusal) × ItemBreaks w r s
item_faulty names w (selected.Column e) h = absurd (some_none h)
item_faulty names w (selected.Named e a) h =
    let f : IsFaulty w e.form = none_of_some w e (map_none_is (field.Single (name_of names a)) (of_some_kind w e) (only_lacks (named_field names w) (selected.Named e a) h)) in
    (f.0, fault.named e a f.1)
item_faulty names w (selected.Aggregate p g a) h =
    let b : (r : Refusal) × AggregateBreaks w r g = over_faulty w g (map_none_is (field.Over (name_of names a)) (aggregated w g) (only_lacks (named_field names w) (selected.Aggregate p g a) h)) in
    (b.0, fault.over p g a b.1)

named_faulty : (names : List (List ℕ)) (w : Within) (q : SqlQuery) (s : Selection) → q.selection ≡ s → named_of names w s ≡ None → Faulty names w q
named_faulty names w q selection.All es h = absurd (some_none h)
named_faulty names w q (selection.Items items) es h =
    let l : FlatLacks (named_field names w) named_form items = flat_lacks (named_field names w) named_form items h in
    let b : (r : Refusal) × ItemBreaks w r l.0 = item_faulty names w l.0 l.2 in
    (b.0, fault.no_item l.0 (selects q items l.0 es l.1) b.1)

fields_faulty : (names : List (List ℕ)) (w : Within) (q : SqlQuery) → fields_of names w q.selection ≡ None → Faulty names w q
fields_faulty names w q h = elim (then_none_is once_named (all_fields names w q.selection) h) [
  | inl a ↦ elim (then_none_is (fields_with names w q.selection) (chosen_of w q.selection) a) [
    | inl c ↦ chosen_faulty names w q q.selection refl c
    | inr n ↦ named_faulty names w q q.selection refl (map_none_is (λ named. in_order (alias_fields names n.0 0 w.sources ++ named)) (named_of names w q.selection) n.2)
  ]
  | inr b ↦
      let t : (n : ℕ) × (repeated nat_eq (map field_number b.0) ≡ Some n) = found_is (repeated nat_eq (map field_number b.0)) b.0 b.2 in
      (refused 8 refl (slice_index_or names t.0 []) [], fault.clash (record { fields = b.0; number = t.0; all = b.1; twice = t.1; told = (refl, refl, refl) }))
]

group_faulty : (names : List (List ℕ)) (w : Within) (q : SqlQuery) → all_of (column_in w) q.group ≡ None → Faulty names w q
group_faulty names w q h =
    let l : Lacks (column_in w) q.group = lacks (column_in w) q.group h in
    let b : (r : Refusal) × ColumnBreaks w l.0 r = no_column w l.0 l.2 in
    (b.0, fault.no_column l.0 (fault.groups l.0 l.1) b.1)

order_faulty : (names : List (List ℕ)) (w : Within) (q : SqlQuery) → all_of (ordered w) q.order ≡ None → Faulty names w q
order_faulty names w q h =
    let l : Lacks (ordered w) q.order = lacks (ordered w) q.order h in
    let k : WrittenKey = l.0 in
    let f : IsFaulty w k.key.form = none_of_some w k.key (map_none_is (λ (x : Scalar). let o : OrderKey = record { by = x; descending = is_descending k.direction } in o) (of_some_kind w k.key) l.2) in
    (f.0, fault.no_key k l.1 f.1)

not_int : (n : ℕ) (k : ColumnKind) → int_param n k ≡ None → k ≢ kind.Int
not_int n k h e = some_none (sym (ap (int_param n) e) ∙ h)

bound_faulty : (w : Within) (l : Limit) → limited w l ≡ None → (r : Refusal) × BoundBreaks w r l
bound_faulty w (limit.Int n) h =
    (refused 12 refl (decimal n) (codes "int"), fault.too_great n (above n (test_is (nat_lt n (2 ^ 63)) (bound.Is (pos n)) h)) (refl, refl, refl))
bound_faulty w (limit.Anti n) h = elim (then_none_is (int_param n) (slice_get w.antiquotes n) h) [
  | inl a ↦ (refused 12 refl (codes "no antiquote") (codes "int"), fault.missing n a (refl, refl, refl))
  | inr k ↦ (refused 12 refl (kind_text k.0) (codes "int"), fault.other_kind n k.0 k.1 (not_int n k.0 k.2) (refl, refl, refl))
]

limit_faulty : (names : List (List ℕ)) (w : Within) (q : SqlQuery) → maybe (limited w) q.limit ≡ None → Faulty names w q
limit_faulty names w q h =
    let l : (l : Limit) × (q.limit ≡ Some l) × (limited w l ≡ None) = maybe_none_is (limited w) q.limit h in
    let b : (r : Refusal) × BoundBreaks w r l.0 = bound_faulty w l.0 l.2 in
    (b.0, fault.no_bound l.0 (fault.limited l.0 l.1) b.1)

offset_faulty : (names : List (List ℕ)) (w : Within) (q : SqlQuery) → maybe (limited w) q.offset ≡ None → Faulty names w q
offset_faulty names w q h =
    let l : (l : Limit) × (q.offset ≡ Some l) × (limited w l ≡ None) = maybe_none_is (limited w) q.offset h in
    let b : (r : Refusal) × BoundBreaks w r l.0 = bound_faulty w l.0 l.2 in
    (b.0, fault.no_bound l.0 (fault.skipped l.0 l.1) b.1)

-- ---- up to a part

module _ (names : List (List ℕ)) (w : Within) (q : SqlQuery) where
  filter_none : to_filter w q ≡ None → Faulty names w q
  filter_none h = elim (then_none_is (with_filter w q) (with_on w q (begun w)) h) [
    | inl a ↦ on_faulty names w q (map_none_is (λ x. record (begun w) { on = x }) (all_of (of_kind kind.Bool w) (ons_of q.«from»)) a)
    | inr c ↦ filter_faulty names w q (map_none_is (λ x. record c.0 { filter = x }) (maybe (of_kind kind.Bool w) q.filter) c.2)
  ]

  fields_none : to_fields names w q ≡ None → Faulty names w q
  fields_none h = elim (then_none_is (with_fields names w q) (to_filter w q) h) [
    | inl a ↦ filter_none a
    | inr c ↦ fields_faulty names w q (map_none_is (λ x. record c.0 { fields = x }) (fields_of names w q.selection) c.2)
  ]

  group_none : to_group names w q ≡ None → Faulty names w q
  group_none h = elim (then_none_is (with_group w q) (to_fields names w q) h) [
    | inl a ↦ fields_none a
    | inr c ↦ group_faulty names w q (map_none_is (λ x. record c.0 { group = x }) (all_of (column_in w) q.group) c.2)
  ]

  order_none : to_order names w q ≡ None → Faulty names w q
  order_none h = elim (then_none_is (with_order w q) (to_group names w q) h) [
    | inl a ↦ group_none a
    | inr c ↦ order_faulty names w q (map_none_is (λ x. record c.0 { order = x }) (all_of (ordered w) q.order) c.2)
  ]

  limit_none : to_limit names w q ≡ None → Faulty names w q
  limit_none h = elim (then_none_is (with_limit w q) (to_order names w q) h) [
    | inl a ↦ order_none a
    | inr c ↦ limit_faulty names w q (map_none_is (λ x. record c.0 { limit = x }) (maybe (limited w) q.limit) c.2)
  ]

  stated_none : stated names w q ≡ None → Faulty names w q
  stated_none h = elim (then_none_is (with_offset w q) (to_limit names w q) h) [
    | inl a ↦ limit_none a
    | inr c ↦ offset_faulty names w q (map_none_is (λ x. record c.0 { offset = x }) (maybe (limited w) q.offset) c.2)
  ]

  over_none : option_and_then well_grouped (stated names w q) ≡ None → Faulty names w q
  over_none h = elim (then_none_is well_grouped (stated names w q) h) [
    | inl a ↦ stated_none a
    | inr c ↦
        let t : (at : ColumnAt) × (outside c.0 ≡ Some at) = found_is (outside c.0) c.0 c.2 in
        (refused 12 refl (column_text w.sources t.0) (codes "GROUP BY"), fault.ungrouped (record { core = c.0; at = t.0; is = c.1; stands = t.1; told = (refl, refl, refl) }))
  ]

-- ---- the whole

items_faulty : (m : List ℕ) (tables : Schema) (names : List (List ℕ)) (kinds : List ColumnKind) (q : SqlQuery) → items_of m tables q.«from» ≡ None → (r : Refusal) × QueryHasFault m tables names kinds q r
items_faulty m tables names kinds q h = elim (then_none_is once_aliased (sources_of m tables q.«from») h) [
  | inl a ↦
      let l : Lacks (source_at m tables) q.«from» = lacks (source_at m tables) q.«from» a in
      let i : FromItem = l.0 in
      (refused 7 refl (table_text i.table) [], fault.no_table (record { item = i; stands = l.1; fault = record { none = map_none_is (source_of i) (table_at m tables i.table) l.2; told = (refl, refl, refl) } }))
  | inr s ↦
      let t : (alias : List ℕ) × (repeated bytes_eq (map (λ z. z.alias) s.0) ≡ Some alias) = found_is (repeated bytes_eq (map (λ z. z.alias) s.0)) s.0 s.2 in
      (refused 8 refl t.0 [], fault.alias_twice (record { sources = s.0; alias = t.0; items = s.1; twice = t.1; told = (refl, refl, refl) }))
]

pub query_faulty : NoneQueryIsFaulty
unfolding query_of
query_faulty m tables names kinds q h = elim (then_none_is (query_over names kinds q) (items_of m tables q.«from») h) [
  | inl a ↦ items_faulty m tables names kinds q a
  | inr s ↦ let b : Faulty names (reads s.0 kinds) q = over_none names (reads s.0 kinds) q s.2 in (b.0, fault.within s.0 s.1 b.1)
]
