-- The core of a query fits its tables.
use Rattle.std.proofs.Common.{◌≡◌, ◌∙◌, refl, sym, ap, ap₂, subst, ℕ, ◌+◌, List, [], ◌∷◌, ◌++◌, drop, map, Some, inl}
use Rattle.std.specs.Option.{is_some}
use Rattle.std.specs.Prelude.{nat_lt, IsSome, IfSome, All, slice_get, slice_index_or}
use Rattle.std.specs.List.{AllByRecursion}
use Rattle.std.proofs.lemmas.List.Elements.{All-from_recursion}
use Rattle.ur_base.specs.declared.names.Name.{Name}
use Rattle.ur_syntax.specs.declared.sql.Aggregate.{Aggregate as WrittenAggregate}
use Rattle.ur_syntax.specs.declared.sql.Aggregate.TheVariants as written
use Rattle.ur_syntax.specs.declared.sql.Selected.{Selected}
use Rattle.ur_syntax.specs.declared.sql.Selected.TheVariants as selected
use Rattle.ur_syntax.specs.declared.sql.Selection.{Selection}
use Rattle.ur_syntax.specs.declared.sql.Selection.TheVariants as selection
use Rattle.ur_syntax.specs.declared.sql.FromItem.{FromItem}
use Rattle.ur_syntax.specs.declared.sql.OrderKey.{OrderKey as WrittenKey}
use Rattle.ur_values.specs.declared.schema.ColumnKind.{ColumnKind}
use Rattle.ur_values.specs.declared.schema.ColumnKind.TheVariants as kind
use Rattle.ur_values.specs.declared.schema.Schema.{Schema}
use Rattle.ur_values.specs.Store.{kinds_of}
use Rattle.ur_sql.specs.declared.scalar.Scalar.{Scalar}
use Rattle.ur_sql.specs.declared.query.Item.{Item}
use Rattle.ur_sql.specs.declared.query.ColumnAt.{ColumnAt}
use Rattle.ur_sql.specs.declared.query.Field.{Field}
use Rattle.ur_sql.specs.declared.query.Field.TheVariants as field
use Rattle.ur_sql.specs.declared.query.Aggregate.{Aggregate}
use Rattle.ur_sql.specs.declared.query.Aggregate.TheVariants as aggregate
use Rattle.ur_sql.specs.declared.query.OrderKey.{OrderKey}
use Rattle.ur_sql.specs.Typing.{Kinds, column_kind, HasKind, HasSomeKind, AreConditions, MayBeCondition, AggregateFits, FieldFits, BoundFits, kinds_in}
use Rattle.ur_sqltype.specs.declared.scope.Source.{Source}
use Rattle.ur_sqltype.specs.declared.scope.Within.{Within}
use Rattle.ur_sqltype.specs.Fits.{kinds_of_source, kinds_within, BareStand, KindedFits}
use Rattle.ur_sqltype.specs.Tables.{source_of, source_at, table_at}
use Rattle.ur_sqltype.specs.Query.{of_kind, of_some_kind, of_basic_kind, ons_of, column_in, aggregated, is_descending, ordered, limited, name_of, Chosen, is_chosen, columns_from, alias_field, alias_fields, named_items, named_field, named_of, field_number, with_field, in_order_on, item_of, reads}
use Rattle.ur_sqltype.specs.SqltypeFits.{QueryOfFits}
use Rattle.ur_sqltype.proofs.Lists.{some_is, none_is}
use Rattle.ur_sqltype.proofs.Taken.{map_taken}
use Rattle.ur_sqltype.proofs.SqltypeValues.{all_values, maybe_value, of_map, of_both, of_choice, stands_at, or_is}
use Rattle.ur_sqltype.proofs.Kinding.{has_kind, some_kind, basic_kind, column_there, bound_fits, table_there}
use Rattle.ur_sqltype.proofs.Grouping.{fields_read, order_reads}
use Rattle.ur_sqltype.proofs.Whole.{FieldsTaken, fields_taken, query_taken}

-- ---- fields in order

with_kept : (P : Field → Type 0) (f : Field) (fs : List Field) → P f → AllByRecursion P fs → AllByRecursion P (with_field f fs)
with_kept P f [] p h = (p, tt)
with_kept P f (g ∷ rest) p h = of_choice P (nat_lt (field_number g) (field_number f)) (g ∷ with_field f rest) (f ∷ g ∷ rest) (h.0, with_kept P f rest p h.1) (p, h)

order_kept : (P : Field → Type 0) (fs done : List Field) → AllByRecursion P fs → AllByRecursion P done → AllByRecursion P (in_order_on fs done)
order_kept P [] done h k = k
order_kept P (f ∷ fs) done h k = with_kept P f (in_order_on fs done) h.0 (order_kept P fs done h.1 k)

-- ---- the columns of aliases

columns_fit : (names : List (List ℕ)) (chosen : Chosen) (ks : Kinds) (i c : ℕ) (columns : List (List ℕ × ColumnKind)) → drop c (slice_index_or ks.items i []) ≡ map (λ c. c.1) columns →
    AllByRecursion (λ (n : Name × ColumnAt). IsSome (column_kind ks n.1.item n.1.column)) (columns_from names chosen i c columns)
columns_fit names chosen ks i c [] h = tt
columns_fit names chosen ks i c (a ∷ rest) h =
    let t = stands_at (slice_index_or ks.items i []) c a.1 (map (λ c. c.1) rest) h in
    let more = columns_fit names chosen ks i (c + 1) rest t.1 in
    of_choice (λ (n : Name × ColumnAt). IsSome (column_kind ks n.1.item n.1.column)) (is_chosen chosen i c) ((name_of names a.0, record { item = i; column = c }) ∷ columns_from names chosen i (c + 1) rest)
    (columns_from names chosen i (c + 1) rest) (ap (λ o. is_some o) t.0, more) more

alias_fits : (ks : Kinds) (n : Name) (cs : List (Name × ColumnAt)) → AllByRecursion (λ (n : Name × ColumnAt). IsSome (column_kind ks n.1.item n.1.column)) cs → AllByRecursion (FieldFits ks) (alias_field n cs)
alias_fits ks n [] h = tt
alias_fits ks n (c ∷ cs) h = (All-from_recursion (λ (n : Name × ColumnAt). IsSome (column_kind ks n.1.item n.1.column)) (c ∷ cs) h, tt)

aliases_fit : (names : List (List ℕ)) (chosen : Chosen) (ks : Kinds) (i : ℕ) (sources : List Source) → drop i ks.items ≡ map kinds_of_source sources → AllByRecursion (FieldFits ks) (alias_fields names chosen i sources)
aliases_fit names chosen ks i [] h = tt
aliases_fit names chosen ks i (s ∷ rest) h =
    let t = stands_at ks.items i (kinds_of_source s) (map kinds_of_source rest) h in
    of_both (FieldFits ks) (alias_field (name_of names s.alias) (columns_from names chosen i 0 s.columns)) (alias_fields names chosen (i + 1) rest)
    (alias_fits ks (name_of names s.alias) (columns_from names chosen i 0 s.columns) (columns_fit names chosen ks i 0 s.columns (or_is ks.items i [] (kinds_of_source s) t.0)))
    (aliases_fit names chosen ks (i + 1) rest t.1)

-- ---- what has an AS name

module _ (fits : KindedFits) (w : Within) (bare : BareStand w) where
  aggregate_fits : (g : WrittenAggregate) (a : Aggregate) → aggregated w g ≡ Some a → AggregateFits (kinds_within w) a
  aggregate_fits written.Count a e = subst (AggregateFits (kinds_within w)) (some_is e) tt
  aggregate_fits (written.Sum x) a e = let m = map_taken aggregate.Sum (of_kind kind.Int w x) a e in subst (AggregateFits (kinds_within w)) m.2 (has_kind fits w bare kind.Int x m.0 m.1)
  aggregate_fits (written.Min x) a e =
      let m = map_taken aggregate.Min (of_basic_kind w x) a e in subst (AggregateFits (kinds_within w)) m.2 (basic_kind fits w bare x m.0 m.1)
  aggregate_fits (written.Max x) a e =
      let m = map_taken aggregate.Max (of_basic_kind w x) a e in subst (AggregateFits (kinds_within w)) m.2 (basic_kind fits w bare x m.0 m.1)

  named_fits : (names : List (List ℕ)) (s : Selected) (f : Field) → named_field names w s ≡ Some f → FieldFits (kinds_within w) f
  named_fits names (selected.Column x) f e = none_is e
  named_fits names (selected.Named x a) f e = let m = map_taken (field.Single (name_of names a)) (of_some_kind w x) f e in subst (FieldFits (kinds_within w)) m.2 (some_kind fits w bare x m.0 m.1)
  named_fits names (selected.Aggregate p g a) f e = let m = map_taken (field.Over (name_of names a)) (aggregated w g) f e in subst (FieldFits (kinds_within w)) m.2 (aggregate_fits g m.0 m.1)

  all_named_fit : (names : List (List ℕ)) (s : Selection) (fs : List Field) → named_of names w s ≡ Some fs → AllByRecursion (FieldFits (kinds_within w)) fs
  all_named_fit names selection.All fs e = subst (AllByRecursion (FieldFits (kinds_within w))) (some_is e) tt
  all_named_fit names (selection.Items items) fs e = all_values (named_field names w) (FieldFits (kinds_within w)) (named_fits names) (named_items items) fs e

  fields_fit : (names : List (List ℕ)) (s : Selection) (fs : List Field) → FieldsTaken names w s fs → All (FieldFits (kinds_within w)) fs
  fields_fit names s fs g =
      All-from_recursion (FieldFits (kinds_within w)) fs (subst (AllByRecursion (FieldFits (kinds_within w))) (sym g.all)
      (order_kept (FieldFits (kinds_within w)) (alias_fields names g.chosen 0 w.sources ++ g.named) []
      (of_both (FieldFits (kinds_within w)) (alias_fields names g.chosen 0 w.sources) g.named (aliases_fit names g.chosen (kinds_within w) 0 w.sources refl) (all_named_fit names s g.named g.others)) tt))

  key_fits : (k : WrittenKey) (o : OrderKey) → ordered w k ≡ Some o → HasSomeKind (kinds_within w) o.by
  key_fits k o e =
      let m = map_taken (λ (x : Scalar). let z : OrderKey = record { by = x; descending = is_descending k.direction } in z) (of_some_kind w k.key) o e in
      subst (λ (z : OrderKey). HasSomeKind (kinds_within w) z.by) m.2 (some_kind fits w bare k.key m.0 m.1)

-- ---- tables

source_there : (m : List ℕ) (tables : Schema) (i : FromItem) (s : Source) → source_at m tables i ≡ Some s → slice_get (map kinds_of tables.tables) s.table ≡ Some (map (λ c. c.1) s.columns)
source_there m tables i s e =
    let t = map_taken (source_of i) (table_at m tables i.table) s e in
    subst (λ (z : Source). slice_get (map kinds_of tables.tables) z.table ≡ Some (map (λ c. c.1) z.columns)) t.2 (table_there m tables i.table t.0 t.1)

read_alike : (ss : List Source) → map kinds_of_source ss ≡ map (λ (i : Item). i.columns) (map item_of ss)
read_alike [] = refl
read_alike (s ∷ ss) = ap (λ z. kinds_of_source s ∷ z) (read_alike ss)

pub query_fits : KindedFits → QueryOfFits
query_fits fits m tables names antiquotes q core e =
    let t = query_taken m tables names antiquotes q core e in
    let w : Within = reads t.sources antiquotes in
    let p = t.parts in
    let alike : kinds_within w ≡ kinds_in core =
    ap₂ (λ (params : List ColumnKind) (items : List (List ColumnKind)). let ks : Kinds = record { params = params; items = items } in ks) p.front.params (read_alike t.sources ∙ ap (λ (is : List Item). map (λ (i : Item). i.columns) is) p.front.items) in
    let there : AllByRecursion (λ (i : Item). slice_get (map kinds_of tables.tables) i.table ≡ Some i.columns) (map item_of t.sources) =
    of_map item_of (λ (i : Item). slice_get (map kinds_of tables.tables) i.table ≡ Some i.columns) t.sources
    (all_values (source_at m tables) (λ (s : Source). slice_get (map kinds_of tables.tables) s.table ≡ Some (map (λ c. c.1) s.columns)) (source_there m tables) q.«from» t.sources t.items.are) in
    record {
      tables = All-from_recursion (λ (i : Item). slice_get (map kinds_of tables.tables) i.table ≡ Some i.columns) core.«from»
          (subst (AllByRecursion (λ (i : Item). slice_get (map kinds_of tables.tables) i.table ≡ Some i.columns)) p.front.items there);
      typed = record {
        on = subst (λ ks. AreConditions ks core.on) alike (All-from_recursion (λ x. HasKind (kinds_within w) x kind.Bool) core.on
            (all_values (of_kind kind.Bool w) (λ x. HasKind (kinds_within w) x kind.Bool) (has_kind fits w (inl refl) kind.Bool) (ons_of q.«from») core.on p.front.on));
        filter = subst (λ ks. MayBeCondition ks core.filter) alike (maybe_value (of_kind kind.Bool w) (λ x. HasKind (kinds_within w) x kind.Bool) (has_kind fits w (inl refl) kind.Bool) q.filter core.filter p.front.filter);
        fields = subst (λ ks. All (FieldFits ks) core.fields) alike (fields_fit fits w (inl refl) names q.selection core.fields (fields_taken names w q.selection core.fields p.front.fields));
        group = subst (λ ks. All (λ at. IsSome (column_kind ks at.item at.column)) core.group) alike (All-from_recursion (λ (at : ColumnAt). IsSome (column_kind (kinds_within w) at.item at.column)) core.group
            (all_values (column_in w) (λ (at : ColumnAt). IsSome (column_kind (kinds_within w) at.item at.column)) (column_there fits w (inl refl)) q.group core.group p.group));
        order = subst (λ ks. All (λ k. HasSomeKind ks k.by) core.order) alike (All-from_recursion (λ (k : OrderKey). HasSomeKind (kinds_within w) k.by) core.order
            (all_values (ordered w) (λ (k : OrderKey). HasSomeKind (kinds_within w) k.by) (key_fits fits w (inl refl)) q.order core.order p.order));
        limit = subst (λ ps. IfSome core.limit (BoundFits ps)) p.front.params (maybe_value (limited w) (BoundFits w.antiquotes) (bound_fits w) q.limit core.limit p.limit);
        offset = subst (λ ps. IfSome core.offset (BoundFits ps)) p.front.params (maybe_value (limited w) (BoundFits w.antiquotes) (bound_fits w) q.offset core.offset p.offset);
        grouped_fields = λ h. fields_read core h t.grouped;
        grouped_order = λ h. order_reads core h t.grouped;
      };
    }
