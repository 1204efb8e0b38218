-- Answers of queries that fit the tables.
use Rattle.std.proofs.Common.{◌≡◌, ◌⊎◌, inl, inr, true, All, List, [], ◌∷◌, refl, sym, ap, subst}
use Rattle.std.specs.Prelude.{map, filter, Some, option_map, unwrap_or, slice_get}
use Rattle.std.specs.List.{AllByRecursion, AllZip, list_any}
use Rattle.std.proofs.lemmas.List.Elements.{All-contains, recursion_from_All}
use Rattle.ur_values.specs.declared.value.Value.{Value}
use Rattle.ur_values.specs.declared.value.Value.TheVariants as v
use Rattle.ur_values.specs.declared.schema.Schema.{Schema}
use Rattle.ur_values.specs.Store.{Row, Store, FitKinds, FitsShape, FitsSchema, kinds_of, rows_at}
use Rattle.ur_sql.specs.declared.query.Query.{Query}
use Rattle.ur_sql.specs.declared.query.Item.{Item}
use Rattle.ur_sql.specs.Answer.{Combination, combinations, meets, is_aggregate, groups, group_cmp, stable_sort, field_of, first_of, offset_by, limit_by, answer_over, answer}
use Rattle.ur_sql.specs.Typing.{kinds_in, FieldFits, FieldReadsOnly, IsTyped, QueryFits}
use Rattle.ur_sql.proofs.Members.{In, in_filter, in_map_back, contains_from_in}
use Rattle.ur_terms.specs.Types.{record_type, unit_type}
use Rattle.ur_terms.specs.Inhabits.{Variants}
use Rattle.ur_terms.proofs.Inhabiting.{Of, to-Row}
use Rattle.ur_code.specs.RowType.{query_type}
use Rattle.ur_code.proofs.Links.{at_mapped}
use Rattle.ur_code.proofs.Members.{in_flat_map_back, every_in, in_limit, in_offset, in_sorted, group_of, first_in}
use Rattle.ur_code.proofs.TypedChanges.{table_at}
use Rattle.ur_code.proofs.TypedRows.{fields_typed}

-- ---- combinations

-- the tables of the items, each of rows of the item's kinds
abbrev pub ItemFits : Item → List Row → Type 0
ItemFits item rows = All (λ row. FitKinds row item.columns) rows

combination_fits : (items : List Item) (tables : List (List Row)) → AllZip ItemFits items tables → (c : Combination) → In c (combinations tables) → AllZip FitKinds c (map (λ item. item.columns) items)
combination_fits [] [] h c (inl e) = subst (λ c. AllZip FitKinds c []) e tt
combination_fits [] [] h c (inr i) = absurd i
combination_fits [] (rows ∷ tables) h c i = absurd h
combination_fits (item ∷ items) [] h c i = absurd h
combination_fits (item ∷ items) (rows ∷ tables) h c i =
    let r = in_flat_map_back (λ row. map (λ rest. row ∷ rest) (combinations tables)) rows c i in
    let m = in_map_back (λ rest. (r.0) ∷ rest) (combinations tables) c (r.2) in
    subst (λ c. AllZip FitKinds c (map (λ item. item.columns) (item ∷ items))) (m.2)
    (All-contains (λ row. FitKinds row item.columns) rows (r.0) h.0 (contains_from_in rows (r.0) (r.1)), combination_fits items tables h.1 (m.0) (m.1))

item_rows : (schema : Schema) (store : Store) → FitsSchema schema store → (item : Item) → slice_get (map kinds_of schema.tables) item.table ≡ Some item.columns → ItemFits item (rows_at store item.table)
item_rows schema store h item e =
    let shape = at_mapped kinds_of schema.tables item.table item.columns e in
    subst (λ columns. All (λ row. FitKinds row columns) (rows_at store item.table)) (shape.2) (table_at schema.tables store.tables item.table (shape.0) h.tables (shape.1))

items_rows : (schema : Schema) (store : Store) → FitsSchema schema store → (items : List Item)
    → AllByRecursion (λ item. slice_get (map kinds_of schema.tables) item.table ≡ Some item.columns) items → AllZip ItemFits items (map (λ item. rows_at store item.table) items)
items_rows schema store h [] e = tt
items_rows schema store h (item ∷ items) e = (item_rows schema store h item e.0, items_rows schema store h items e.1)

-- ---- answers

module _ (own : Value → Type 0) (vs : Variants) (q : Query) (typed : IsTyped q) (params : List Value) (params_fit : FitKinds params q.params) where
  -- the row of a group
  group_row : (tables : List (List Row)) → AllZip ItemFits q.from tables → (g : List Combination) → In g (groups q (filter (meets q params) (combinations tables)))
      → Of own vs (v.Row (map (field_of params g) q.fields)) ((query_type q).1)
  group_row tables h g i =
      let group = group_of q.group (list_any is_aggregate q.fields) (filter (meets q params) (combinations tables)) g i in
      let fits : (c : Combination) → In c g → AllZip FitKinds c (map (λ item. item.columns) q.from) = λ c j.
      combination_fits q.from tables h c ((in_filter (meets q params) (combinations tables) c (group.0 c j)).0) in
      let r = fields_typed own vs (kinds_in q) params params_fit g fits q.fields (recursion_from_All (FieldFits (kinds_in q)) q.fields typed.fields) (readable fits (group.1)) in
      subst (Of own vs (v.Row (map (field_of params g) q.fields))) (sym (ap (λ o. unwrap_or (option_map record_type o) unit_type) (r.1)))
      (to-Row own vs (map (field_of params g) q.fields) (record_type (r.0)) (r.0, refl, r.2))
    where
      readable : ((c : Combination) → In c g → AllZip FitKinds c (map (λ item. item.columns) q.from))
          → ((c : Combination) × In c g) ⊎ ((q.group ≡ []) × (list_any is_aggregate q.fields ≡ true))
          → AllZip FitKinds (first_of g) (map (λ item. item.columns) q.from) ⊎ AllByRecursion (FieldReadsOnly []) q.fields
      readable fits (inl (c, j)) = inl (fits (first_of g) (first_in g c j))
      readable fits (inr (none, flag)) =
          inr (recursion_from_All (FieldReadsOnly []) q.fields (subst (λ group. All (FieldReadsOnly group) q.fields) none (typed.grouped_fields (inl flag))))

  -- the answer over tables of the kinds that the items name
  pub answer_over_typed : (tables : List (List Row)) → AllZip ItemFits q.from tables → AllByRecursion (λ x. Of own vs x ((query_type q).1)) (answer_over q params tables)
  unfolding answer_over
  answer_over_typed tables h = every_in (λ x. Of own vs x ((query_type q).1)) (answer_over q params tables) (λ x i.
      let found = groups q (filter (meets q params) (combinations tables)) in
      let ordered = stable_sort (group_cmp params q.order) found in
      let r = in_map_back (λ g. v.Row (map (field_of params g) q.fields)) (limit_by params q.limit (offset_by params q.offset ordered)) x i in
      let there = in_sorted (group_cmp params q.order) found (r.0) (in_offset params q.offset ordered (r.0) (in_limit params q.limit (offset_by params q.offset ordered) (r.0) (r.1))) in
      subst (λ y. Of own vs y ((query_type q).1)) (r.2) (group_row tables h (r.0) there))

-- the answer over a store of the schema
pub answer_typed : (own : Value → Type 0) (vs : Variants) (schema : Schema) (q : Query) → QueryFits schema q → (params : List Value) → FitKinds params q.params
    → (store : Store) → FitsSchema schema store → AllByRecursion (λ x. Of own vs x ((query_type q).1)) (answer q params store)
answer_typed own vs schema q fit params params_fit store h =
    answer_over_typed own vs q fit.typed params params_fit (map (λ item. rows_at store item.table) q.from)
    (items_rows schema store h q.from (recursion_from_All (λ (item : Item). slice_get (map kinds_of schema.tables) item.table ≡ Some item.columns) q.from fit.tables))
