-- Rows of answers have the row types of their queries.
use Rattle.std.proofs.Common.{◌≡◌, ◌⊎◌, inl, inr, ℤ, pos, Bool, true, false, if◌then◌else◌, All, List, [], ◌∷◌, length, Contains, refl, ap, ap₂, arith, is_some}
use Rattle.std.specs.Prelude.{map, fold, Option, Some, None, IsSome, option_map, slice_index_or, FitsSigned}
use Rattle.std.specs.List.{AllByRecursion, AllZip}
use Rattle.std.specs.declared.cmp.Ordering.{Ordering}
use Rattle.std.specs.Ordering.{is_gt, is_lt}
use Rattle.std.specs.Int.{w64}
use Rattle.std.proofs.lemmas.Int.{ints, SFits-int_wrap}
use Rattle.ur_base.specs.declared.names.Name.{Name}
use Rattle.ur_values.specs.declared.types.ValueType.{ValueType}
use Rattle.ur_values.specs.declared.types.ValueType.TheVariants as ty
use Rattle.ur_values.specs.declared.value.Value.{Value}
use Rattle.ur_values.specs.declared.value.Value.TheVariants as v
use Rattle.ur_values.specs.declared.schema.ColumnKind.{ColumnKind}
use Rattle.ur_values.specs.declared.schema.ColumnKind.TheVariants as kind
use Rattle.ur_values.specs.Order.{value_cmp}
use Rattle.ur_values.specs.Values.{IsInt}
use Rattle.ur_values.specs.Store.{FitsKind, FitKinds}
use Rattle.ur_sql.specs.declared.scalar.Scalar.{Scalar}
use Rattle.ur_sql.specs.declared.query.ColumnAt.{ColumnAt}
use Rattle.ur_sql.specs.declared.query.Field.{Field}
use Rattle.ur_sql.specs.declared.query.Field.TheVariants as field
use Rattle.ur_sql.specs.declared.query.Aggregate.{Aggregate}
use Rattle.ur_sql.specs.declared.query.Aggregate.TheVariants as agg
use Rattle.ur_sql.specs.Answer.{Combination, first_of, plus, better, as_option, aggregate_of, field_of}
use Rattle.ur_sql.specs.Scalar.{value_of, column_at}
use Rattle.ur_sql.specs.Typing.{Kinds, column_kind, HasKind, AggregateFits, FieldFits, FieldReadsOnly}
use Rattle.ur_sql.proofs.HeadKinds.{head_is}
use Rattle.ur_sql.proofs.Members.{In}
use Rattle.ur_sql.proofs.Typed.{item_fits, cell_fits, value_fits}
use Rattle.ur_terms.specs.Types.{record_type}
use Rattle.ur_terms.specs.Inhabits.{Variants}
use Rattle.ur_terms.proofs.Inhabiting.{Of, FieldsOf, to-Row, to-Present}
use Rattle.ur_terms.proofs.Ints.{int_sum}
use Rattle.std.proofs.lemmas.List.Elements.{recursion_from_All}
use Rattle.ur_code.specs.RowType.{kind_type, both_there, all_there, column_type, aggregate_type, field_type}
use Rattle.ur_code.proofs.KindTypes.{kind_value}
use Rattle.ur_code.proofs.TypedScalars.{none_in, scalar_fits}

-- ---- aggregates

count_int : (z : ℤ) → FitsSigned w64 z → IsInt z
count_int z f = (omega (arith, ints), omega (arith, ints))

plus_int : (total : ℤ) (x : Value) → IsInt total → FitsKind x kind.Int → IsInt (plus total x)
plus_int total (v.Int i) h f = int_sum total i h f
plus_int total _ h f = absurd f

summed : (xs : List Value) (total : ℤ) → IsInt total → AllByRecursion (λ x. FitsKind x kind.Int) xs → IsInt (fold plus total xs)
summed [] total h f = h
summed (x ∷ xs) total h f = summed xs (plus total x) (plus_int total x h f.0) f.1

zero_int : IsInt (pos 0)
zero_int = (omega (arith, ints), omega (arith, ints))

abbrev HeldFits : ColumnKind → Option Value → Type 0
HeldFits k None = Unit {0}
HeldFits k (Some x) = FitsKind x k

better_fits : (wins : Ordering → Bool) (k : ColumnKind) (o : Option Value) (x : Value) → HeldFits k o → FitsKind x k → HeldFits k (better wins o x)
better_fits wins k None x h f = f
better_fits wins k (Some best) x h f = either (wins (value_cmp x best))
  where
    either : (b : Bool) → FitsKind (if b then x else best) k
    either true = f
    either false = h

best_fits : (wins : Ordering → Bool) (k : ColumnKind) (xs : List Value) (o : Option Value) → HeldFits k o → AllByRecursion (λ x. FitsKind x k) xs → HeldFits k (fold (better wins) o xs)
best_fits wins k [] o h f = h
best_fits wins k (x ∷ xs) o h f = best_fits wins k xs (better wins o x) (better_fits wins k o x h f.0) f.1

module _ (own : Value → Type 0) (vs : Variants) (ks : Kinds) (params : List Value) (params_fit : FitKinds params ks.params)
    (g : List Combination) (fits : (c : Combination) → In c g → AllZip FitKinds c ks.items) where
  abbrev V : Value → ValueType → Type 0
  V x t = Of own vs x t

  values_fit : (by : Scalar) (k : ColumnKind) → HasKind ks by k → (cs : List Combination) → ((c : Combination) → In c cs → AllZip FitKinds c ks.items)
      → AllByRecursion (λ x. FitsKind x k) (map (λ c. value_of params c by) cs)
  values_fit by k h [] there = tt
  values_fit by k h (c ∷ cs) there = (value_fits ks params c params_fit (there c (inl refl)) by k h, values_fit by k h cs (λ d i. there d (inr i)))

  option_value : (k : ColumnKind) (o : Option Value) → HeldFits k o → V (as_option o) (ty.Opt (kind_type k))
  option_value k None h = (kind_type k, refl)
  option_value k (Some x) h = to-Present own vs x (ty.Opt (kind_type k)) (kind_type k, refl, kind_value own vs x k h)

  aggregate_typed : (a : Aggregate) → AggregateFits ks a → (t : ValueType) × (aggregate_type ks a ≡ Some t) × V (aggregate_of params g a) t
  aggregate_typed agg.Count h = (ty.Int, refl, (refl, count_int _ (SFits-int_wrap w64 (pos (length g)))))
  aggregate_typed (agg.Sum by) h = (ty.Int, refl, (refl, summed (map (λ c. value_of params c by) g) (pos 0) zero_int (values_fit by kind.Int h g fits)))
  aggregate_typed (agg.Min by) (k, basic, h) = (
    ty.Opt (kind_type k),
    ap (option_map (λ k. ty.Opt (kind_type k))) (head_is ks by k h),
    option_value k (fold (better is_lt) None (map (λ c. value_of params c by) g)) (best_fits is_lt k (map (λ c. value_of params c by) g) None tt (values_fit by k h g fits)),
  )
  aggregate_typed (agg.Max by) (k, basic, h) = (
    ty.Opt (kind_type k),
    ap (option_map (λ k. ty.Opt (kind_type k))) (head_is ks by k h),
    option_value k (fold (better is_gt) None (map (λ c. value_of params c by) g)) (best_fits is_gt k (map (λ c. value_of params c by) g) None tt (values_fit by k h g fits)),
  )

  -- ---- fields

  abbrev First : Combination
  First = first_of g

  abbrev Columned : List (Name × ColumnAt) → Type 0
  Columned columns = (fs : List (Name × ValueType)) × (all_there (map (column_type ks) columns) ≡ Some fs)
      × FieldsOf own vs (map (λ c. (c.0, column_at First c.1.item c.1.column)) columns) fs

  column_typed : (c : Name × ColumnAt) (columns : List (Name × ColumnAt)) (o : Option ColumnKind) → column_kind ks c.1.item c.1.column ≡ o → is_some o ≡ true
      → AllZip FitKinds First ks.items ⊎ Contains [] c.1 → Columned columns → Columned (c ∷ columns)
  column_typed c columns None e some there rest = cc
  column_typed c columns (Some k) e some (inr none) rest = absurd (none_in c.1 none)
  column_typed c columns (Some k) e some (inl fit) rest =
      let cell = cell_fits (slice_index_or First c.1.item []) (slice_index_or ks.items c.1.item []) c.1.column k (item_fits First ks.items c.1.item fit) e in
      ((c.0, kind_type k) ∷ rest.0, ap₂ both_there (ap (option_map (λ k. (c.0, kind_type k))) e) rest.1, (refl, kind_value own vs (column_at First c.1.item c.1.column) k cell, rest.2))

  columns_typed : (columns : List (Name × ColumnAt)) → AllByRecursion (λ c. IsSome (column_kind ks c.1.item c.1.column)) columns
      → AllZip FitKinds First ks.items ⊎ AllByRecursion (λ c. Contains [] c.1) columns → Columned columns
  columns_typed [] h there = ([], refl, tt)
  columns_typed (c ∷ columns) h (inl fit) = column_typed c columns (column_kind ks c.1.item c.1.column) refl h.0 (inl fit) (columns_typed columns h.1 (inl fit))
  columns_typed (c ∷ columns) h (inr none) = column_typed c columns (column_kind ks c.1.item c.1.column) refl h.0 (inr none.0) (columns_typed columns h.1 (inr none.1))

  abbrev Fielded : Field → Type 0
  Fielded f = (t : Name × ValueType) × (field_type ks f ≡ Some t) × ((field_of params g f).0 ≡ t.0) × V ((field_of params g f).1) t.1

  field_typed : (f : Field) → FieldFits ks f → AllZip FitKinds First ks.items ⊎ FieldReadsOnly [] f → Fielded f
  field_typed (field.Columns name columns) h there =
      let r = columns_typed columns (recursion_from_All (λ (c : Name × ColumnAt). IsSome (column_kind ks c.1.item c.1.column)) columns h) (each there) in
      ((name, record_type r.0), ap (option_map (λ fs. (name, record_type fs))) r.1, refl, to-Row own vs (map (λ c. (c.0, column_at First c.1.item c.1.column)) columns) (record_type r.0) (r.0, refl, r.2))
    where
      each : AllZip FitKinds First ks.items ⊎ All (λ (c : Name × ColumnAt). Contains [] c.1) columns
          → AllZip FitKinds First ks.items ⊎ AllByRecursion (λ (c : Name × ColumnAt). Contains [] c.1) columns
      each (inl fit) = inl fit
      each (inr none) = inr (recursion_from_All (λ (c : Name × ColumnAt). Contains [] c.1) columns none)
  field_typed (field.Single name by) (k, h) there = (
    (name, kind_type k),
    ap (option_map (λ k. (name, kind_type k))) (head_is ks by k h),
    refl,
    kind_value own vs (value_of params First by) k (scalar_fits ks params First params_fit by k h there),
  )
  field_typed (field.Over name a) h there =
      let r = aggregate_typed a h in ((name, r.0), ap (option_map (λ t. (name, t))) r.1, refl, r.2)

  pub fields_typed : (fields : List Field) → AllByRecursion (FieldFits ks) fields → AllZip FitKinds First ks.items ⊎ AllByRecursion (FieldReadsOnly []) fields
      → (fs : List (Name × ValueType)) × (all_there (map (field_type ks) fields) ≡ Some fs) × FieldsOf own vs (map (field_of params g) fields) fs
  fields_typed [] h there = ([], refl, tt)
  fields_typed (f ∷ fields) h (inl fit) = more f fields (field_typed f h.0 (inl fit)) (fields_typed fields h.1 (inl fit))
    where
      more : (f : Field) (fields : List Field) → Fielded f → (fs : List (Name × ValueType)) × (all_there (map (field_type ks) fields) ≡ Some fs) × FieldsOf own vs (map (field_of params g) fields) fs
          → (fs : List (Name × ValueType)) × (all_there (map (field_type ks) (f ∷ fields)) ≡ Some fs) × FieldsOf own vs (map (field_of params g) (f ∷ fields)) fs
      more f fields t rest = (t.0 ∷ rest.0, ap₂ both_there t.1 rest.1, (t.2, t.3, rest.2))
  fields_typed (f ∷ fields) h (inr none) = more f fields (field_typed f h.0 (inr none.0)) (fields_typed fields h.1 (inr none.1))
    where
      more : (f : Field) (fields : List Field) → Fielded f → (fs : List (Name × ValueType)) × (all_there (map (field_type ks) fields) ≡ Some fs) × FieldsOf own vs (map (field_of params g) fields) fs
          → (fs : List (Name × ValueType)) × (all_there (map (field_type ks) (f ∷ fields)) ≡ Some fs) × FieldsOf own vs (map (field_of params g) (f ∷ fields)) fs
      more f fields t rest = (t.0 ∷ rest.0, ap₂ both_there t.1 rest.1, (t.2, t.3, rest.2))
