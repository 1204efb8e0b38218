-- Values of expressions that read no column.
use Rattle.std.proofs.Common.{◌≡◌, ◌⊎◌, inl, inr, pos, true, not, ◌&&◌, ◌||◌, List, [], ◌∷◌, Contains, refl, sym, ap, ap₂, subst, arith}
use Rattle.std.specs.Prelude.{map, IsAscii}
use Rattle.std.specs.List.{AllZip}
use Rattle.std.specs.Int.{w64, int_wrapping_add, int_wrapping_sub, int_wrapping_mul}
use Rattle.std.proofs.lemmas.Int.{ints}
use Rattle.std.proofs.lemmas.Str.{IsUtf8-from_ascii}
use Rattle.ur_values.specs.declared.value.Value.{Value}
use Rattle.ur_values.specs.declared.value.Value.TheVariants as v
use Rattle.ur_values.specs.declared.schema.ColumnKind.{ColumnKind}
use Rattle.ur_values.specs.declared.schema.ColumnKind.TheVariants as kind
use Rattle.ur_values.specs.Order.{value_cmp}
use Rattle.ur_values.specs.Values.{IsInt}
use Rattle.ur_values.specs.Store.{Row, FitsKind, FitKinds}
use Rattle.ur_sql.specs.declared.scalar.Scalar.{Scalar, more_of-Scalar as one, end_of-Scalar as end}
use Rattle.ur_sql.specs.declared.scalar.Scalar.TheVariants as s
use Rattle.ur_sql.specs.Scalar.{value_of, on_ints, int_neg, is_true, compares, presented}
use Rattle.ur_sql.specs.Typing.{Kinds, HasKind, ReadsOnly}
use Rattle.ur_sql.proofs.Typed.{value_fits}

pub none_in : {A : Type 0} (x : A) → Contains [] x → ⊥
none_in x (k, lt, e) = omega (arith, lt)

module _ (params : List Value) (rows others : List Row) where
  -- an expression that reads no column has one value
  pub same_value : (e : Scalar) → ReadsOnly [] e → value_of params rows e ≡ value_of params others e
  unfolding value_of
  same_value (s.Constant x) h = refl
  same_value (s.Column i c) h = absurd (none_in _ h)
  same_value (s.Param n) h = refl
  same_value (s.Or' _ (one a end) _ (one b end)) h = ap₂ (λ x y. v.Bool (is_true x || is_true y)) (same_value a (h.0)) (same_value b (h.1))
  same_value (s.And' _ (one a end) _ (one b end)) h = ap₂ (λ x y. v.Bool (is_true x && is_true y)) (same_value a (h.0)) (same_value b (h.1))
  same_value (s.Not' _ (one a end)) h = ap (λ x. v.Bool (not (is_true x))) (same_value a h)
  same_value (s.Compare' c _ (one a end) _ (one b end)) h = ap₂ (λ x y. v.Bool (compares c (value_cmp x y))) (same_value a (h.0)) (same_value b (h.1))
  same_value (s.Add' _ (one a end) _ (one b end)) h = ap₂ (on_ints (int_wrapping_add w64)) (same_value a (h.0)) (same_value b (h.1))
  same_value (s.Sub' _ (one a end) _ (one b end)) h = ap₂ (on_ints (int_wrapping_sub w64)) (same_value a (h.0)) (same_value b (h.1))
  same_value (s.Mul' _ (one a end) _ (one b end)) h = ap₂ (on_ints (int_wrapping_mul w64)) (same_value a (h.0)) (same_value b (h.1))
  same_value (s.Neg' _ (one a end)) h = ap int_neg (same_value a h)
  same_value (s.Null k) h = refl
  same_value (s.Present' _ (one a end)) h = ap presented (same_value a h)

-- ---- a combination of rows of any kinds

abbrev some_value : ColumnKind → Value
some_value kind.Int = v.Int (pos 0)
some_value kind.Str = v.Str []
some_value kind.Bool = v.Bool true
some_value kind.OptInt = v.Absent
some_value kind.OptStr = v.Absent
some_value kind.OptBool = v.Absent

empty_ascii : IsAscii []
empty_ascii = λ i. omega arith

zero_int : IsInt (pos 0)
zero_int = (omega (arith, ints), omega (arith, ints))

some_value_fits : (k : ColumnKind) → FitsKind (some_value k) k
some_value_fits kind.Int = zero_int
some_value_fits kind.Str = IsUtf8-from_ascii [] empty_ascii
some_value_fits kind.Bool = tt
some_value_fits kind.OptInt = tt
some_value_fits kind.OptStr = tt
some_value_fits kind.OptBool = tt

some_row_fits : (ks : List ColumnKind) → FitKinds (map some_value ks) ks
some_row_fits [] = tt
some_row_fits (k ∷ ks) = (some_value_fits k, some_row_fits ks)

abbrev some_rows : List (List ColumnKind) → List Row
some_rows items = map (map some_value) items

some_rows_fit : (items : List (List ColumnKind)) → AllZip FitKinds (some_rows items) items
some_rows_fit [] = tt
some_rows_fit (ks ∷ items) = (some_row_fits ks, some_rows_fit items)

-- the value of an expression has its kind where the rows have theirs or are not read
pub scalar_fits : (ks : Kinds) (params : List Value) (rows : List Row) → FitKinds params ks.params → (e : Scalar) (k : ColumnKind) → HasKind ks e k
    → AllZip FitKinds rows ks.items ⊎ ReadsOnly [] e → FitsKind (value_of params rows e) k
scalar_fits ks params rows params_fit e k h (inl fit) = value_fits ks params rows params_fit fit e k h
scalar_fits ks params rows params_fit e k h (inr reads) =
    subst (λ x. FitsKind x k) (sym (same_value params rows (some_rows ks.items) e reads))
    (value_fits ks params (some_rows ks.items) params_fit (some_rows_fit ks.items) e k h)
