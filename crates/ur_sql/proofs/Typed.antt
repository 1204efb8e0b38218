-- The value of a typed expression has its kind.
use Rattle.std.proofs.Common.{◌≡◌, ℕ, zero, suc, ℤ, ◌+ℤ◌, ◌-ℤ◌, ◌*ℤ◌, neg_ℤ, FitsSigned, arith, Bool, not, ◌&&◌, ◌||◌, List, [], ◌∷◌, refl, sym, ap, subst, length, get_or, slice_get, Some}
use Rattle.std.specs.List.{AllZip}
use Rattle.std.specs.Int.{w64, int_wrap, int_wrapping_add, int_wrapping_sub, int_wrapping_mul}
use Rattle.std.proofs.lemmas.Int.{ints, SFits-int_wrap, wrapping_add_is, wrapping_sub_is, wrapping_mul_is, wrapping_neg_is}
use Rattle.ur_values.specs.declared.value.Value.{Value}
use Rattle.ur_values.specs.declared.value.Value.TheVariants as v
use Rattle.ur_values.specs.declared.schema.ColumnKind.{ColumnKind}
use Rattle.ur_values.specs.declared.schema.ColumnKind.TheVariants as kind
use Rattle.ur_values.specs.Values.{IsInt}
use Rattle.ur_values.specs.Order.{value_cmp}
use Rattle.ur_values.specs.Kinds.{inside}
use Rattle.ur_values.specs.Store.{Row, FitsBasic, FitsKind, FitKinds}
use Rattle.ur_sql.specs.declared.scalar.Scalar.{Scalar, more_of-Scalar as one, end_of-Scalar as end}
use Rattle.ur_sql.specs.declared.scalar.Scalar.TheVariants as s
use Rattle.ur_values.proofs.Fitting.{basic_fits, absent_fits, present_fits}
use Rattle.ur_sql.specs.Scalar.{value_of, on_ints, int_neg, presented, is_true, compares}
use Rattle.ur_sql.specs.Typing.{Kinds, HasKind}

pub item_fits : (rows : List Row) (items : List (List ColumnKind)) (i : ℕ) → AllZip FitKinds rows items → FitKinds (get_or rows i []) (get_or items i [])
item_fits [] [] i fit = tt
item_fits [] (k ∷ ks) i fit = absurd fit
item_fits (r ∷ rs) [] i fit = absurd fit
item_fits (r ∷ rs) (k ∷ ks) zero fit = fit.0
item_fits (r ∷ rs) (k ∷ ks) (suc i) fit = item_fits rs ks i (fit.1)

-- a row has as many values as its kinds
pub fit_length : (row : List Value) (kinds : List ColumnKind) → FitKinds row kinds → length row ≡ length kinds
fit_length [] [] fit = refl
fit_length [] (k ∷ ks) fit = absurd fit
fit_length (x ∷ xs) [] fit = absurd fit
fit_length (x ∷ xs) (k ∷ ks) fit = ap suc (fit_length xs ks (fit.1))

pub cell_fits : (row : Row) (kinds : List ColumnKind) (c : ℕ) (k : ColumnKind) → FitKinds row kinds → slice_get kinds c ≡ Some k → FitsKind (get_or row c v.Absent) k
cell_fits [] [] c k fit e = cc
cell_fits [] (j ∷ js) c k fit e = absurd fit
cell_fits (x ∷ xs) [] c k fit e = absurd fit
cell_fits (x ∷ xs) (j ∷ js) zero k fit e = let same : j ≡ k = cc in subst (FitsKind x) same (fit.0)
cell_fits (x ∷ xs) (j ∷ js) (suc c) k fit e = cell_fits xs js c k (fit.1) e

-- an int is what fits 64 bits
int_from : (z : ℤ) → FitsSigned w64 z → IsInt z
int_from z f = (omega (arith, ints), omega (arith, ints))

from_int : (z : ℤ) → IsInt z → FitsSigned w64 z
from_int z f = omega (arith, ints)

-- what wraps is an int
wrapped : (z : ℤ) → IsInt (int_wrap w64 z)
wrapped z = int_from (int_wrap w64 z) (SFits-int_wrap w64 z)

ints_fit : (f : ℤ → ℤ → ℤ) → ((m n : ℤ) → IsInt m → IsInt n → IsInt (f m n)) → (x y : Value) (k : ColumnKind) → k ≡ kind.Int → FitsKind x kind.Int → FitsKind y kind.Int → FitsKind (on_ints f x y) k
ints_fit f keeps (v.Int m) (v.Int n) k e a b = subst (FitsKind (v.Int (f m n))) (sym e) (keeps m n a b)
ints_fit f keeps (v.Int m) _ k e a b = absurd b
ints_fit f keeps _ _ k e a b = absurd a

sum_fits : (m n : ℤ) → IsInt m → IsInt n → IsInt (int_wrapping_add w64 m n)
sum_fits m n a b = subst IsInt (sym (wrapping_add_is w64 m n (from_int m a) (from_int n b))) (wrapped (m +ℤ n))

difference_fits : (m n : ℤ) → IsInt m → IsInt n → IsInt (int_wrapping_sub w64 m n)
difference_fits m n a b = subst IsInt (sym (wrapping_sub_is w64 m n (from_int m a) (from_int n b))) (wrapped (m -ℤ n))

product_fits : (m n : ℤ) → IsInt m → IsInt n → IsInt (int_wrapping_mul w64 m n)
product_fits m n a b = subst IsInt (sym (wrapping_mul_is w64 m n (from_int m a) (from_int n b))) (wrapped (m *ℤ n))

neg_fits : (x : Value) (k : ColumnKind) → k ≡ kind.Int → FitsKind x kind.Int → FitsKind (int_neg x) k
neg_fits (v.Int m) k e a = subst (FitsKind (int_neg (v.Int m))) (sym e) (subst IsInt (sym (wrapping_neg_is w64 m (from_int m a))) (wrapped (neg_ℤ m)))
neg_fits _ k e a = absurd a

bool_fits : (b : Bool) (k : ColumnKind) → k ≡ kind.Bool → FitsKind (v.Bool b) k
bool_fits b k e = subst (FitsKind (v.Bool b)) (sym e) tt

-- SOME of what has the kind inside an optional one is Present of it
basic_presented : (x : Value) (j : ColumnKind) → FitsBasic x j → presented x ≡ v.Present x
basic_presented (v.Int n) kind.Int f = refl
basic_presented (v.Str t) kind.Str f = refl
basic_presented (v.Bool b) kind.Bool f = refl
basic_presented _ _ f = absurd f

pub presented_is : (x : Value) (j k : ColumnKind) → inside k ≡ Some j → FitsKind x j → presented x ≡ v.Present x
presented_is x j kind.Int e f = cc
presented_is x j kind.Str e f = cc
presented_is x j kind.Bool e f = cc
presented_is x j kind.OptInt e f = let same : j ≡ kind.Int = cc in basic_presented x kind.Int (subst (FitsKind x) same f)
presented_is x j kind.OptStr e f = let same : j ≡ kind.Str = cc in basic_presented x kind.Str (subst (FitsKind x) same f)
presented_is x j kind.OptBool e f = let same : j ≡ kind.Bool = cc in basic_presented x kind.Bool (subst (FitsKind x) same f)

-- a bool is what it tests as
pub bool_is : (x : Value) (b : Bool) → FitsKind x kind.Bool → is_true x ≡ b → x ≡ v.Bool b
bool_is (v.Bool a) b f e = ap v.Bool e
bool_is _ b f e = absurd f

module _ (ks : Kinds) (params : List Value) (rows : List Row) (params_fit : FitKinds params ks.params) (rows_fit : AllZip FitKinds rows ks.items) where
  pub value_fits : (e : Scalar) (k : ColumnKind) → HasKind ks e k → FitsKind (value_of params rows e) k
  unfolding value_of
  value_fits (s.Constant x) k h = basic_fits x k h
  value_fits (s.Column i c) k h = cell_fits (get_or rows i []) (get_or ks.items i []) c k (item_fits rows ks.items i rows_fit) h
  value_fits (s.Param n) k h = cell_fits params ks.params n k params_fit h
  value_fits (s.Or' _ (one a end) _ (one b end)) k h = bool_fits (is_true (value_of params rows a) || is_true (value_of params rows b)) k (h.0)
  value_fits (s.And' _ (one a end) _ (one b end)) k h = bool_fits (is_true (value_of params rows a) && is_true (value_of params rows b)) k (h.0)
  value_fits (s.Not' _ (one a end)) k h = bool_fits (not (is_true (value_of params rows a))) k (h.0)
  value_fits (s.Compare' c _ (one a end) _ (one b end)) k h = bool_fits (compares c (value_cmp (value_of params rows a) (value_of params rows b))) k (h.0)
  value_fits (s.Add' _ (one a end) _ (one b end)) k h = ints_fit (int_wrapping_add w64) sum_fits (value_of params rows a) (value_of params rows b) k (h.0) (value_fits a kind.Int (h.1)) (value_fits b kind.Int (h.2))
  value_fits (s.Sub' _ (one a end) _ (one b end)) k h = ints_fit (int_wrapping_sub w64) difference_fits (value_of params rows a) (value_of params rows b) k (h.0) (value_fits a kind.Int (h.1)) (value_fits b kind.Int (h.2))
  value_fits (s.Mul' _ (one a end) _ (one b end)) k h = ints_fit (int_wrapping_mul w64) product_fits (value_of params rows a) (value_of params rows b) k (h.0) (value_fits a kind.Int (h.1)) (value_fits b kind.Int (h.2))
  value_fits (s.Neg' _ (one a end)) k h = neg_fits (value_of params rows a) k (h.0) (value_fits a kind.Int (h.1))
  value_fits (s.Null j) k h = subst (FitsKind v.Absent) (sym (h.0)) (absent_fits j (h.1))
  value_fits (s.Present' _ (one a end)) k h =
      subst (λ x. FitsKind x k) (sym (presented_is (value_of params rows a) (h.0) k (h.1) (value_fits a (h.0) (h.2))))
      (present_fits (value_of params rows a) (h.0) k (h.1) (value_fits a (h.0) (h.2)))
