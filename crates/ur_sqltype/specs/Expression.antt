-- Expressions of SQL: what they stand for, with their types.
use Rattle.std.specs.Prelude.{ℕ, pos, ◌^◌, nat_lt, Bool, true, false, not, ◌&&◌, ◌||◌, if◌then◌else◌, List, Option, Some, None, option_map, option_and_then, slice_get}
use Rattle.std.specs.Str.{is_utf8}
use Rattle.ur_syntax.specs.declared.sql.SqlBinary.{SqlBinary}
use Rattle.ur_syntax.specs.declared.sql.SqlBinary.TheVariants as op
use Rattle.ur_syntax.specs.declared.sql.SqlExp.{SqlExp}
use Rattle.ur_syntax.specs.declared.sql.SqlForm.{SqlForm, end_of-SqlExp as alone, more_of-SqlExp as its}
use Rattle.ur_syntax.specs.declared.sql.SqlForm.TheVariants as form
use Rattle.ur_values.specs.declared.schema.ColumnKind.{ColumnKind}
use Rattle.ur_values.specs.declared.schema.ColumnKind.TheVariants as kind
use Rattle.ur_values.specs.declared.value.Value.TheVariants as value
use Rattle.ur_values.specs.Kinds.{optional, is_ordered}
use Rattle.ur_sql.specs.declared.scalar.Comparison.{Comparison}
use Rattle.ur_sql.specs.declared.scalar.Comparison.TheVariants as compare
use Rattle.ur_sql.specs.declared.scalar.Scalar.{Scalar}
use Rattle.ur_sql.specs.declared.scalar.Scalar.TheVariants as scalar
use Rattle.ur_sqltype.specs.declared.operators.Join.{Join}
use Rattle.ur_sqltype.specs.declared.operators.Join.TheVariants as join
use Rattle.ur_sqltype.specs.declared.operators.Operator.{Operator}
use Rattle.ur_sqltype.specs.declared.operators.Operator.TheVariants as does
use Rattle.ur_sqltype.specs.declared.scope.Within.{Within}
use Rattle.ur_sqltype.specs.Scope.{column_of, column_at}

-- an expression with its type
abbrev pub Kinded : Type 0
Kinded = Scalar × ColumnKind

abbrev pub same_kind : ColumnKind → ColumnKind → Bool
same_kind kind.Int kind.Int = true
same_kind kind.Str kind.Str = true
same_kind kind.Bool kind.Bool = true
same_kind kind.OptInt kind.OptInt = true
same_kind kind.OptStr kind.OptStr = true
same_kind kind.OptBool kind.OptBool = true
same_kind _ _ = false

-- ---- operators

-- equality stands on all types, the order on int and string
abbrev pub may_compare : Comparison → ColumnKind → Bool
may_compare compare.Equal k = true
may_compare compare.Unequal k = true
may_compare c k = is_ordered k

abbrev pub operator_of : SqlBinary → Operator
operator_of op.Or = does.Joins join.Or
operator_of op.And = does.Joins join.And
operator_of op.Eq = does.Compares compare.Equal
operator_of op.Ne = does.Compares compare.Unequal
operator_of op.Lt = does.Compares compare.Less
operator_of op.Le = does.Compares compare.LessEqual
operator_of op.Gt = does.Compares compare.Greater
operator_of op.Ge = does.Compares compare.GreaterEqual
operator_of op.Add = does.Joins join.Add
operator_of op.Sub = does.Joins join.Sub
operator_of op.Mul = does.Joins join.Mul

-- the kind of both sides of an operator that joins them, which is that of the whole
abbrev pub side_kind : Join → ColumnKind
side_kind join.Or = kind.Bool
side_kind join.And = kind.Bool
side_kind join.Add = kind.Int
side_kind join.Sub = kind.Int
side_kind join.Mul = kind.Int

abbrev pub join_of : Join → Scalar → Scalar → Scalar
join_of join.Or = scalar.Or
join_of join.And = scalar.And
join_of join.Add = scalar.Add
join_of join.Sub = scalar.Sub
join_of join.Mul = scalar.Mul

abbrev pub joined : Join → Kinded → Kinded → Option Kinded
joined j x y = if same_kind x.1 (side_kind j) then if same_kind y.1 (side_kind j) then Some (join_of j x.0 y.0, side_kind j) else None else None

-- both sides of a comparison have the type of the left one
abbrev pub compared : Comparison → Kinded → Kinded → Option Kinded
compared c x y = if may_compare c x.1 then if same_kind y.1 x.1 then Some (scalar.Compare c x.0 y.0, kind.Bool) else None else None

abbrev pub operated : Operator → Kinded → Kinded → Option Kinded
operated (does.Joins j) = joined j
operated (does.Compares c) = compared c

abbrev pub on_both : (Kinded → Kinded → Option Kinded) → Option Kinded → Option Kinded → Option Kinded
on_both f x y = option_and_then (λ a. option_and_then (f a) y) x

-- the operand has the wanted type, and so has the whole
abbrev pub one_is : ColumnKind → (Scalar → Scalar) → Kinded → Option Kinded
one_is wanted f x = if same_kind x.1 wanted then Some (f x.0, wanted) else None

-- ---- NULL and options

abbrev pub is_null : SqlForm → Bool
is_null form.Null = true
is_null _ = false

abbrev pub is_optional : ColumnKind → Bool
is_optional kind.OptInt = true
is_optional kind.OptStr = true
is_optional kind.OptBool = true
is_optional _ = false

-- `=` and `<>`, beside which NULL may stand
abbrev pub is_equality : Comparison → Bool
is_equality compare.Equal = true
is_equality compare.Unequal = true
is_equality _ = false

-- an expression and the NULL of its kind, which stands first or last
abbrev pub with_null : Comparison → Bool → Scalar → ColumnKind → Scalar
with_null c true x k = scalar.Compare c (scalar.Null k) x
with_null c false x k = scalar.Compare c x (scalar.Null k)

-- an expression of an optional type is compared with NULL
abbrev pub null_compared : Comparison → Bool → Kinded → Option Kinded
null_compared c first x = if is_optional x.1 then Some (with_null c first x.0 x.1, kind.Bool) else None

-- SOME of an int, a string or a bool
abbrev pub some_scalar : Kinded → Option Kinded
some_scalar x = option_map (λ k. (scalar.Present x.0, k)) (optional x.1)

-- an equation or a disequation: where one side is NULL, the other side gives the type
abbrev pub equated : Comparison → Bool → Bool → Option Kinded → Option Kinded → Option Kinded
equated c true n x y = option_and_then (null_compared c true) y
equated c false true x y = option_and_then (null_compared c false) x
equated c false false x y = on_both (compared c) x y

-- an operator, whether its sides are NULL, and what they stand for
abbrev pub binary : Operator → Bool → Bool → Option Kinded → Option Kinded → Option Kinded
binary (does.Joins j) m n x y = on_both (joined j) x y
binary (does.Compares c) m n x y = if is_equality c then equated c m n x y else on_both (compared c) x y

-- both sides have types of their own
abbrev pub both_typed : Operator → Bool → Bool → Bool
both_typed (does.Joins j) m n = true
both_typed (does.Compares c) m n = not (is_equality c && (m || n))

-- ---- expressions without parts

abbrev pub column_scalar : ℕ × (ℕ × ColumnKind) → Kinded
column_scalar c = (scalar.Column c.0 c.1.0, c.1.1)

abbrev pub bare_scalar : ℕ × ColumnKind → Kinded
bare_scalar c = (scalar.Column 0 c.0, c.1)

-- an int that is a value
abbrev pub int_scalar : ℕ → Option Kinded
int_scalar n = if nat_lt n (2 ^ 63) then Some (scalar.Constant (value.Int (pos n)), kind.Int) else None

-- a string that is a value
abbrev pub text_scalar : List ℕ → Option Kinded
text_scalar s = if is_utf8 s then Some (scalar.Constant (value.Str s), kind.Str) else None

abbrev pub truth_form : Bool → SqlForm
truth_form true = form.True
truth_form false = form.False

-- What an expression stands for, and its type; none where its rule is broken. NULL has a type from what stands beside it alone.
unfoldable pub kinded : Within → SqlForm → Option Kinded
kinded w (form.Int n) = int_scalar n
kinded w (form.Str s) = text_scalar s
kinded w form.True = Some (scalar.Constant (value.Bool true), kind.Bool)
kinded w form.False = Some (scalar.Constant (value.Bool false), kind.Bool)
kinded w form.Null = None
kinded w (form.Qualified q a) = option_map column_scalar (column_at q a w.sources)
kinded w (form.Column a) = option_map bare_scalar (column_of a w.bare)
kinded w (form.Anti n) = option_map (λ k. (scalar.Param n, k)) (slice_get w.antiquotes n)
kinded w (form.Binary' o _ (its p a alone) _ (its q b alone)) = binary (operator_of o) (is_null a) (is_null b) (kinded w a) (kinded w b)
kinded w (form.Not' _ (its p a alone)) = option_and_then (one_is kind.Bool scalar.Not) (kinded w a)
kinded w (form.Negative' _ (its p a alone)) = option_and_then (one_is kind.Int scalar.Neg) (kinded w a)
kinded w (form.IsNull' _ (its p a alone)) = option_and_then (null_compared compare.Equal false) (kinded w a)
kinded w (form.IsNotNull' _ (its p a alone)) = option_and_then (null_compared compare.Unequal false) (kinded w a)
kinded w (form.Some' _ (its p a alone)) = option_and_then some_scalar (kinded w a)

-- ---- values of columns

abbrev pub as_kind : ColumnKind → Kinded → Option Scalar
as_kind k x = if same_kind x.1 k then Some x.0 else None

-- what INSERT and SET may give to a column of this type
abbrev pub valued : ColumnKind → Within → SqlExp → Option Scalar
valued k w e = if is_null e.form then (if is_optional k then Some (scalar.Null k) else None) else option_and_then (as_kind k) (kinded w e.form)
