-- What an expression of SQL without a type breaks, and where.
use Rattle.std.specs.Fmt.{decimal}
use Rattle.std.specs.Prelude.{◌≡◌, ◌≢◌, ◌≤◌, ◌^◌, ℕ, List, [], codes, Some, None, Bool, true, false, slice_get}
use Rattle.std.specs.Str.{is_utf8}
use Rattle.ur_base.specs.Stopping.{Says}
use Rattle.ur_base.specs.declared.refusal.Refusal.{Refusal}
use Rattle.ur_syntax.specs.Names.{name_text}
use Rattle.ur_syntax.specs.declared.sql.SqlBinary.{SqlBinary}
use Rattle.ur_syntax.specs.declared.sql.SqlExp.{SqlExp}
use Rattle.ur_syntax.specs.declared.sql.SqlForm.{SqlForm}
use Rattle.ur_syntax.specs.declared.sql.SqlForm.TheVariants as form
use Rattle.ur_values.specs.declared.schema.ColumnKind.{ColumnKind}
use Rattle.ur_values.specs.declared.schema.ColumnKind.TheVariants as kind
use Rattle.ur_values.specs.Kinds.{optional}
use Rattle.ur_sql.specs.declared.scalar.Scalar.{Scalar}
use Rattle.ur_sql.specs.declared.scalar.Comparison.{Comparison}
use Rattle.ur_sql.specs.declared.scalar.Comparison.TheVariants as compare
use Rattle.ur_sqltype.specs.declared.operators.Join.{Join}
use Rattle.ur_sqltype.specs.declared.operators.Operator.TheVariants as does
use Rattle.ur_sqltype.specs.declared.scope.Within.{Within}
use Rattle.ur_sqltype.specs.Scope.{column_of, column_at}
use Rattle.ur_sqltype.specs.Expression.{kinded, may_compare, operator_of, side_kind, is_null, is_optional, is_equality, both_typed}

-- a name that nothing in scope has, or what was found where another thing is wanted
pub data Fault : Type 0 where
  unknown : List ℕ → Fault
  misfit : List ℕ → List ℕ → Fault

abbrev pub TellsSql : Refusal → Fault → Type 0
TellsSql r (unknown x) = Says r 7 x []
TellsSql r (misfit left right) = Says r 12 left right

abbrev pub kind_text : ColumnKind → List ℕ
kind_text kind.Int = codes "int"
kind_text kind.Str = codes "string"
kind_text kind.Bool = codes "bool"
kind_text kind.OptInt = codes "option (int)"
kind_text kind.OptStr = codes "option (string)"
kind_text kind.OptBool = codes "option (bool)"

abbrev pub three_kinds : List ℕ
three_kinds = codes "int, string or bool"

abbrev pub six_kinds : List ℕ
six_kinds = codes "int, string, bool or an option of these"

abbrev pub two_kinds : List ℕ
two_kinds = codes "int or string"

-- an expression is compared with NULL, which stands first or last, and is written beside it or not
pub data TestsNull : Comparison → Bool → Bool → SqlForm → SqlForm → Type 0 where
  tests_null : (a : SqlExp) → TestsNull compare.Equal false false (form.IsNull a) a.form
  tests_not_null : (a : SqlExp) → TestsNull compare.Unequal false false (form.IsNotNull a) a.form
  null_first : (o : SqlBinary) (c : Comparison) (a b : SqlExp) → operator_of o ≡ does.Compares c → is_equality c ≡ true → is_null a.form ≡ true →
      TestsNull c true true (form.Binary o a b) b.form
  null_last : (o : SqlBinary) (c : Comparison) (a b : SqlExp) → operator_of o ≡ does.Compares c → is_equality c ≡ true → is_null a.form ≡ false →
      is_null b.form ≡ true → TestsNull c false true (form.Binary o a b) a.form

-- the first is a part of the second, with a type of its own
pub data Part : SqlForm → SqlForm → Type 0 where
  left : (o : SqlBinary) (a b : SqlExp) → both_typed (operator_of o) (is_null a.form) (is_null b.form) ≡ true → Part a.form (form.Binary o a b)
  right : (o : SqlBinary) (a b : SqlExp) → both_typed (operator_of o) (is_null a.form) (is_null b.form) ≡ true → Part b.form (form.Binary o a b)
  of_not : (a : SqlExp) → Part a.form (form.Not a)
  of_negative : (a : SqlExp) → Part a.form (form.Negative a)
  of_some : (a : SqlExp) → Part a.form (form.Some a)
  of_test : {c : Comparison} {first beside : Bool} {d e : SqlForm} → TestsNull c first beside e d → Part d e

pub data StandsIn : SqlForm → SqlForm → Type 0 where
  itself : {e : SqlForm} → StandsIn e e
  within : {d e f : SqlForm} → Part e f → StandsIn d e → StandsIn d f

-- in an expression a part stands where this kind is wanted
pub data Wants (w : Within) : SqlForm → SqlForm → ColumnKind → Type 0 where
  wants_left : (o : SqlBinary) (j : Join) (a b : SqlExp) → operator_of o ≡ does.Joins j → Wants w (form.Binary o a b) a.form (side_kind j)
  wants_right : (o : SqlBinary) (j : Join) (a b : SqlExp) → operator_of o ≡ does.Joins j → Wants w (form.Binary o a b) b.form (side_kind j)
  -- the right side of a comparison is as the left one
  wants_other : (o : SqlBinary) (c : Comparison) (a b : SqlExp) (x : Scalar) (k : ColumnKind) → operator_of o ≡ does.Compares c → kinded w a.form ≡ Some (x, k) → Wants w (form.Binary o a b) b.form k
  wants_not : (a : SqlExp) → Wants w (form.Not a) a.form kind.Bool
  wants_negative : (a : SqlExp) → Wants w (form.Negative a) a.form kind.Int

-- NULL beside what is no option, and an expression that IS NULL and IS NOT NULL do not stand on
abbrev pub null_misfit : Bool → ColumnKind → Fault
null_misfit true k = misfit (codes "NULL") (kind_text k)
null_misfit false k = misfit (kind_text k) (codes "an option")

-- the expression itself breaks its rule
pub data Breaks (w : Within) : SqlForm → Fault → Type 0 where
  no_column : {q a : List ℕ} → column_at q a w.sources ≡ None → Breaks w (form.Qualified q a) (unknown (name_text (Some q) a))
  no_bare : {a : List ℕ} → column_of a w.bare ≡ None → Breaks w (form.Column a) (unknown a)
  misplaced : {e d : SqlForm} {x : Scalar} {found wanted : ColumnKind} → Wants w e d wanted → kinded w d ≡ Some (x, found) → found ≢ wanted → Breaks w e (misfit (kind_text found) (kind_text wanted))
  no_antiquote : {n : ℕ} → slice_get w.antiquotes n ≡ None → Breaks w (form.Anti n) (misfit (codes "no antiquote") six_kinds)
  -- the order stands on int and string
  unordered : (o : SqlBinary) (c : Comparison) (a b : SqlExp) (x : Scalar) (k : ColumnKind) → operator_of o ≡ does.Compares c → kinded w a.form ≡ Some (x, k) → may_compare c k ≡ false →
      Breaks w (form.Binary o a b) (misfit (kind_text k) two_kinds)
  too_great : {n : ℕ} → 2 ^ 63 ≤ n → Breaks w (form.Int n) (misfit (decimal n) (codes "int"))
  no_text : {s : List ℕ} → is_utf8 s ≡ false → Breaks w (form.Str s) (misfit (codes "bytes") (codes "string"))
  -- nothing beside NULL has a type for it
  alone : Breaks w form.Null (misfit (codes "NULL") (codes "annotation"))
  no_option : {c : Comparison} {first beside : Bool} {e d : SqlForm} {x : Scalar} {k : ColumnKind} → TestsNull c first beside e d →
      kinded w d ≡ Some (x, k) → is_optional k ≡ false → Breaks w e (null_misfit beside k)
  -- SOME stands on int, string and bool
  no_basic : (a : SqlExp) {x : Scalar} {k : ColumnKind} → kinded w a.form ≡ Some (x, k) → optional k ≡ None →
      Breaks w (form.Some a) (misfit (kind_text k) three_kinds)

-- a fault that stands in an expression, as it is told
pub record HasFault (w : Within) (e : SqlForm) (r : Refusal) : Type 0 where
  pub fault : Fault
  pub place : SqlForm
  pub stands : StandsIn place e
  pub broken : Breaks w place fault
  pub told : TellsSql r fault

-- an expression is not of the kind that is wanted of it, as it is told
pub data Misfits (w : Within) : SqlForm → ColumnKind → Refusal → Type 0 where
  faulty : {e : SqlForm} {wanted : ColumnKind} {r : Refusal} → HasFault w e r → Misfits w e wanted r
  other_kind : {e : SqlForm} {x : Scalar} {found wanted : ColumnKind} {r : Refusal} → kinded w e ≡ Some (x, found) → found ≢ wanted → TellsSql r (misfit (kind_text found) (kind_text wanted)) → Misfits w e wanted r

-- what INSERT or SET gives is no value of the column, as it is told
pub data MisfitsColumn (w : Within) : SqlForm → ColumnKind → Refusal → Type 0 where
  null_given : {e : SqlForm} {k : ColumnKind} {r : Refusal} → is_null e ≡ true → is_optional k ≡ false → TellsSql r (misfit (codes "NULL") (kind_text k)) →
      MisfitsColumn w e k r
  value_given : {e : SqlForm} {k : ColumnKind} {r : Refusal} → is_null e ≡ false → Misfits w e k r → MisfitsColumn w e k r

-- what has a fault stands for nothing
abbrev pub FaultyIsNone : Type 0
FaultyIsNone = (w : Within) (e : SqlForm) (r : Refusal) → HasFault w e r → kinded w e ≡ None
