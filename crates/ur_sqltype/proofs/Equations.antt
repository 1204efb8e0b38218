-- What forms with parts stand for.
use Rattle.std.specs.Prelude.{◌≡◌, false, None, option_and_then}
use Rattle.std.proofs.Common.{refl}
use Rattle.ur_syntax.specs.declared.sql.SqlBinary.{SqlBinary}
use Rattle.ur_syntax.specs.declared.sql.SqlExp.{SqlExp}
use Rattle.ur_syntax.specs.declared.sql.SqlForm.TheVariants as form
use Rattle.ur_syntax.specs.declared.sql.SqlForm.TheBlock as F
use Rattle.ur_values.specs.declared.schema.ColumnKind.TheVariants as kind
use Rattle.ur_sql.specs.declared.scalar.Comparison.TheVariants as compare
use Rattle.ur_sql.specs.declared.scalar.Scalar.TheVariants as scalar
use Rattle.ur_sqltype.specs.declared.scope.Within.{Within}
use Rattle.ur_sqltype.specs.Expression.{kinded, binary, is_null, operator_of, one_is, null_compared, some_scalar}

pub kinded-Binary : (w : Within) (o : SqlBinary) (a b : SqlExp) →
    kinded w (form.Binary o a b) ≡ binary (operator_of o) (is_null a.form) (is_null b.form) (kinded w a.form) (kinded w b.form)
unfolding kinded F.hidden-the_row-SqlExp-0 denote.Hole.Carrier.hidden
kinded-Binary w o a b = refl

pub kinded-Not : (w : Within) (a : SqlExp) → kinded w (form.Not a) ≡ option_and_then (one_is kind.Bool scalar.Not) (kinded w a.form)
unfolding kinded F.hidden-the_row-SqlExp-0 denote.Hole.Carrier.hidden
kinded-Not w a = refl

pub kinded-Negative : (w : Within) (a : SqlExp) → kinded w (form.Negative a) ≡ option_and_then (one_is kind.Int scalar.Neg) (kinded w a.form)
unfolding kinded F.hidden-the_row-SqlExp-0 denote.Hole.Carrier.hidden
kinded-Negative w a = refl

pub kinded-Null : (w : Within) → kinded w form.Null ≡ None
unfolding kinded
kinded-Null w = refl

pub kinded-IsNull : (w : Within) (a : SqlExp) → kinded w (form.IsNull a) ≡ option_and_then (null_compared compare.Equal false) (kinded w a.form)
unfolding kinded F.hidden-the_row-SqlExp-0 denote.Hole.Carrier.hidden
kinded-IsNull w a = refl

pub kinded-IsNotNull : (w : Within) (a : SqlExp) → kinded w (form.IsNotNull a) ≡ option_and_then (null_compared compare.Unequal false) (kinded w a.form)
unfolding kinded F.hidden-the_row-SqlExp-0 denote.Hole.Carrier.hidden
kinded-IsNotNull w a = refl

pub kinded-Some : (w : Within) (a : SqlExp) → kinded w (form.Some a) ≡ option_and_then some_scalar (kinded w a.form)
unfolding kinded F.hidden-the_row-SqlExp-0 denote.Hole.Carrier.hidden
kinded-Some w a = refl
