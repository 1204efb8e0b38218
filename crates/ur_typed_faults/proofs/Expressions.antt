-- An expression that stands for nothing has a fault.
use Rattle.std.proofs.Common.{inl, inr, ◌⊎◌, ◌≡◌, ◌∙◌, refl, ap, subst, Bool, true, false, [], Option, Some, None}
use Rattle.std.specs.Fmt.{decimal}
use Rattle.std.specs.Prelude.{◌^◌, nat_lt, pos, if◌then◌else◌, codes, option_and_then, slice_get}
use Rattle.std.specs.Str.{is_utf8}
use Rattle.ur_base.specs.declared.refusal.Refusal.{Refusal}
use Rattle.ur_base.specs.declared.refusal.Span.{Span}
use Rattle.ur_syntax.specs.Names.{name_text}
use Rattle.ur_syntax.specs.declared.sql.SqlBinary.{SqlBinary}
use Rattle.ur_syntax.specs.declared.sql.SqlExp.{SqlExp}
use Rattle.ur_syntax.specs.declared.sql.SqlForm.{SqlForm, end_of-SqlExp as alone, more_of-SqlExp as its}
use Rattle.ur_syntax.specs.declared.sql.SqlForm.TheVariants as form
use Rattle.ur_syntax.specs.declared.sql.SqlForm.TheBlock as F
use Rattle.ur_values.specs.declared.schema.ColumnKind.{ColumnKind}
use Rattle.ur_values.specs.declared.schema.ColumnKind.TheVariants as kind
use Rattle.ur_values.specs.declared.value.Value.TheVariants as value
use Rattle.ur_values.specs.Kinds.{optional}
use Rattle.ur_sql.specs.declared.scalar.Comparison.{Comparison}
use Rattle.ur_sql.specs.declared.scalar.Comparison.TheVariants as compare
use Rattle.ur_sql.specs.declared.scalar.Scalar.{Scalar}
use Rattle.ur_sql.specs.declared.scalar.Scalar.TheVariants as scalar
use Rattle.ur_sqltype.specs.declared.operators.Operator.{Operator}
use Rattle.ur_sqltype.specs.declared.operators.Operator.TheVariants as does
use Rattle.ur_sqltype.specs.declared.scope.Within.{Within}
use Rattle.ur_sqltype.specs.Scope.{column_of, column_at}
use Rattle.ur_sqltype.specs.Expression.{Kinded, kinded, same_kind, may_compare, side_kind, join_of, operated, operator_of, on_both, one_is, column_scalar, bare_scalar, compared, is_null, is_optional, is_equality, with_null, null_compared, some_scalar, equated, binary, both_typed}
use Rattle.ur_sqltype.proofs.Faultless.{not_same, joins_typed, order_typed, no_null_typed}
use Rattle.ur_sqltype.specs.Faults.{Fault, TellsSql, unknown, misfit, Part, left, right, of_not, of_negative, itself, within, Wants, wants_left, wants_right, wants_other, wants_not, wants_negative, TestsNull, tests_null, tests_not_null, null_first, null_last, of_some, of_test, alone, no_option, no_basic, Breaks, no_column, no_bare, misplaced, no_antiquote, unordered, too_great, no_text, HasFault}
use Rattle.ur_typed_faults.specs.SqlcauseLawsConverse.{NoneExpressionIsFaulty}
use Rattle.ur_typed_faults.proofs.Lacking.{refused, some_none, test_is, map_none_is, above}

abbrev pub IsFaulty : Within → SqlForm → Type 0
IsFaulty w e = (r : Refusal) × HasFault w e r

tell : (f : Fault) → (r : Refusal) × TellsSql r f
tell (unknown x) = (refused 7 refl x [], (refl, refl, refl))
tell (misfit x y) = (refused 12 refl x y, (refl, refl, refl))

here : {w : Within} {e : SqlForm} {f : Fault} → Breaks w e f → IsFaulty w e
here {w} {e} {f} b = let t : (r : Refusal) × TellsSql r f = tell f in (t.0, record { fault = f; place = e; stands = itself; broken = b; told = t.1 })

inside : {w : Within} {d e : SqlForm} → Part d e → IsFaulty w d → IsFaulty w e
inside p f = (f.0, record { fault = f.1.fault; place = f.1.place; stands = within p f.1.stands; broken = f.1.broken; told = f.1.told })

abbrev at : Span → SqlForm → SqlExp
at p a = record { span = p; form = a }

-- ---- the forms with parts, as they are matched

binary_is : (o : SqlBinary) (p q : Span) (a b : SqlForm) → form.Binary o (at p a) (at q b) ≡ form.Binary' o tt (its p a alone) tt (its q b alone)
unfolding F.hidden-the_row-SqlExp-0 denote.Hole.Carrier.hidden
binary_is o p q a b = refl

not_is : (p : Span) (a : SqlForm) → form.Not (at p a) ≡ form.Not' tt (its p a alone)
unfolding F.hidden-the_row-SqlExp-0 denote.Hole.Carrier.hidden
not_is p a = refl

negative_is : (p : Span) (a : SqlForm) → form.Negative (at p a) ≡ form.Negative' tt (its p a alone)
unfolding F.hidden-the_row-SqlExp-0 denote.Hole.Carrier.hidden
negative_is p a = refl

null_is : (p : Span) (a : SqlForm) → form.IsNull (at p a) ≡ form.IsNull' tt (its p a alone)
unfolding F.hidden-the_row-SqlExp-0 denote.Hole.Carrier.hidden
null_is p a = refl

not_null_is : (p : Span) (a : SqlForm) → form.IsNotNull (at p a) ≡ form.IsNotNull' tt (its p a alone)
unfolding F.hidden-the_row-SqlExp-0 denote.Hole.Carrier.hidden
not_null_is p a = refl

some_is : (p : Span) (a : SqlForm) → form.Some (at p a) ≡ form.Some' tt (its p a alone)
unfolding F.hidden-the_row-SqlExp-0 denote.Hole.Carrier.hidden
some_is p a = refl

-- ---- operators

two_tests : {A : Type 0} (b c : Bool) (a : A) → (if b then (if c then Some a else None) else None) ≡ None → (b ≡ false) ⊎ (c ≡ false)
two_tests true true a h = absurd (some_none h)
two_tests true false a h = inr refl
two_tests false c a h = inl refl

-- the sides stand for something, and the whole does not
unoperated : (w : Within) (o : SqlBinary) (a b : SqlExp) (x y : Scalar) (j k : ColumnKind) → kinded w a.form ≡ Some (x, j) → kinded w b.form ≡ Some (y, k) → (f : Operator) → operator_of o ≡ f → operated f (x, j) (y, k) ≡ None → IsFaulty w (form.Binary o a b)
unoperated w o a b x y j k ea eb (does.Joins f) eo h = elim (two_tests (same_kind j (side_kind f)) (same_kind k (side_kind f)) (join_of f x y, side_kind f) h) [
  | inl c ↦ here (misplaced (wants_left o f a b eo) ea (not_same j (side_kind f) c))
  | inr d ↦ here (misplaced (wants_right o f a b eo) eb (not_same k (side_kind f) d))
]
unoperated w o a b x y j k ea eb (does.Compares f) eo h = elim (two_tests (may_compare f j) (same_kind k j) (scalar.Compare f x y, kind.Bool) h) [
  | inl c ↦ here (unordered o f a b x j eo ea c)
  | inr d ↦ here (misplaced (wants_other o f a b x j eo ea) eb (not_same k j d))
]

both_faulty : (w : Within) (o : SqlBinary) (a b : SqlExp) → (kinded w a.form ≡ None → IsFaulty w a.form) → (kinded w b.form ≡ None → IsFaulty w b.form) →
    both_typed (operator_of o) (is_null a.form) (is_null b.form) ≡ true → on_both (operated (operator_of o)) (kinded w a.form) (kinded w b.form) ≡ None →
    IsFaulty w (form.Binary o a b)
both_faulty w o a b ka kb ty h = by (kinded w a.form) (kinded w b.form) refl refl h where
  by : (x y : Option Kinded) → kinded w a.form ≡ x → kinded w b.form ≡ y → on_both (operated (operator_of o)) x y ≡ None → IsFaulty w (form.Binary o a b)
  by None y ea eb g = inside (left o a b ty) (ka ea)
  by (Some x) None ea eb g = inside (right o a b ty) (kb eb)
  by (Some x) (Some y) ea eb g = unoperated w o a b x.0 y.0 x.1 y.1 ea eb (operator_of o) refl g

-- an expression compared with NULL
tested_faulty : (w : Within) (c : Comparison) (first beside : Bool) (e d : SqlForm) → TestsNull c first beside e d → (kinded w d ≡ None → IsFaulty w d) →
    option_and_then (null_compared c first) (kinded w d) ≡ None → IsFaulty w e
tested_faulty w c first beside e d t kd h = by (kinded w d) refl h where
  by : (x : Option Kinded) → kinded w d ≡ x → option_and_then (null_compared c first) x ≡ None → IsFaulty w e
  by None ed g = inside (of_test t) (kd ed)
  by (Some x) ed g = here (no_option t ed (test_is (is_optional x.1) (with_null c first x.0 x.1, kind.Bool) g))

some_faulty : (w : Within) (a : SqlExp) → (kinded w a.form ≡ None → IsFaulty w a.form) → option_and_then some_scalar (kinded w a.form) ≡ None →
    IsFaulty w (form.Some a)
some_faulty w a ka h = by (kinded w a.form) refl h where
  by : (x : Option Kinded) → kinded w a.form ≡ x → option_and_then some_scalar x ≡ None → IsFaulty w (form.Some a)
  by None ea g = inside (of_some a) (ka ea)
  by (Some x) ea g = here (no_basic a ea (map_none_is (λ k. (scalar.Present x.0, k)) (optional x.1) g))

-- an operator between two sides, either of which may be NULL
binary_faulty : (w : Within) (o : SqlBinary) (a b : SqlExp) → (kinded w a.form ≡ None → IsFaulty w a.form) → (kinded w b.form ≡ None → IsFaulty w b.form)
    → binary (operator_of o) (is_null a.form) (is_null b.form) (kinded w a.form) (kinded w b.form) ≡ None → IsFaulty w (form.Binary o a b)
binary_faulty w o a b ka kb h = by (operator_of o) refl h where
  joins : (c : Comparison) (m n : Bool) → is_null a.form ≡ m → is_null b.form ≡ n → operator_of o ≡ does.Compares c → is_equality c ≡ true →
      equated c m n (kinded w a.form) (kinded w b.form) ≡ None → IsFaulty w (form.Binary o a b)
  joins c true n em en eo q g = tested_faulty w c true true (form.Binary o a b) b.form (null_first o c a b eo q em) kb g
  joins c false true em en eo q g = tested_faulty w c false true (form.Binary o a b) a.form (null_last o c a b eo q em en) ka g
  joins c false false em en eo q g =
      both_faulty w o a b ka kb (ap (λ z. both_typed z (is_null a.form) (is_null b.form)) eo ∙ no_null_typed c (is_null a.form) (is_null b.form) em en)
      (ap (λ z. on_both (operated z) (kinded w a.form) (kinded w b.form)) eo ∙ g)

  compares : (c : Comparison) (q : Bool) → operator_of o ≡ does.Compares c → is_equality c ≡ q →
      (if q then equated c (is_null a.form) (is_null b.form) (kinded w a.form) (kinded w b.form) else on_both (compared c) (kinded w a.form) (kinded w b.form)) ≡ None → IsFaulty w (form.Binary o a b)
  compares c true eo q g = joins c (is_null a.form) (is_null b.form) refl refl eo q g
  compares c false eo q g =
      both_faulty w o a b ka kb (ap (λ z. both_typed z (is_null a.form) (is_null b.form)) eo ∙ order_typed c (is_null a.form) (is_null b.form) q)
      (ap (λ z. on_both (operated z) (kinded w a.form) (kinded w b.form)) eo ∙ g)

  by : (f : Operator) → operator_of o ≡ f → binary f (is_null a.form) (is_null b.form) (kinded w a.form) (kinded w b.form) ≡ None →
      IsFaulty w (form.Binary o a b)
  by (does.Joins j) eo g =
      both_faulty w o a b ka kb (joins_typed (operator_of o) j (is_null a.form) (is_null b.form) eo)
      (ap (λ z. on_both (operated z) (kinded w a.form) (kinded w b.form)) eo ∙ g)
  by (does.Compares c) eo g = compares c (is_equality c) eo refl g

one_faulty : (w : Within) (e : SqlForm) (a : SqlExp) (k : ColumnKind) (f : Scalar → Scalar) → Part a.form e → Wants w e a.form k → (kinded w a.form ≡ None → IsFaulty w a.form) → option_and_then (one_is k f) (kinded w a.form) ≡ None → IsFaulty w e
one_faulty w e a k f p q ka h = by (kinded w a.form) refl h where
  by : (x : Option Kinded) → kinded w a.form ≡ x → option_and_then (one_is k f) x ≡ None → IsFaulty w e
  by None ea g = inside p (ka ea)
  by (Some x) ea g = here (misplaced q ea (not_same x.1 k (test_is (same_kind x.1 k) (f x.0, k) g)))

-- ---- expressions

pub expression_faulty : NoneExpressionIsFaulty
unfolding kinded
expression_faulty w (form.Int n) h = here {f = misfit (decimal n) (codes "int")} (too_great (above n (test_is (nat_lt n (2 ^ 63)) (scalar.Constant (value.Int (pos n)), kind.Int) h)))
expression_faulty w (form.Str s) h = here (no_text (test_is (is_utf8 s) (scalar.Constant (value.Str s), kind.Str) h))
expression_faulty w form.True h = absurd (some_none h)
expression_faulty w form.False h = absurd (some_none h)
expression_faulty w form.Null h = here alone
expression_faulty w (form.Qualified q a) h = here {f = unknown (name_text (Some q) a)} (no_column (map_none_is column_scalar (column_at q a w.sources) h))
expression_faulty w (form.Column a) h = here {f = unknown a} (no_bare (map_none_is bare_scalar (column_of a w.bare) h))
expression_faulty w (form.Anti n) h = here (no_antiquote (map_none_is (λ k. (scalar.Param n, k)) (slice_get w.antiquotes n) h))
expression_faulty w (form.Binary' o _ (its p a alone) _ (its q b alone)) h =
    subst (IsFaulty w) (binary_is o p q a b) (binary_faulty w o (at p a) (at q b) (expression_faulty w a) (expression_faulty w b) h)
expression_faulty w (form.Not' _ (its p a alone)) h = subst (IsFaulty w) (not_is p a) (one_faulty w (form.Not (at p a)) (at p a) kind.Bool scalar.Not (of_not (at p a)) (wants_not (at p a)) (expression_faulty w a) h)
expression_faulty w (form.Negative' _ (its p a alone)) h = subst (IsFaulty w) (negative_is p a) (one_faulty w (form.Negative (at p a)) (at p a) kind.Int scalar.Neg (of_negative (at p a)) (wants_negative (at p a)) (expression_faulty w a) h)
expression_faulty w (form.IsNull' _ (its p a alone)) h =
    subst (IsFaulty w) (null_is p a) (tested_faulty w compare.Equal false false (form.IsNull (at p a)) a (tests_null (at p a)) (expression_faulty w a) h)
expression_faulty w (form.IsNotNull' _ (its p a alone)) h =
    subst (IsFaulty w) (not_null_is p a) (tested_faulty w compare.Unequal false false (form.IsNotNull (at p a)) a (tests_not_null (at p a))
    (expression_faulty w a) h)
expression_faulty w (form.Some' _ (its p a alone)) h = subst (IsFaulty w) (some_is p a) (some_faulty w (at p a) (expression_faulty w a) h)
