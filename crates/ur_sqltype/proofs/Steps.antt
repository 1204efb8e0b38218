-- The steps of the walk over expressions.
use Rattle.std.proofs.Common.{◌≡◌, ◌∙◌, refl, sym, ap, subst, Bool, true, false, ℕ, List, Option, Some, None, Result, Ok, Err, IfOk}
use Rattle.std.proofs.lemmas.Str.{is_utf8-from_IsUtf8, IsUtf8-from_is_utf8}
use Rattle.std.specs.Prelude.{IsUtf8, codes, if◌then◌else◌, option_and_then, option_map}
use Rattle.std.specs.Result.{IsErrAnd}
use Rattle.std.specs.Str.{is_utf8}
use Rattle.ur_base.specs.Stopping.{IfRefused}
use Rattle.ur_base.specs.declared.refusal.Refusal.{Refusal}
use Rattle.ur_base.specs.declared.refusal.Stop.{Stop}
use Rattle.ur_base.specs.declared.refusal.Stop.TheVariants as stop
use Rattle.ur_syntax.specs.declared.sql.SqlBinary.{SqlBinary}
use Rattle.ur_syntax.specs.declared.sql.SqlExp.{SqlExp}
use Rattle.ur_syntax.specs.declared.sql.SqlForm.{SqlForm}
use Rattle.ur_syntax.specs.declared.sql.SqlForm.TheVariants as form
use Rattle.ur_values.specs.declared.schema.ColumnKind.{ColumnKind}
use Rattle.ur_values.specs.declared.schema.ColumnKind.TheVariants as kind
use Rattle.ur_values.specs.declared.value.Value.TheVariants as value
use Rattle.ur_sql.specs.declared.scalar.Scalar.{Scalar}
use Rattle.ur_sql.specs.declared.scalar.Scalar.TheVariants as scalar
use Rattle.ur_sql.specs.declared.scalar.Comparison.{Comparison}
use Rattle.ur_sql.specs.declared.scalar.Comparison.TheVariants as compare
use Rattle.ur_sqltype.specs.declared.operators.Join.{Join}
use Rattle.ur_sqltype.specs.declared.operators.Operator.TheVariants as does
use Rattle.ur_sqltype.specs.declared.scope.Within.{Within}
use Rattle.ur_values.specs.Kinds.{optional}
use Rattle.ur_sqltype.specs.Expression.{Kinded, kinded, may_compare, side_kind, operator_of, one_is, truth_form, is_null, is_optional, both_typed, some_scalar, null_compared, with_null, valued, as_kind, same_kind}
use Rattle.ur_sqltype.specs.Faults.{Fault, TellsSql, misfit, kind_text, two_kinds, Part, left, right, itself, within, Wants, wants_left, wants_right, wants_other, Breaks, misplaced, unordered, HasFault, Misfits, faulty, other_kind, three_kinds, null_misfit, TestsNull, tests_null, tests_not_null, of_some, of_test, alone, no_option, no_basic}
use Rattle.ur_sqltype.proofs.Equations.{kinded-Not, kinded-Negative, kinded-Some, kinded-IsNull, kinded-IsNotNull}
use Rattle.ur_sqltype.proofs.Faultless.{joins_typed}

-- ---- answers

pub refused-exit : {B : Type 0} (r : Result B Stop) (e : Stop) {P Q : Refusal → Type 0} → IsErrAnd r (λ y. y ≡ e) → ((x : Refusal) → P x → Q x) → IfRefused {A = Unit {0}} (Err e) P → IfRefused r Q
refused-exit (Ok b) e i f h = absurd i
refused-exit (Err (stop.Refused x)) e {P = P} i f h = f x (subst (λ z. IfRefused {A = Unit {0}} (Err z) P) (sym i) h)
refused-exit (Err stop.Memory) e i f h = tt

pub refused-along : {A : Type 0} (r : Result A Stop) {P Q : Refusal → Type 0} → ((x : Refusal) → P x → Q x) → IfRefused r P → IfRefused r Q
refused-along (Ok b) f h = tt
refused-along (Err (stop.Refused x)) f h = f x h
refused-along (Err stop.Memory) f h = tt

pub ok-along : {A E : Type 0} (r : Result A E) {P Q : A → Type 0} → ((x : A) → P x → Q x) → IfOk r P → IfOk r Q
ok-along (Ok b) f h = f b h
ok-along (Err e) f h = h

-- ---- faults

pub fault-here : {w : Within} {e : SqlForm} {f : Fault} {r : Refusal} → Breaks w e f → TellsSql r f → HasFault w e r
fault-here {w} {e} {f} b t = record { fault = f; place = e; stands = itself; broken = b; told = t }

pub fault-within : {w : Within} {d e : SqlForm} {r : Refusal} → Part d e → HasFault w d r → HasFault w e r
fault-within p f = record { fault = f.fault; place = f.place; stands = within p f.stands; broken = f.broken; told = f.told }

pub misfit-within : {w : Within} {d e : SqlForm} {k : ColumnKind} → Part d e → Wants w e d k → (r : Refusal) → Misfits w d k r → HasFault w e r
misfit-within p q r (faulty f) = fault-within p f
misfit-within p q r (other_kind {found = found} {wanted = wanted} h n t) = fault-here {f = misfit (kind_text found) (kind_text wanted)} (misplaced q h n) t

pub left-misfit : (w : Within) (j : Join) (a b : SqlExp) (k : ColumnKind) → k ≡ side_kind j → (r : Refusal) → Misfits w a.form k r → (o : SqlBinary) → operator_of o ≡ does.Joins j → HasFault w (form.Binary o a b) r
left-misfit w j a b k e r m o d =
    misfit-within (left o a b (joins_typed (operator_of o) j (is_null a.form) (is_null b.form) d)) (wants_left o j a b d) r
    (subst (λ z. Misfits w a.form z r) e m)

pub right-misfit : (w : Within) (j : Join) (a b : SqlExp) (k : ColumnKind) → k ≡ side_kind j → (r : Refusal) → Misfits w b.form k r → (o : SqlBinary) → operator_of o ≡ does.Joins j → HasFault w (form.Binary o a b) r
right-misfit w j a b k e r m o d =
    misfit-within (right o a b (joins_typed (operator_of o) j (is_null a.form) (is_null b.form) d)) (wants_right o j a b d) r
    (subst (λ z. Misfits w b.form z r) e m)

-- no side of a comparison is NULL beside an equality
abbrev pub BothTyped : Comparison → SqlExp → SqlExp → Type 0
BothTyped c a b = both_typed (does.Compares c) (is_null a.form) (is_null b.form) ≡ true

pub other-misfit : (w : Within) (c : Comparison) (a b : SqlExp) (x : Scalar) (k : ColumnKind) → kinded w a.form ≡ Some (x, k) → (r : Refusal) →
    Misfits w b.form k r → (o : SqlBinary) → operator_of o ≡ does.Compares c → BothTyped c a b → HasFault w (form.Binary o a b) r
other-misfit w c a b x k h r m o d t =
    misfit-within (right o a b (ap (λ z. both_typed z (is_null a.form) (is_null b.form)) d ∙ t)) (wants_other o c a b x k d h) r m

pub left-fault : (w : Within) (c : Comparison) (a b : SqlExp) (r : Refusal) → HasFault w a.form r → (o : SqlBinary) → operator_of o ≡ does.Compares c →
    BothTyped c a b → HasFault w (form.Binary o a b) r
left-fault w c a b r f o d t = fault-within (left o a b (ap (λ z. both_typed z (is_null a.form) (is_null b.form)) d ∙ t)) f

pub unordered-fault : (w : Within) (c : Comparison) (a b : SqlExp) (x : Scalar) (k : ColumnKind) (r : Refusal) → kinded w a.form ≡ Some (x, k) → may_compare c k ≡ false → TellsSql r (misfit (kind_text k) two_kinds) →
    (o : SqlBinary) → operator_of o ≡ does.Compares c → BothTyped c a b → HasFault w (form.Binary o a b) r
unordered-fault w c a b x k r h f t o d _ = fault-here {f = misfit (kind_text k) two_kinds} (unordered o c a b x k d h f) t

-- ---- forms

pub not-kinded : (w : Within) (a : SqlExp) (x y : Scalar) → kinded w a.form ≡ Some (x, kind.Bool) → y ≡ scalar.Not x → kinded w (form.Not a) ≡ Some (y, kind.Bool)
not-kinded w a x y h e = kinded-Not w a ∙ ap (λ o. option_and_then (one_is kind.Bool scalar.Not) o) h ∙ ap (λ z. Some (z, kind.Bool)) (sym e)

pub negative-kinded : (w : Within) (a : SqlExp) (x y : Scalar) → kinded w a.form ≡ Some (x, kind.Int) → y ≡ scalar.Neg x → kinded w (form.Negative a) ≡ Some (y, kind.Int)
negative-kinded w a x y h e = kinded-Negative w a ∙ ap (λ o. option_and_then (one_is kind.Int scalar.Neg) o) h ∙ ap (λ z. Some (z, kind.Int)) (sym e)

pub true-kinded : (w : Within) (x : Scalar) → x ≡ scalar.Constant (value.Bool true) → kinded w form.True ≡ Some (x, kind.Bool)
unfolding kinded
true-kinded w x e = ap (λ z. Some (z, kind.Bool)) (sym e)

pub false-kinded : (w : Within) (x : Scalar) → x ≡ scalar.Constant (value.Bool false) → kinded w form.False ≡ Some (x, kind.Bool)
unfolding kinded
false-kinded w x e = ap (λ z. Some (z, kind.Bool)) (sym e)

pub truth-kinded : (w : Within) (b : Bool) (x : Scalar) → x ≡ scalar.Constant (value.Bool b) → kinded w (truth_form b) ≡ Some (x, kind.Bool)
truth-kinded w true x e = true-kinded w x e
truth-kinded w false x e = false-kinded w x e

pub some-kinded : (w : Within) (a : SqlExp) (x y : Scalar) (j k : ColumnKind) → kinded w a.form ≡ Some (x, j) → optional j ≡ Some k → y ≡ scalar.Present x →
    kinded w (form.Some a) ≡ Some (y, k)
some-kinded w a x y j k h o e =
    kinded-Some w a ∙ ap (λ z. option_and_then some_scalar z) h ∙ ap (λ z. option_map (λ i. (scalar.Present x, i)) z) o ∙ ap (λ z. Some (z, k)) (sym e)

pub null-kinded : (w : Within) (c : Comparison) (first : Bool) (a : SqlExp) (x y : Scalar) (k : ColumnKind) → kinded w a.form ≡ Some (x, k) →
    is_optional k ≡ true → y ≡ with_null c first x k → option_and_then (null_compared c first) (kinded w a.form) ≡ Some (y, kind.Bool)
null-kinded w c first a x y k h o e =
    let made : Option Kinded = Some (with_null c first x k, kind.Bool) in
    ap (λ z. option_and_then (null_compared c first) z) h ∙ ap (λ z. if z then made else None) o ∙ ap (λ z. Some (z, kind.Bool)) (sym e)

pub some-fault : (w : Within) (a : SqlExp) (r : Refusal) → HasFault w a.form r → HasFault w (form.Some a) r
some-fault w a r f = fault-within (of_some a) f

pub no-basic-fault : (w : Within) (a : SqlExp) (x : Scalar) (k : ColumnKind) (r : Refusal) → kinded w a.form ≡ Some (x, k) → optional k ≡ None →
    TellsSql r (misfit (kind_text k) three_kinds) → HasFault w (form.Some a) r
no-basic-fault w a x k r h o t = fault-here {f = misfit (kind_text k) three_kinds} (no_basic a h o) t

pub null-fault : (w : Within) (c : Comparison) (first beside : Bool) (a : SqlExp) (r : Refusal) → HasFault w a.form r → (e : SqlForm) →
    TestsNull c first beside e a.form → HasFault w e r
null-fault w c first beside a r f e t = fault-within (of_test t) f

pub no-option-fault : (w : Within) (c : Comparison) (first beside : Bool) (a : SqlExp) (x : Scalar) (k : ColumnKind) (r : Refusal) →
    kinded w a.form ≡ Some (x, k) → is_optional k ≡ false → TellsSql r (null_misfit beside k) → (e : SqlForm) → TestsNull c first beside e a.form →
    HasFault w e r
no-option-fault w c first beside a x k r h o t e s = fault-here {f = null_misfit beside k} (no_option s h o) t

pub alone-fault : (w : Within) (e : SqlForm) (r : Refusal) → e ≡ form.Null → TellsSql r (misfit (codes "NULL") (codes "annotation")) → HasFault w e r
alone-fault w e r is t = subst (λ z. HasFault w z r) (sym is) (fault-here {f = misfit (codes "NULL") (codes "annotation")} alone t)

pub is_null-kinded : (w : Within) (e : SqlForm) (a x : SqlExp) (r : Kinded) → e ≡ form.IsNull a → x ≡ a →
    option_and_then (null_compared compare.Equal false) (kinded w x.form) ≡ Some r → kinded w e ≡ Some r
is_null-kinded w e a x r is f h =
    ap (kinded w) is ∙ kinded-IsNull w a ∙ ap (λ z. option_and_then (null_compared compare.Equal false) (kinded w z.form)) (sym f) ∙ h

pub is_null-test : (e : SqlForm) (a x : SqlExp) → e ≡ form.IsNull a → x ≡ a → TestsNull compare.Equal false false e x.form
is_null-test e a x is f =
    subst (λ z. TestsNull compare.Equal false false e z.form) (sym f) (subst (λ z. TestsNull compare.Equal false false z a.form) (sym is) (tests_null a))

pub is_not_null-kinded : (w : Within) (e : SqlForm) (a x : SqlExp) (r : Kinded) → e ≡ form.IsNotNull a → x ≡ a →
    option_and_then (null_compared compare.Unequal false) (kinded w x.form) ≡ Some r → kinded w e ≡ Some r
is_not_null-kinded w e a x r is f h =
    ap (kinded w) is ∙ kinded-IsNotNull w a ∙ ap (λ z. option_and_then (null_compared compare.Unequal false) (kinded w z.form)) (sym f) ∙ h

pub is_not_null-test : (e : SqlForm) (a x : SqlExp) → e ≡ form.IsNotNull a → x ≡ a → TestsNull compare.Unequal false false e x.form
is_not_null-test e a x is f =
    subst (λ z. TestsNull compare.Unequal false false e z.form) (sym f)
    (subst (λ z. TestsNull compare.Unequal false false z a.form) (sym is) (tests_not_null a))

-- ---- values of columns

pub null-valued : (w : Within) (e : SqlExp) (k : ColumnKind) (x : Scalar) → is_null e.form ≡ true → is_optional k ≡ true → x ≡ scalar.Null k →
    valued k w e ≡ Some x
null-valued w e k x n o f =
    let made : Option Scalar = Some (scalar.Null k) in
    ap (λ z. if z then (if is_optional k then made else None) else option_and_then (as_kind k) (kinded w e.form)) n ∙ ap (λ z. if z then made else None) o
    ∙ ap (λ z. Some z) (sym f)

same_itself : (k : ColumnKind) → same_kind k k ≡ true
same_itself kind.Int = refl
same_itself kind.Str = refl
same_itself kind.Bool = refl
same_itself kind.OptInt = refl
same_itself kind.OptStr = refl
same_itself kind.OptBool = refl

pub kind-valued : (w : Within) (e : SqlExp) (k : ColumnKind) (x : Scalar) → is_null e.form ≡ false → kinded w e.form ≡ Some (x, k) → valued k w e ≡ Some x
kind-valued w e k x n h =
    ap (λ z. if z then (if is_optional k then Some (scalar.Null k) else None) else option_and_then (as_kind k) (kinded w e.form)) n
    ∙ ap (λ z. option_and_then (as_kind k) z) h ∙ ap (λ z. if z then Some x else None) (same_itself k)

-- ---- texts

pub is-text : (s : List ℕ) → IsUtf8 s → true ≡ is_utf8 s
is-text s h = sym (is_utf8-from_IsUtf8 s h)

-- what is not true is false
is-false : (b : Bool) → (b ≡ true → ⊥) → false ≡ b
is-false true f = absurd (f refl)
is-false false f = refl

pub is-no-text : (s : List ℕ) → (IsUtf8 s → ⊥) → false ≡ is_utf8 s
is-no-text s f = is-false (is_utf8 s) (λ e. f (IsUtf8-from_is_utf8 s e))
