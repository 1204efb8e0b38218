-- What has a fault stands for nothing.
use Rattle.std.proofs.lemmas.Bool.Decides.{nat_tests}
use Rattle.std.proofs.Common.{arith, ◌≡◌, ◌∙◌, refl, sym, ap, Bool, true, false, true≢false, Option, Some, None, List, ℕ}
use Rattle.std.specs.Prelude.{◌≢◌, ◌^◌, ◌≤◌, not, ◌&&◌, ◌||◌, nat_lt, pos, if◌then◌else◌, option_map, option_and_then, slice_get}
use Rattle.std.specs.Str.{is_utf8}
use Rattle.ur_syntax.specs.declared.sql.SqlBinary.{SqlBinary}
use Rattle.ur_syntax.specs.declared.sql.SqlExp.{SqlExp}
use Rattle.ur_syntax.specs.declared.sql.SqlForm.{SqlForm}
use Rattle.ur_syntax.specs.declared.sql.SqlForm.TheVariants as form
use Rattle.ur_values.specs.declared.schema.ColumnKind.{ColumnKind}
use Rattle.ur_values.specs.declared.schema.ColumnKind.TheVariants as kind
use Rattle.ur_values.specs.declared.value.Value.TheVariants as value
use Rattle.ur_sql.specs.declared.scalar.Scalar.{Scalar}
use Rattle.ur_sql.specs.declared.scalar.Scalar.TheVariants as scalar
use Rattle.ur_sql.specs.declared.scalar.Comparison.{Comparison}
use Rattle.ur_sql.specs.declared.scalar.Comparison.TheVariants as compare
use Rattle.ur_values.specs.Kinds.{optional}
use Rattle.ur_sqltype.specs.declared.operators.Join.{Join}
use Rattle.ur_sqltype.specs.declared.operators.Operator.{Operator}
use Rattle.ur_sqltype.specs.declared.operators.Operator.TheVariants as does
use Rattle.ur_sqltype.specs.declared.scope.Within.{Within}
use Rattle.ur_sqltype.specs.Scope.{column_of, column_at}
use Rattle.ur_sqltype.specs.Expression.{Kinded, kinded, same_kind, may_compare, side_kind, join_of, joined, compared, operated, operator_of, on_both, one_is, column_scalar, bare_scalar, is_null, is_optional, is_equality, with_null, null_compared, some_scalar, equated, binary, both_typed}
use Rattle.ur_sqltype.specs.Faults.{Fault, Part, left, right, of_not, of_negative, StandsIn, itself, within, Wants, wants_left, wants_right, wants_other, wants_not, wants_negative, TestsNull, tests_null, tests_not_null, null_first, null_last, of_some, of_test, alone, no_option, no_basic, Breaks, no_column, no_bare, misplaced, no_antiquote, unordered, too_great, no_text, FaultyIsNone}
use Rattle.ur_sqltype.proofs.Equations.{kinded-Binary, kinded-Not, kinded-Negative, kinded-Null, kinded-IsNull, kinded-IsNotNull, kinded-Some}

-- ---- kinds

pub other_kind_is_false : (j k : ColumnKind) → j ≢ k → same_kind j k ≡ false
other_kind_is_false kind.Int kind.Int n = absurd (n refl)
other_kind_is_false kind.Int kind.Str n = refl
other_kind_is_false kind.Int kind.Bool n = refl
other_kind_is_false kind.Int kind.OptInt n = refl
other_kind_is_false kind.Int kind.OptStr n = refl
other_kind_is_false kind.Int kind.OptBool n = refl
other_kind_is_false kind.Str kind.Int n = refl
other_kind_is_false kind.Str kind.Str n = absurd (n refl)
other_kind_is_false kind.Str kind.Bool n = refl
other_kind_is_false kind.Str kind.OptInt n = refl
other_kind_is_false kind.Str kind.OptStr n = refl
other_kind_is_false kind.Str kind.OptBool n = refl
other_kind_is_false kind.Bool kind.Int n = refl
other_kind_is_false kind.Bool kind.Str n = refl
other_kind_is_false kind.Bool kind.Bool n = absurd (n refl)
other_kind_is_false kind.Bool kind.OptInt n = refl
other_kind_is_false kind.Bool kind.OptStr n = refl
other_kind_is_false kind.Bool kind.OptBool n = refl
other_kind_is_false kind.OptInt kind.Int n = refl
other_kind_is_false kind.OptInt kind.Str n = refl
other_kind_is_false kind.OptInt kind.Bool n = refl
other_kind_is_false kind.OptInt kind.OptInt n = absurd (n refl)
other_kind_is_false kind.OptInt kind.OptStr n = refl
other_kind_is_false kind.OptInt kind.OptBool n = refl
other_kind_is_false kind.OptStr kind.Int n = refl
other_kind_is_false kind.OptStr kind.Str n = refl
other_kind_is_false kind.OptStr kind.Bool n = refl
other_kind_is_false kind.OptStr kind.OptInt n = refl
other_kind_is_false kind.OptStr kind.OptStr n = absurd (n refl)
other_kind_is_false kind.OptStr kind.OptBool n = refl
other_kind_is_false kind.OptBool kind.Int n = refl
other_kind_is_false kind.OptBool kind.Str n = refl
other_kind_is_false kind.OptBool kind.Bool n = refl
other_kind_is_false kind.OptBool kind.OptInt n = refl
other_kind_is_false kind.OptBool kind.OptStr n = refl
other_kind_is_false kind.OptBool kind.OptBool n = absurd (n refl)

pub not_same : (j k : ColumnKind) → same_kind j k ≡ false → j ≢ k
not_same kind.Int _ f e = true≢false (ap (same_kind kind.Int) e ∙ f)
not_same kind.Str _ f e = true≢false (ap (same_kind kind.Str) e ∙ f)
not_same kind.Bool _ f e = true≢false (ap (same_kind kind.Bool) e ∙ f)
not_same kind.OptInt _ f e = true≢false (ap (same_kind kind.OptInt) e ∙ f)
not_same kind.OptStr _ f e = true≢false (ap (same_kind kind.OptStr) e ∙ f)
not_same kind.OptBool _ f e = true≢false (ap (same_kind kind.OptBool) e ∙ f)

none_some : {A : Type 0} {x : A} {C : Type 0} → None ≡ Some x → C
none_some e = absurd (cc)

-- ---- operators of two sides

both_none : (f : Kinded → Kinded → Option Kinded) (x : Option Kinded) → on_both f x None ≡ None
both_none f None = refl
both_none f (Some x) = refl

-- where the first test fails, or the second one does
first_fails : (a b : Bool) (s : Option Kinded) → a ≡ false → (if a then (if b then s else None) else None) ≡ None
first_fails a b s e = ap (λ z. if z then (if b then s else None) else None) e

second_fails : (a b : Bool) (s : Option Kinded) → b ≡ false → (if a then (if b then s else None) else None) ≡ None
second_fails true b s e = ap (λ z. if z then s else None) e
second_fails false b s e = refl

joined_left : (j : Join) (x : Kinded) (y : Option Kinded) → x.1 ≢ side_kind j → on_both (joined j) (Some x) y ≡ None
joined_left j x None n = refl
joined_left j x (Some y) n = first_fails (same_kind x.1 (side_kind j)) (same_kind y.1 (side_kind j)) (Some (join_of j x.0 y.0, side_kind j)) (other_kind_is_false x.1 (side_kind j) n)

joined_right : (j : Join) (x : Option Kinded) (y : Kinded) → y.1 ≢ side_kind j → on_both (joined j) x (Some y) ≡ None
joined_right j None y n = refl
joined_right j (Some x) y n = second_fails (same_kind x.1 (side_kind j)) (same_kind y.1 (side_kind j)) (Some (join_of j x.0 y.0, side_kind j)) (other_kind_is_false y.1 (side_kind j) n)

compared_left : (c : Comparison) (x : Kinded) (y : Option Kinded) → may_compare c x.1 ≡ false → on_both (compared c) (Some x) y ≡ None
compared_left c x None e = refl
compared_left c x (Some y) e = first_fails (may_compare c x.1) (same_kind y.1 x.1) (Some (scalar.Compare c x.0 y.0, kind.Bool)) e

compared_right : (c : Comparison) (x y : Kinded) → y.1 ≢ x.1 → on_both (compared c) (Some x) (Some y) ≡ None
compared_right c x y n = second_fails (may_compare c x.1) (same_kind y.1 x.1) (Some (scalar.Compare c x.0 y.0, kind.Bool)) (other_kind_is_false y.1 x.1 n)

-- a binary form whose operator is known
-- where no side of an equation is NULL, both have types of their own
pub typed_binary : (f : Operator) (m n : Bool) (x y : Option Kinded) → both_typed f m n ≡ true → binary f m n x y ≡ on_both (operated f) x y
typed_binary (does.Joins j) m n x y e = refl
typed_binary (does.Compares c) m n x y e = at (is_equality c) m n e
  where
    at : (b m n : Bool) → not (b && (m || n)) ≡ true → (if b then equated c m n x y else on_both (compared c) x y) ≡ on_both (compared c) x y
    at false m n e = refl
    at true true n e = absurd (true≢false (sym e))
    at true false true e = absurd (true≢false (sym e))
    at true false false e = refl

pub joins_typed : (f : Operator) (j : Join) (m n : Bool) → f ≡ does.Joins j → both_typed f m n ≡ true
joins_typed f j m n e = ap (λ z. both_typed z m n) e

pub order_typed : (c : Comparison) (m n : Bool) → is_equality c ≡ false → both_typed (does.Compares c) m n ≡ true
order_typed c m n e = ap (λ z. not (z && (m || n))) e

pub no_null_typed : (c : Comparison) (m n : Bool) → m ≡ false → n ≡ false → both_typed (does.Compares c) m n ≡ true
no_null_typed c m n e f = ap (λ z. both_typed (does.Compares c) z n) e ∙ ap (λ z. both_typed (does.Compares c) false z) f ∙ none (is_equality c)
  where
    none : (b : Bool) → not (b && false) ≡ true
    none true = refl
    none false = refl

order_is : (c : Comparison) (k : ColumnKind) → may_compare c k ≡ false → is_equality c ≡ false
order_is compare.Equal k e = absurd (true≢false e)
order_is compare.Unequal k e = absurd (true≢false e)
order_is compare.Less k e = refl
order_is compare.LessEqual k e = refl
order_is compare.Greater k e = refl
order_is compare.GreaterEqual k e = refl

-- what stands for something is not NULL
no_null : (w : Within) (e : SqlForm) (x : Kinded) → kinded w e ≡ Some x → is_null e ≡ false
no_null w form.Null x h = none_some (sym (kinded-Null w) ∙ h)
no_null w e x h = refl

pub with_join : (w : Within) (o : SqlBinary) (j : Join) (a b : SqlExp) → operator_of o ≡ does.Joins j → kinded w (form.Binary o a b) ≡ on_both (joined j) (kinded w a.form) (kinded w b.form)
with_join w o j a b e = kinded-Binary w o a b ∙ ap (λ z. binary z (is_null a.form) (is_null b.form) (kinded w a.form) (kinded w b.form)) e

pub with_comparison : (w : Within) (o : SqlBinary) (c : Comparison) (a b : SqlExp) → operator_of o ≡ does.Compares c →
    kinded w (form.Binary o a b) ≡ binary (does.Compares c) (is_null a.form) (is_null b.form) (kinded w a.form) (kinded w b.form)
with_comparison w o c a b e = kinded-Binary w o a b ∙ ap (λ z. binary z (is_null a.form) (is_null b.form) (kinded w a.form) (kinded w b.form)) e

with_both : (w : Within) (o : SqlBinary) (c : Comparison) (a b : SqlExp) → operator_of o ≡ does.Compares c →
    both_typed (does.Compares c) (is_null a.form) (is_null b.form) ≡ true →
    kinded w (form.Binary o a b) ≡ on_both (compared c) (kinded w a.form) (kinded w b.form)
with_both w o c a b e t = with_comparison w o c a b e ∙ typed_binary (does.Compares c) (is_null a.form) (is_null b.form) (kinded w a.form) (kinded w b.form) t

-- an expression that is compared with NULL
tested : (w : Within) (c : Comparison) (first beside : Bool) (e d : SqlForm) → TestsNull c first beside e d →
    kinded w e ≡ option_and_then (null_compared c first) (kinded w d)
tested w _ _ _ _ _ (tests_null a) = kinded-IsNull w a
tested w _ _ _ _ _ (tests_not_null a) = kinded-IsNotNull w a
tested w _ _ _ _ _ (null_first o c a b d q m) =
    with_comparison w o c a b d ∙ ap (λ z. if z then equated c (is_null a.form) (is_null b.form) (kinded w a.form) (kinded w b.form) else on_both
    (compared c) (kinded w a.form) (kinded w b.form)) q
    ∙ ap (λ z. equated c z (is_null b.form) (kinded w a.form) (kinded w b.form)) m
tested w _ _ _ _ _ (null_last o c a b d q m n) =
    with_comparison w o c a b d ∙ ap (λ z. if z then equated c (is_null a.form) (is_null b.form) (kinded w a.form) (kinded w b.form) else on_both
    (compared c) (kinded w a.form) (kinded w b.form)) q
    ∙ ap (λ z. equated c z (is_null b.form) (kinded w a.form) (kinded w b.form)) m ∙ ap (λ z. equated c false z (kinded w a.form) (kinded w b.form)) n

-- ---- parts

part_none : (w : Within) (d e : SqlForm) → Part d e → kinded w d ≡ None → kinded w e ≡ None
part_none w _ _ (left o a b t) h =
    kinded-Binary w o a b ∙ typed_binary (operator_of o) (is_null a.form) (is_null b.form) (kinded w a.form) (kinded w b.form) t ∙ ap
    (λ x. on_both (operated (operator_of o)) x (kinded w b.form)) h
part_none w _ _ (right o a b t) h =
    kinded-Binary w o a b ∙ typed_binary (operator_of o) (is_null a.form) (is_null b.form) (kinded w a.form) (kinded w b.form) t ∙ ap
    (λ y. on_both (operated (operator_of o)) (kinded w a.form) y) h
    ∙ both_none (operated (operator_of o)) (kinded w a.form)
part_none w _ _ (of_not a) h = kinded-Not w a ∙ ap (λ x. option_and_then (one_is kind.Bool scalar.Not) x) h
part_none w _ _ (of_negative a) h = kinded-Negative w a ∙ ap (λ x. option_and_then (one_is kind.Int scalar.Neg) x) h
part_none w _ _ (of_some a) h = kinded-Some w a ∙ ap (λ x. option_and_then some_scalar x) h
part_none w d e (of_test {c = c} {first = first} {beside = beside} t) h = tested w c first beside e d t ∙ ap (λ x. option_and_then (null_compared c first) x) h

-- where a part stands for nothing, so does the whole
stands_none : (w : Within) (d e : SqlForm) → StandsIn d e → kinded w d ≡ None → kinded w e ≡ None
stands_none w d _ itself h = h
stands_none w d f (within {e = e} p s) h = part_none w e f p (stands_none w d e s h)

-- ---- breaches

one_other : (k : ColumnKind) (f : Scalar → Scalar) (x : Kinded) → x.1 ≢ k → one_is k f x ≡ None
one_other k f x n = let made : Option Kinded = Some (f x.0, k) in ap (λ z. if z then made else None) (other_kind_is_false x.1 k n)

misplaced_none : (w : Within) (e d : SqlForm) (k : ColumnKind) (y : Scalar) (found : ColumnKind) → Wants w e d k → kinded w d ≡ Some (y, found) → found ≢ k → kinded w e ≡ None
misplaced_none w _ _ _ y found (wants_left o j a b e) h n = with_join w o j a b e ∙ ap (λ z. on_both (joined j) z (kinded w b.form)) h ∙ joined_left j (y, found) (kinded w b.form) n
misplaced_none w _ _ _ y found (wants_right o j a b e) h n = with_join w o j a b e ∙ ap (λ z. on_both (joined j) (kinded w a.form) z) h ∙ joined_right j (kinded w a.form) (y, found) n
misplaced_none w _ _ _ y found (wants_other o c a b x k e g) h n =
    with_both w o c a b e (no_null_typed c (is_null a.form) (is_null b.form) (no_null w a.form (x, k) g) (no_null w b.form (y, found) h)) ∙ ap
    (λ z. on_both (compared c) z (kinded w b.form)) g ∙ ap (λ z. on_both (compared c) (Some (x, k)) z) h ∙ compared_right c (x, k) (y, found) n
misplaced_none w _ _ _ y found (wants_not a) h n = kinded-Not w a ∙ ap (λ z. option_and_then (one_is kind.Bool scalar.Not) z) h ∙ one_other kind.Bool scalar.Not (y, found) n
misplaced_none w _ _ _ y found (wants_negative a) h n = kinded-Negative w a ∙ ap (λ z. option_and_then (one_is kind.Int scalar.Neg) z) h ∙ one_other kind.Int scalar.Neg (y, found) n

no_column_none : (w : Within) (q a : List ℕ) → column_at q a w.sources ≡ None → kinded w (form.Qualified q a) ≡ None
unfolding kinded
no_column_none w q a h = ap (λ z. option_map column_scalar z) h

no_bare_none : (w : Within) (a : List ℕ) → column_of a w.bare ≡ None → kinded w (form.Column a) ≡ None
unfolding kinded
no_bare_none w a h = ap (λ z. option_map bare_scalar z) h

no_antiquote_none : (w : Within) (n : ℕ) → slice_get w.antiquotes n ≡ None → kinded w (form.Anti n) ≡ None
unfolding kinded
no_antiquote_none w n h = ap (λ z. option_map (λ k. (scalar.Param n, k)) z) h

no_option_none : (w : Within) (c : Comparison) (first beside : Bool) (e d : SqlForm) (x : Scalar) (k : ColumnKind) → TestsNull c first beside e d →
    kinded w d ≡ Some (x, k) → is_optional k ≡ false → kinded w e ≡ None
no_option_none w c first beside e d x k t h f =
    let made : Option Kinded = Some (with_null c first x k, kind.Bool) in
    tested w c first beside e d t ∙ ap (λ z. option_and_then (null_compared c first) z) h ∙ ap (λ z. if z then made else None) f

no_basic_none : (w : Within) (a : SqlExp) (x : Scalar) (k : ColumnKind) → kinded w a.form ≡ Some (x, k) → optional k ≡ None → kinded w (form.Some a) ≡ None
no_basic_none w a x k h f = kinded-Some w a ∙ ap (λ z. option_and_then some_scalar z) h ∙ ap (λ z. option_map (λ j. (scalar.Present x, j)) z) f

below : (n : ℕ) → 2 ^ 63 ≤ n → nat_lt n (2 ^ 63) ≡ false
below n l = grind (arith, nat_tests, l)

too_great_none : (w : Within) (n : ℕ) → 2 ^ 63 ≤ n → kinded w (form.Int n) ≡ None
unfolding kinded
too_great_none w n l = let made : Option Kinded = Some (scalar.Constant (value.Int (pos n)), kind.Int) in ap (λ z. if z then made else None) (below n l)

no_text_none : (w : Within) (s : List ℕ) → is_utf8 s ≡ false → kinded w (form.Str s) ≡ None
unfolding kinded
no_text_none w s e = let made : Option Kinded = Some (scalar.Constant (value.Str s), kind.Str) in ap (λ z. if z then made else None) e

breaks_none : (w : Within) (e : SqlForm) (f : Fault) → Breaks w e f → kinded w e ≡ None
breaks_none w _ _ (no_column {q = q} {a = a} h) = no_column_none w q a h
breaks_none w _ _ (no_bare {a = a} h) = no_bare_none w a h
breaks_none w e _ (misplaced {d = d} {x = x} {found = found} {wanted = wanted} s h n) = misplaced_none w e d wanted x found s h n
breaks_none w _ _ (no_antiquote {n = n} h) = no_antiquote_none w n h
breaks_none w _ _ (unordered o c a b x k e h f) =
    with_both w o c a b e (order_typed c (is_null a.form) (is_null b.form) (order_is c k f)) ∙ ap (λ z. on_both (compared c) z (kinded w b.form)) h
    ∙ compared_left c (x, k) (kinded w b.form) f
breaks_none w _ _ (too_great {n = n} l) = too_great_none w n l
breaks_none w _ _ (no_text {s = s} e) = no_text_none w s e
breaks_none w _ _ alone = kinded-Null w
breaks_none w e _ (no_option {c = c} {first = first} {beside = beside} {d = d} {x = x} {k = k} t h f) = no_option_none w c first beside e d x k t h f
breaks_none w _ _ (no_basic a {x = x} {k = k} h f) = no_basic_none w a x k h f

pub faulty : FaultyIsNone
faulty w e r h = stands_none w h.place e h.stands (breaks_none w h.place h.fault h.broken)
