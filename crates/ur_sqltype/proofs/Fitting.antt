-- What an expression stands for has its kind in the core.
use Rattle.std.proofs.lemmas.Bool.Decides.{nat_tests}
use Rattle.std.proofs.lemmas.Str.{IsUtf8-from_is_utf8}
use Rattle.std.proofs.lemmas.Int.{ints}
use Rattle.std.proofs.Common.{arith, ◌≡◌, ◌∙◌, refl, sym, ap, subst, Bool, true, false, true≢false, Option, Some, None, List, [], ◌∷◌, ℕ, zero, suc, ◌+◌, ◌<◌, map, inl, inr}
use Rattle.std.specs.Prelude.{◌⊎◌, ◌^◌, IsSome, nat_lt, pos, if◌then◌else◌, option_map, option_and_then, slice_get, slice_index_or, bytes_eq}
use Rattle.std.specs.Str.{is_utf8}
use denote.Hole.Carrier
use Rattle.ur_syntax.specs.declared.sql.SqlForm.{end_of-SqlExp as alone, more_of-SqlExp as its}
use Rattle.ur_syntax.specs.declared.sql.SqlForm.TheVariants as form
use Rattle.ur_values.specs.Kinds.{inside, optional}
use Rattle.ur_values.specs.Values.{IsInt}
use Rattle.ur_values.specs.declared.schema.ColumnKind.{ColumnKind}
use Rattle.ur_values.specs.declared.schema.ColumnKind.TheVariants as kind
use Rattle.ur_values.specs.declared.value.Value.TheVariants as value
use Rattle.ur_sql.specs.declared.scalar.Scalar.{Scalar}
use Rattle.ur_sql.specs.declared.scalar.Scalar.TheVariants as scalar
use Rattle.ur_sql.specs.declared.scalar.Scalar.TheBlock as block
use Rattle.ur_sql.specs.declared.scalar.Comparison.{Comparison}
use Rattle.ur_sql.specs.declared.scalar.Comparison.TheVariants as compare
use Rattle.ur_sql.specs.Typing.{Kinds, HasKind, Compares, column_kind}
use Rattle.ur_sqltype.specs.declared.operators.Join.{Join}
use Rattle.ur_sqltype.specs.declared.operators.Join.TheVariants as join
use Rattle.ur_sqltype.specs.declared.operators.Operator.{Operator}
use Rattle.ur_sqltype.specs.declared.operators.Operator.TheVariants as does
use Rattle.ur_sqltype.specs.declared.scope.Source.{Source}
use Rattle.ur_sqltype.specs.declared.scope.Within.{Within}
use Rattle.ur_sqltype.specs.Scope.{named_from, column_of, column_at}
use Rattle.ur_sqltype.specs.Expression.{Kinded, kinded, same_kind, may_compare, side_kind, join_of, joined, compared, operated, operator_of, on_both, one_is, column_scalar, bare_scalar, int_scalar, text_scalar, is_null, is_optional, is_equality, with_null, null_compared, some_scalar, equated, binary, as_kind}
use Rattle.ur_sqltype.specs.Fits.{kinds_of_source, kinds_within, first_columns, BareStand, KindedFits, ValuedFits}

-- ---- tests

pub same_is : (j k : ColumnKind) → same_kind j k ≡ true → j ≡ k
same_is kind.Int kind.Int e = refl
same_is kind.Int kind.Str e = absurd (true≢false (sym e))
same_is kind.Int kind.Bool e = absurd (true≢false (sym e))
same_is kind.Int kind.OptInt e = absurd (true≢false (sym e))
same_is kind.Int kind.OptStr e = absurd (true≢false (sym e))
same_is kind.Int kind.OptBool e = absurd (true≢false (sym e))
same_is kind.Str kind.Int e = absurd (true≢false (sym e))
same_is kind.Str kind.Str e = refl
same_is kind.Str kind.Bool e = absurd (true≢false (sym e))
same_is kind.Str kind.OptInt e = absurd (true≢false (sym e))
same_is kind.Str kind.OptStr e = absurd (true≢false (sym e))
same_is kind.Str kind.OptBool e = absurd (true≢false (sym e))
same_is kind.Bool kind.Int e = absurd (true≢false (sym e))
same_is kind.Bool kind.Str e = absurd (true≢false (sym e))
same_is kind.Bool kind.Bool e = refl
same_is kind.Bool kind.OptInt e = absurd (true≢false (sym e))
same_is kind.Bool kind.OptStr e = absurd (true≢false (sym e))
same_is kind.Bool kind.OptBool e = absurd (true≢false (sym e))
same_is kind.OptInt kind.Int e = absurd (true≢false (sym e))
same_is kind.OptInt kind.Str e = absurd (true≢false (sym e))
same_is kind.OptInt kind.Bool e = absurd (true≢false (sym e))
same_is kind.OptInt kind.OptInt e = refl
same_is kind.OptInt kind.OptStr e = absurd (true≢false (sym e))
same_is kind.OptInt kind.OptBool e = absurd (true≢false (sym e))
same_is kind.OptStr kind.Int e = absurd (true≢false (sym e))
same_is kind.OptStr kind.Str e = absurd (true≢false (sym e))
same_is kind.OptStr kind.Bool e = absurd (true≢false (sym e))
same_is kind.OptStr kind.OptInt e = absurd (true≢false (sym e))
same_is kind.OptStr kind.OptStr e = refl
same_is kind.OptStr kind.OptBool e = absurd (true≢false (sym e))
same_is kind.OptBool kind.Int e = absurd (true≢false (sym e))
same_is kind.OptBool kind.Str e = absurd (true≢false (sym e))
same_is kind.OptBool kind.Bool e = absurd (true≢false (sym e))
same_is kind.OptBool kind.OptInt e = absurd (true≢false (sym e))
same_is kind.OptBool kind.OptStr e = absurd (true≢false (sym e))
same_is kind.OptBool kind.OptBool e = refl

none_is : {A : Type 0} {x : A} {C : Type 0} → None ≡ Some x → C
none_is e = absurd (cc)

some_is : {A : Type 0} {x y : A} → Some x ≡ Some y → x ≡ y
some_is e = cc

one_test : (b : Bool) (s x : Kinded) → (if b then Some s else None) ≡ Some x → (b ≡ true) × (s ≡ x)
one_test true s x e = (refl, some_is e)
one_test false s x e = none_is e

two_tests : (a b : Bool) (s x : Kinded) → (if a then (if b then Some s else None) else None) ≡ Some x → (a ≡ true) × (b ≡ true) × (s ≡ x)
two_tests true true s x e = (refl, refl, some_is e)
two_tests true false s x e = none_is e
two_tests false b s x e = none_is e

-- a kind carried over
has : (ks : Kinds) (x y : Kinded) → x ≡ y → HasKind ks x.0 x.1 → HasKind ks y.0 y.1
has ks x y e h = subst (λ z. HasKind ks z.0 z.1) e h

-- ---- operators

join_has : (ks : Kinds) (j : Join) (x y : Scalar) → HasKind ks x (side_kind j) → HasKind ks y (side_kind j) → HasKind ks (join_of j x y) (side_kind j)
unfolding block.hidden-the_row-Scalar-0 Carrier.hidden
join_has ks join.Or x y h i = (refl, h, i)
join_has ks join.And x y h i = (refl, h, i)
join_has ks join.Add x y h i = (refl, h, i)
join_has ks join.Sub x y h i = (refl, h, i)
join_has ks join.Mul x y h i = (refl, h, i)

may : (c : Comparison) (k : ColumnKind) → may_compare c k ≡ true → Compares c k
may compare.Equal k e = tt
may compare.Unequal k e = tt
may compare.Less k e = e
may compare.LessEqual k e = e
may compare.Greater k e = e
may compare.GreaterEqual k e = e

compare_has : (ks : Kinds) (c : Comparison) (k : ColumnKind) (x y : Scalar) → HasKind ks x k → HasKind ks y k → Compares c k → HasKind ks (scalar.Compare c x y) kind.Bool
unfolding block.hidden-the_row-Scalar-0 Carrier.hidden
compare_has ks c k x y h i m = (refl, (k, h, i, m))

not_has : (ks : Kinds) (x : Scalar) → HasKind ks x kind.Bool → HasKind ks (scalar.Not x) kind.Bool
unfolding block.hidden-the_row-Scalar-0 Carrier.hidden
not_has ks x h = (refl, h)

neg_has : (ks : Kinds) (x : Scalar) → HasKind ks x kind.Int → HasKind ks (scalar.Neg x) kind.Int
unfolding block.hidden-the_row-Scalar-0 Carrier.hidden
neg_has ks x h = (refl, h)

joined_has : (ks : Kinds) (j : Join) (u v o : Kinded) → joined j u v ≡ Some o → HasKind ks u.0 u.1 → HasKind ks v.0 v.1 → HasKind ks o.0 o.1
joined_has ks j u v o e h i =
    let t = two_tests (same_kind u.1 (side_kind j)) (same_kind v.1 (side_kind j)) (join_of j u.0 v.0, side_kind j) o e in
    has ks (join_of j u.0 v.0, side_kind j) o t.2 (join_has ks j u.0 v.0 (subst (HasKind ks u.0) (same_is u.1 (side_kind j) t.0) h) (subst (HasKind ks v.0) (same_is v.1 (side_kind j) t.1) i))

compared_has : (ks : Kinds) (c : Comparison) (u v o : Kinded) → compared c u v ≡ Some o → HasKind ks u.0 u.1 → HasKind ks v.0 v.1 → HasKind ks o.0 o.1
compared_has ks c u v o e h i =
    let t = two_tests (may_compare c u.1) (same_kind v.1 u.1) (scalar.Compare c u.0 v.0, kind.Bool) o e in
    has ks (scalar.Compare c u.0 v.0, kind.Bool) o t.2 (compare_has ks c u.1 u.0 v.0 h (subst (HasKind ks v.0) (same_is v.1 u.1 t.1) i) (may c u.1 t.0))

operated_has : (ks : Kinds) (f : Operator) (u v o : Kinded) → operated f u v ≡ Some o → HasKind ks u.0 u.1 → HasKind ks v.0 v.1 → HasKind ks o.0 o.1
operated_has ks (does.Joins j) u v o e h i = joined_has ks j u v o e h i
operated_has ks (does.Compares c) u v o e h i = compared_has ks c u v o e h i

-- what is known of a part that stands for something
abbrev Known : Kinds → Option Kinded → Type 0
Known ks m = (x : Scalar) (k : ColumnKind) → m ≡ Some (x, k) → HasKind ks x k

both_have : (ks : Kinds) (f : Operator) (m n : Option Kinded) (o : Kinded) → on_both (operated f) m n ≡ Some o → Known ks m → Known ks n → HasKind ks o.0 o.1
both_have ks f None n o e g h = none_is e
both_have ks f (Some u) None o e g h = none_is e
both_have ks f (Some u) (Some v) o e g h = operated_has ks f u v o e (g u.0 u.1 refl) (h v.0 v.1 refl)

one_has : (ks : Kinds) (k : ColumnKind) (f : Scalar → Scalar) (m : Option Kinded) (o : Kinded) → ((x : Scalar) → HasKind ks x k → HasKind ks (f x) k) → option_and_then (one_is k f) m ≡ Some o → Known ks m → HasKind ks o.0 o.1
one_has ks k f None o r e g = none_is e
one_has ks k f (Some u) o r e g =
    let t = one_test (same_kind u.1 k) (f u.0, k) o e in
    has ks (f u.0, k) o t.1 (r u.0 (subst (HasKind ks u.0) (same_is u.1 k t.0) (g u.0 u.1 refl)))

-- ---- NULL and options

some_inside : (k : ColumnKind) → is_optional k ≡ true → IsSome (inside k)
some_inside kind.Int e = absurd (true≢false (sym e))
some_inside kind.Str e = absurd (true≢false (sym e))
some_inside kind.Bool e = absurd (true≢false (sym e))
some_inside kind.OptInt e = refl
some_inside kind.OptStr e = refl
some_inside kind.OptBool e = refl

inside_optional : (j k : ColumnKind) → optional j ≡ Some k → inside k ≡ Some j
inside_optional kind.Int k e = let same : kind.OptInt ≡ k = cc in ap inside (sym same)
inside_optional kind.Str k e = let same : kind.OptStr ≡ k = cc in ap inside (sym same)
inside_optional kind.Bool k e = let same : kind.OptBool ≡ k = cc in ap inside (sym same)
inside_optional kind.OptInt k e = none_is e
inside_optional kind.OptStr k e = none_is e
inside_optional kind.OptBool k e = none_is e

equality_compares : (c : Comparison) (k : ColumnKind) → is_equality c ≡ true → Compares c k
equality_compares compare.Equal k e = tt
equality_compares compare.Unequal k e = tt
equality_compares compare.Less k e = absurd (true≢false (sym e))
equality_compares compare.LessEqual k e = absurd (true≢false (sym e))
equality_compares compare.Greater k e = absurd (true≢false (sym e))
equality_compares compare.GreaterEqual k e = absurd (true≢false (sym e))

null_has : (ks : Kinds) (k : ColumnKind) → is_optional k ≡ true → HasKind ks (scalar.Null k) k
null_has ks k e = (refl, some_inside k e)

with_null_has : (ks : Kinds) (c : Comparison) (first : Bool) (x : Scalar) (k : ColumnKind) → is_equality c ≡ true → is_optional k ≡ true → HasKind ks x k →
    HasKind ks (with_null c first x k) kind.Bool
with_null_has ks c true x k q o h = compare_has ks c k (scalar.Null k) x (null_has ks k o) h (equality_compares c k q)
with_null_has ks c false x k q o h = compare_has ks c k x (scalar.Null k) h (null_has ks k o) (equality_compares c k q)

null_compared_has : (ks : Kinds) (c : Comparison) (first : Bool) (o u : Kinded) → is_equality c ≡ true → null_compared c first u ≡ Some o →
    HasKind ks u.0 u.1 → HasKind ks o.0 o.1
null_compared_has ks c first o u q e h =
    let t = one_test (is_optional u.1) (with_null c first u.0 u.1, kind.Bool) o e in
    has ks (with_null c first u.0 u.1, kind.Bool) o t.1 (with_null_has ks c first u.0 u.1 q t.0 h)

present_has : (ks : Kinds) (x : Scalar) (j k : ColumnKind) → inside k ≡ Some j → HasKind ks x j → HasKind ks (scalar.Present x) k
unfolding block.hidden-the_row-Scalar-0 Carrier.hidden
present_has ks x j k e h = (j, e, h)

some_has : (ks : Kinds) (o u : Kinded) → some_scalar u ≡ Some o → HasKind ks u.0 u.1 → HasKind ks o.0 o.1
some_has ks o u e h = at (optional u.1) refl e
  where
    at : (m : Option ColumnKind) → optional u.1 ≡ m → option_map (λ k. (scalar.Present u.0, k)) m ≡ Some o → HasKind ks o.0 o.1
    at None f g = none_is g
    at (Some k) f g = has ks (scalar.Present u.0, k) o (some_is g) (present_has ks u.0 u.1 k (inside_optional u.1 k f) h)

part_has : (ks : Kinds) (f : Kinded → Option Kinded) (m : Option Kinded) (o : Kinded) →
    ((u : Kinded) → f u ≡ Some o → HasKind ks u.0 u.1 → HasKind ks o.0 o.1) → option_and_then f m ≡ Some o → Known ks m → HasKind ks o.0 o.1
part_has ks f None o r e g = none_is e
part_has ks f (Some u) o r e g = r u e (g u.0 u.1 refl)

equated_has : (ks : Kinds) (c : Comparison) (m n : Bool) (x y : Option Kinded) (o : Kinded) → is_equality c ≡ true → equated c m n x y ≡ Some o →
    Known ks x → Known ks y → HasKind ks o.0 o.1
equated_has ks c true n x y o q e g h = part_has ks (null_compared c true) y o (λ u. null_compared_has ks c true o u q) e h
equated_has ks c false true x y o q e g h = part_has ks (null_compared c false) x o (λ u. null_compared_has ks c false o u q) e g
equated_has ks c false false x y o q e g h = both_have ks (does.Compares c) x y o e g h

binary_has : (ks : Kinds) (f : Operator) (m n : Bool) (x y : Option Kinded) (o : Kinded) → binary f m n x y ≡ Some o → Known ks x → Known ks y →
    HasKind ks o.0 o.1
binary_has ks (does.Joins j) m n x y o e g h = both_have ks (does.Joins j) x y o e g h
binary_has ks (does.Compares c) m n x y o e g h = at (is_equality c) refl e
  where
    at : (b : Bool) → is_equality c ≡ b → (if b then equated c m n x y else on_both (compared c) x y) ≡ Some o → HasKind ks o.0 o.1
    at true q f = equated_has ks c m n x y o q f g h
    at false q f = both_have ks (does.Compares c) x y o f g h

-- ---- columns

-- what is found from one number on stands so far behind it
abbrev Stands : {A B : Type 0} → (A → B) → List A → ℕ → (ℕ × B) → Type 0
Stands of list i found = (j : ℕ) × (found.0 ≡ i + j) × (slice_get (map of list) j ≡ Some found.1)

found_stands : {A B : Type 0} (name : A → List ℕ) (of : A → B) (x : List ℕ) (list : List A) (i : ℕ) (found : ℕ × B) → named_from name of x i list ≡ Some found → Stands of list i found
found_stands name of x [] i found e = none_is e
found_stands name of x (a ∷ rest) i found e = by (bytes_eq (name a) x) (found_stands name of x rest (i + 1) found) e
  where
    by : (b : Bool) → (named_from name of x (i + 1) rest ≡ Some found → Stands of rest (i + 1) found) → (if b then Some (i, of a) else named_from name of x (i + 1) rest) ≡ Some found → Stands of (a ∷ rest) i found
    by true further h = let s : (i, of a) ≡ found = some_is h in (0, sym (ap (λ z. z.0) s) ∙ omega arith, ap (λ z. Some z.1) s)
    by false further h = let r = further h in let q : found.0 ≡ i + 1 + r.0 = r.1 in (suc r.0, omega (arith, q), r.2)

from_zero : {A B : Type 0} (of : A → B) (list : List A) (found : ℕ × B) → Stands of list 0 found → slice_get (map of list) found.0 ≡ Some found.1
from_zero of list found s = let q : found.0 ≡ 0 + s.0 = s.1 in let r : found.0 ≡ s.0 = omega (arith, q) in ap (λ n. slice_get (map of list) n) r ∙ s.2

column_stands : (a : List ℕ) (columns : List (List ℕ × ColumnKind)) (found : ℕ × ColumnKind) → column_of a columns ≡ Some found → slice_get (map (λ c. c.1) columns) found.0 ≡ Some found.1
column_stands a columns found e = from_zero (λ c. c.1) columns found (found_stands (λ c. c.0) (λ c. c.1) a columns 0 found e)

-- the kinds of an item that is there
item_kinds : (sources : List Source) (i : ℕ) (columns : List (List ℕ × ColumnKind)) → slice_get (map (λ s. s.columns) sources) i ≡ Some columns → slice_index_or (map kinds_of_source sources) i [] ≡ map (λ c. c.1) columns
item_kinds [] i columns e = none_is (sym (ap (λ z. z) (sym e)))
item_kinds (s ∷ rest) zero columns e = ap (map (λ c. c.1)) (some_is e)
item_kinds (s ∷ rest) (suc i) columns e = item_kinds rest i columns e

qualified_has : (w : Within) (q a : List ℕ) (o : Kinded) → option_map column_scalar (column_at q a w.sources) ≡ Some o → HasKind (kinds_within w) o.0 o.1
qualified_has w q a o e = at (column_at q a w.sources) refl e
  where
    inside : (m : Option (ℕ × List (List ℕ × ColumnKind))) (found : ℕ × (ℕ × ColumnKind)) → option_and_then (λ s. option_map (λ c. (s.0, c)) (column_of a s.1)) m ≡ Some found
        → (s : ℕ × List (List ℕ × ColumnKind)) × (m ≡ Some s) × (option_map (λ c. (s.0, c)) (column_of a s.1) ≡ Some found)
    inside None found h = none_is h
    inside (Some s) found h = (s, refl, h)

    column : (s : ℕ × List (List ℕ × ColumnKind)) (m : Option (ℕ × ColumnKind)) (found : ℕ × (ℕ × ColumnKind)) → option_map (λ c. (s.0, c)) m ≡ Some found → (s.0 ≡ found.0) × (m ≡ Some found.1)
    column s None found h = none_is h
    column s (Some c) found h = (ap (λ z. z.0) (some_is h), ap (λ z. Some z.1) (some_is h))

    at : (m : Option (ℕ × (ℕ × ColumnKind))) → column_at q a w.sources ≡ m → option_map column_scalar m ≡ Some o → HasKind (kinds_within w) o.0 o.1
    at None f h = none_is h
    at (Some found) f h =
        let s = inside _ found f in
        let c = column s.0 (column_of a s.0.1) found s.2 in
        let item = from_zero (λ z. z.columns) w.sources s.0 (found_stands (λ z. z.alias) (λ z. z.columns) _ w.sources 0 s.0 s.1) in
        let kinds = item_kinds w.sources found.0 s.0.1 (ap (λ n. slice_get (map (λ z. z.columns) w.sources) n) (sym c.0) ∙ item) in
        has (kinds_within w) (scalar.Column found.0 found.1.0, found.1.1) o (some_is h) (ap (λ ks. slice_get ks found.1.0) kinds ∙ column_stands a s.0.1 found.1 c.1)

bare_has : (w : Within) → BareStand w → (a : List ℕ) (o : Kinded) → option_map bare_scalar (column_of a w.bare) ≡ Some o → HasKind (kinds_within w) o.0 o.1
bare_has w b a o e = at (column_of a w.bare) refl e
  where
    first : (sources : List Source) (found : ℕ × ColumnKind) → column_of a (first_columns sources) ≡ Some found → slice_get (slice_index_or (map kinds_of_source sources) 0 []) found.0 ≡ Some found.1
    first [] found h = none_is h
    first (s ∷ rest) found h = column_stands a s.columns found h

    stands : (found : ℕ × ColumnKind) → column_of a w.bare ≡ Some found → (w.bare ≡ []) ⊎ (w.bare ≡ first_columns w.sources) → column_kind (kinds_within w) 0 found.0 ≡ Some found.1
    stands found f (inl none) = none_is (sym (ap (column_of a) none) ∙ f)
    stands found f (inr is) = first w.sources found (sym (ap (column_of a) is) ∙ f)

    at : (m : Option (ℕ × ColumnKind)) → column_of a w.bare ≡ m → option_map bare_scalar m ≡ Some o → HasKind (kinds_within w) o.0 o.1
    at None f h = none_is h
    at (Some found) f h = has (kinds_within w) (scalar.Column 0 found.0, found.1) o (some_is h) (stands found f b)

-- ---- expressions without parts

param_has : (ks : Kinds) (n : ℕ) (o : Kinded) → option_map (λ k. (scalar.Param n, k)) (slice_get ks.params n) ≡ Some o → HasKind ks o.0 o.1
param_has ks n o e = at (slice_get ks.params n) refl e
  where
    at : (m : Option ColumnKind) → slice_get ks.params n ≡ m → option_map (λ k. (scalar.Param n, k)) m ≡ Some o → HasKind ks o.0 o.1
    at None f h = none_is h
    at (Some k) f h = has ks (scalar.Param n, k) o (some_is h) f

is_int : (n : ℕ) → nat_lt n (2 ^ 63) ≡ true → IsInt (pos n)
is_int n e = let below : n < 2 ^ 63 = grind (arith, nat_tests, e) in (omega (arith, ints, below), omega (arith, ints, below))

int_has : (ks : Kinds) (n : ℕ) (o : Kinded) → int_scalar n ≡ Some o → HasKind ks o.0 o.1
int_has ks n o e =
    let t = one_test (nat_lt n (2 ^ 63)) (scalar.Constant (value.Int (pos n)), kind.Int) o e in
    has ks (scalar.Constant (value.Int (pos n)), kind.Int) o t.1 (is_int n t.0)

text_has : (ks : Kinds) (s : List ℕ) (o : Kinded) → text_scalar s ≡ Some o → HasKind ks o.0 o.1
text_has ks s o e =
    let t = one_test (is_utf8 s) (scalar.Constant (value.Str s), kind.Str) o e in
    has ks (scalar.Constant (value.Str s), kind.Str) o t.1 (IsUtf8-from_is_utf8 s t.0)

-- ---- expressions

pub fits : KindedFits
unfolding kinded
fits w b (form.Int n) x k e = int_has (kinds_within w) n (x, k) e
fits w b (form.Str s) x k e = text_has (kinds_within w) s (x, k) e
fits w b form.True x k e = has (kinds_within w) (scalar.Constant (value.Bool true), kind.Bool) (x, k) (some_is e) tt
fits w b form.False x k e = has (kinds_within w) (scalar.Constant (value.Bool false), kind.Bool) (x, k) (some_is e) tt
fits w b form.Null x k e = none_is e
fits w b (form.Qualified q a) x k e = qualified_has w q a (x, k) e
fits w b (form.Column a) x k e = bare_has w b a (x, k) e
fits w b (form.Anti n) x k e = param_has (kinds_within w) n (x, k) e
fits w b (form.Binary' o _ (its p a alone) _ (its q c alone)) x k e =
    binary_has (kinds_within w) (operator_of o) (is_null a) (is_null c) (kinded w a) (kinded w c) (x, k) e (fits w b a) (fits w b c)
fits w b (form.Not' _ (its p a alone)) x k e = one_has (kinds_within w) kind.Bool scalar.Not (kinded w a) (x, k) (not_has (kinds_within w)) e (fits w b a)
fits w b (form.Negative' _ (its p a alone)) x k e = one_has (kinds_within w) kind.Int scalar.Neg (kinded w a) (x, k) (neg_has (kinds_within w)) e (fits w b a)
fits w b (form.IsNull' _ (its p a alone)) x k e =
    part_has (kinds_within w) (null_compared compare.Equal false) (kinded w a) (x, k)
    (λ u. null_compared_has (kinds_within w) compare.Equal false (x, k) u refl) e (fits w b a)
fits w b (form.IsNotNull' _ (its p a alone)) x k e =
    part_has (kinds_within w) (null_compared compare.Unequal false) (kinded w a) (x, k)
    (λ u. null_compared_has (kinds_within w) compare.Unequal false (x, k) u refl) e (fits w b a)
fits w b (form.Some' _ (its p a alone)) x k e =
    part_has (kinds_within w) some_scalar (kinded w a) (x, k) (λ u. some_has (kinds_within w) (x, k) u) e (fits w b a)

-- ---- values of columns

pub valued_fits : ValuedFits
valued_fits w b k e x h = at (is_null e.form) h
  where
    of_null : (o : Bool) → is_optional k ≡ o → (if o then Some (scalar.Null k) else None) ≡ Some x → HasKind (kinds_within w) x k
    of_null true o g = subst (λ z. HasKind (kinds_within w) z k) (some_is g) (null_has (kinds_within w) k o)
    of_null false o g = none_is g

    of_kind : (b : Bool) (u : Kinded) → same_kind u.1 k ≡ b → HasKind (kinds_within w) u.0 u.1 → (if b then Some u.0 else None) ≡ Some x →
        HasKind (kinds_within w) x k
    of_kind true u s i g = subst (λ z. HasKind (kinds_within w) z k) (some_is g) (subst (HasKind (kinds_within w) u.0) (same_is u.1 k s) i)
    of_kind false u s i g = none_is g

    of_some : (m : Option Kinded) → Known (kinds_within w) m → option_and_then (as_kind k) m ≡ Some x → HasKind (kinds_within w) x k
    of_some None i g = none_is g
    of_some (Some u) i g = of_kind (same_kind u.1 k) u refl (i u.0 u.1 refl) g

    at : (n : Bool) → (if n then (if is_optional k then Some (scalar.Null k) else None) else option_and_then (as_kind k) (kinded w e.form)) ≡ Some x →
        HasKind (kinds_within w) x k
    at true g = of_null (is_optional k) refl g
    at false g = of_some (kinded w e.form) (fits w b e.form) g
