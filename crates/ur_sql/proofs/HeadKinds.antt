-- What stands at the head of an expression decides its kind.
use Rattle.std.proofs.Common.{◌≡◌, Some, None, refl, sym, ap, ◌∙◌}
use Rattle.std.specs.Prelude.{option_and_then}
use denote.Hole.Carrier
use Rattle.ur_values.specs.declared.value.Value.{Value}
use Rattle.ur_values.specs.declared.value.Value.TheVariants as v
use Rattle.ur_values.specs.declared.schema.ColumnKind.{ColumnKind}
use Rattle.ur_values.specs.declared.schema.ColumnKind.TheVariants as kind
use Rattle.ur_values.specs.Kinds.{inside, optional}
use Rattle.ur_values.specs.Store.{FitsBasic}
use Rattle.ur_sql.specs.declared.scalar.Scalar.{Scalar, more_of-Scalar as one, end_of-Scalar as end}
use Rattle.ur_sql.specs.declared.scalar.Scalar.TheBlock as block
use Rattle.ur_sql.specs.declared.scalar.Scalar.TheVariants as s
use Rattle.ur_sql.specs.Typing.{Kinds, HasKind}
use Rattle.ur_sql.specs.Kinds.{constant_kind, plain_kind, scalar_kind}

-- what stands inside an optional kind
pub basic_inside : (k j : ColumnKind) → inside k ≡ Some j → inside j ≡ None
basic_inside kind.Int j e = absurd (cc)
basic_inside kind.Str j e = absurd (cc)
basic_inside kind.Bool j e = absurd (cc)
basic_inside kind.OptInt j e = let same : kind.Int ≡ j = cc in ap inside (sym same)
basic_inside kind.OptStr j e = let same : kind.Str ≡ j = cc in ap inside (sym same)
basic_inside kind.OptBool j e = let same : kind.Bool ≡ j = cc in ap inside (sym same)

pub optional_inside : (k j : ColumnKind) → inside k ≡ Some j → optional j ≡ Some k
optional_inside kind.Int j e = absurd (cc)
optional_inside kind.Str j e = absurd (cc)
optional_inside kind.Bool j e = absurd (cc)
optional_inside kind.OptInt j e = let same : kind.Int ≡ j = cc in ap optional (sym same)
optional_inside kind.OptStr j e = let same : kind.Str ≡ j = cc in ap optional (sym same)
optional_inside kind.OptBool j e = let same : kind.Bool ≡ j = cc in ap optional (sym same)

module _ (ks : Kinds) where
  pub scalar_kind_Present : (a : Scalar) → scalar_kind ks (s.Present a) ≡ option_and_then optional (plain_kind ks a)
  unfolding block.hidden-the_row-Scalar-0 Carrier.hidden
  scalar_kind_Present a = refl

  pub scalar_kind_other : (e : Scalar) → ((a : Scalar) → e ≡ s.Present a → ⊥) → plain_kind ks e ≡ scalar_kind ks e
  unfolding block.hidden-the_row-Scalar-0 Carrier.hidden
  scalar_kind_other (s.Present' u (one a end)) h = absurd (h a refl)
  scalar_kind_other e h = refl

  value_head : (x : Value) (k : ColumnKind) → FitsBasic x k → constant_kind x ≡ Some k
  value_head (v.Int i) kind.Int h = refl
  value_head (v.Str t) kind.Str h = refl
  value_head (v.Bool b) kind.Bool h = refl
  value_head _ _ h = absurd h

  -- what stands at the head of no SOME decides its kind
  plain_is : (e : Scalar) (k : ColumnKind) → inside k ≡ None → HasKind ks e k → plain_kind ks e ≡ Some k
  plain_is (s.Constant x) k basic h = value_head x k h
  plain_is (s.Column i c) k basic h = h
  plain_is (s.Param n) k basic h = h
  plain_is (s.Or' _ (one a end) _ (one b end)) k basic (e, _, _) = ap (λ j. Some j) (sym e)
  plain_is (s.And' _ (one a end) _ (one b end)) k basic (e, _, _) = ap (λ j. Some j) (sym e)
  plain_is (s.Add' _ (one a end) _ (one b end)) k basic (e, _, _) = ap (λ j. Some j) (sym e)
  plain_is (s.Sub' _ (one a end) _ (one b end)) k basic (e, _, _) = ap (λ j. Some j) (sym e)
  plain_is (s.Mul' _ (one a end) _ (one b end)) k basic (e, _, _) = ap (λ j. Some j) (sym e)
  plain_is (s.Not' _ (one a end)) k basic (e, _) = ap (λ j. Some j) (sym e)
  plain_is (s.Neg' _ (one a end)) k basic (e, _) = ap (λ j. Some j) (sym e)
  plain_is (s.Compare' c _ (one a end) _ (one b end)) k basic (e, _) = ap (λ j. Some j) (sym e)
  plain_is (s.Null j) k basic (e, _) = ap (λ i. Some i) (sym e)
  plain_is (s.Present' _ (one a end)) k basic (j, e, _) = absurd (apart (sym basic ∙ e))
    where
      apart : {k : ColumnKind} → None ≡ Some k → ⊥
      apart e = cc

  -- what stands at the head decides the kind
  pub head_is : (e : Scalar) (k : ColumnKind) → HasKind ks e k → scalar_kind ks e ≡ Some k
  head_is (s.Constant x) k h = value_head x k h
  head_is (s.Column i c) k h = h
  head_is (s.Param n) k h = h
  head_is (s.Or' _ (one a end) _ (one b end)) k (e, _, _) = ap (λ j. Some j) (sym e)
  head_is (s.And' _ (one a end) _ (one b end)) k (e, _, _) = ap (λ j. Some j) (sym e)
  head_is (s.Add' _ (one a end) _ (one b end)) k (e, _, _) = ap (λ j. Some j) (sym e)
  head_is (s.Sub' _ (one a end) _ (one b end)) k (e, _, _) = ap (λ j. Some j) (sym e)
  head_is (s.Mul' _ (one a end) _ (one b end)) k (e, _, _) = ap (λ j. Some j) (sym e)
  head_is (s.Not' _ (one a end)) k (e, _) = ap (λ j. Some j) (sym e)
  head_is (s.Neg' _ (one a end)) k (e, _) = ap (λ j. Some j) (sym e)
  head_is (s.Compare' c _ (one a end) _ (one b end)) k (e, _) = ap (λ j. Some j) (sym e)
  head_is (s.Null j) k (e, _) = ap (λ i. Some i) (sym e)
  head_is (s.Present' _ (one a end)) k (j, e, h) = ap (λ m. option_and_then optional m) (plain_is a j (basic_inside k j e) h) ∙ optional_inside k j e
