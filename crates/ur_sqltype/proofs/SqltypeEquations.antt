-- The first column outside of GROUP BY in expressions with parts, and their kinds.
use Rattle.std.proofs.Common.{◌≡◌, ◌∙◌, refl, sym, ap, ap₂, List, Option}
use Rattle.std.specs.Prelude.{option_and_then}
use denote.Hole.Carrier
use Rattle.ur_values.specs.Kinds.{optional}
use Rattle.ur_sql.specs.declared.scalar.Comparison.{Comparison}
use Rattle.ur_sql.specs.declared.scalar.Scalar.{Scalar, more_of-Scalar as one, end_of-Scalar as end}
use Rattle.ur_sql.specs.declared.scalar.Scalar.TheBlock as block
use Rattle.ur_sql.specs.declared.scalar.Scalar.TheVariants as s
use Rattle.ur_sql.specs.declared.query.ColumnAt.{ColumnAt}
use Rattle.ur_sql.specs.Kinds.{plain_kind, scalar_kind}
use Rattle.ur_sql.specs.Typing.{Kinds}
use Rattle.ur_sqltype.specs.Choice.{or_else}
use Rattle.ur_sqltype.specs.Query.{outside_in}

module _ (group : List ColumnAt) where
  pub outside_in-Or : (a b : Scalar) → outside_in group (s.Or a b) ≡ or_else (outside_in group a) (outside_in group b)
  unfolding block.hidden-the_row-Scalar-0 Carrier.hidden
  outside_in-Or a b = refl

  pub outside_in-And : (a b : Scalar) → outside_in group (s.And a b) ≡ or_else (outside_in group a) (outside_in group b)
  unfolding block.hidden-the_row-Scalar-0 Carrier.hidden
  outside_in-And a b = refl

  pub outside_in-Not : (a : Scalar) → outside_in group (s.Not a) ≡ outside_in group a
  unfolding block.hidden-the_row-Scalar-0 Carrier.hidden
  outside_in-Not a = refl

  pub outside_in-Compare : (c : Comparison) (a b : Scalar) → outside_in group (s.Compare c a b) ≡ or_else (outside_in group a) (outside_in group b)
  unfolding block.hidden-the_row-Scalar-0 Carrier.hidden
  outside_in-Compare c a b = refl

  pub outside_in-Add : (a b : Scalar) → outside_in group (s.Add a b) ≡ or_else (outside_in group a) (outside_in group b)
  unfolding block.hidden-the_row-Scalar-0 Carrier.hidden
  outside_in-Add a b = refl

  pub outside_in-Sub : (a b : Scalar) → outside_in group (s.Sub a b) ≡ or_else (outside_in group a) (outside_in group b)
  unfolding block.hidden-the_row-Scalar-0 Carrier.hidden
  outside_in-Sub a b = refl

  pub outside_in-Mul : (a b : Scalar) → outside_in group (s.Mul a b) ≡ or_else (outside_in group a) (outside_in group b)
  unfolding block.hidden-the_row-Scalar-0 Carrier.hidden
  outside_in-Mul a b = refl

  pub outside_in-Neg : (a : Scalar) → outside_in group (s.Neg a) ≡ outside_in group a
  unfolding block.hidden-the_row-Scalar-0 Carrier.hidden
  outside_in-Neg a = refl

  pub outside_in-Present : (a : Scalar) → outside_in group (s.Present a) ≡ outside_in group a
  unfolding block.hidden-the_row-Scalar-0 Carrier.hidden
  outside_in-Present a = refl

pub ruleset outs = (outside_in-Or, outside_in-And, outside_in-Not, outside_in-Compare, outside_in-Add, outside_in-Sub, outside_in-Mul, outside_in-Neg, outside_in-Present)

-- ---- the kind at the head

-- SOME has the optional kind of what stands inside
pub scalar_kind-Present : (ks : Kinds) (a : Scalar) → scalar_kind ks (s.Present a) ≡ option_and_then optional (plain_kind ks a)
unfolding block.hidden-the_row-Scalar-0 Carrier.hidden
scalar_kind-Present ks a = refl

pub scalar_kind-other : (ks : Kinds) (e : Scalar) → ((a : Scalar) → e ≡ s.Present a → ⊥) → plain_kind ks e ≡ scalar_kind ks e
unfolding block.hidden-the_row-Scalar-0 Carrier.hidden
scalar_kind-other ks (s.Present' u (one a end)) h = absurd (h a refl)
scalar_kind-other ks e h = refl

-- ---- expressions of two parts

-- what is found in the parts is found in the whole
pub of_two : (group : List ColumnAt) (e whole a b a' b' : Scalar) (x y r : Option ColumnAt) → outside_in group whole ≡ or_else (outside_in group a) (outside_in group b) → e ≡ whole → a' ≡ a → b' ≡ b →
    x ≡ outside_in group a' → y ≡ outside_in group b' → r ≡ or_else x y → r ≡ outside_in group e
of_two group e whole a b a' b' x y r parts is as_a as_b is_x is_y is_r =
    is_r ∙ ap₂ (λ p q. or_else p q) (is_x ∙ ap (λ z. outside_in group z) as_a) (is_y ∙ ap (λ z. outside_in group z) as_b) ∙ sym parts ∙ ap (λ z. outside_in group z) (sym is)
