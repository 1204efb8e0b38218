-- The nodes of a scalar at the plain constructors.
use Rattle.std.proofs.Common.{arith, ◌≡◌, ℕ, ◌+◌, refl}
use Rattle.std.specs.Prelude.{◌<◌}
use denote.Hole.Carrier as Carrier
use Rattle.ur_sql.specs.declared.scalar.Comparison.{Comparison}
use Rattle.ur_sql.specs.declared.scalar.Scalar.{Scalar, more_of-Scalar as one, end_of-Scalar as end}
use Rattle.ur_sql.specs.declared.scalar.Scalar.TheBlock as B
use Rattle.ur_sql.specs.declared.scalar.Scalar.TheVariants as s
use Rattle.ur_values.specs.declared.schema.ColumnKind.{ColumnKind}
use Rattle.ur_values.specs.declared.value.Value.{Value}
use Rattle.ur_sql.specs.Nodes.{scalar_nodes}

pub nodes-Constant : (x : Value) → scalar_nodes (s.Constant x) ≡ 1
unfolding scalar_nodes
nodes-Constant x = refl

pub nodes-Column : (i c : ℕ) → scalar_nodes (s.Column i c) ≡ 1
unfolding scalar_nodes
nodes-Column i c = refl

pub nodes-Param : (n : ℕ) → scalar_nodes (s.Param n) ≡ 1
unfolding scalar_nodes
nodes-Param n = refl

pub nodes-Or : (a b : Scalar) → scalar_nodes (s.Or a b) ≡ 1 + scalar_nodes a + scalar_nodes b
unfolding scalar_nodes B.hidden-the_row-Scalar-0 Carrier.hidden
nodes-Or a b = refl

pub nodes-And : (a b : Scalar) → scalar_nodes (s.And a b) ≡ 1 + scalar_nodes a + scalar_nodes b
unfolding scalar_nodes B.hidden-the_row-Scalar-0 Carrier.hidden
nodes-And a b = refl

pub nodes-Not : (a : Scalar) → scalar_nodes (s.Not a) ≡ 1 + scalar_nodes a
unfolding scalar_nodes B.hidden-the_row-Scalar-0 Carrier.hidden
nodes-Not a = refl

pub nodes-Compare : (c : Comparison) (a b : Scalar) → scalar_nodes (s.Compare c a b) ≡ 1 + scalar_nodes a + scalar_nodes b
unfolding scalar_nodes B.hidden-the_row-Scalar-0 Carrier.hidden
nodes-Compare c a b = refl

pub nodes-Add : (a b : Scalar) → scalar_nodes (s.Add a b) ≡ 1 + scalar_nodes a + scalar_nodes b
unfolding scalar_nodes B.hidden-the_row-Scalar-0 Carrier.hidden
nodes-Add a b = refl

pub nodes-Sub : (a b : Scalar) → scalar_nodes (s.Sub a b) ≡ 1 + scalar_nodes a + scalar_nodes b
unfolding scalar_nodes B.hidden-the_row-Scalar-0 Carrier.hidden
nodes-Sub a b = refl

pub nodes-Mul : (a b : Scalar) → scalar_nodes (s.Mul a b) ≡ 1 + scalar_nodes a + scalar_nodes b
unfolding scalar_nodes B.hidden-the_row-Scalar-0 Carrier.hidden
nodes-Mul a b = refl

pub nodes-Neg : (a : Scalar) → scalar_nodes (s.Neg a) ≡ 1 + scalar_nodes a
unfolding scalar_nodes B.hidden-the_row-Scalar-0 Carrier.hidden
nodes-Neg a = refl

pub nodes-Null : (k : ColumnKind) → scalar_nodes (s.Null k) ≡ 1
unfolding scalar_nodes
nodes-Null k = refl

pub nodes-Present : (a : Scalar) → scalar_nodes (s.Present a) ≡ 1 + scalar_nodes a
unfolding scalar_nodes B.hidden-the_row-Scalar-0 Carrier.hidden
nodes-Present a = refl

-- a scalar has a node
some_node : (x : Scalar) → 0 < scalar_nodes x
unfolding scalar_nodes
some_node (s.Constant x) = omega arith
some_node (s.Column i c) = omega arith
some_node (s.Param n) = omega arith
some_node (s.Or' _ (one a end) _ (one b end)) = omega arith
some_node (s.And' _ (one a end) _ (one b end)) = omega arith
some_node (s.Not' _ (one a end)) = omega arith
some_node (s.Compare' c _ (one a end) _ (one b end)) = omega arith
some_node (s.Add' _ (one a end) _ (one b end)) = omega arith
some_node (s.Sub' _ (one a end) _ (one b end)) = omega arith
some_node (s.Mul' _ (one a end) _ (one b end)) = omega arith
some_node (s.Neg' _ (one a end)) = omega arith
some_node (s.Null k) = omega arith
some_node (s.Present' _ (one a end)) = omega arith

-- where nothing is left
pub nothing_left : (left : ℕ) (x : Scalar) → left < 1 → left < scalar_nodes x
nothing_left left x h = let i : 0 < scalar_nodes x = some_node x in omega (arith, h, i)

pub ruleset counted = (nothing_left, nodes-Constant, nodes-Column, nodes-Param, nodes-Or, nodes-And, nodes-Not, nodes-Compare, nodes-Add, nodes-Sub, nodes-Mul, nodes-Neg, nodes-Null, nodes-Present)
