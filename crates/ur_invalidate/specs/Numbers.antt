-- The numbers of terms in a closure.
use Rattle.std.specs.Prelude.{◌≡◌, ℕ, Bool, List, [], ◌∷◌, map, filter_map, All, Contains, Option, Some, None, option_map, slice_get}
use Rattle.std.specs.List.{AllZip, position_from}
use Rattle.ur_values.specs.declared.value.Value.{Value, more_of-Value, end_of-Value}
use Rattle.ur_values.specs.declared.value.Value.TheVariants as v
use Rattle.ur_values.specs.declared.atom.Atom.{Atom}
use Rattle.ur_values.specs.declared.atom.Atom.TheVariants as atom
use Rattle.ur_sql.specs.declared.term.SqlTerm.{SqlTerm, more_of-SqlTerm as more, end_of-SqlTerm as none}
use Rattle.ur_sql.specs.declared.term.SqlTerm.TheVariants as t
use Rattle.ur_congruence.specs.declared.terms.TermNode.{TermNode}
use Rattle.ur_congruence.specs.declared.terms.TermNode.TheVariants.{Variable, Apply}
use Rattle.ur_congruence.specs.contracts.terms.TermNodePartialEq.TheImpl as nodes
use Rattle.ur_congruence.specs.Derives.{some_symbol}
use Rattle.ur_conditions.specs.Disjuncts.{Equation}
use Rattle.ur_conditions.specs.Terms.{constant_of}
use Rattle.ur_invalidate.specs.declared.leaf.Leaf.{Leaf}
use Rattle.ur_invalidate.specs.declared.leaf.Leaf.TheVariants as leaf
use Rattle.ur_invalidate.specs.contracts.leaf.LeafPartialEq.TheImpl as leaves

-- `==` on nodes and on leaves
abbrev pub node_eq : TermNode → TermNode → Bool
node_eq = nodes.eq-value.it

abbrev pub leaf_eq : Leaf → Leaf → Bool
leaf_eq = leaves.eq-value.it

-- the atom that stands for Present of a value, if one does
abbrev pub present_atom : Value → Option Atom
present_atom (v.Int n) = Some (atom.SomeInt n)
present_atom (v.Bool b) = Some (atom.SomeBool b)
present_atom (v.Str s) = Some (atom.SomeStr s)
present_atom _ = None

-- the atom that stands for a value, if one does
abbrev pub atom_of : Value → Option Atom
atom_of (v.Int n) = Some (atom.Int n)
atom_of (v.Bool b) = Some (atom.Bool b)
atom_of (v.Str s) = Some (atom.Str s)
atom_of v.Absent = Some atom.Null
atom_of (v.Present' _ (more_of-Value x end_of-Value)) = present_atom x
atom_of _ = None

abbrev pub constant_leaf : Option Atom → Option Leaf
constant_leaf None = None
constant_leaf (Some a) = Some (leaf.Constant a)

-- the leaf that a term is, if it has no parts
abbrev pub leaf_of : SqlTerm → Option Leaf
leaf_of (t.Item i c) = Some (leaf.Item i c)
leaf_of (t.Row c) = Some (leaf.Row c)
leaf_of (t.Old c) = Some (leaf.Old c)
leaf_of (t.Key n) = Some (leaf.Key n)
leaf_of (t.Arg n) = Some (leaf.Arg n)
leaf_of (t.Constant x) = constant_leaf (atom_of x)
leaf_of _ = None

-- the number of a node
abbrev pub node_number : List TermNode → TermNode → Option ℕ
node_number nodes node = position_from (node_eq node) 0 nodes

-- the place of a leaf among the leaves
abbrev pub leaf_place : List Leaf → Leaf → Option ℕ
leaf_place leaves l = position_from (leaf_eq l) 0 leaves

-- the number of the leaf with this place among the leaves
abbrev pub variable_number : List TermNode → Option ℕ → Option ℕ
variable_number nodes None = None
variable_number nodes (Some place) = node_number nodes (Variable place)

abbrev pub leaf_number : List Leaf → List TermNode → Option Leaf → Option ℕ
leaf_number leaves nodes None = None
leaf_number leaves nodes (Some l) = variable_number nodes (leaf_place leaves l)

-- numbers, where all are there
abbrev pub all_numbers : List (Option ℕ) → Option (List ℕ)
all_numbers [] = Some []
all_numbers (None ∷ os) = None
all_numbers (Some n ∷ os) = option_map (λ ns. n ∷ ns) (all_numbers os)

-- the number of a symbol at numbers
abbrev pub applied : List TermNode → ℕ → Option (List ℕ) → Option ℕ
applied nodes f None = None
applied nodes f (Some ns) = node_number nodes (Apply f ns)

-- the number of a term among nodes over these leaves, where it has one
unfoldable pub number_of : List Leaf → List TermNode → SqlTerm → Option ℕ
number_of leaves nodes (t.Add' _ (more a none) _ (more b none)) = applied nodes 0 (all_numbers (number_of leaves nodes a ∷ number_of leaves nodes b ∷ []))
number_of leaves nodes (t.Sub' _ (more a none) _ (more b none)) = applied nodes 1 (all_numbers (number_of leaves nodes a ∷ number_of leaves nodes b ∷ []))
number_of leaves nodes (t.Mul' _ (more a none) _ (more b none)) = applied nodes 2 (all_numbers (number_of leaves nodes a ∷ number_of leaves nodes b ∷ []))
number_of leaves nodes (t.Neg' _ (more a none)) = applied nodes 3 (all_numbers (number_of leaves nodes a ∷ []))
number_of leaves nodes (t.Present' _ (more a none)) = applied nodes some_symbol (all_numbers (number_of leaves nodes a ∷ []))
number_of leaves nodes a = leaf_number leaves nodes (leaf_of a)

abbrev pub IsNumber : List Leaf → List TermNode → SqlTerm → ℕ → Type 0
IsNumber leaves nodes a n = number_of leaves nodes a ≡ Some n

-- Exactly these terms have numbers, each node once; and the constants among them are these, in order, with their numbers.
pub record AreNumbered (known : List SqlTerm) (leaves : List Leaf) (nodes : List TermNode) (constants : List (Value × ℕ)) : Type 0 where
  pub once : (s u : ℕ) (node : TermNode) → slice_get nodes s ≡ Some node → slice_get nodes u ≡ Some node → s ≡ u
  pub each : All (λ a. (n : ℕ) × IsNumber leaves nodes a n) known
  pub back : (n f : ℕ) (parts : List ℕ) → slice_get nodes n ≡ Some (Apply f parts) → (a : SqlTerm) × Contains known a × IsNumber leaves nodes a n
  pub constants_are : map (λ c. c.0) constants ≡ filter_map constant_of known
  pub constants_have : All (λ c. IsNumber leaves nodes (t.Constant c.0) c.1) constants

-- numbers that terms have stay theirs
abbrev pub KeepNumbers : List Leaf → List TermNode → List Leaf → List TermNode → Type 0
KeepNumbers leaves nodes leaves' nodes' = (a : SqlTerm) (n : ℕ) → IsNumber leaves nodes a n → IsNumber leaves' nodes' a n

-- the sides of equations and these numbers, one by one
abbrev pub HaveNumbers : List Leaf → List TermNode → List Equation → List (ℕ × ℕ) → Type 0
HaveNumbers leaves nodes equations pairs = AllZip (λ e p. IsNumber leaves nodes e.0 p.0 × IsNumber leaves nodes e.1 p.1) equations pairs
