-- What is closed, by number.
use Rattle.std.specs.Prelude.{◌≡◌, ◌<◌, ℕ, List, [], ◌∷◌, ◌++◌, map, length, slice_index_or, Option, Some, None, slice_get}
use Rattle.std.specs.List.{AllByRecursion}
use Rattle.ur_values.specs.declared.value.Value.TheVariants as v
use Rattle.ur_rows.specs.declared.normal.Normal.{Normal}
use Rattle.ur_rows.specs.declared.normal.Normal.TheVariants as normal
use Rattle.ur_rows.specs.Made.{unit}
use Rattle.ur_tree.specs.declared.exp.Exp.{Exp}
use Rattle.ur_tree.specs.declared.exp.Param.{Param}
use Rattle.ur_tree.specs.declared.closed.Static.{Static}
use Rattle.ur_tree.specs.declared.closed.Static.TheVariants as st
use Rattle.ur_tree.specs.declared.closed.StaticField.{StaticField}
use Rattle.ur_source.specs.Static.{static_record}
use Rattle.ur_unfold_static.specs.declared.node.Field.{Field}
use Rattle.ur_unfold_static.specs.declared.node.Node.{Node}
use Rattle.ur_unfold_static.specs.declared.node.Node.TheVariants as node

-- a lambda of the source: its parameters and its body
abbrev pub Written : Type 0
Written = List Param × Exp

-- The closed constructors, the lambdas of the source, and the closed static expressions, each at its number.
pub record Held : Type 0 where
  pub cons : List Normal
  pub lambdas : List Written
  pub statics : List Static

abbrev pub con_at : List Normal → ℕ → Normal
con_at cons j = slice_index_or cons j (normal.Type unit)

abbrev pub static_at : List Static → ℕ → Static
static_at statics j = slice_index_or statics j (static_record [])

abbrev pub field_of : List Static → Field → StaticField
field_of statics f = record { name = f.name; of = static_at statics f.of }

abbrev pub lambda_with : Option Written → List Normal → List Static → Static
lambda_with None cons fixed = static_record []
lambda_with (Some l) cons fixed = st.Lambda l.0 l.1 cons fixed

-- what a node is, its numbers standing for what is held
abbrev pub static_of_node : Held → Node → Static
static_of_node held (node.Int i) = st.Literal (v.Int i)
static_of_node held (node.Str s) = st.Literal (v.Str s)
static_of_node held (node.Bool b) = st.Literal (v.Bool b)
static_of_node held (node.Function k js) = st.Function k (map (con_at held.cons) js)
static_of_node held (node.Lambda l js fs) = lambda_with (slice_get held.lambdas l) (map (con_at held.cons) js) (map (static_at held.statics) fs)
static_of_node held (node.Record fs) = st.Record (map (field_of held.statics) fs)

abbrev pub with_static : Held → Static → Held
with_static held s = record held { statics = held.statics ++ s ∷ [] }

-- each node under those before it
abbrev pub held_from : Held → List Node → Held
held_from held [] = held
held_from held (n ∷ ns) = held_from (with_static held (static_of_node held n)) ns

abbrev pub AreBelow : ℕ → List ℕ → Type 0
AreBelow most = AllByRecursion (λ j. j < most)

-- the numbers of a node are below these
abbrev pub NodeIsBelow : (cons lambdas statics : ℕ) → Node → Type 0
NodeIsBelow cons lambdas statics (node.Function k js) = AreBelow cons js
NodeIsBelow cons lambdas statics (node.Lambda l js fs) = (l < lambdas) × AreBelow cons js × AreBelow statics fs
NodeIsBelow cons lambdas statics (node.Record fs) = AreBelow statics (map (λ f. f.of) fs)
NodeIsBelow cons lambdas statics n = Unit {0}

-- the numbers of a node stand for what is held
abbrev pub NodeFits : Held → Node → Type 0
NodeFits held = NodeIsBelow (length held.cons) (length held.lambdas) (length held.statics)

-- children before parents
abbrev pub Rises : Held → List Node → Type 0
Rises held [] = Unit {0}
Rises held (n ∷ ns) = NodeFits held n × Rises (with_static held (static_of_node held n)) ns

-- nothing goes, and no number changes
pub record Grows (old new : Held) : Type 0 where
  pub cons : List Normal
  pub lambdas : List Written
  pub statics : List Static
  pub more_cons : new.cons ≡ old.cons ++ cons
  pub more_lambdas : new.lambdas ≡ old.lambdas ++ lambdas
  pub more_statics : new.statics ≡ old.statics ++ statics
