-- The lists of what is closed.
use Rattle.std.specs.Prelude.{◌≤◌, List, [], ◌∷◌, length}
use Rattle.ur_rows.specs.declared.normal.Normal.{Normal}
use Rattle.ur_rows.specs.declared.normal.Normal.TheVariants as normal
use Rattle.ur_rows.specs.Made.{unit}
use Rattle.ur_tree.specs.declared.closed.Static.{Static}
use Rattle.ur_meaning.specs.Instances.{Different}
use Rattle.ur_source.specs.Static.{static_record}
use Rattle.ur_unfold_static.specs.declared.node.Node.{Node}
use Rattle.ur_unfold_static.specs.declared.node.Node.TheVariants as node
use Rattle.ur_unfold_static.specs.Held.{Held, Written, held_from, Rises}
use Rattle.ur_unfold_static.specs.Lists.{most_entries}
use Rattle.ur_unfold_static.specs.Scopes.{IsAt}

-- before any node
abbrev pub at_first : List Normal → List Written → Held
at_first cons lambdas = record { cons = cons; lambdas = lambdas; statics = [] }

-- the closed static expressions of these nodes
abbrev pub statics_by : List Normal → List Written → List Node → List Static
statics_by cons lambdas nodes = (held_from (at_first cons lambdas) nodes).statics

abbrev pub held_by : List Normal → List Written → List Node → Held
held_by cons lambdas nodes = record { cons = cons; lambdas = lambdas; statics = statics_by cons lambdas nodes }

-- the unit type and the empty record
abbrev pub nothing_held : Held
nothing_held = record { cons = normal.Type unit ∷ []; lambdas = []; statics = static_record [] ∷ [] }

-- Each constructor, lambda and node is there once, children before parents; the unit type and the empty record are the
-- first ones; and there are not too many.
pub record IsSound (cons : List Normal) (lambdas : List Written) (nodes : List Node) : Type 0 where
  pub different_cons : Different cons
  pub different_lambdas : Different lambdas
  pub different_nodes : Different nodes
  pub rises : Rises (at_first cons lambdas) nodes
  pub first_con : IsAt cons 0 (normal.Type unit)
  pub first_node : IsAt nodes 0 (node.Record [])
  pub few_cons : length cons ≤ most_entries
  pub few_lambdas : length lambdas ≤ most_entries
  pub few_nodes : length nodes ≤ most_entries
