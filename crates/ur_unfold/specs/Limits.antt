-- How many instances there may be, how large their bodies together, and how deep each.
use Rattle.ur_tree.specs.declared.typed.Typed.{Typed}
use Rattle.ur_tree.specs.declared.closed.Instance.{Instance}
use Rattle.ur_meaning.specs.Instances.{TooManyInstances, HasTooManyNodes, IsTooDeep}
use Rattle.ur_source.specs.Source.{language}
use Rattle.ur_source.specs.Instances.{IsRoot}
use Rattle.ur_unfold_pieces.specs.Sizes.{SomeLarge}
use Rattle.ur_meaning.specs.Working.{HasLarge, most_instances, most_nodes, most_levels}

-- a constructor argument of the instance has more nodes than a normal form may have
abbrev pub IsLarge : Instance → Type 0
IsLarge k = SomeLarge k.cons

-- one of the instances is so, which counts as too many nodes
abbrev pub HasLargeArgument : Typed → Type 0
HasLargeArgument app = HasLarge (language app) (IsRoot app) IsLarge

-- no limit is exceeded
pub record IsSmall (app : Typed) : Type 0 where
  pub few : ¬ (TooManyInstances (language app) (IsRoot app) most_instances)
  pub nodes : ¬ (HasTooManyNodes (language app) (IsRoot app) most_nodes)
  pub arguments : ¬ (HasLargeArgument app)
  pub flat : ¬ (IsTooDeep (language app) (IsRoot app) most_levels)
