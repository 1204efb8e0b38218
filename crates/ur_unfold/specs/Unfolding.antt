-- What a refusal of instances says.
use Rattle.std.specs.Prelude.{◌≡◌, ℕ, List, codes, Some, slice_get}
use Rattle.ur_base.specs.declared.refusal.Refusal.{Refusal}
use Rattle.ur_base.specs.declared.refusal.Stop.{Stop}
use Rattle.ur_base.specs.declared.refusal.Stop.TheVariants as stop
use Rattle.ur_base.specs.Stopping.{Says}
use Rattle.ur_tree.specs.declared.typed.Typed.{Typed}
use Rattle.ur_tree.specs.declared.typed.Function.{Function}
use Rattle.ur_tree.specs.declared.closed.Instance.{Instance}
use Rattle.ur_meaning.specs.Instances.{HasTooManyNodes, IsTooDeep}
use Rattle.ur_source.specs.Source.{language}
use Rattle.ur_source.specs.Instances.{IsRoot}
use Rattle.ur_meaning.specs.declared.halt.Halt.{Halt}
use Rattle.ur_meaning.specs.declared.halt.Halt.TheVariants as halt
use Rattle.ur_meaning.specs.Working.{IsOneTooMany, HasOneTooMany, most_instances, most_nodes, most_levels}
use Rattle.ur_unfold_pieces.specs.Keys.{IsOf}
use Rattle.ur_unfold.specs.Heads.{IsFullName}
use Rattle.ur_unfold.specs.Limits.{HasLargeArgument}

-- the full name of the function with this number
pub record IsNamed (app : Typed) (number : ℕ) (text : List ℕ) : Type 0 where
  pub function : Function
  pub is_function : slice_get app.functions number ≡ Some function
  pub name : IsFullName app function text

-- An instance is one too many, and its function is named; the bodies have too many nodes together, or an instance's constructor argument is too
-- large; or a body nests too deep. It stands at no place of the source.
pub data ExplainsUnfolded (app : Typed) (r : Refusal) : Type 0 where
  many : (k : Instance) → IsOneTooMany (language app) (IsRoot app) most_instances k → IsNamed app k.function r.left → Says r 17 r.left (codes "4096") → ExplainsUnfolded app r
  nodes : Says r 18 (codes "nodes") (codes "1000000") → HasTooManyNodes (language app) (IsRoot app) most_nodes → ExplainsUnfolded app r
  argument : Says r 18 (codes "nodes") (codes "1000000") → HasLargeArgument app → ExplainsUnfolded app r
  nesting : Says r 18 (codes "nesting") (codes "1024") → IsTooDeep (language app) (IsRoot app) most_levels → ExplainsUnfolded app r

-- why unfolding ends, by the source's roots
abbrev pub EndsAs : Typed → Halt → Type 0
EndsAs app halt.Nodes = HasTooManyNodes (language app) (IsRoot app) most_nodes
EndsAs app halt.Nesting = IsTooDeep (language app) (IsRoot app) most_levels
EndsAs app (halt.Instances function) = HasOneTooMany (language app) (IsRoot app) most_instances IsOf function
EndsAs app halt.Large = HasLargeArgument app
EndsAs app halt.Memory = Unit {0}

-- a refusal with this code and these texts
abbrev pub RefusesWith : ℕ → List ℕ → List ℕ → Stop → Type 0
RefusesWith code left right s = (r : Refusal) × (s ≡ stop.Refused r) × Says r code left right

-- a refusal that is explained, or want of memory
abbrev pub ExplainsStop : Typed → Stop → Type 0
ExplainsStop app (stop.Refused r) = ExplainsUnfolded app r
ExplainsStop app stop.Memory = Unit {0}
