-- What instances are made of.
use Rattle.std.specs.Prelude.{◌≤◌, List, length, Result, Ok, Err}
use Rattle.std.specs.List.{AllZip}
use Rattle.ur_terms.specs.declared.term.Term.{Term}
use Rattle.ur_tree.specs.declared.typed.Typed.{Typed}
use Rattle.ur_tree.specs.declared.closed.Instance.{Instance}
use Rattle.ur_meaning.specs.Instances.{AreInstances}
use Rattle.ur_source.specs.Source.{language}
use Rattle.ur_source.specs.Instances.{IsRoot, IsFunctionOf, IsTarget, IsVariant}
use Rattle.ur_meaning.specs.declared.halt.Halt.{Halt}
use Rattle.ur_meaning.specs.Making.{list_nodes, AreWithin}
use Rattle.ur_meaning.specs.Working.{Unfolded, most_instances, most_nodes, most_levels}
use Rattle.ur_unfold.specs.declared.unfolding.Made.{Made}
use Rattle.ur_unfold.specs.Unfolding.{EndsAs}

-- These are all instances and the terms of their bodies, within the limits.
pub record AreTerms (app : Typed) (instances : List Instance) (bodies : List Term) : Type 0 where
  pub are : AreInstances (language app) (IsRoot app) instances
  pub unfolded : AllZip (Unfolded (language app) instances) instances bodies
  pub few : length instances ≤ most_instances
  pub nodes : list_nodes bodies ≤ most_nodes
  pub within : AreWithin most_levels bodies

-- they are, or there is a reason that they are not
abbrev pub Ended : Typed → List Instance → Result (List Term) Halt → Type 0
Ended app instances (Ok bodies) = AreTerms app instances bodies
Ended app instances (Err h) = EndsAs app h

-- the functions of all instances, the instances of the routes, and the types of constructors' arguments
pub record AreMade (app : Typed) (made : Made) : Type 0 where
  pub instances : List Instance
  pub are : AreInstances (language app) (IsRoot app) instances
  pub functions : AllZip (IsFunctionOf app instances) instances made.functions
  pub targets : AllZip (IsTarget instances) app.targets made.targets
  pub variants : AllZip (IsVariant app.names) app.variants made.variants
