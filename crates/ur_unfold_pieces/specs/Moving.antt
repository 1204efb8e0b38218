-- What stays while forms are asked.
use Rattle.std.specs.Prelude.{◌≡◌, List, ◌++◌}
use Rattle.ur_unfold_static.specs.declared.node.Scope.{Scope as Numbers}
use Rattle.ur_unfold_static.specs.declared.node.Step.{Step}
use Rattle.ur_unfold_static.specs.Held.{Grows}
use Rattle.ur_unfold_pieces.specs.declared.opening.Opening.{Opening}
use Rattle.ur_unfold_pieces.specs.Standing.{IsWhole}

-- The source and its `val`s stay, and what is closed, scopes and folds only grow.
pub record Widens (old new : Opening) : Type 0 where
  pub typed : new.typed.now ≡ old.typed.now
  pub vals : new.vals ≡ old.vals
  pub closing : Grows old.closing new.closing
  pub scopes : List Numbers
  pub more_scopes : new.scopes ≡ old.scopes ++ scopes
  pub folds : List (List Step)
  pub more_folds : new.folds ≡ old.folds ++ folds

-- no instance is numbered
pub record Stays (old new : Opening) : Type 0 where
  pub widens : Widens old new
  pub keys : new.instances.keys ≡ old.instances.keys

-- instances may be numbered
pub record Moves (old new : Opening) : Type 0 where
  pub widens : Widens old new
  pub whole : IsWhole old → IsWhole new
