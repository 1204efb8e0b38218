-- Instances whose bodies are unfolded one after the other.
use Rattle.std.specs.Prelude.{◌≡◌, ◌≤◌, ◌+◌, ℕ, suc, List, ◌++◌, length, Some, Result, Ok, Err}
use Rattle.std.specs.List.{AllByRecursion, AllZip}
use Rattle.ur_terms.specs.declared.term.Term.{Term}
use Rattle.ur_meaning.specs.Form.{Language}
use Rattle.ur_meaning.specs.Unfolds.{Unfolds}
use Rattle.ur_meaning.specs.Instances.{Different, IsInstance, IsNumbered, AreInstances, HasTooManyNodes, IsTooDeep}
use Rattle.ur_meaning.specs.declared.halt.Halt.{Halt}
use Rattle.ur_meaning.specs.declared.halt.Halt.TheVariants as halt
use Rattle.ur_meaning.specs.Making.{list_nodes, AreWithin}

-- how many instances there may be, how many nodes their bodies may have together, and how many levels one of them
abbrev pub most_instances : ℕ
most_instances = 4096

abbrev pub most_nodes : ℕ
most_nodes = 1000000

abbrev pub most_levels : ℕ
most_levels = 1024

-- the instance's body unfolds to this
pub record Unfolded {I K : Type 0} (p : Language I K) (instances : List K) (k : K) (a : Term) : Type 0 where
  pub body : I
  pub is_body : p.body k ≡ Some body
  pub unfolds : Unfolds p instances body a

-- The roots and what the bodies call are numbered, each once; the bodies of the first ones are unfolded.
pub record Worked {I K : Type 0} (p : Language I K) (IsRoot : K → Type 0) (roots instances : List K) (bodies : List Term) : Type 0 where
  pub more : List K
  pub grows : instances ≡ roots ++ more
  pub different : Different instances
  pub only : AllByRecursion (IsInstance p IsRoot) instances
  pub done : List K
  pub rest : List K
  pub whole : instances ≡ done ++ rest
  pub unfolded : AllZip (Unfolded p instances) done bodies

-- The first bodies are unfolded. The roots are what was numbered at first; nodes and levels are counted.
pub record Working {I K : Type 0} (p : Language I K) (roots instances : List K) (bodies : List Term) (room : ℕ) : Type 0 where
  pub work : Worked p (IsNumbered roots) roots instances bodies
  pub nodes : list_nodes bodies + room ≡ most_nodes
  pub within : AreWithin most_levels bodies

-- The instance is one too many: it is not among others that are instances too, each there once and at least so many.
pub record IsOneTooMany {I K : Type 0} (p : Language I K) (IsRoot : K → Type 0) (most : ℕ) (instance : K) : Type 0 where
  pub is_instance : IsInstance p IsRoot instance
  pub others : List K
  pub are : AllByRecursion (IsInstance p IsRoot) others
  pub different : Different others
  pub so_many : most ≤ length others
  pub no_other : ¬ (IsNumbered others instance)

-- an instance with this name is one too many
pub record HasOneTooMany {I K : Type 0} (p : Language I K) (IsRoot : K → Type 0) (most : ℕ) (named : ℕ → K → Type 0) (name : ℕ) : Type 0 where
  pub instance : K
  pub is_named : named name instance
  pub too_many : IsOneTooMany p IsRoot most instance

-- an instance is too large by itself
pub record HasLarge {I K : Type 0} (p : Language I K) (IsRoot : K → Type 0) (large : K → Type 0) : Type 0 where
  pub instance : K
  pub is_instance : IsInstance p IsRoot instance
  pub is_large : large instance

-- An instance is one too many, the instances' bodies have too many nodes together, one nests too deep, or an instance is too large.
abbrev pub Ends : {I K : Type 0} → Language I K → (K → Type 0) → (ℕ → K → Type 0) → List K → Halt → Type 0
Ends p large named roots halt.Nodes = HasTooManyNodes p (IsNumbered roots) most_nodes
Ends p large named roots halt.Nesting = IsTooDeep p (IsNumbered roots) most_levels
Ends p large named roots (halt.Instances name) = HasOneTooMany p (IsNumbered roots) most_instances named name
Ends p large named roots halt.Large = HasLarge p (IsNumbered roots) large
Ends p large named roots halt.Memory = Unit {0}

-- one body more is unfolded, or there is a reason that not all are
abbrev pub Steps : {I K : Type 0} → Language I K → (K → Type 0) → (ℕ → K → Type 0) → (roots instances : List K) → (old new : List Term) → ℕ → Result (Unit {0}) Halt → Type 0
Steps p large named roots instances old new room (Ok done) = Working p roots instances new room × (length new ≡ suc (length old))
Steps p large named roots instances old new room (Err h) = Ends p large named roots h

-- The instances are all that there are, each once, and these are their bodies; no limit is exceeded.
pub record AllUnfolded {I K : Type 0} (p : Language I K) (roots instances : List K) (bodies : List Term) : Type 0 where
  pub are : AreInstances p (IsNumbered roots) instances
  pub begins : List K
  pub grows : instances ≡ roots ++ begins
  pub unfolded : AllZip (Unfolded p instances) instances bodies
  pub few : length instances ≤ most_instances
  pub nodes : list_nodes bodies ≤ most_nodes
  pub within : AreWithin most_levels bodies

abbrev pub AreUnfolded : {I K : Type 0} → Language I K → (K → Type 0) → (ℕ → K → Type 0) → (roots instances : List K) → Result (List Term) Halt → Type 0
AreUnfolded p large named roots instances (Ok bodies) = AllUnfolded p roots instances bodies
AreUnfolded p large named roots instances (Err h) = Ends p large named roots h
