-- What a numbering of terms is after one more term.
use Rattle.std.specs.Prelude.{◌≡◌, ℕ, ◌<◌, ◌≤◌, List, ◌++◌, length, Some}
use Rattle.ur_sql.specs.declared.term.SqlTerm.{SqlTerm}
use Rattle.ur_congruence.specs.declared.terms.TermNode.{TermNode}
use Rattle.ur_congruence.specs.declared.terms.TermNode.TheVariants.{Variable}
use Rattle.ur_congruence.specs.Terms.{IsNumberOf}
use Rattle.ur_conditions.specs.Terms.{subterms}
use Rattle.ur_invalidate.specs.declared.leaf.Leaf.{Leaf}
use Rattle.ur_invalidate.specs.declared.numbering.Numbering.{Numbering}
use Rattle.ur_invalidate.specs.Numbers.{leaf_place, IsNumber, AreNumbered, KeepNumbers}

abbrev pub NumberIn : Numbering → SqlTerm → ℕ → Type 0
NumberIn numbering = IsNumber numbering.leaves.keys numbering.closure.nodes

abbrev pub Numbered : List SqlTerm → Numbering → Type 0
Numbered known numbering = AreNumbered known numbering.leaves.keys numbering.closure.nodes numbering.constants

abbrev pub Keeps : Numbering → Numbering → Type 0
Keeps old new = KeepNumbers old.leaves.keys old.closure.nodes new.leaves.keys new.closure.nodes

-- what was numbered stays so, and these terms are numbered besides, of which one has this number
pub record Adds (old new : Numbering) (more : List SqlTerm) (NewNumber : Type 0) (number : ℕ) : Type 0 where
  pub equations : new.closure.equations ≡ old.closure.equations
  pub keeps : Keeps old new
  pub longer : length old.closure.nodes ≤ length new.closure.nodes
  pub within : number < length new.closure.nodes
  pub numbered : (known : List SqlTerm) → Numbered known old → Numbered (known ++ more) new × NewNumber

-- the term and its parts
abbrev pub AddsTerm : Numbering → Numbering → SqlTerm → ℕ → Type 0
AddsTerm old new a number = Adds old new (subterms a) (NumberIn new a number) number

-- a leaf has this place, and nothing else is new
pub record PlacesLeaf (old new : Numbering) (l : Leaf) (place : ℕ) : Type 0 where
  pub leaves : (more : List Leaf) × (new.leaves.keys ≡ old.leaves.keys ++ more)
  pub placed : leaf_place new.leaves.keys l ≡ Some place
  pub closure : new.closure ≡ old.closure
  pub constants : new.constants ≡ old.constants

-- a leaf has this number, and nothing else is new
pub record AddsLeaf (old new : Numbering) (l : Leaf) (number : ℕ) : Type 0 where
  pub leaves : (more : List Leaf) × (new.leaves.keys ≡ old.leaves.keys ++ more)
  pub place : ℕ
  pub placed : leaf_place new.leaves.keys l ≡ Some place
  pub node : IsNumberOf (Variable place) old.closure new.closure number
  pub constants : new.constants ≡ old.constants

-- the node of a symbol at terms has this number, and nothing else is new
pub record AddsNode (old new : Numbering) (node : TermNode) (number : ℕ) : Type 0 where
  pub leaves : new.leaves.keys ≡ old.leaves.keys
  pub is : IsNumberOf node old.closure new.closure number
  pub constants : new.constants ≡ old.constants
