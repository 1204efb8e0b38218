-- What unfolding gives of a list of expressions, or why it ends.
use Rattle.std.specs.Prelude.{◌≡◌, ◌≤◌, ◌<◌, ◌+◌, ℕ, List, [], ◌∷◌, ◌++◌, length, Result, Ok, Err}
use Rattle.std.specs.List.{AllByRecursion}
use Rattle.ur_terms.specs.declared.term.Term.{Term}
use Rattle.ur_terms.specs.Shape.{nodes}
use Rattle.ur_terms.specs.Shape as shape
use Rattle.ur_meaning.specs.Form.{Language}
use Rattle.ur_meaning.specs.Unfolds.{UnfoldAll}
use Rattle.ur_meaning.specs.Instances.{Among, Calls, IsNumbered, AllAtLeast, Nests}
use Rattle.ur_meaning.specs.declared.halt.Halt.{Halt}
use Rattle.ur_meaning.specs.declared.halt.Halt.TheVariants as halt

-- The instances that are numbered, and how many nodes may still be made.
pub record State (K : Type 0) : Type 0 where
  pub called : List K
  pub room : ℕ

abbrev pub state : {K : Type 0} → List K → ℕ → State K
state called room = record { called = called; room = room }

abbrev pub list_nodes : List Term → ℕ
list_nodes [] = 0
list_nodes (a ∷ ts) = nodes a + list_nodes ts

abbrev pub AreWithin : ℕ → List Term → Type 0
AreWithin levels [] = Unit {0}
AreWithin levels (a ∷ ts) = (shape.depth a ≤ levels) × AreWithin levels ts

-- one of the expressions calls it
pub record CalledIn {I K : Type 0} (p : Language I K) (is : List I) (k : K) : Type 0 where
  pub item : I
  pub among : Among is item
  pub calls : Calls p item k

-- the numbering has grown by what the expressions call
pub record Grown {I K : Type 0} (p : Language I K) (is : List I) (old new : List K) : Type 0 where
  pub more : List K
  pub grows : new ≡ old ++ more
  pub reasons : AllByRecursion (CalledIn p is) more

-- The expressions are unfolded to these terms.
pub record Made {I K : Type 0} (p : Language I K) (start : State K) (levels : ℕ) (is : List I) (new : State K) (ts : List Term) : Type 0 where
  pub grown : Grown p is start.called new.called
  pub unfolds : UnfoldAll p new.called is ts
  pub nodes : list_nodes ts + new.room ≡ start.room
  pub within : AreWithin levels ts

-- the numbering is full, and one of the expressions calls what has no number and has this name
pub record Full {I K : Type 0} (p : Language I K) (named : ℕ → K → Type 0) (is : List I) (old new : List K) (name : ℕ) : Type 0 where
  pub grown : Grown p is old new
  pub full : 4096 ≤ length new
  pub one : K
  pub called : CalledIn p is one
  pub unnumbered : ¬ (IsNumbered new one)
  pub is_named : named name one

pub record TooDeep {I K : Type 0} (p : Language I K) (is : List I) (levels : ℕ) : Type 0 where
  pub item : I
  pub among : Among is item
  pub depth : ℕ
  pub deeper : levels < depth
  pub nests : Nests p item depth

-- they have more nodes than may be made
pub record TooMany {I K : Type 0} (p : Language I K) (is : List I) (start : State K) : Type 0 where
  pub many : ℕ
  pub more : start.room < many
  pub known : AllAtLeast p is many

-- one of the expressions calls an instance that is too large by itself
pub record CallsLarge {I K : Type 0} (p : Language I K) (large : K → Type 0) (is : List I) : Type 0 where
  pub instance : K
  pub called : CalledIn p is instance
  pub is_large : large instance

-- Why they are not.
abbrev pub Halted : {I K : Type 0} → Language I K → (K → Type 0) → (ℕ → K → Type 0) → State K → ℕ → List I → State K → Halt → Type 0
Halted p large named start levels is new halt.Nodes = TooMany p is start
Halted p large named start levels is new halt.Nesting = TooDeep p is levels
Halted p large named start levels is new (halt.Instances name) = Full p named is start.called new.called name
Halted p large named start levels is new halt.Large = CallsLarge p large is
Halted p large named start levels is new halt.Memory = Unit {0}

abbrev pub AllMade : {I K : Type 0} → Language I K → (K → Type 0) → (ℕ → K → Type 0) → State K → ℕ → List I → State K → Result (List Term) Halt → Type 0
AllMade p large named start levels is new (Ok ts) = Made p start levels is new ts
AllMade p large named start levels is new (Err h) = Halted p large named start levels is new h

-- the same of one expression
abbrev pub OneMade : {I K : Type 0} → Language I K → (K → Type 0) → (ℕ → K → Type 0) → State K → ℕ → I → State K → Result Term Halt → Type 0
OneMade p large named start levels i new (Ok a) = Made p start levels (i ∷ []) new (a ∷ [])
OneMade p large named start levels i new (Err h) = Halted p large named start levels (i ∷ []) new h

-- a term more, made of the expression
abbrev pub Pushed : {I K : Type 0} → Language I K → (K → Type 0) → (ℕ → K → Type 0) → State K → ℕ → I → State K → List Term → List Term → Result (Unit {0}) Halt → Type 0
Pushed p large named start levels i new old made (Ok done) = (a : Term) × (made ≡ old ++ a ∷ []) × Made p start levels (i ∷ []) new (a ∷ [])
Pushed p large named start levels i new old made (Err h) = Halted p large named start levels (i ∷ []) new h

-- only want of memory ends it
abbrev pub IsMemory : {A : Type 0} → Result A Halt → Type 0
IsMemory (Ok x) = Unit {0}
IsMemory (Err halt.Memory) = Unit {0}
IsMemory (Err h) = ⊥
