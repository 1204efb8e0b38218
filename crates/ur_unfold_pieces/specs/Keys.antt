-- Instances by number, in a list that grows.
use Rattle.std.specs.Prelude.{◌≡◌, ◌≤◌, ℕ, List, [], ◌∷◌, ◌++◌, length, map, Some, slice_get, Result, Ok, Err}
use Rattle.std.specs.List.{AllByRecursion}
use Rattle.ur_tree.specs.declared.closed.Instance.{Instance}
use Rattle.ur_meaning.specs.Instances.{IsNumbered}
use Rattle.ur_meaning.specs.Working.{most_instances}
use Rattle.ur_meaning.specs.declared.halt.Halt.{Halt}
use Rattle.ur_meaning.specs.declared.halt.Halt.TheVariants as halt
use Rattle.ur_unfold_static.specs.Held.{Held, con_at, static_at, AreBelow}
use Rattle.ur_unfold_pieces.specs.declared.opening.Key.{Key}

-- the instance that the numbers of a key stand for
abbrev pub instance_of : Held → Key → Instance
instance_of held key = record { function = key.function; cons = map (con_at held.cons) key.cons; fixed = map (static_at held.statics) key.fixed }

-- the numbers of a key stand for something
abbrev pub KeyFits : Held → Key → Type 0
KeyFits held key = AreBelow (length held.cons) key.cons × AreBelow (length held.statics) key.fixed

abbrev pub KeysFit : Held → List Key → Type 0
KeysFit held = AllByRecursion (KeyFits held)

-- it is an instance of the function with this number
abbrev pub IsOf : ℕ → Instance → Type 0
IsOf function k = k.function ≡ function

-- the same of a key
abbrev pub IsKeyOf : ℕ → Key → Type 0
IsKeyOf function key = key.function ≡ function

-- nothing is added, or last what was not there
pub data IsAdded {K : Type 0} (k : K) (old new : List K) : Type 0 where
  nothing : new ≡ old → IsAdded k old new
  last : new ≡ old ++ k ∷ [] → ¬ (IsNumbered old k) → IsAdded k old new

-- The number of what is there, or was added last; only where there are as many as there may be, what is new has none and is named.
abbrev pub Numbers : {K : Type 0} → (ℕ → K → Type 0) → List K → List K → K → Result ℕ Halt → Type 0
Numbers named old new k (Ok j) = (slice_get new j ≡ Some k) × IsAdded k old new
Numbers named old new k (Err halt.Nodes) = ⊥
Numbers named old new k (Err halt.Nesting) = ⊥
Numbers named old new k (Err (halt.Instances name)) = (new ≡ old) × (most_instances ≤ length old) × (¬ (IsNumbered old k)) × named name k
Numbers named old new k (Err halt.Large) = ⊥
Numbers named old new k (Err halt.Memory) = new ≡ old

-- it is added last
abbrev pub Added : {A : Type 0} → List A → List A → A → Result ℕ Halt → Type 0
Added old new x (Ok j) = (j ≡ length old) × (new ≡ old ++ x ∷ [])
Added old new x (Err e) = (e ≡ halt.Memory) × (new ≡ old)

-- this value, or want of memory
abbrev pub Gives : {A : Type 0} → (A → Type 0) → Result A Halt → Type 0
Gives P (Ok x) = P x
Gives P (Err e) = e ≡ halt.Memory
