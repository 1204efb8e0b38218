-- The keys of the roots.
use Rattle.std.specs.Prelude.{◌≡◌, ◌<◌, ◌↔◌, ℕ, List, [], Some, slice_get}
use Rattle.std.specs.List.{AllByRecursion}
use Rattle.ur_tree.specs.declared.typed.Function.{Function}
use Rattle.ur_tree.specs.Env.{kinds_of}
use Rattle.ur_meaning.specs.Instances.{Different, IsNumbered}
use Rattle.ur_source.specs.Instances.{AreValues}
use Rattle.ur_unfold_pieces.specs.declared.opening.Key.{Key}

-- a function without constructor and static parameters
abbrev pub IsPlain : Function → Type 0
IsPlain f = (kinds_of f.cons ≡ []) × AreValues f.params

abbrev pub root_key : ℕ → Key
root_key n = record { function = n; cons = []; fixed = [] }

-- it is that of a plain function
abbrev pub IsRootKey : List Function → Key → Type 0
IsRootKey functions key = (f : Function) × (slice_get functions key.function ≡ Some f) × IsPlain f × (key ≡ root_key key.function)

-- those of the plain functions, each once
pub record AreRootKeys (functions : List Function) (keys : List Key) : Type 0 where
  pub different : Different keys
  pub are : (key : Key) → IsRootKey functions key ↔ IsNumbered keys key

-- those of the plain ones among the first functions, so many
pub record RootsTo (functions : List Function) (i : ℕ) (keys : List Key) : Type 0 where
  pub below : AllByRecursion (λ k. k.function < i) keys
  pub different : Different keys
  pub only : (key : Key) → IsNumbered keys key → IsRootKey functions key
  pub all : (n : ℕ) (f : Function) → n < i → slice_get functions n ≡ Some f → IsPlain f → IsNumbered keys (root_key n)
