-- The first of what is found.
use Rattle.std.specs.Prelude.{List, [], ◌∷◌, Option, Some, None}

-- a value where nothing else is found
abbrev pub if_none : {A B : Type 0} → Option A → B → Option B
if_none None b = Some b
if_none (Some a) b = None

abbrev pub or_else : {A : Type 0} → Option A → Option A → Option A
or_else (Some a) b = Some a
or_else None b = b

-- the first that is found of a list
abbrev pub first_in : {A B : Type 0} → (A → Option B) → List A → Option B
first_in f [] = None
first_in f (a ∷ rest) = or_else (f a) (first_in f rest)
