-- Fronts of lists of bytes.
use Rattle.std.specs.Prelude.{◌≡◌, ℕ, List, ◌++◌}

-- the first is the front of the second
abbrev pub IsFront : List ℕ → List ℕ → Type 0
IsFront front whole = (rest : List ℕ) × (whole ≡ front ++ rest)
