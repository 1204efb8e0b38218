-- Free variables with their kinds, within functions of types.
use Rattle.std.specs.Prelude.{ℕ, zero, suc, List, [], ◌∷◌}
use Rattle.ur_syntax.specs.declared.kind.Kind.{Kind}
use Rattle.ur_syntax.specs.declared.kind.Kind.TheVariants as kind
use Rattle.ur_rows.specs.Kinded.{Variables}

abbrev pub stars : ℕ → List Kind
stars zero = []
stars (suc n) = kind.Star ∷ stars n

abbrev pub within : List Kind → ℕ → Variables
within free depth = record { free = free; bound = stars depth }
