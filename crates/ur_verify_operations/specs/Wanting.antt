-- Patterns that are looked for among branches.
use Rattle.std.specs.Prelude.{◌≡◌, ℕ, List, map, Contains, Option, Some, slice_get}
use Rattle.ur_values.specs.declared.types.ValueType.{ValueType}
use Rattle.ur_terms.specs.declared.term.Pattern.{Pattern}
use Rattle.ur_terms.specs.declared.term.Pattern.TheVariants as p
use Rattle.ur_terms.specs.declared.term.Branch.{Branch}
use Rattle.ur_verify_operations.specs.declared.patterns.Wanted.{Wanted}
use Rattle.ur_verify_operations.specs.declared.patterns.Wanted.TheVariants as wanted

abbrev pub wanted_pattern : Wanted → Pattern
wanted_pattern wanted.Any = p.Any
wanted_pattern (wanted.Bool b) = p.Bool b
wanted_pattern wanted.Absent = p.Absent
wanted_pattern wanted.Present = p.Present
wanted_pattern wanted.Empty = p.Empty
wanted_pattern wanted.Cons = p.Cons
wanted_pattern (wanted.Tagged c) = p.Tagged c

abbrev pub patterns_in : List Branch → List Pattern
patterns_in = map (λ b. b.pattern)

-- there is a pattern for each constructor of the datatype
abbrev pub HasEach : List (ℕ × Option ValueType) → List Pattern → ℕ → Type 0
HasEach variants ps d = (c : ℕ) (arg : Option ValueType) → slice_get variants c ≡ Some (d, arg) → Contains ps (p.Tagged c)
