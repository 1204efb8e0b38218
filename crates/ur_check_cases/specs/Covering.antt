-- The patterns of branches, and the first constructor that is not among them.
use Rattle.std.specs.Prelude.{◌==◌, ◌&&◌, ℕ, not, Bool, if◌then◌else◌, List, [], ◌∷◌, map, Option, Some, None}
use Rattle.std.specs.List.{list_any}
use Rattle.ur_rows.specs.declared.normal.NormalType.{NormalType}
use Rattle.ur_terms.specs.declared.term.Pattern.{Pattern}
use Rattle.ur_terms.specs.declared.term.Pattern.TheVariants as pattern
use Rattle.ur_tree.specs.declared.exp.Branch.{Branch}
use Rattle.ur_tree.specs.Patterns.{same_pattern}

abbrev pub patterns_in : List Branch → List Pattern
patterns_in bs = map (λ b. b.pattern) bs

-- the first of these that is not among the patterns
abbrev pub first_missing : List Pattern → List Pattern → Option Pattern
first_missing [] ps = None
first_missing (c ∷ cs) ps = if list_any (same_pattern c) ps then first_missing cs ps else Some c

-- what is missing where this is known of the constructors: without branches any value is
abbrev pub or_any : List Pattern → Option Pattern → Option Pattern
or_any [] None = Some pattern.Any
or_any [] (Some c) = Some c
or_any (p ∷ ps) found = found

-- the same of the constructors of a type, of which a `case` may not be able to have all
abbrev pub missing_of : Option (List Pattern) → List Pattern → Option Pattern
missing_of None ps = Some pattern.Any
missing_of (Some cs) ps = or_any ps (first_missing cs ps)

abbrev pub tag_is_missing : ℕ → ℕ → ℕ × Option NormalType → List Pattern → Bool
tag_is_missing d n v ps = (v.0 == d) && not (list_any (same_pattern (pattern.Tagged n)) ps)
