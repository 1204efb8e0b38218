use Rattle.std.proofs.Common.{◌≡◌, length, map}
use Rattle.ur_typed_rules.specs.Repeats.{field_literal, twice_of}
use Rattle.ur_check_scopes.proofs.given.twice_in_row.Given as goal

abbrev pub invariant-loop-first : goal.invariant-loop-first
invariant-loop-first l = twice_of (map field_literal l.left) ≡ twice_of (map field_literal l.fields)

abbrev pub decreases-loop-first : goal.decreases-loop-first
decreases-loop-first l = length l.left
