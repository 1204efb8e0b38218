use Rattle.std.proofs.Common.{◌≡◌, length}
use Rattle.ur_typed_rules.specs.Patterns.{constructor_name}
use Rattle.ur_check_scopes.specs.Views.{names_in, itself}
use Rattle.ur_check_cases.proofs.coverage.constructor_name.Given as goal

abbrev pub invariant-loop-last : goal.invariant-loop-last
invariant-loop-last l = constructor_name l.number (names_in itself l.left) ≡ constructor_name l.number (names_in itself l.constructors)

abbrev pub decreases-loop-last : goal.decreases-loop-last
decreases-loop-last l = length l.left
