use Rattle.std.proofs.Common.{◌≡◌, true, take}
use Rattle.ur_tree.specs.Patterns.{same_pattern}
use Rattle.ur_typed_rules.specs.Tests.{are_once}
use Rattle.ur_check_cases.specs.Covering.{patterns_in}
use Rattle.ur_check_cases.proofs.coverage.repeated.Given as goal

abbrev pub invariant-loop-i : goal.invariant-loop-i
invariant-loop-i l = are_once same_pattern (patterns_in (take l.i l.branches)) ≡ true
