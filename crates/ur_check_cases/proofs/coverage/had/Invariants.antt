use Rattle.std.proofs.Common.{◌≡◌, drop}
use Rattle.std.specs.List.{list_any}
use Rattle.ur_tree.specs.Patterns.{same_pattern}
use Rattle.ur_check_cases.specs.Covering.{patterns_in}
use Rattle.ur_check_cases.proofs.coverage.had.Given as goal

abbrev pub invariant-loop-i : goal.invariant-loop-i
invariant-loop-i l = list_any (λ p. same_pattern p l.pattern) (patterns_in (drop l.i l.branches)) ≡ list_any (λ p. same_pattern p l.pattern) (patterns_in l.branches)
