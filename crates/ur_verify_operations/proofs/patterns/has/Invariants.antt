-- No branch so far has the pattern.
use Rattle.std.proofs.Common.{take, Contains}
use Rattle.ur_verify_operations.specs.Wanting.{patterns_in, wanted_pattern}
use Rattle.ur_verify_operations.proofs.patterns.has.Given as goal

abbrev pub invariant-loop-branch : goal.invariant-loop-branch
invariant-loop-branch l = Contains (patterns_in (take l.branch-index l.branches)) (wanted_pattern l.wanted) → ⊥
