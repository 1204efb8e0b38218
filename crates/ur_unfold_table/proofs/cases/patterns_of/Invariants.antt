-- The patterns so far, with those of the branches that are left, are all.
use Rattle.std.proofs.Common.{◌≡◌, ◌++◌, drop, map}
use Rattle.ur_unfold_table.proofs.cases.patterns_of.Given as goal

abbrev pub invariant-loop-i : goal.invariant-loop-i
invariant-loop-i l = l.patterns ++ map (λ b. b.pattern) (drop l.i l.all) ≡ map (λ b. b.pattern) l.all
