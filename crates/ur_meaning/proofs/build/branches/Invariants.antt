use Rattle.std.proofs.Common.{◌≡◌, ◌++◌, map, reverse, length}
use Rattle.ur_meaning.proofs.build.branches.Given as goal

abbrev pub invariant-loop-place : goal.invariant-loop-place
invariant-loop-place l =
    (l.initial.patterns ≡ l.patterns ++ map (λ b. b.pattern) (reverse l.made)) × (l.initial.bodies ≡ l.bodies ++ map (λ b. b.body) (reverse l.made)) × (length l.made ≡ l._place)
