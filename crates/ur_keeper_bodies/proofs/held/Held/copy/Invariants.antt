use Rattle.std.proofs.Common.{◌≡◌, ◌++◌}
use Rattle.std.specs.FinMap.{entries}
use Rattle.ur_keeper_bodies.proofs.held.Held.copy.Given as goal

abbrev pub invariant-loop-place : goal.invariant-loop-place
invariant-loop-place l = l.copy.entries ++ l.place-iterator ≡ entries l.self
