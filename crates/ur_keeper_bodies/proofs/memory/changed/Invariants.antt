use Rattle.std.proofs.Common.{◌≡◌, drop}
use Rattle.ur_keeper_bodies.specs.Bodies.{written}
use Rattle.ur_keeper_bodies.proofs.memory.changed.Given as goal

abbrev pub invariant-loop-change : goal.invariant-loop-change
invariant-loop-change l = written l.after (drop l.change-index l.changes) ≡ written l.held l.changes
