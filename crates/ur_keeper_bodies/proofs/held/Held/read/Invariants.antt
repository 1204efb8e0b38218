use Rattle.std.proofs.Common.{◌≡◌, ◌++◌}
use Rattle.ur_keeper_bodies.specs.Bodies.{of_table, bodies_of}
use Rattle.ur_keeper_bodies.proofs.held.Held.read.Given as goal

abbrev pub invariant-loop-place : goal.invariant-loop-place
invariant-loop-place l = l.found ++ of_table l.tab l.place-iterator ≡ bodies_of l.self l.tab
