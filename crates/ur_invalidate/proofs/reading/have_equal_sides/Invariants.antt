use Rattle.std.proofs.Common.{◌≡◌, drop}
use Rattle.ur_invalidate.specs.Reading.{have_equal_sides}
use Rattle.ur_invalidate.proofs.reading.have_equal_sides.Given as goal

abbrev pub invariant-loop-sides : goal.invariant-loop-sides
invariant-loop-sides l = have_equal_sides (drop l.sides-index l.disequations) ≡ have_equal_sides l.disequations
