use Rattle.std.proofs.Common.{◌≡◌, drop}
use Rattle.ur_invalidate.specs.Reading.{constant_in}
use Rattle.ur_invalidate.proofs.reading.constant_in.Given as goal

abbrev pub invariant-loop-constant : goal.invariant-loop-constant
invariant-loop-constant l = constant_in l.class (drop l.constant-index l.constants) ≡ constant_in l.class l.constants
