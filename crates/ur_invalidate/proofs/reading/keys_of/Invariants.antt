use Rattle.std.proofs.Common.{◌≡◌, take, map}
use Rattle.ur_invalidate.specs.Reading.{key_in}
use Rattle.ur_invalidate.proofs.reading.keys_of.Given as goal

abbrev pub invariant-loop-class : goal.invariant-loop-class
invariant-loop-class l = l.keys ≡ map (key_in l.classes) (take l.class-index l.of_keys)
