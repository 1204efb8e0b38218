use Rattle.std.proofs.Common.{◌≡◌, take}
use Rattle.ur_invalidate.specs.Reading.{members}
use Rattle.ur_invalidate.proofs.reading.members.Given as goal

abbrev pub invariant-loop-number : goal.invariant-loop-number
invariant-loop-number l = l.found ≡ members l.class 0 (take l.number l.args)
