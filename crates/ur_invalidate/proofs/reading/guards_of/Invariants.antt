use Rattle.std.proofs.Common.{◌≡◌, take, flat_map}
use Rattle.std.specs.List.{enumerate_from}
use Rattle.ur_invalidate.specs.Reading.{guards_at}
use Rattle.ur_invalidate.proofs.reading.guards_of.Given as goal

abbrev pub invariant-loop-number : goal.invariant-loop-number
invariant-loop-number l = l.guards ≡ flat_map (guards_at l.classes) (enumerate_from 0 (take l.number l.args))
