use Rattle.std.proofs.Common.{◌≡◌, ◌++◌, drop}
use Rattle.ur_keeper_bodies.specs.Pieces.{grown, pieces}
use Rattle.ur_keeper_bodies.proofs.text.split.Given as goal

-- the piece under way stands before what is left
abbrev pub invariant-loop-byte : goal.invariant-loop-byte
invariant-loop-byte l = l.done ++ grown l.piece (pieces l.mark (drop l.byte-index l.bytes)) ≡ pieces l.mark l.bytes
