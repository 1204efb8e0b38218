use Rattle.std.proofs.Common.{◌≡◌, ◌≤◌, ◌-◌, [], length, get_or}
use Rattle.ur_io.specs.Memory.{place_of}
use Rattle.ur_io.proofs.memory.input.next_piece.Given as goal

abbrev pub invariant-loop-bytes : goal.invariant-loop-bytes
invariant-loop-bytes l = record {
  within : l.at ≤ length (get_or l.pieces l.piece []);
  place : place_of l.pieces l.piece l.at ≡ place_of l.pieces l.initial.piece l.initial.at;
}

abbrev pub decreases-loop-bytes : goal.decreases-loop-bytes
decreases-loop-bytes l = length l.pieces - l.piece
