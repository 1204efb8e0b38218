use Rattle.std.proofs.Common.{◌-◌, ◌≤◌, length, take}
use Rattle.ur_lex.specs.Spelling.{Reads, IsPiece}
use Rattle.ur_lex.proofs.pieces.read.Given as goal

abbrev pub invariant-loop-piece : goal.invariant-loop-piece
invariant-loop-piece l = record { within : l.len ≤ length l.bytes; reads : Reads (IsPiece l.alphabet) (take l.len l.bytes) l.content }

abbrev pub decreases-loop-piece : goal.decreases-loop-piece
decreases-loop-piece l = length l.initial.bytes - l.len
