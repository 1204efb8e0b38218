use Rattle.std.proofs.Common.{◌≡◌, length}
use Rattle.ur_lex.specs.Scanning.{rows_in, listed_piece}
use Rattle.ur_lex.proofs.pieces.listed.Given as goal

abbrev pub invariant-loop-table : goal.invariant-loop-table
invariant-loop-table l = listed_piece (rows_in l.table) l.bytes ≡ listed_piece (rows_in l.initial.table) l.bytes

abbrev pub decreases-loop-table : goal.decreases-loop-table
decreases-loop-table l = length l.table
