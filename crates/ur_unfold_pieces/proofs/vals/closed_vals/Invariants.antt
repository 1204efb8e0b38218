-- The numbers so far stand for the `val`s so far.
use Rattle.ur_unfold_pieces.proofs.Valued.{ValsTo}
use Rattle.ur_unfold_pieces.proofs.vals.closed_vals.Given as goal

abbrev pub invariant-loop-i : goal.invariant-loop-i
invariant-loop-i l = ValsTo l.typed.names l.all l.initial.closing l.closing l.i l.vals
