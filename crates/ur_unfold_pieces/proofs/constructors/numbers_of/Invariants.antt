-- The numbers so far stand for the instances so far.
use Rattle.ur_unfold_pieces.proofs.Numbered.{NumberedTo}
use Rattle.ur_unfold_pieces.proofs.constructors.numbers_of.Given as goal

abbrev pub invariant-loop-i : goal.invariant-loop-i
invariant-loop-i l = NumberedTo l.initial.closing l.closing l.args l.all l.i l.numbers
