-- All are there where all that are left are.
use Rattle.std.proofs.Common.{◌↔◌, drop, length}
use Rattle.ur_unfold_static.specs.Held.{AreBelow}
use Rattle.ur_unfold_pieces.proofs.fitting.are_cons.Given as goal

abbrev pub invariant-loop-i : goal.invariant-loop-i
invariant-loop-i l = AreBelow (length l.closing.cons) l.all ↔ AreBelow (length l.closing.cons) (drop l.i l.all)
