use Rattle.std.proofs.Common.{◌≡◌, drop}
use Rattle.ur_unfold_static.specs.Words.{row_names}
use Rattle.ur_unfold_static.proofs.cons.+types.Given as goal

abbrev pub invariant-in_row-loop-i : goal.invariant-in_row-loop-i
invariant-in_row-loop-i l = row_names l.of l.parts ≡ row_names l.of (drop l.i l.parts)
