-- What is said so far, and what will be said of the values that are left, is all.
use Rattle.std.proofs.Common.{map}
use Rattle.ur_unfold_pieces.specs.Told.{told}
use Rattle.ur_unfold_table.proofs.Called.{ValuedTo}
use Rattle.ur_unfold_table.proofs.calls.push_values.Given as goal

abbrev pub invariant-loop-i : goal.invariant-loop-i
invariant-loop-i l = ValuedTo l.scope l.ps l.args (map told l.initial.parts) l.i l.parts
