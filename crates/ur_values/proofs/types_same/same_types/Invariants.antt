-- The types so far are the same.
use Rattle.std.proofs.Common.{◌≡◌, take}
use Rattle.ur_values.proofs.types_same.same_types.Given as goal

abbrev pub invariant-loop-i : goal.invariant-loop-i
invariant-loop-i l = take l.i l.types ≡ take l.i l.others
