-- The loop has found the fields so far to be the same.
use Rattle.std.proofs.Common.{◌≡◌, take}
use Rattle.ur_values.proofs.types_same.+comparing.Given as goal

abbrev pub invariant-same_fields-loop-i : goal.invariant-same_fields-loop-i
invariant-same_fields-loop-i l = take l.i l.xs ≡ take l.i l.ys
