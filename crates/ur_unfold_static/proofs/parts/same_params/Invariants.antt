-- Each loop has found the parts so far to be the same.
use Rattle.std.proofs.Common.{◌≡◌, take}
use Rattle.ur_unfold_static.proofs.parts.same_params.Given as goal

abbrev pub invariant-loop-i : goal.invariant-loop-i
invariant-loop-i l = take l.i l.xs ≡ take l.i l.ys
