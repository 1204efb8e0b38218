-- The types so far are the same.
use Rattle.std.proofs.Common.{◌≡◌, take}
use Rattle.ur_verify_operations.proofs.misfit.unlike_these.Given as goal

abbrev pub invariant-loop-place : goal.invariant-loop-place
invariant-loop-place l = take l.place l.found ≡ take l.place l.wanted
