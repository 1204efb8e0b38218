use Rattle.std.proofs.Common.{◌≡◌, take}
use Rattle.ur_check_cases.proofs.scopes.copy_kinds.Given as goal

abbrev pub invariant-loop-i : goal.invariant-loop-i
invariant-loop-i l = l.kinds ≡ take l.i l.around
