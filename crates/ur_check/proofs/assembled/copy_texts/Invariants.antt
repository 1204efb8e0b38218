use Rattle.std.proofs.Common.{◌≡◌, take}
use Rattle.ur_check.proofs.assembled.copy_texts.Given as goal

abbrev pub invariant-loop-i : goal.invariant-loop-i
invariant-loop-i l = l.list ≡ take l.i l.texts
