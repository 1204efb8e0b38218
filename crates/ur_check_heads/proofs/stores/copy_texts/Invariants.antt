use Rattle.std.proofs.Common.{◌≡◌, take}
use Rattle.ur_check_heads.proofs.stores.copy_texts.Given as goal

abbrev pub invariant-loop-i : goal.invariant-loop-i
invariant-loop-i l = l.list ≡ take l.i l.texts
