use Rattle.std.proofs.Common.{◌≡◌, drop}
use Rattle.ur_sqltype.specs.Lists.{behind, all_of}
use Rattle.ur_sqltype.specs.Antiquotes.{found_kind}
use Rattle.ur_sqltype.proofs.antiquotes.kinds_found.Given as goal

abbrev pub invariant-loop-i : goal.invariant-loop-i
invariant-loop-i l = all_of found_kind l.found ≡ behind l.kinds (all_of found_kind (drop l.i l.found))
