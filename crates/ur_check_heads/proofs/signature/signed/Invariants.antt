use Rattle.std.proofs.Common.{drop}
use Rattle.ur_check_heads.proofs.RoutesEntering.{Signed}
use Rattle.ur_check_heads.proofs.signature.signed.Given as goal

abbrev pub invariant-loop-i : goal.invariant-loop-i
invariant-loop-i l = Signed l.project l.vals (drop l.i l.vals) l.list
