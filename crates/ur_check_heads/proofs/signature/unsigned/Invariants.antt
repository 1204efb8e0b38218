use Rattle.std.proofs.Common.{◌≡◌, ◌++◌, drop}
use Rattle.ur_check_heads.proofs.RoutesEntering.{own_from}
use Rattle.ur_check_heads.proofs.signature.unsigned.Given as goal

abbrev pub invariant-loop-i : goal.invariant-loop-i
invariant-loop-i l = l.list ++ own_from l.home l.i (drop l.i l.functions) ≡ own_from l.home 0 l.functions
