use Rattle.ur_check_heads.proofs.Targeting.{Routed}
use Rattle.ur_check_heads.proofs.routes.routes_by.Given as goal

abbrev pub invariant-loop-i : goal.invariant-loop-i
invariant-loop-i l = Routed l.modules l.names l.functions l.aims l.routes l.i
