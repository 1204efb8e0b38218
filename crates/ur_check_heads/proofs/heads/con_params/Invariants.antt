use Rattle.std.proofs.Common.{drop}
use Rattle.ur_check_heads.proofs.Written.{ConsSo}
use Rattle.ur_check_heads.proofs.heads.con_params.Given as goal

abbrev pub invariant-loop-i : goal.invariant-loop-i
invariant-loop-i l = ConsSo l.place l.written l.names l.cons (drop l.i l.written)
