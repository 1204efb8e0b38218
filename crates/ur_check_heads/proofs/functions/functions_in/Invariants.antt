use Rattle.std.proofs.Common.{drop}
use Rattle.ur_check_heads.proofs.Grouping.{Grouped}
use Rattle.ur_check_heads.proofs.functions.functions_in.Given as goal

abbrev pub invariant-loop-i : goal.invariant-loop-i
invariant-loop-i l = Grouped l.initial.project l.project l.functions (drop l.i l.functions)
