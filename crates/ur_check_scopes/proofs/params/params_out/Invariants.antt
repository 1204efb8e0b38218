use Rattle.std.proofs.Common.{drop}
use Rattle.ur_rows_normal.specs.Preparing.{Reads}
use Rattle.ur_typed_rules.specs.Names.{Names}
use Rattle.ur_check_scopes.proofs.Writing.{Comes}
use Rattle.ur_check_scopes.proofs.params.params_out.Given as goal

abbrev pub invariant-loop-i : goal.invariant-loop-i
invariant-loop-i l = (names : Names) → Reads l.cons.names names.cons → Comes 65536 names l.params l.locals (drop l.i l.params)
