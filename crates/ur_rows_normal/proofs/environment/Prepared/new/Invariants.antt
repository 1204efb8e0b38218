use Rattle.ur_rows_normal.specs.Preparing.{Prepares}
use Rattle.ur_rows_normal.proofs.Scopes.{first}
use Rattle.ur_rows_normal.proofs.environment.Prepared.new.Given as goal

abbrev pub invariant-loop-i : goal.invariant-loop-i
invariant-loop-i l = Prepares l.made (first l.i l.env)
