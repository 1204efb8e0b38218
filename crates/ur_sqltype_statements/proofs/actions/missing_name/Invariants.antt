use Rattle.std.proofs.Common.{◌≡◌, drop}
use Rattle.ur_sqltype.specs.SqltypeFaults.{missing_name}
use Rattle.ur_sqltype_statements.proofs.actions.missing_name.Given as goal

abbrev pub invariant-loop-i : goal.invariant-loop-i
invariant-loop-i l = missing_name l.names l.columns ≡ missing_name l.names (drop l.i l.columns)
