use Rattle.std.proofs.Common.{◌≡◌, ◌++◌, drop}
use Rattle.ur_sqltype.specs.Query.{columns_from}
use Rattle.ur_sqltype_statements.proofs.fields.columns_from.Given as goal

abbrev pub invariant-loop-i : goal.invariant-loop-i
invariant-loop-i l = l.columns ++ columns_from l.names l.chosen l.item l.i (drop l.i l.all) ≡ columns_from l.names l.chosen l.item 0 l.all
