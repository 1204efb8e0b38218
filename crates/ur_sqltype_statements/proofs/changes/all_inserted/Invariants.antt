use Rattle.std.proofs.Common.{◌≡◌, drop}
use Rattle.ur_sqltype.specs.Lists.{behind, all_of}
use Rattle.ur_sqltype.specs.Change.{set_at, paired}
use Rattle.ur_sqltype_statements.proofs.changes.all_inserted.Given as goal

abbrev pub invariant-loop-i : goal.invariant-loop-i
invariant-loop-i l = all_of (set_at l.within l.columns) (paired l.names l.values) ≡ behind l.sets (all_of (set_at l.within l.columns) (paired (drop l.i l.names) (drop l.i l.values)))
