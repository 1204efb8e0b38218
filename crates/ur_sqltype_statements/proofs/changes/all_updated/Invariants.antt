use Rattle.std.proofs.Common.{◌≡◌, drop, map}
use Rattle.ur_sqltype.specs.Lists.{behind, all_of}
use Rattle.ur_sqltype.specs.Change.{set_at, assigned}
use Rattle.ur_sqltype_statements.proofs.changes.all_updated.Given as goal

abbrev pub invariant-loop-i : goal.invariant-loop-i
invariant-loop-i l = all_of (set_at l.within l.columns) (map assigned l.assignments) ≡ behind l.sets (all_of (set_at l.within l.columns) (map assigned (drop l.i l.assignments)))
