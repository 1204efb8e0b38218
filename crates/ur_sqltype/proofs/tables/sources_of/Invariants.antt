use Rattle.std.proofs.Common.{◌≡◌, drop}
use Rattle.ur_sqltype.specs.Lists.{behind, all_of}
use Rattle.ur_sqltype.specs.Tables.{source_at}
use Rattle.ur_sqltype.proofs.tables.sources_of.Given as goal

abbrev pub invariant-loop-i : goal.invariant-loop-i
invariant-loop-i l = all_of (source_at l.home l.tables) l.items ≡ behind l.sources (all_of (source_at l.home l.tables) (drop l.i l.items))
