use Rattle.std.proofs.Common.{◌≡◌, drop}
use Rattle.ur_sqltype.specs.Lists.{behind, all_of}
use Rattle.ur_sqltype.specs.Table.{place_of}
use Rattle.ur_sqltype.proofs.keys.places_of.Given as goal

abbrev pub invariant-loop-i : goal.invariant-loop-i
invariant-loop-i l = all_of (place_of l.columns) l.names ≡ behind l.places (all_of (place_of l.columns) (drop l.i l.names))
