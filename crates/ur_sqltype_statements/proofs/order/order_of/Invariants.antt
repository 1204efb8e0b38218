use Rattle.std.proofs.Common.{◌≡◌, drop}
use Rattle.ur_sqltype.specs.Lists.{behind, all_of}
use Rattle.ur_sqltype.specs.Query.{ordered}
use Rattle.ur_sqltype_statements.proofs.order.order_of.Given as goal

abbrev pub invariant-loop-i : goal.invariant-loop-i
invariant-loop-i l = all_of (ordered l.within) l.written ≡ behind l.keys (all_of (ordered l.within) (drop l.i l.written))
