-- What is not found yet is in what is left.
use Rattle.ur_unfold_static.specs.Lists.{IsAbsent, constructors}
use Rattle.std.proofs.Common.{drop}
use Rattle.ur_unfold_static.proofs.closing_cons.place_of.Given as goal

abbrev pub invariant-loop-i : goal.invariant-loop-i
invariant-loop-i l = IsAbsent (constructors (drop l.i l.known)) l.con.of → IsAbsent (constructors l.known) l.con.of
