use Rattle.std.proofs.Common.{drop}
use Rattle.ur_check.proofs.Grouping.{Group}
use Rattle.ur_check.proofs.bodies.group_bodies.Given as goal

abbrev pub invariant-loop-i : goal.invariant-loop-i
invariant-loop-i l = Group l.project l.first l.functions (drop l.i l.functions) l.initial.bodies l.bodies
