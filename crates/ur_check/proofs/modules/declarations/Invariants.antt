use Rattle.std.proofs.Common.{drop}
use Rattle.ur_check.proofs.Declaring.{Declared}
use Rattle.ur_check.proofs.modules.declarations.Given as goal

abbrev pub invariant-loop-i : goal.invariant-loop-i
invariant-loop-i l = Declared l.initial.project l.project l.initial.bodies l.bodies l.decls (drop l.i l.decls)
