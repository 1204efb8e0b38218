use Rattle.std.proofs.Common.{◌≡◌, take}
use Rattle.ur_check_scopes.specs.Arguments.{types_at, arrow_nodes, IsLeft}
use Rattle.ur_check_scopes.proofs.arguments.types_of.Given as goal

abbrev pub invariant-loop-i : goal.invariant-loop-i
invariant-loop-i l = (l.types ≡ types_at l.args (take l.i l.params)) × IsLeft (arrow_nodes (types_at l.args (take l.i l.params))) l.left
