use Rattle.std.proofs.Common.{◌≡◌, take, map}
use Rattle.ur_check_scopes.specs.Views.{param_in}
use Rattle.ur_check_scopes.proofs.params.tree_params.Given as goal

abbrev pub invariant-loop-i : goal.invariant-loop-i
invariant-loop-i l = l.params ≡ map param_in (take l.i l.locals)
