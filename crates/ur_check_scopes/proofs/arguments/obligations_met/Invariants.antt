use Rattle.std.proofs.Common.{drop}
use Rattle.ur_check_scopes.specs.Views.{env_in}
use Rattle.ur_check_scopes.proofs.Giving.{MeetsAlong}
use Rattle.ur_check_scopes.proofs.arguments.obligations_met.Given as goal

abbrev pub invariant-loop-i : goal.invariant-loop-i
invariant-loop-i l = MeetsAlong (env_in l.around.scope.cons) l.args l.cons (drop l.i l.cons)
