use Rattle.std.proofs.Common.{drop}
use Rattle.ur_check_scopes.specs.Views.{env_in}
use Rattle.ur_check_scopes.proofs.ArgumentsJudging.{Judged}
use Rattle.ur_check_scopes.proofs.params.are_params.Given as goal

abbrev pub invariant-loop-i : goal.invariant-loop-i
invariant-loop-i l = Judged (env_in l.around.scope.cons) l.params l.locals (drop l.i l.params) (drop l.i l.locals)
