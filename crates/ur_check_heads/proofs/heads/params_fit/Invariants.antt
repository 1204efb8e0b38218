use Rattle.std.proofs.Common.{drop}
use Rattle.ur_check_scopes.specs.Views.{env_in}
use Rattle.ur_check_heads.proofs.Fitting.{Judged}
use Rattle.ur_check_heads.proofs.heads.params_fit.Given as goal

abbrev pub invariant-loop-i : goal.invariant-loop-i
invariant-loop-i l = Judged (env_in l.around.scope.cons) l.written l.params (drop l.i l.written) (drop l.i l.params)
