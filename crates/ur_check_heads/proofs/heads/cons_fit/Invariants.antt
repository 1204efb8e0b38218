use Rattle.std.proofs.Common.{◌≡◌, drop}
use Rattle.std.specs.List.{list_all}
use Rattle.ur_check_scopes.specs.Views.{env_in}
use Rattle.ur_typed.specs.Declaring.{con_param_fits}
use Rattle.ur_check_heads.proofs.heads.cons_fit.Given as goal

abbrev pub invariant-loop-i : goal.invariant-loop-i
invariant-loop-i l = list_all (con_param_fits (env_in l.around.scope.cons)) l.cons ≡ list_all (con_param_fits (env_in l.around.scope.cons)) (drop l.i l.cons)
