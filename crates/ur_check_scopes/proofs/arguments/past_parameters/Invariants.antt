use Rattle.std.proofs.Common.{drop}
use Rattle.ur_check_scopes.specs.Views.{env_in}
use Rattle.ur_check_scopes.specs.Arguments.{Leads}
use Rattle.ur_check_scopes.proofs.arguments.past_parameters.Given as goal

abbrev pub invariant-loop-i : goal.invariant-loop-i
invariant-loop-i l = Leads (env_in l.around.scope.cons) l.given l.cons l.left (drop l.i l.cons)
