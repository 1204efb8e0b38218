use Rattle.std.proofs.Common.{◌≡◌, ◌++◌, take, flat_map}
use Rattle.ur_tree.specs.FieldNames.{of_lambda_param}
use Rattle.ur_check.proofs.exps.lambda_params.Given as goal

abbrev pub invariant-loop-p : goal.invariant-loop-p
invariant-loop-p l = l.out ≡ l.initial.out ++ flat_map of_lambda_param (take l.p-index l.ps)
